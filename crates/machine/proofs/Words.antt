-- Begins, tidy, and every word.
use Rattle.std.proofs.Common.{◌≡◌, ℕ, zero, suc, ◌<◌, Bool, true, false, cond, eqb, ◌⊎◌, List, [], ◌∷◌, ◌++◌, reverse, length, Some, None, Ok, Err, Option, Result, Ordering, sym, refl, ap, ◌∙◌, subst, inl, inr, append_assoc, arith}
use Rattle.std.proofs.lemmas.Bool.{cases_eq}
use Rattle.reclaim.specs.Model.{Model, after_enter}
use Rattle.machine.proofs.Rules.{Rules}
use Rattle.machine.proofs.Rules.{Order, cmp_of}
use Rattle.machine.specs.Machine.{put, Event, begins, gives, Trace, Memory, on, stepping, Adding, pushing, inserting, entered, first_stage, op_of, begun, refetched, fetched, beginning, opening, stop, collected_as, tidying}
use Rattle.machine.proofs.Rules.{History, settled}
use Rattle.machine.proofs.Trace.{under, status}
use Rattle.machine.proofs.Scene.{free_at, fresh_of, on_list, kind, Scene, means, Calm, key, Sound, Staged, Chases, Stands, scene_of, Inv, calm_refl, calm_trans, stands_calm}
use Rattle.machine.proofs.Frames.{put_here, put_apart, status_begun}
use Rattle.machine.proofs.Moves
use Rattle.machine.proofs.More
use Rattle.machine.proofs.Steps
use Rattle.machine.specs.declared.stage.Goal.TheVariants.{Look, Take}
use Rattle.machine.specs.declared.stage.Search.TheVariants.{ReadFront}
use Rattle.machine.specs.declared.stage.Stage.{Stage}
use Rattle.machine.specs.declared.stage.Stage.TheVariants.{Outside, PushReadHead, PushSwapHead, PopReadHead, PopProtectTop, PopCheckHead, PopReadTop, PopSwapHead, Find, LinkFresh, MarkCell, RemoveCell}
use Rattle.machine.specs.declared.word.Op.{Op}
use Rattle.machine.specs.declared.word.Op.TheVariants.{Insert, Delete, Contains, Push, Pop}
use Rattle.machine.specs.declared.answer.Reason.{Reason}
use Rattle.machine.specs.declared.answer.Reason.TheVariants as reason
use mathlib.Core.List.{reverse-append, reverse-reverse}
use Rattle.machine.specs.declared.word.Kind.TheVariants.{Step, Begin}
use Rattle.machine.specs.declared.word.Word.{Word}
use Rattle.machine.specs.declared.word.Word.TheVariants.{Tidy, Of}
use Rattle.machine.specs.Words.{parsed}
use Rattle.machine.specs.Machine.{Machine, Tidied, shelve, collected, gone, refusing, answering, worded}
use Rattle.machine.proofs.Free
use Rattle.machine.proofs.Ranges.{InRange, parsed_range}

module _ {State : Type 0} {M : Model State} {sessions cells : ℕ} (L : Rules M sessions cells) {V : Type 0} (O : Order V) (val : ℕ → V) where
  module _ (b : History State) (i : Inv L O val b) (s : ℕ) (lt : s < sessions) (eq : b.stage s ≡ Outside) where
    abbrev A : Scene State
    A = scene_of L O val b i.place i.chain i.line

    -- a fresh cell of B is taken, for a push or an insert
    taking : (B : Scene State) (f : ℕ) (rest : List ℕ) (k : Adding) (p : ℕ) → B.memory.free ≡ f ∷ rest → Sound L O val B
        → ((t : ℕ) → Calm L t A B) → Stands L O val B s Outside → Steps.Back L O val A B
        → Inv L O val (record {
          memory = (begun M B.memory [] s k p (f ∷ rest)).memory;
          stage = put b.stage s (first_stage k p f);
          seen = begins s (op_of k p) ∷ B.seen;
        })
    taking B f rest k p e sound calm st back =
        Steps.land L O val b i s lt Outside eq D (first_stage k p f)
        (Moves.enter_sound L O val C s (op_of k p) lt out st.staged.1 (Moves.take_sound L O val B s f rest p e sound))
        (λ t ne. calm_trans L (calm t) (calm_trans L (Moves.take_calm L O val B s f rest p e sound t ne) (Moves.enter_calm L O val C s (op_of k p) sound.fit lt out t ne)))
        (stands k (Moves.enter_in L O val C s (op_of k p) sound.fit lt out) (status_begun s (op_of k p) B.seen))
        (Steps.back_trans L O val A B D back
        (Steps.back_put L O val B D.memory f (fresh_of s) D.chain D.line D.seen (λ z. omega arith)
        (λ c ne. put_apart B.memory.mark f false c ne) (λ c ne. put_apart B.memory.item f p c ne)))
        (λ c e m z. absurd z)
      where
        C : Scene State
        C = Moves.take_scene L O val B s f rest p

        out : (means L C).inside s → ⊥
        out = st.staged.0

        D : Scene State
        D = Moves.enter_scene L O val C s (op_of k p)

        owned : (c : ℕ) → put B.place f (fresh_of s) c ≡ fresh_of s → (f ≡ c) ⊎ (f ≡ c → ⊥) → f ≡ c
        owned c q (inl z) = z
        owned c q (inr ne) = absurd (st.owns c (sym (put_apart B.place f (fresh_of s) c (λ z. ne (sym z))) ∙ q))

        stands : (k : Adding) → (L.meaning (after_enter M B.memory.reclaimer s)).inside s → status s (begins s (op_of k p) ∷ B.seen) ≡ under (op_of k p)
            → Stands L O val (Moves.enter_scene L O val C s (op_of k p)) s (first_stage k p f)
        stands pushing in₁ u =
            let y : put B.memory.item f p f ≡ p = put_here B.memory.item f p in
            record {
              staged = (record { inside = in₁; under = u ∙ ap (λ x. under (Push x)) (sym y) }, put_here B.place f (fresh_of s));
              owns = λ c q. owned c q (cases_eq f c);
            }
        stands inserting in₁ u =
            record {
              staged = record { inside = in₁; is = u; fresh = (put_here B.place f (fresh_of s), put_here B.memory.item f p) };
              owns = λ c q. owned c q (cases_eq f c);
            }

    give_back : (c : ℕ) → Steps.Back L O val A (More.give_scene L O val A c)
    give_back c =
        let B = More.give_scene L O val A c in
        Steps.back_put L O val A B.memory c (free_at (length b.memory.free)) B.chain B.line B.seen (λ z. omega arith) (λ d ne. refl) (λ d ne. refl)

    refetch : (k : Adding) (p : ℕ) → Stands L O val A s Outside → b.memory.free ≡ [] → (o : Option ℕ) → M.picks b.memory.reclaimer ≡ o
        → Inv L O val (settled b s (refetched M b.memory s k p o))
    refetch k p st e None a =
        Steps.land L O val b i s lt Outside eq (More.none_scene L O val A) Outside (More.none_sound L O val A a i.sound) (λ t ne. More.none_calm L O val A i.sound.fit a t)
        (stands_calm L (More.none_calm L O val A i.sound.fit a s) O val Outside st) (λ c e m. (e, m, refl)) (λ c e m z. z)
    refetch k p st e (Some c) a =
        taking (More.give_scene L O val A c) c [] k p (ap (λ x. c ∷ x) e) (More.give_sound L O val A c a i.sound)
        (λ t. More.give_calm L O val A c a i.sound t)
        (stands_calm L (More.give_calm L O val A c a i.sound s) O val Outside st)
        (give_back c)

    fetch : (k : Adding) (p : ℕ) → Stands L O val A s Outside → (l : List ℕ) → b.memory.free ≡ l → Inv L O val (settled b s (fetched M b.memory s k p l))
    fetch k p st [] e = refetch k p st e (M.picks b.memory.reclaimer) refl
    fetch k p st (f ∷ rest) e = taking A f rest k p e i.sound (λ t. calm_refl L t A) st (λ c e m. (e, m, refl))

    plainly : (op : Op) (g : Stage) → Stands L O val A s Outside
        → ((L.meaning (after_enter M b.memory.reclaimer s)).inside s → status s (begins s op ∷ b.seen) ≡ under op → Staged L O val (Moves.enter_scene L O val A s op) s g)
        → Inv L O val (settled b s (on M (entered M b.memory s) g (begins s op ∷ [])))
    plainly op g st f =
        let out = st.staged.0 in
        Steps.land L O val b i s lt Outside eq (Moves.enter_scene L O val A s op) g
        (Moves.enter_sound L O val A s op lt out st.staged.1 i.sound)
        (Moves.enter_calm L O val A s op i.sound.fit lt out)
        (record { staged = f (Moves.enter_in L O val A s op i.sound.fit lt out) (status_begun s op b.seen); owns = λ c e. absurd (st.owns c e) })
        (λ c e m. (e, m, refl)) (λ c e m z. absurd z)

    began : (op : Op) → Stands L O val A s Outside → Inv L O val (settled b s (beginning M b.memory s op))
    began (Push p) st = fetch pushing p st b.memory.free refl
    began Pop st = plainly Pop PopReadHead st (λ x y. record { inside = x; under = y })
    began (Insert p) st = fetch inserting p st b.memory.free refl
    began (Delete p) st = plainly (Delete p) (Find (Take p) ReadFront) st (λ x y. record { inside = x; is = y; fresh = tt })
    began (Contains p) st = plainly (Contains p) (Find (Look p) ReadFront) st (λ x y. record { inside = x; is = y; fresh = tt })

  module _ (b : History State) (i : Inv L O val b) (s : ℕ) (lt : s < sessions) (op : Op) where
    abbrev A₁ : Scene State
    A₁ = scene_of L O val b i.place i.chain i.line

    same_stage : (g : Stage) → b.stage s ≡ g → Stands L O val A₁ s g → Inv L O val (record { memory = b.memory; stage = put b.stage s g; seen = b.seen })
    same_stage g eq st = Steps.stay L O val b i s lt g eq g st (λ v z. z)

    openings : (g : Stage) → b.stage s ≡ g → Stands L O val A₁ s g → Inv L O val (settled b s (opening M b.memory s op g))
    openings Outside eq st = began b i s lt eq op st
    openings (PushReadHead f) eq st = same_stage (PushReadHead f) eq st
    openings (PushSwapHead f l) eq st = same_stage (PushSwapHead f l) eq st
    openings PopReadHead eq st = same_stage PopReadHead eq st
    openings (PopProtectTop c) eq st = same_stage (PopProtectTop c) eq st
    openings (PopCheckHead c) eq st = same_stage (PopCheckHead c) eq st
    openings (PopReadTop c) eq st = same_stage (PopReadTop c) eq st
    openings (PopSwapHead c n v) eq st = same_stage (PopSwapHead c n v) eq st
    openings (Find g at) eq st = same_stage (Find g at) eq st
    openings (LinkFresh k f q c) eq st = same_stage (LinkFresh k f q c) eq st
    openings (MarkCell k q c n) eq st = same_stage (MarkCell k q c n) eq st
    openings (RemoveCell k q c n) eq st = same_stage (RemoveCell k q c n) eq st

  -- tidy
  abbrev after : History State → Tidied State → History State
  after b r = record { memory = r.memory; stage = b.stage; seen = r.seen ++ b.seen }

  all : (b : History State) (i : Inv L O val b) (B : Scene State) → Sound L O val B
      → ((t : ℕ) → Calm L t (scene_of L O val b i.place i.chain i.line) B)
      → Steps.Back L O val (scene_of L O val b i.place i.chain i.line) B
      → Inv L O val (record { memory = B.memory; stage = b.stage; seen = B.seen })
  all b i B sound calm back =
      record {
        place = B.place;
        chain = B.chain;
        line = B.line;
        sound = sound;
        each = λ t. stands_calm L (calm t) O val (b.stage t) (i.each t);
        debts = λ c e m. debt c e m;
      }
    where
      debt : (c : ℕ) → B.place c ≡ on_list → B.memory.mark c ≡ true → (t : ℕ) × Chases L O val (b.stage t) (key L O val B c)
      debt c e m =
          let x = back c e m in
          let d = i.debts c x.0 x.1 in
          (d.0, subst (λ v. Chases L O val (b.stage d.0) v) (sym x.2) d.1)

  tidies : (k : ℕ) (b : History State) → Inv L O val b → Inv L O val (after b (tidying M k b.memory))
  unfolding tidying
  tidies zero b i = i
  tidies (suc k) b i = go (λ x j. tidies k x j) (M.picks b.memory.reclaimer) refl
    where
      Z : Scene State
      Z = scene_of L O val b i.place i.chain i.line

      with_free : ℕ → List ℕ → Memory State
      with_free c x =
          record {
            reclaimer = M.collects b.memory.reclaimer;
            head = b.memory.head;
            front = b.memory.front;
            free = x;
            link = b.memory.link;
            mark = b.memory.mark;
            item = b.memory.item;
          }

      go : ((x : History State) → Inv L O val x → Inv L O val (after x (tidying M k x.memory))) → (o : Option ℕ)
          → M.picks b.memory.reclaimer ≡ o
          → Inv L O val (after b (stop M o (record { memory = collected M b.memory; seen = []; given = 0 }) (gone M (tidying M k (collected_as M o b.memory)) o)))
      go ih None a = all b i (More.none_scene L O val Z) (More.none_sound L O val Z a i.sound) (More.none_calm L O val Z i.sound.fit a) (λ c e m. (e, m, refl))
      go ih (Some c) a =
          let B = More.give_scene L O val Z c in
          let was = ap kind (More.was L O val Z c a i.sound) in
          let room = Free.shelves L O val Z c i.sound (More.give_in L O val Z c a i.sound) (λ z. omega arith) in
          let r = ih (record { memory = B.memory; stage = b.stage; seen = B.seen })
          (all b i B (More.give_sound L O val Z c a i.sound) (More.give_calm L O val Z c a i.sound)
          (Steps.back_put L O val Z B.memory c (free_at (length b.memory.free)) B.chain B.line B.seen (λ z. omega arith) (λ d ne. refl) (λ d ne. refl))) in
          let P₁ : List ℕ → Type 0 = λ x. Inv L O val (record {
            memory = (tidying M k (with_free c x)).memory;
            stage = b.stage;
            seen = (tidying M k (with_free c x)).seen ++ gives c ∷ b.seen;
          }) in
          let P₂ : Trace → Type 0 = λ x. Inv L O val (record {
            memory = (tidying M k (with_free c (shelve c b.memory.free))).memory;
            stage = b.stage;
            seen = x;
          }) in
          subst P₂ (sym (append_assoc (tidying M k (with_free c (shelve c b.memory.free))).seen (gives c ∷ []) b.seen)) (subst P₁ (sym room) r)

  -- the machine with what has been seen
  abbrev pub history : Machine State → Trace → History State
  history m tr = record { memory = m.memory; stage = m.stage; seen = tr }

  abbrev pub cmp₁ : ℕ → ℕ → Ordering
  cmp₁ = cmp_of O val

  -- a history grows by what a word lets be seen
  grown : (h : List Event) (t : Trace) → reverse (h ++ reverse t) ≡ t ++ reverse h
  grown h t = reverse-append h (reverse t) ∙ ap (λ (x : Trace). x ++ reverse h) (reverse-reverse t)

  grew : (m : Machine State) (h : List Event) (t : Trace) → Inv L O val (history m (t ++ reverse h)) → Inv L O val (history m (reverse (h ++ reverse t)))
  grew m h t i = subst (λ x. Inv L O val (history m x)) (sym (grown h t)) i

  did : (m : Machine State) (h : List Event) → m.sessions ≡ sessions → Inv L O val (history m (reverse h)) → (t : Bool) (r : Result Word Reason) → InRange m.sessions r
      → Inv L O val (history (cond t (answering M cmp₁ m r) (refusing M m reason.OtherItems)).after (reverse (h ++ (cond t (answering M cmp₁ m r) (refusing M m reason.OtherItems)).seen)))
  did m h e i false r g = grew m h [] i
  did m h e i true (Err why) g = grew m h [] i
  did m h e i true (Ok Tidy) g =
      let r = tidying M (suc (M.count m.memory.reclaimer)) m.memory in
      grew (record { memory = r.memory; stage = m.stage; sessions = m.sessions; items = m.items }) h r.seen
      (tidies (suc (M.count m.memory.reclaimer)) (history m (reverse h)) i)
  did m h e i true (Ok (Of s Step)) g =
      let o = stepping M cmp₁ m.memory s (m.stage s) in
      grew (record { memory = o.memory; stage = put m.stage s o.stage; sessions = m.sessions; items = m.items }) h o.seen
      (Steps.stepped L O val (history m (reverse h)) i s (subst (λ x. s < x) e g) (m.stage s) refl (i.each s))
  did m h e i true (Ok (Of s (Begin op))) g =
      let o = opening M m.memory s op (m.stage s) in
      grew (record { memory = o.memory; stage = put m.stage s o.stage; sessions = m.sessions; items = m.items }) h o.seen
      (openings (history m (reverse h)) i s (subst (λ x. s < x) e g) op (m.stage s) refl (i.each s))

  pub worded_inv : (m : Machine State) (h : List Event) (n w : ℕ) → m.sessions ≡ sessions → Inv L O val (history m (reverse h))
      → Inv L O val (history (worded M cmp₁ n m w).after (reverse (h ++ (worded M cmp₁ n m w).seen)))
  unfolding worded
  worded_inv m h n w e i = did m h e i (eqb n m.items) (parsed w m.sessions m.items) (parsed_range w m.sessions m.items)
