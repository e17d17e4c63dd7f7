-- The opening, the room for a push, and the theorem.
use Rattle.std.proofs.Common.{◌≡◌, ℕ, zero, suc, ◌+◌, ◌-◌, ◌<◌, ◌≤◌, Bool, true, false, cond, ltb, ◌⊎◌, List, [], ◌∷◌, ◌++◌, reverse, length, Some, None, Ok, Option, sym, refl, ap, ◌∙◌, subst, inl, inr, append_assoc, append-nil, arith}
use lib.ListN.{length-map}
use Rattle.std.proofs.lemmas.Bool.{eq-eqb, cases_eq, cases_lt, true≢false, lt-ltb, le-ltb, cond-true, cond-false}
use Rattle.reclaim.specs.Model.{Model}
use Rattle.machine.proofs.Rules.{Rules, Withheld, Collected}
use Rattle.machine.specs.Machine.{counting, op_of, beginning, fetched, refetched}
use Rattle.machine.proofs.Rules.{History}
use Rattle.machine.proofs.Trace.{outside, under, status, Orderly, deeds, played, Truthful}
use Rattle.machine.specs.Serial.{members}
use Rattle.machine.specs.Laws.{Promise}
use Rattle.machine.specs.Words.{parsed}
use Rattle.machine.specs.Machine.{Adding, pushing, inserting, Event, Machine, opening, answering, refusing, worded, ran, opened}
use Rattle.machine.specs.declared.word.Kind.TheVariants.{Begin}
use Rattle.machine.specs.declared.word.Word.TheVariants.{Of}
use Rattle.machine.proofs.Sizes.{worded_sizes, ran_items}
use Rattle.machine.proofs.Histories.{safely, once, serially, left_with, all_outside}
use Rattle.machine.proofs.Rules.{Order, cmp_of}
use Rattle.machine.proofs.Scene.{Place, nowhere, free_at, held_now, link_at, fresh_of, on_list, kind, Stacked, In, Chain, Seg, is_link, total, live, Sorted, Scene, means, goal_status, key, Staged, Chases, Stands, Inv, scene_of}
use Rattle.machine.proofs.Frames.{total_full, full_each}
use Rattle.machine.proofs.Moves
use Rattle.machine.proofs.More
use Rattle.machine.proofs.Lists
use Rattle.machine.proofs.Words
use Rattle.machine.proofs.Rules.{Order, cmp_of}
use Rattle.machine.specs.declared.stage.Goal.{Goal}
use Rattle.machine.specs.declared.stage.Goal.TheVariants.{Look, Add, Take, Finish}
use Rattle.machine.specs.declared.stage.Search.TheVariants.{ReadFront, ProtectFirst, CheckFront, ReadCell, ProtectNext, CheckPrev, ConfirmCell, ShiftPrev, ShiftCur, Unlink}
use Rattle.machine.specs.declared.stage.Stage.{Stage}
use Rattle.machine.specs.declared.stage.Stage.TheVariants.{Outside, PushReadHead, PushSwapHead, PopReadHead, PopProtectTop, PopCheckHead, PopReadTop, PopSwapHead, Find, LinkFresh, MarkCell, RemoveCell}
use Rattle.machine.specs.declared.word.Op.{Op}
use Rattle.machine.specs.declared.word.Op.TheVariants.{Push, Pop}
use Rattle.machine.specs.declared.answer.Answer.{Answer}
use Rattle.machine.specs.declared.answer.Reason.TheVariants as reason
use Rattle.machine.specs.Answers.{under_way, refused}

-- where the cells of a new board are
start : ℕ → ℕ → Place
start cells c = cond (ltb c cells) (free_at (cells - suc c)) nowhere

start_in : (cells c : ℕ) → c < cells → start cells c ≡ free_at (cells - suc c)
unfolding start
start_in cells c h = cond-true (ltb c cells) (free_at (cells - suc c)) nowhere (lt-ltb c cells h)

start_out : (cells c : ℕ) → cells ≤ c → start cells c ≡ nowhere
unfolding start
start_out cells c h = cond-false (ltb c cells) (free_at (cells - suc c)) nowhere (le-ltb c cells h)

start_kind : (cells c : ℕ) → kind (start cells c) ≤ 1
start_kind cells c = go (cases_lt c cells)
  where
    go : (c < cells) ⊎ (cells ≤ c) → kind (start cells c) ≤ 1
    go (inl h) = let k = ap kind (start_in cells c h) in omega arith
    go (inr h) = let k = ap kind (start_out cells c h) in omega arith

length_counting : (k n : ℕ) → length (counting k n) ≡ n
unfolding counting
length_counting k zero = refl
length_counting k (suc n) = ap suc (length_counting (suc k) n)

start_stacked : (cells k n : ℕ) → k + n ≡ cells → Stacked (start cells) (counting k n)
unfolding Stacked counting
start_stacked cells k zero e = tt
start_stacked cells k (suc n) e =
    let a : cells - suc k ≡ length (counting (suc k) n) = (let q = length_counting (suc k) n in omega arith) in
    (start_in cells k (omega arith) ∙ ap free_at a, start_stacked cells (suc k) n (omega arith))

counting_in : (c k n : ℕ) → k ≤ c → c < k + n → In c (counting k n)
unfolding counting
counting_in c k zero h m = absurd (omega arith)
counting_in c k (suc n) h m = go (λ x. counting_in c (suc k) n x (omega arith)) (cases_eq c k)
  where
    go : (suc k ≤ c → In c (counting (suc k) n)) → (c ≡ k) ⊎ (c ≡ k → ⊥) → (c ≡ k) ⊎ In c (counting (suc k) n)
    go ih (inl e) = inl e
    go ih (inr ne) = inr (ih (omega arith))

total_none : (P : ℕ → Place) (n : ℕ) → ((c : ℕ) → is_link (P c) ≡ 0) → total P n ≡ 0
unfolding total
total_none P zero f = refl
total_none P (suc n) f = let a = f n in let b = total_none P n f in omega arith

link_kind : (p : Place) → kind p ≤ 1 → is_link p ≡ 0
link_kind nowhere h = refl
link_kind (free_at k) h = refl
link_kind held_now h = refl
link_kind (link_at k) h = absurd (omega arith)
link_kind (fresh_of s) h = refl
link_kind on_list h = absurd (omega arith)

module _ {State : Type 0} {M : Model State} {sessions cells : ℕ} (L : Rules M sessions cells) {V : Type 0} (O : Order V) (val : ℕ → V) where
  opening_inv : (x : State) → L.fit x → ((t : ℕ) → (L.meaning x).inside t → ⊥) → ((c : ℕ) → (L.meaning x).held c → ⊥) → Inv L O val (record {
    memory = record { reclaimer = x; head = None; front = None; free = counting 0 cells; link = λ c. None; mark = λ c. false; item = λ c. 0 };
    stage = λ s. Outside;
    seen = [];
  })
  unfolding Chain Seg Sorted live deeds played Orderly Truthful status
  opening_inv x fx out un =
      record {
        place = start cells;
        chain = [];
        line = [];
        sound =
            record {
              fit = fx;
              free = start_stacked cells 0 cells (omega arith);
              free_back = λ c k e. counting_in c 0 cells (omega arith) (low c k e (cases_lt c cells));
              held_on = λ c h. absurd (un c h);
              held_back = λ c e. let k = ap kind e in let m = start_kind cells c in absurd (omega arith);
              chain = refl;
              line = refl;
              line_back = λ c e. let k = ap kind e in let m = start_kind cells c in omega arith;
              linked = λ c n e. let z : ◌≡◌ {A = ℕ} 0 1 = cc in absurd (omega arith);
              sorted = tt;
              stack = refl;
              set = refl;
              bound = start_out cells;
              within = λ c h e. let k = ap kind (sym (start_in cells c h) ∙ e) in omega arith;
              count = sym (total_none (start cells) cells (λ c. link_kind (start cells c) (start_kind cells c)));
              orderly = tt;
              truthful = tt;
            };
        each =
            λ s.
            record {
              staged = (out s, refl);
              owns = λ c e. let k = ap kind e in let m = start_kind cells c in absurd (omega arith);
            };
        debts = λ c e m. absurd (true≢false (sym m));
      }
    where
      low : (c k : ℕ) → start cells c ≡ free_at k → (c < cells) ⊎ (cells ≤ c) → c < 0 + cells
      low c k e (inl h) = omega arith
      low c k e (inr h) = let m = ap kind (sym (start_out cells c h) ∙ e) in absurd (omega arith)

  -- a session with no operation
  not_under : (A : Scene State) (t : ℕ) (op : Op) → status t A.seen ≡ under op → status t A.seen ≡ outside → ⊥
  not_under A t op e q = let z : ◌≡◌ {A = ℕ} 0 1 = cc in omega arith

  not_goal : (A : Scene State) (t : ℕ) (g : Goal) → status t A.seen ≡ goal_status g → status t A.seen ≡ outside → ⊥
  not_goal A t (Look k) e q = let z : ◌≡◌ {A = ℕ} 0 1 = cc in omega arith
  not_goal A t (Add k f) e q = let z : ◌≡◌ {A = ℕ} 0 1 = cc in omega arith
  not_goal A t (Take k) e q = let z : ◌≡◌ {A = ℕ} 0 1 = cc in omega arith
  not_goal A t (Finish k) e q = let z : ◌≡◌ {A = ℕ} 0 1 = cc in omega arith

  out : (A : Scene State) (t : ℕ) (g : Stage) → Staged L O val A t g → status t A.seen ≡ outside → g ≡ Outside
  out A t Outside st e = refl
  out A t (PushReadHead f) st e = absurd (not_under A t (Push (A.memory.item f)) st.0.under e)
  out A t (PushSwapHead f l) st e = absurd (not_under A t (Push (A.memory.item f)) st.0.under e)
  out A t PopReadHead st e = absurd (not_under A t Pop st.under e)
  out A t (PopProtectTop c) st e = absurd (not_under A t Pop st.0.under e)
  out A t (PopCheckHead c) st e = absurd (not_under A t Pop st.0.under e)
  out A t (PopReadTop c) st e = absurd (not_under A t Pop st.0.under e)
  out A t (PopSwapHead c n v) st e = absurd (not_under A t Pop st.0.under e)
  out A t (Find g ReadFront) st e = absurd (not_goal A t g st.is e)
  out A t (Find g (ProtectFirst c)) st e = absurd (not_goal A t g st.0.is e)
  out A t (Find g (CheckFront c)) st e = absurd (not_goal A t g st.0.is e)
  out A t (Find g (ReadCell q c)) st e = absurd (not_goal A t g st.0.is e)
  out A t (Find g (ProtectNext q c m n v)) st e = absurd (not_goal A t g st.0.is e)
  out A t (Find g (CheckPrev q c m n v)) st e = absurd (not_goal A t g st.0.is e)
  out A t (Find g (ConfirmCell q c n v)) st e = absurd (not_goal A t g st.0.is e)
  out A t (Find g (ShiftPrev c n)) st e = absurd (not_goal A t g st.0.is e)
  out A t (Find g (ShiftCur q n)) st e = absurd (not_goal A t g st.0.is e)
  out A t (Find g (Unlink q c n)) st e = absurd (not_goal A t g st.0.is e)
  out A t (LinkFresh k f q c) st e = absurd (not_goal A t (Add k f) st.0.is e)
  out A t (MarkCell k q c n) st e = absurd (not_goal A t (Take k) st.0.is e)
  out A t (RemoveCell k q c n) st e = absurd (not_goal A t (Finish k) st.0.is e)

  module _ (b : History State) (i : Inv L O val b) (nobody : (t : ℕ) → status t b.seen ≡ outside) where
    abbrev A : Scene State
    A = scene_of L O val b i.place i.chain i.line

    idle_at : (t : ℕ) → b.stage t ≡ Outside
    idle_at t = out A t (b.stage t) (i.each t).staged (nobody t)

    idling : (t : ℕ) → Stands L O val A t Outside
    idling t = subst (λ g. Stands L O val A t g) (idle_at t) (i.each t)

    -- no marked cell is left in the list
    unmarked : (c : ℕ) → In c i.line → b.memory.mark c ≡ false
    unmarked c j = go (b.memory.mark c) refl
      where
        go : (m : Bool) → b.memory.mark c ≡ m → m ≡ false
        go false e = refl
        go true e =
            let d = i.debts c (Moves.in_line L O val A i.sound c j) e in
            absurd (subst (λ g. Chases L O val g (key L O val A c)) (idle_at d.0) d.1)

    depth : members (played O.cmp val (deeds b.seen)) ≡ total i.place cells
    depth =
        let x : length (played O.cmp val (deeds b.seen)).stack ≡ length i.chain = ap length (sym i.sound.stack) ∙ length-map i.chain b.memory.item in
        let y : length (played O.cmp val (deeds b.seen)).set ≡ length i.line =
        ap length (sym i.sound.set) ∙ Lists.live_length O (key L O val A) b.memory.mark i.line unmarked in
        let z = i.sound.count in
        omega arith

    all_linked : b.memory.free ≡ [] → ((c : ℕ) → (L.meaning b.memory.reclaimer).held c → ⊥) → members (played O.cmp val (deeds b.seen)) ≡ cells
    all_linked e un = depth ∙ total_full i.place cells (λ c h. go c h (i.place c) refl)
      where
        go : (c : ℕ) → c < cells → (p : Place) → i.place c ≡ p → is_link p ≡ 1
        go c h nowhere q = absurd (i.sound.within c h q)
        go c h (free_at k) q = absurd (subst (In c) e (i.sound.free_back c k q))
        go c h held_now q = absurd (un c (i.sound.held_back c q))
        go c h (link_at k) q = refl
        go c h (fresh_of s) q = absurd ((idling s).owns c q)
        go c h on_list q = refl

    link_of : members (played O.cmp val (deeds b.seen)) ≡ cells → (c : ℕ) → c < cells → 3 ≤ kind (i.place c)
    link_of e c h = go (i.place c) (full_each i.place cells (sym depth ∙ e) c h)
      where
        go : (p : Place) → is_link p ≡ 1 → 3 ≤ kind p
        go nowhere q = absurd (omega arith)
        go (free_at k) q = absurd (omega arith)
        go held_now q = absurd (omega arith)
        go (link_at k) q = omega arith
        go (fresh_of s) q = absurd (omega arith)
        go on_list q = omega arith

    way_no : under_way ≡ refused reason.NoCell → ⊥
    way_no e = let z : ◌≡◌ {A = ℕ} 0 23 = ap (λ (a : Answer). a.value) e in omega arith

    refused_on : (s : ℕ) (k : Adding) (p : ℕ) → (l : List ℕ) → b.memory.free ≡ l → (fetched M b.memory s k p l).answer ≡ refused reason.NoCell
        → members (played O.cmp val (deeds b.seen)) ≡ cells
    refused_on s k p [] e q = go (M.picks b.memory.reclaimer) refl q
      where
        go : (o : Option ℕ) → M.picks b.memory.reclaimer ≡ o → (refetched M b.memory s k p o).answer ≡ refused reason.NoCell
            → members (played O.cmp val (deeds b.seen)) ≡ cells
        go (Some c) a q = absurd (way_no q)
        go None a q = why w.why
          where
            w : Withheld (means L A) (L.meaning (M.collects b.memory.reclaimer))
            w = subst (λ x. Collected x (means L A) (L.meaning (M.collects b.memory.reclaimer))) a (L.collecting b.memory.reclaimer i.sound.fit)

            why : ((c : ℕ) → (means L A).held c → ⊥) ⊎ ((t : ℕ) × (means L A).inside t) → members (played O.cmp val (deeds b.seen)) ≡ cells
            why (inl un) = all_linked e un
            why (inr t) = absurd ((idling t.0).staged.0 t.1)
    refused_on s k p (f ∷ rest) e q = absurd (way_no q)

    refused_back : members (played O.cmp val (deeds b.seen)) ≡ cells → (s : ℕ) (k : Adding) (p : ℕ) → (l : List ℕ) → b.memory.free ≡ l
        → (fetched M b.memory s k p l).answer ≡ refused reason.NoCell
    refused_back n s k p [] e = go (M.picks b.memory.reclaimer) refl
      where
        go : (o : Option ℕ) → M.picks b.memory.reclaimer ≡ o → (refetched M b.memory s k p o).answer ≡ refused reason.NoCell
        go None a = refl
        go (Some c) a =
            let x = ap kind (More.was L O val A c a i.sound) in
            let m = link_of n c (More.give_in L O val A c a i.sound) in
            absurd (omega arith)
    refused_back n s k p (f ∷ rest) e =
        let x = ap kind (Moves.top L O val A s f rest p e i.sound).0 in
        let m = link_of n f (Moves.take_in L O val A s f rest p e i.sound) in
        absurd (omega arith)

    -- of a push and of an insert
    room : (s : ℕ) (k : Adding) (p : ℕ)
        → (((beginning M b.memory s (op_of k p)).answer ≡ refused reason.NoCell) → members (played O.cmp val (deeds b.seen)) ≡ cells)
        × (members (played O.cmp val (deeds b.seen)) ≡ cells → (beginning M b.memory s (op_of k p)).answer ≡ refused reason.NoCell)
    room s pushing p = (refused_on s pushing p b.memory.free refl, λ n. refused_back n s pushing p b.memory.free refl)
    room s inserting p = (refused_on s inserting p b.memory.free refl, λ n. refused_back n s inserting p b.memory.free refl)

  -- a sound word that begins an operation of a session outside does what the begin does
  next_word : (m : Machine State) (w s : ℕ) (op : Op) → m.stage s ≡ Outside → parsed w m.sessions m.items ≡ Ok (Of s (Begin op))
      → (worded M (cmp_of O val) m.items m w).answer ≡ (beginning M m.memory s op).answer
  unfolding worded
  next_word m w s op out e =
      ap (λ b. (cond b (answering M (cmp_of O val) m (parsed w m.sessions m.items)) (refusing M m reason.OtherItems)).answer) (eq-eqb m.items m.items refl)
      ∙ (ap (λ r. (answering M (cmp_of O val) m r).answer) e ∙ ap (λ g. (opening M m.memory s op g).answer) out)

  kept : (m : Machine State) (h : List Event) → Inv L O val (Words.history L O val m (reverse h)) → Promise M O.cmp val m.items m h
  kept m h i =
      record {
        safe_reuse = safely h i.sound.orderly;
        one_decision = once h i.sound.orderly;
        serial_order = serially O.cmp val h i.sound.orderly i.sound.truthful;
        room =
            λ inside w s p k e.
            let b = Words.history L O val m (reverse h) in
            let nobody = all_outside h i.sound.orderly inside in
            let r = room b i nobody s k p in
            let a = next_word m w s (op_of k p) (idle_at b i nobody s) e in
            let c = L.sized m.memory.reclaimer i.sound.fit in
            let n = ap members (left_with O.cmp val h i.sound.orderly) in
            (λ z. n ∙ (r.0 (sym a ∙ z) ∙ sym c), λ z. a ∙ r.1 (sym n ∙ (z ∙ c)));
      }

  pub run_inv : (m : Machine State) (h : List Event) (n : ℕ) (ws : List ℕ) → m.sessions ≡ sessions → Inv L O val (Words.history L O val m (reverse h))
      → Inv L O val (Words.history L O val (ran M (cmp_of O val) n m ws).after (reverse (h ++ (ran M (cmp_of O val) n m ws).seen)))
  unfolding ran
  run_inv m h n [] e i = subst (λ x. Inv L O val (Words.history L O val m (reverse x))) (sym (append-nil h)) i
  run_inv m h n (w ∷ ws) e i =
      let d = worded M (cmp_of O val) n m w in
      let r = ran M (cmp_of O val) n d.after ws in
      subst (λ x. Inv L O val (Words.history L O val r.after (reverse x))) (append_assoc h d.seen r.seen)
      (run_inv d.after (h ++ d.seen) n ws ((worded_sizes M (cmp_of O val) n m w).0 ∙ e) (Words.worded_inv L O val m h n w e i))

  pub final : (x : State) (n : ℕ) → L.fit x → ((t : ℕ) → (L.meaning x).inside t → ⊥) → ((c : ℕ) → (L.meaning x).held c → ⊥)
      → M.sessions x ≡ sessions → M.cells x ≡ cells → (ws : List ℕ)
      → Promise M O.cmp val n (ran M (cmp_of O val) n (opened M x n) ws).after (ran M (cmp_of O val) n (opened M x n) ws).seen
  final x n fx o u es ec ws =
      let P₁ : ℕ → Type 0 = λ z. Inv L O val (record {
        memory = record { reclaimer = x; head = None; front = None; free = counting 0 z; link = λ c. None; mark = λ c. false; item = λ c. 0 };
        stage = λ s. Outside;
        seen = [];
      }) in
      let i = run_inv (opened M x n) [] n ws es (subst P₁ (sym ec) (opening_inv x fx o u)) in
      let r = ran M (cmp_of O val) n (opened M x n) ws in
      subst (λ k. Promise M O.cmp val k r.after r.seen) (ran_items M (cmp_of O val) n (opened M x n) ws) (kept r.after r.seen i)
