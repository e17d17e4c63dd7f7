-- Each step of a session keeps the invariant.
use Rattle.std.proofs.Common.{◌≡◌, ℕ, ◌<◌, Bool, true, false, ◌⊎◌, List, [], ◌∷◌, ◌++◌, map, length, Some, None, Option, Ordering, Less, Equal, Greater, sym, refl, ap, ◌∙◌, subst, inl, inr, arith}
use Rattle.std.proofs.lemmas.Bool.{cases_eq, true≢false}
use Rattle.reclaim.specs.Model.{Model}
use Rattle.machine.proofs.Rules.{Rules}
use Rattle.machine.proofs.Rules.{Order, back, cmp_of}
use Rattle.machine.specs.Serial.{member}
use Rattle.machine.specs.Machine.{put, same, touches, clears, decides, completes, Trace, Memory, points, touch_prev, sought, clearing, weigh, link_after, front_after, relinked, written, retired, over, on, absent, present, push_swap, pop_read, pop_check, pop_swap, read_front, check_front, read_cell, check_prev, confirm_cell, unlink_marked, link_fresh, mark_cell, remove_cell, stepping, left}
use Rattle.machine.proofs.Rules.{History, settled}
use Rattle.machine.proofs.Trace.{under, decided, status, deeds, played}
use Rattle.machine.specs.Serial.{serve, looked, deleted, inserted, popped}
use Rattle.machine.proofs.Scene.{Place, free_at, held_now, link_at, fresh_of, on_list, kind, In, live, Below, Scene, Dead, means, Calm, Hunt, Cur, OwnsG, key, Sound, Clean, Beyond, ChasesG, Chases, Stands, scene_of, Debts, Inv, calm_refl, calm_trans, busy_calm, hunt_calm, cur_calm, named_calm, clean_calm, beyond_calm, stands_calm}
use Rattle.machine.proofs.Frames.{put_here, put_apart, same_eq, status_completed, status_decided}
use Rattle.machine.proofs.Lists
use Rattle.machine.proofs.Moves
use Rattle.machine.proofs.More
use Rattle.machine.proofs.Free
use Rattle.machine.proofs.Line
use Rattle.machine.proofs.Prevs
use Rattle.machine.specs.declared.cell.Prev.{Prev}
use Rattle.machine.specs.declared.cell.Prev.TheVariants.{Front, At}
use Rattle.machine.specs.declared.stage.Goal.{Goal}
use Rattle.machine.specs.declared.stage.Goal.TheVariants.{Look, Add, Take, Finish}
use Rattle.machine.specs.declared.stage.Search.TheVariants.{ReadFront, ProtectFirst, CheckFront, ReadCell, ProtectNext, CheckPrev, ConfirmCell, ShiftPrev, ShiftCur, Unlink}
use Rattle.machine.specs.declared.stage.Stage.{Stage}
use Rattle.machine.specs.declared.stage.Stage.TheVariants.{Outside, PushReadHead, PushSwapHead, PopReadHead, PopProtectTop, PopCheckHead, PopReadTop, PopSwapHead, Find, LinkFresh, MarkCell, RemoveCell}
use Rattle.machine.specs.declared.word.Op.{Op}
use Rattle.machine.specs.declared.word.Op.TheVariants.{Insert, Delete, Contains, Push, Pop}
use Rattle.machine.specs.declared.answer.Answer.{Answer}
use Rattle.machine.specs.Answers.{yes, no}

module _ {State : Type 0} {M : Model State} {sessions cells : ℕ} (L : Rules M sessions cells) {V : Type 0} (O : Order V) (val : ℕ → V) where
  -- a marked cell in the list was so before
  abbrev pub Back : Scene State → Scene State → Type 0
  Back A B =
      (c : ℕ) → B.place c ≡ on_list → B.memory.mark c ≡ true
      → (A.place c ≡ on_list) × (A.memory.mark c ≡ true) × (key L O val B c ≡ key L O val A c)

  pub back_trans : (A B C : Scene State) → Back A B → Back B C → Back A C
  back_trans A B C p q c e m =
      let x = q c e m in
      let y = p c x.0 x.1 in
      (y.0, y.1, x.2 ∙ y.2)

  abbrev pub scene : Memory State → (ℕ → Place) → List ℕ → List ℕ → Trace → Scene State
  scene h P l m tr = record { memory = h; place = P; chain = l; line = m; seen = tr }

  pub own_put : (P : ℕ → Place) (f s : ℕ) (v : Place) → (kind v ≡ 4 → ⊥) → ((c : ℕ) → P c ≡ fresh_of s → f ≡ c)
      → (c : ℕ) → put P f v c ≡ fresh_of s → ⊥
  own_put P f s v nv own c e = go (cases_eq c f)
    where
      go : (c ≡ f) ⊎ (c ≡ f → ⊥) → ⊥
      go (inl q) = nv (ap kind (sym (put_here P f v) ∙ (ap (put P f v) (sym q) ∙ e)))
      go (inr ne) = ne (sym (own c (sym (put_apart P f v c ne) ∙ e)))

  -- a put of a place out of the list, or of an unmarked cell
  pub back_put : (A : Scene State) (h : Memory State) (f : ℕ) (v : Place) (l m : List ℕ) (tr : Trace) → (kind v ≡ 5 → ⊥)
      → ((c : ℕ) → (c ≡ f → ⊥) → h.mark c ≡ A.memory.mark c) → ((c : ℕ) → (c ≡ f → ⊥) → h.item c ≡ A.memory.item c)
      → Back A (scene h (put A.place f v) l m tr)
  back_put A h f v l m tr nv mk it c e z = go (cases_eq c f)
    where
      go : (c ≡ f) ⊎ (c ≡ f → ⊥) → (A.place c ≡ on_list) × (A.memory.mark c ≡ true) × (val (h.item c) ≡ key L O val A c)
      go (inl q) = absurd (nv (ap kind (sym (put_here A.place f v) ∙ (ap (put A.place f v) (sym q) ∙ e))))
      go (inr ne) = (sym (put_apart A.place f v c ne) ∙ e, sym (mk c ne) ∙ z, ap val (it c ne))

  module _ (b : History State) (i : Inv L O val b) (s : ℕ) (lt : s < sessions) where
    abbrev A : Scene State
    A = scene_of L O val b i.place i.chain i.line

    -- the word ends in the scene B, with the stage g
    pub land₀ : (B : Scene State) (g : Stage) → Sound L O val B
        → ((t : ℕ) → (t ≡ s → ⊥) → Calm L t A B) → Stands L O val B s g → Debts L O val B (put b.stage s g)
        → Inv L O val (record { memory = B.memory; stage = put b.stage s g; seen = B.seen })
    land₀ B g sound calm stands debts =
        record { place = B.place; chain = B.chain; line = B.line; sound = sound; each = λ t. each t (cases_eq t s); debts = debts }
      where
        each : (t : ℕ) → (t ≡ s) ⊎ (t ≡ s → ⊥) → Stands L O val B t (put b.stage s g t)
        each t (inl e) = subst (λ x. Stands L O val B x (put b.stage s g x)) (sym e) (rw (put_here b.stage s g) stands)
        each t (inr ne) = rw (put_apart b.stage s g t ne) (stands_calm L (calm t ne) O val (b.stage t) (i.each t))

    pub land : (g₀ : Stage) → b.stage s ≡ g₀ → (B : Scene State) (g : Stage) → Sound L O val B
        → ((t : ℕ) → (t ≡ s → ⊥) → Calm L t A B) → Stands L O val B s g → Back A B
        → ((c : ℕ) → B.place c ≡ on_list → B.memory.mark c ≡ true → Chases L O val g₀ (key L O val B c) → Chases L O val g (key L O val B c))
        → Inv L O val (record { memory = B.memory; stage = put b.stage s g; seen = B.seen })
    land g₀ eq B g sound calm stands back pass =
        land₀ B g sound calm stands (λ c e m. debt c e m (i.debts c (back c e m).0 (back c e m).1))
      where
        debt : (c : ℕ) → B.place c ≡ on_list → B.memory.mark c ≡ true → (t : ℕ) × Chases L O val (b.stage t) (key L O val A c)
            → (t : ℕ) × Chases L O val (put b.stage s g t) (key L O val B c)
        debt c e m (t, ch) = go (cases_eq t s)
          where
            ch₁ : Chases L O val (b.stage t) (key L O val B c)
            ch₁ = subst (λ v. Chases L O val (b.stage t) v) (sym (back c e m).2) ch

            go : (t ≡ s) ⊎ (t ≡ s → ⊥) → (u : ℕ) × Chases L O val (put b.stage s g u) (key L O val B c)
            go (inl q) = (
              s,
              subst (λ x. Chases L O val x (key L O val B c)) (sym (put_here b.stage s g))
                  (pass c e m (subst (λ x. Chases L O val x (key L O val B c)) (ap b.stage q ∙ eq) ch₁)),
            )
            go (inr ne) = (t, subst (λ x. Chases L O val x (key L O val B c)) (sym (put_apart b.stage s g t ne)) ch₁)

    pub stay : (g₀ : Stage) → b.stage s ≡ g₀ → (g : Stage) → Stands L O val A s g
        → ((v : V) → Chases L O val g₀ v → Chases L O val g v)
        → Inv L O val (record { memory = b.memory; stage = put b.stage s g; seen = b.seen })
    stay g₀ eq g st pass =
        land g₀ eq A g i.sound (λ t ne. calm_refl L t A) st (λ c e m. (e, m, refl)) (λ c e m. pass (key L O val A c))

    -- the decided operation of s completes
    ending : (g₀ : Stage) → b.stage s ≡ g₀ → (op : Op) (r : Answer) (B : Scene State)
        → (means L B).inside s → status s B.seen ≡ decided op r
        → Sound L O val B → ((t : ℕ) → (t ≡ s → ⊥) → Calm L t A B)
        → ((c : ℕ) → B.place c ≡ fresh_of s → ⊥) → Back A B
        → ((c : ℕ) → B.place c ≡ on_list → B.memory.mark c ≡ true → Chases L O val g₀ (key L O val B c) → ⊥)
        → Inv L O val (record { memory = left M B.memory s; stage = put b.stage s Outside; seen = completes s r ∷ B.seen })
    ending g₀ eq op r B in₁ st sound calm none-own back pass =
        land g₀ eq (Moves.leave_scene L O val B s r) Outside
        (Moves.leave_sound L O val B s op r lt in₁ st sound)
        (λ t ne. calm_trans L (calm t ne) (Moves.leave_calm L O val B s r sound.fit lt in₁ t ne))
        (record {
          staged = ((L.leaving B.memory.reclaimer s sound.fit lt in₁).self, status_completed s r B.seen);
          owns = λ c e. absurd (none-own c e);
        })
        back pass

    -- an operation that changes nothing is decided and completes
    judged : (g₀ : Stage) → b.stage s ≡ g₀ → (op : Op) (r : Answer) (B : Scene State)
        → (means L B).inside s → status s B.seen ≡ under op
        → serve O.cmp val op (played O.cmp val (deeds B.seen)) ≡ (played O.cmp val (deeds B.seen), r)
        → Sound L O val B → ((t : ℕ) → (t ≡ s → ⊥) → Calm L t A B)
        → ((c : ℕ) → B.place c ≡ fresh_of s → ⊥) → Back A B
        → ((v : V) → Chases L O val g₀ v → ⊥)
        → Inv L O val (record { memory = left M B.memory s; stage = put b.stage s Outside; seen = completes s r ∷ decides s r ∷ B.seen })
    judged g₀ eq op r B in₁ st sv sound calm none-own back pass =
        ending g₀ eq op r (Moves.sees L O val B (decides s r)) in₁ (status_decided s op r B.seen st)
        (Moves.judge_sound L O val B s op r st sv sound)
        (λ t ne. calm_trans L (calm t ne) (Moves.decide_calm L O val B s t r ne))
        none-own back (λ c e m. pass (key L O val B c))

    -- the stack
    step_push_swap : (f : ℕ) (l : Option ℕ) → b.stage s ≡ PushSwapHead f l → Stands L O val A s (PushSwapHead f l) → (t : Bool) → same b.memory.head l ≡ t
        → Inv L O val (settled b s (push_swap M b.memory s f t))
    step_push_swap f l eq st true e =
        let h : b.memory.link f ≡ b.memory.head = st.staged.2 ∙ sym (same_eq b.memory.head l e) in
        let u : status s b.seen ≡ under (Push (b.memory.item f)) = st.staged.0.under in
        let B = More.link_scene L O val A s f in
        let v = link_at (length i.chain) in
        ending (PushSwapHead f l) eq (Push (b.memory.item f)) (yes 0) B st.staged.0.inside
        (status_decided s (Push (b.memory.item f)) (yes 0) b.seen u)
        (More.link_sound L O val A s f st.staged.1 i.sound h u)
        (More.link_calm L O val A s f st.staged.1 i.sound h u)
        (own_put i.place f s v (λ z. omega arith) st.owns)
        (back_put A B.memory f v B.chain B.line B.seen (λ z. omega arith) (λ c ne. refl) (λ c ne. refl))
        (λ c e m z. z)
    step_push_swap f l eq st false e = stay (PushSwapHead f l) eq (PushReadHead f) (record { staged = (st.staged.0, st.staged.1); owns = st.owns }) (λ v z. z)

    step_pop_read : b.stage s ≡ PopReadHead → Stands L O val A s PopReadHead → (h : Option ℕ) → b.memory.head ≡ h → Inv L O val (settled b s (pop_read M b.memory s h))
    step_pop_read eq st None e =
        let n : (played O.cmp val (deeds b.seen)).stack ≡ [] = sym i.sound.stack ∙ ap (map b.memory.item) (More.empty_chain L O val A e i.sound) in
        judged PopReadHead eq Pop no A st.staged.inside st.staged.under
        (ap (popped (played O.cmp val (deeds b.seen)).set) n ∙ sym (ap (λ x. (record { set = (played O.cmp val (deeds b.seen)).set; stack = x }, no)) n))
        i.sound (λ t ne. calm_refl L t A) (λ c q. st.owns c q) (λ c e m. (e, m, refl)) (λ v z. z)
    step_pop_read eq st (Some c) e =
        let r = More.head_chain L O val A c e i.sound in
        stay PopReadHead eq (PopProtectTop c)
        (record { staged = (st.staged, More.unlink_in L O val A s c r.0 r.1 st.staged.under i.sound); owns = st.owns }) (λ v z. z)

    step_pop_check : (c : ℕ) → b.stage s ≡ PopCheckHead c → Stands L O val A s (PopCheckHead c) → (t : Bool) → same b.memory.head (Some c) ≡ t
        → Inv L O val (settled b s (pop_check M b.memory s c t))
    step_pop_check c eq st true e =
        let r = More.head_chain L O val A c (same_eq b.memory.head (Some c) e) i.sound in
        let f = More.first L O val A s c r.0 r.1 st.staged.0.under i.sound in
        let m = Moves.clear_calm L O val A s c s in
        land (PopCheckHead c) eq (Moves.sees L O val A (clears s c)) (PopReadTop c) (Moves.clear_sound L O val A s c i.sound) (λ t ne. Moves.clear_calm L O val A s c t)
        (record {
          staged = (
            busy_calm L m st.staged.0,
            record { named = st.staged.1; there = inl (length r.0, f.1) },
            inl (length r.0, f.1),
            Moves.clear_now L O val A s c,
          );
          owns = st.owns;
        })
        (λ c e m. (e, m, refl)) (λ c e m z. z)
    step_pop_check c eq st false e = stay (PopCheckHead c) eq PopReadHead (record { staged = st.staged.0; owns = st.owns }) (λ v z. z)

    step_pop_swap : (c : ℕ) (n : Option ℕ) (v : ℕ) → b.stage s ≡ PopSwapHead c n v → Stands L O val A s (PopSwapHead c n v) → (t : Bool) → same b.memory.head (Some c) ≡ t
        → Inv L O val (settled b s (pop_swap M b.memory s c n v t))
    step_pop_swap c n v eq st true e =
        let r = More.head_chain L O val A c (same_eq b.memory.head (Some c) e) i.sound in
        let u : status s b.seen ≡ under Pop = st.staged.0.under in
        let B = More.unlink_scene L O val A s c r.0 in
        let w : b.memory.item c ≡ v = st.staged.4 in
        let m : b.memory.link c ≡ n = st.staged.3 in
        subst (λ x. Inv L O val (settled b s (pop_swap M b.memory s c n x true))) w
        (subst (λ x. Inv L O val (settled b s (pop_swap M b.memory s c x (b.memory.item c) true))) m
        (ending (PopSwapHead c n v) eq Pop (yes (b.memory.item c)) B
        (More.unlink_inside L O val A s c r.0 r.1 u i.sound st.staged.0.inside)
        (status_decided s Pop (yes (b.memory.item c)) b.seen u)
        (More.unlink_sound L O val A s c r.0 r.1 u i.sound)
        (More.unlink_calm L O val A s c r.0 r.1 u i.sound)
        (own_put i.place c s held_now (λ z. omega arith) (λ d q. absurd (st.owns d q)))
        (back_put A B.memory c held_now B.chain B.line B.seen (λ z. omega arith) (λ d ne. refl) (λ d ne. refl))
        (λ d e m z. z)))
    step_pop_swap c n v eq st false e = stay (PopSwapHead c n v) eq PopReadHead (record { staged = st.staged.0; owns = st.owns }) (λ v z. z)

    -- where a search ends
    module _ (g₀ : Stage) (eq : b.stage s ≡ g₀) (h : Memory State) (P : ℕ → Place) (l m : List ℕ) (tr : Trace) (g : Goal)
        (sound : Sound L O val (scene h P l m (tr ++ b.seen)))
        (calm : (t : ℕ) → (t ≡ s → ⊥) → Calm L t A (scene h P l m (tr ++ b.seen)))
        (hunt : Hunt L (scene h P l m (tr ++ b.seen)) s g)
        (owns : (d : ℕ) → P d ≡ fresh_of s → OwnsG L g d)
        (back : Back A (scene h P l m (tr ++ b.seen)))
        (pass : (v : V) → Chases L O val g₀ v → ChasesG L O val g v) where
      abbrev B : Scene State
      B = scene h P l m (tr ++ b.seen)

      module _ (nokey : (x : ℕ) → In x m → key L O val B x ≡ val (sought g) → ⊥) where
        none_there : member O.cmp (val (sought g)) (played O.cmp val (deeds B.seen)).set ≡ false
        none_there =
            ap (member O.cmp (val (sought g))) (sym sound.set)
            ∙ Lists.member_none O (key L O val B) h.mark (val (sought g)) m nokey

      absent_inv : (q : Prev) (c : Option ℕ) → ((x : ℕ) → In x m → key L O val B x ≡ val (sought g) → ⊥)
          → (j : ℕ) → Clean L O val B s j (sought g) q → Beyond L O val B s (sought g) c
          → Inv L O val (settled b s (absent M h s g q c tr))
      absent_inv = go g hunt owns pass none_there
        where
          go : (g : Goal) → Hunt L B s g → ((d : ℕ) → P d ≡ fresh_of s → OwnsG L g d) → ((v : V) → Chases L O val g₀ v → ChasesG L O val g v)
              → (((x : ℕ) → In x m → key L O val B x ≡ val (sought g) → ⊥) → member O.cmp (val (sought g)) (played O.cmp val (deeds B.seen)).set ≡ false)
              → (q : Prev) (c : Option ℕ) → ((x : ℕ) → In x m → key L O val B x ≡ val (sought g) → ⊥)
              → (j : ℕ) → Clean L O val B s j (sought g) q → Beyond L O val B s (sought g) c
              → Inv L O val (settled b s (absent M h s g q c tr))
          go (Look k) hunt own pass mem q c nokey j cl be =
              judged g₀ eq (Contains k) no B hunt.inside hunt.is
              (ap (looked O.cmp val (played O.cmp val (deeds B.seen))) (mem nokey))
              sound calm own back pass
          go (Add k f) hunt own pass mem q c nokey j cl be =
              land g₀ eq B (LinkFresh k f q c) sound calm (record { staged = (hunt, (j, cl), be); owns = own }) back (λ d e m. pass (key L O val B d))
          go (Take k) hunt own pass mem q c nokey j cl be =
              judged g₀ eq (Delete k) no B hunt.inside hunt.is
              (ap (deleted O.cmp val (played O.cmp val (deeds B.seen)) (val k)) (mem nokey))
              sound calm own back pass
          go (Finish k) hunt own pass mem q c nokey j cl be =
              ending g₀ eq (Delete k) (yes 0) B hunt.inside hunt.is sound calm own back
              (λ d e m z. nokey d (sound.line_back d e) (sym (pass (key L O val B d) z)))

      present_inv : (q : Prev) (c : ℕ) (n : Option ℕ) → P c ≡ on_list → h.mark c ≡ false → key L O val B c ≡ val (sought g)
          → Clean L O val B s 2 (sought g) q → Cur L B s 1 c
          → Inv L O val (settled b s (present M h s g q c n tr))
      present_inv = go g hunt owns pass
        where
          found : (k c : ℕ) → P c ≡ on_list → h.mark c ≡ false → key L O val B c ≡ val k → member O.cmp (val k) (played O.cmp val (deeds B.seen)).set ≡ true
          found k c e mk kq =
              ap (member O.cmp (val k)) (sym sound.set)
              ∙ (ap (λ x. member O.cmp x (live h.mark (key L O val B) m)) (sym kq)
              ∙ Lists.member_there O (key L O val B) h.mark c m sound.sorted (sound.line_back c e) mk)

          go : (g : Goal) → Hunt L B s g → ((d : ℕ) → P d ≡ fresh_of s → OwnsG L g d) → ((v : V) → Chases L O val g₀ v → ChasesG L O val g v)
              → (q : Prev) (c : ℕ) (n : Option ℕ) → P c ≡ on_list → h.mark c ≡ false → key L O val B c ≡ val (sought g)
              → Clean L O val B s 2 (sought g) q → Cur L B s 1 c
              → Inv L O val (settled b s (present M h s g q c n tr))
          go (Look k) hunt own pass q c n e mk kq cl cu =
              judged g₀ eq (Contains k) (yes 0) B hunt.inside hunt.is
              (ap (looked O.cmp val (played O.cmp val (deeds B.seen))) (found k c e mk kq))
              sound calm own back pass
          go (Add k f) hunt own pass q c n e mk kq cl cu =
              let C = More.back_scene L O val B f in
              let low = More.fresh_in L O val B s f hunt.fresh.0 sound in
              let room = Free.shelves L O val B f sound low (λ z. let k = ap kind hunt.fresh.0 in omega arith) in
              let P₁ : List ℕ → Type 0 = λ x. Inv L O val (record {
                memory = left M (record { reclaimer = h.reclaimer; head = h.head; front = h.front; free = x; link = h.link; mark = h.mark; item = h.item }) s;
                stage = put b.stage s Outside;
                seen = completes s no ∷ decides s no ∷ B.seen;
              }) in
              subst P₁ (sym room) (judged g₀ eq (Insert k) no C hunt.inside hunt.is
              (ap (inserted O.cmp val (played O.cmp val (deeds B.seen)) (val k)) (found k c e mk kq))
              (More.back_sound L O val B s f hunt.fresh.0 sound)
              (λ t ne. calm_trans L (calm t ne) (More.back_calm L O val B s f hunt.fresh.0 sound t ne))
              (own_put P f s (free_at (length h.free)) (λ z. omega arith) own)
              (back_trans A B C back
              (back_put B C.memory f (free_at (length h.free)) C.chain C.line C.seen (λ z. omega arith) (λ d ne. refl) (λ d ne. refl)))
              pass)
          go (Take k) hunt own pass q c n e mk kq cl cu =
              land g₀ eq B (MarkCell k q c n) sound calm (record { staged = (hunt, cl, cu, kq); owns = own }) back (λ d e m. pass (key L O val B d))
          go (Finish k) hunt own pass q c n e mk kq cl cu =
              ending g₀ eq (Delete k) (yes 0) B hunt.inside hunt.is sound calm own back
              (λ d y w z.
              let same : d ≡ c =
              Lists.sorted_inj O (key L O val B) m sound.sorted d c (sound.line_back d y) (sound.line_back c e)
              (sym (pass (key L O val B d) z) ∙ sym kq) in
              true≢false (sym w ∙ (ap h.mark same ∙ mk)))

    -- the search
    step_start : (g : Goal) → b.stage s ≡ Find g ReadFront → Stands L O val A s (Find g ReadFront) → (h : Option ℕ) → b.memory.front ≡ h
        → Inv L O val (settled b s (read_front M b.memory s g h))
    step_start g eq st None e =
        let w : Prevs.Behind L O val A Front None (val (sought g)) =
        subst (λ x. Prevs.Behind L O val A Front x (val (sought g))) e (Prevs.behind L O val A s 0 (sought g) Front i.sound tt refl) in
        absent_inv (Find g ReadFront) eq b.memory i.place i.chain i.line [] g i.sound (λ t ne. calm_refl L t A) st.staged st.owns
        (λ c e m. (e, m, refl)) (λ v z. z) Front None
        (Prevs.no_key L O val A Front None (sought g) w (Prevs.above_post L O val A Front None (val (sought g)) i.sound w tt))
        0 tt tt
    step_start g eq st (Some c) e =
        let p : i.place c ≡ on_list =
        Moves.in_line L O val A i.sound c (Lists.seg_first i.place b.memory.link b.memory.front i.line c i.sound.line e) in
        stay (Find g ReadFront) eq (Find g (ProtectFirst c))
        (record { staged = (st.staged, Moves.in_bounds L O val A i.sound c (λ z. let k = ap kind p in omega arith)); owns = st.owns }) (λ v z. z)

    step_check : (g : Goal) (c : ℕ) → b.stage s ≡ Find g (CheckFront c) → Stands L O val A s (Find g (CheckFront c)) → (t : Bool) → points b.memory Front (Some c) ≡ t
        → Inv L O val (settled b s (check_front M b.memory s g c t))
    step_check g c eq st true e =
        let f : b.memory.front ≡ Some c = (Prevs.is_true false b.memory.front (Some c) e).1 in
        let p : i.place c ≡ on_list =
        Moves.in_line L O val A i.sound c (Lists.seg_first i.place b.memory.link b.memory.front i.line c i.sound.line f) in
        let m = Moves.clear_calm L O val A s c s in
        land (Find g (CheckFront c)) eq (Moves.sees L O val A (clears s c)) (Find g (ReadCell Front c)) (Moves.clear_sound L O val A s c i.sound) (λ t ne. Moves.clear_calm L O val A s c t)
        (record {
          staged = (
            hunt_calm L m st.staged.0,
            tt,
            record { safe = record { named = st.staged.1; there = inr (inl p) }; list = inl p; cleared = Moves.clear_now L O val A s c },
          );
          owns = st.owns;
        })
        (λ c e m. (e, m, refl)) (λ c e m z. z)
    step_check g c eq st false e = stay (Find g (CheckFront c)) eq (Find g ReadFront) (record { staged = st.staged.0; owns = st.owns }) (λ v z. z)

    step_read : (g : Goal) (q : Prev) (c : ℕ) → b.stage s ≡ Find g (ReadCell q c) → Stands L O val A s (Find g (ReadCell q c)) → (n : Option ℕ) → b.memory.link c ≡ n
        → Inv L O val (settled b s (read_cell M b.memory s g q c n))
    step_read g q c eq st None e =
        let m = Moves.touch_calm L O val A s c s in
        land (Find g (ReadCell q c)) eq (Moves.sees L O val A (touches s c)) (Find g (CheckPrev q c (b.memory.mark c) None (b.memory.item c)))
        (Moves.touch_sound L O val A s c st.staged.2.cleared i.sound) (λ t ne. Moves.touch_calm L O val A s c t)
        (record {
          staged =
              (hunt_calm L m st.staged.0, clean_calm L m O val 2 (sought g) q st.staged.1, cur_calm L m 1 c st.staged.2, refl, λ z. (z, e), tt);
          owns = st.owns;
        })
        (λ c e m. (e, m, refl)) (λ c e m z. z)
    step_read g q c eq st (Some n) e =
        let m = Moves.touch_calm L O val A s c s in
        land (Find g (ReadCell q c)) eq (Moves.sees L O val A (touches s c)) (Find g (ProtectNext q c (b.memory.mark c) n (b.memory.item c)))
        (Moves.touch_sound L O val A s c st.staged.2.cleared i.sound) (λ t ne. Moves.touch_calm L O val A s c t)
        (record {
          staged = (
            hunt_calm L m st.staged.0,
            clean_calm L m O val 2 (sought g) q st.staged.1,
            cur_calm L m 1 c st.staged.2,
            refl,
            λ z. (z, e),
            i.sound.linked c n e,
          );
          owns = st.owns;
        })
        (λ c e m. (e, m, refl)) (λ c e m z. z)

    -- with prev touched
    abbrev T : Prev → Scene State
    T q = Prevs.touched L O val A s q

    quiet_back : (x : State) (tr : Trace) → Back A (Moves.quiet L A x tr)
    quiet_back x tr c e m = (e, m, refl)

    step_compare : (g : Goal) (q : Prev) (c : ℕ) (mk : Bool) (n : Option ℕ) (v : ℕ) → b.stage s ≡ Find g (CheckPrev q c mk n v) → Stands L O val A s (Find g (CheckPrev q c mk n v))
        → (t : Bool) → points b.memory q (Some c) ≡ t → (o : Ordering) → weigh (cmp_of O val) v g ≡ o
        → Inv L O val (settled b s (check_prev M b.memory s g q c mk n v t o))
    step_compare g q c mk n v eq st false e o w =
        let m = Prevs.touched_calm L O val A s q s in
        land (Find g (CheckPrev q c mk n v)) eq (T q) (Find g ReadFront) (Prevs.touched_sound L O val A s 2 (sought g) q st.staged.1 i.sound)
        (λ t ne. Prevs.touched_calm L O val A s q t)
        (record { staged = hunt_calm L m st.staged.0; owns = st.owns })
        (λ c e m. (e, m, refl)) (λ c e m z. z)
    step_compare g q c true n v eq st true e o w =
        let m = Prevs.touched_calm L O val A s q s in
        land (Find g (CheckPrev q c true n v)) eq (T q) (Find g (Unlink q c n)) (Prevs.touched_sound L O val A s 2 (sought g) q st.staged.1 i.sound)
        (λ t ne. Prevs.touched_calm L O val A s q t)
        (record {
          staged = (
            hunt_calm L m st.staged.0,
            clean_calm L m O val 2 (sought g) q st.staged.1,
            cur_calm L m 1 c st.staged.2,
            st.staged.4 refl,
            named_calm L m n st.staged.5,
          );
          owns = st.owns;
        })
        (λ c e m. (e, m, refl)) (λ c e m z. z)
    step_compare g q c false n v eq st true e Less w =
        let m = Prevs.touched_calm L O val A s q s in
        land (Find g (CheckPrev q c false n v)) eq (T q) (Find g (ConfirmCell q c n v)) (Prevs.touched_sound L O val A s 2 (sought g) q st.staged.1 i.sound)
        (λ t ne. Prevs.touched_calm L O val A s q t)
        (record {
          staged = (
            hunt_calm L m st.staged.0,
            clean_calm L m O val 2 (sought g) q st.staged.1,
            cur_calm L m 1 c st.staged.2,
            st.staged.3,
            named_calm L m n st.staged.5,
            λ z. let y : ◌≡◌ {A = ℕ} 0 1 = cc in omega arith,
          );
          owns = st.owns;
        })
        (λ c e m. (e, m, refl)) (λ c e m z. z)
    step_compare g q c false n v eq st true e Equal w =
        let m = Prevs.touched_calm L O val A s q s in
        land (Find g (CheckPrev q c false n v)) eq (T q) (Find g (ConfirmCell q c n v)) (Prevs.touched_sound L O val A s 2 (sought g) q st.staged.1 i.sound)
        (λ t ne. Prevs.touched_calm L O val A s q t)
        (record {
          staged = (
            hunt_calm L m st.staged.0,
            clean_calm L m O val 2 (sought g) q st.staged.1,
            cur_calm L m 1 c st.staged.2,
            st.staged.3,
            named_calm L m n st.staged.5,
            λ z. let y : ◌≡◌ {A = ℕ} 0 1 = cc in omega arith,
          );
          owns = st.owns;
        })
        (λ c e m. (e, m, refl)) (λ c e m z. z)
    step_compare g q c false n v eq st true e Greater w =
        let m = Prevs.touched_calm L O val A s q s in
        let k = sought g in
        let kv : key L O val A c ≡ val v = ap val st.staged.3 in
        let up : Below O (val k) (key L O val A c) = back O (key L O val A c) (val k) (ap (λ x. O.cmp x (val k)) kv ∙ w) in
        let h = Prevs.behind_at L O val A s 2 k q (Some c) i.sound st.staged.1 e in
        absent_inv (Find g (CheckPrev q c false n v)) eq b.memory i.place i.chain i.line (touch_prev s q) g
        (Prevs.touched_sound L O val A s 2 k q st.staged.1 i.sound)
        (λ t ne. Prevs.touched_calm L O val A s q t)
        (hunt_calm L m st.staged.0) st.owns (λ c e m. (e, m, refl)) (λ v z. z) q (Some c)
        (Prevs.no_key L O val A q (Some c) k h (Prevs.above_post L O val A q (Some c) (val k) i.sound h up))
        2 (clean_calm L m O val 2 k q st.staged.1) (cur_calm L m 1 c st.staged.2, up)

    -- nx, if a cell, is cleared
    clearing_sound : (n : Option ℕ) (tr : Trace) → Sound L O val (Moves.quiet L A b.memory.reclaimer (tr ++ b.seen))
        → Sound L O val (Moves.quiet L A b.memory.reclaimer (clearing s n tr ++ b.seen))
    clearing_sound None tr h = h
    clearing_sound (Some n) tr h = Moves.clear_sound L O val (Moves.quiet L A b.memory.reclaimer (tr ++ b.seen)) s n h

    clearing_calm : (n : Option ℕ) (tr : Trace) (t : ℕ) → Calm L t A (Moves.quiet L A b.memory.reclaimer (tr ++ b.seen))
        → Calm L t A (Moves.quiet L A b.memory.reclaimer (clearing s n tr ++ b.seen))
    clearing_calm None tr t h = h
    clearing_calm (Some n) tr t h = calm_trans L h (Moves.clear_calm L O val (Moves.quiet L A b.memory.reclaimer (tr ++ b.seen)) s n t)

    module _ (g : Goal) (q : Prev) (c : ℕ) (v : ℕ) where
      -- cur is unmarked, so it is in the list
      at_cur : (n : Option ℕ) → Cur L A s 1 c → points b.memory (At c) n ≡ true
          → (i.place c ≡ on_list) × (b.memory.mark c ≡ false) × (b.memory.link c ≡ n)
      at_cur n h e =
          let w = Prevs.is_true (b.memory.mark c) (b.memory.link c) n e in
          (Prevs.in_list L O val A c h.list w.0, w.0, w.1)

      next_in : (n : ℕ) → i.place c ≡ on_list → b.memory.link c ≡ Some n → i.place n ≡ on_list
      next_in n p e =
          Moves.in_line L O val A i.sound n
          (Lists.seg_next i.place b.memory.link b.memory.front i.line c n i.sound.line (i.sound.line_back c p) e)

      below : b.memory.item c ≡ v → (O.cmp (val v) (val (sought g)) ≡ Greater → ⊥) → (o : Ordering) → (o ≡ Equal → ⊥) → weigh (cmp_of O val) v g ≡ o
          → Below O (key L O val A c) (val (sought g))
      below it nm Less ne w = ap (λ x. O.cmp (val x) (val (sought g))) it ∙ w
      below it nm Equal ne w = absurd (ne refl)
      below it nm Greater ne w = absurd (nm w)

      -- the two ways on from the confirmation when cur is below
      confirm_end : b.stage s ≡ Find g (ConfirmCell q c None v) → Stands L O val A s (Find g (ConfirmCell q c None v)) → points b.memory (At c) None ≡ true
          → Below O (key L O val A c) (val (sought g))
          → Inv L O val (settled b s (absent M b.memory s g (At c) None (touches s c ∷ [])))
      confirm_end eq st e lo =
          let m = Moves.touch_calm L O val A s c s in
          let k = sought g in
          let cl : Clean L O val A s 1 k (At c) = (st.staged.2, lo) in
          let h = Prevs.behind_at L O val A s 1 k (At c) None i.sound cl e in
          absent_inv (Find g (ConfirmCell q c None v)) eq b.memory i.place i.chain i.line (touches s c ∷ []) g
          (Moves.touch_sound L O val A s c st.staged.2.cleared i.sound)
          (λ t ne. Moves.touch_calm L O val A s c t)
          (hunt_calm L m st.staged.0) st.owns (λ c e m. (e, m, refl)) (λ v z. z) (At c) None
          (Prevs.no_key L O val A (At c) None k h (Prevs.above_post L O val A (At c) None (val k) i.sound h tt))
          1 (clean_calm L m O val 1 k (At c) cl) tt

      confirm_on : (n : ℕ) → b.stage s ≡ Find g (ConfirmCell q c (Some n) v) → Stands L O val A s (Find g (ConfirmCell q c (Some n) v)) → points b.memory (At c) (Some n) ≡ true
          → Below O (key L O val A c) (val (sought g))
          → Inv L O val (settled b s (on M b.memory (Find g (ShiftPrev c n)) (clears s n ∷ touches s c ∷ [])))
      confirm_on n eq st e lo =
          let X = Moves.sees L O val A (touches s c) in
          let Y = Moves.sees L O val X (clears s n) in
          let m = calm_trans L (Moves.touch_calm L O val A s c s) (Moves.clear_calm L O val X s n s) in
          let w = at_cur (Some n) st.staged.2 e in
          let p : i.place n ≡ on_list = next_in n w.0 w.2 in
          land (Find g (ConfirmCell q c (Some n) v)) eq Y (Find g (ShiftPrev c n))
          (Moves.clear_sound L O val X s n (Moves.touch_sound L O val A s c st.staged.2.cleared i.sound))
          (λ t ne. calm_trans L (Moves.touch_calm L O val A s c t) (Moves.clear_calm L O val X s n t))
          (record {
            staged = (
              hunt_calm L m st.staged.0,
              cur_calm L m 1 c st.staged.2,
              lo,
              record { safe = record { named = st.staged.4; there = inr (inl p) }; list = inl p; cleared = Moves.clear_now L O val X s n },
            );
            owns = st.owns;
          })
          (λ c e m. (e, m, refl)) (λ c e m z. z)

    not_equal : (o : Ordering) → o ≡ Equal → (o ≡ Less) ⊎ (o ≡ Greater) → ⊥
    not_equal o e (inl q) = let y : ◌≡◌ {A = ℕ} 0 1 = cc in omega arith
    not_equal o e (inr q) = let y : ◌≡◌ {A = ℕ} 0 1 = cc in omega arith

    step_confirm : (g : Goal) (q : Prev) (c : ℕ) (n : Option ℕ) (v : ℕ) → b.stage s ≡ Find g (ConfirmCell q c n v) → Stands L O val A s (Find g (ConfirmCell q c n v))
        → (t : Bool) → points b.memory (At c) n ≡ t → (o : Ordering) → weigh (cmp_of O val) v g ≡ o
        → Inv L O val (settled b s (confirm_cell M b.memory s g q c n t o))
    step_confirm g q c n v eq st false e o w =
        let m = Moves.touch_calm L O val A s c s in
        land (Find g (ConfirmCell q c n v)) eq (Moves.sees L O val A (touches s c)) (Find g ReadFront) (Moves.touch_sound L O val A s c st.staged.2.cleared i.sound)
        (λ t ne. Moves.touch_calm L O val A s c t)
        (record { staged = hunt_calm L m st.staged.0; owns = st.owns })
        (λ c e m. (e, m, refl)) (λ c e m z. z)
    step_confirm g q c n v eq st true e Equal w =
        let k = sought g in
        let tr = touches s c ∷ [] in
        let m = clearing_calm n tr s (Moves.touch_calm L O val A s c s) in
        let f = at_cur g q c v n st.staged.2 e in
        let kv : key L O val A c ≡ val k = ap val st.staged.3 ∙ O.same (val v) (val k) w in
        present_inv (Find g (ConfirmCell q c n v)) eq b.memory i.place i.chain i.line (clearing s n tr) g
        (clearing_sound n tr (Moves.touch_sound L O val A s c st.staged.2.cleared i.sound))
        (λ t ne. clearing_calm n tr t (Moves.touch_calm L O val A s c t))
        (hunt_calm L m st.staged.0) st.owns (λ c e m. (e, m, refl)) (λ v z. z)
        q c n f.0 f.1 kv (clean_calm L m O val 2 k q st.staged.1) (cur_calm L m 1 c st.staged.2)
    step_confirm g q c None v eq st true e Less w =
        confirm_end g q c v eq st e (below g q c v st.staged.3 st.staged.5 Less (λ z. not_equal Less z (inl refl)) w)
    step_confirm g q c None v eq st true e Greater w =
        confirm_end g q c v eq st e (below g q c v st.staged.3 st.staged.5 Greater (λ z. not_equal Greater z (inr refl)) w)
    step_confirm g q c (Some n) v eq st true e Less w =
        confirm_on g q c v n eq st e (below g q c v st.staged.3 st.staged.5 Less (λ z. not_equal Less z (inl refl)) w)
    step_confirm g q c (Some n) v eq st true e Greater w =
        confirm_on g q c v n eq st e (below g q c v st.staged.3 st.staged.5 Greater (λ z. not_equal Greater z (inr refl)) w)

    -- the marked cell behind prev goes
    module _ (k : ℕ) (q : Prev) (c : ℕ) (n : Option ℕ) (cl : Clean L O val A s 2 k q) (dead : Dead A c n)
        (e : points b.memory q (Some c) ≡ true) where
      tcalm : (t : ℕ) → Calm L t A (T q)
      tcalm t = Prevs.touched_calm L O val A s q t

      tsound : Sound L O val (T q)
      tsound = Prevs.touched_sound L O val A s 2 k q cl i.sound

      abbrev J : Option ℕ → ℕ → Option ℕ
      J x = link_after b.memory q x

      abbrev G : Option ℕ → Option ℕ
      G x = front_after b.memory q x

      hb : Prevs.Behind L O val (T q) q (Some c) (val k)
      hb = Prevs.behind_at L O val (T q) s 2 k q (Some c) tsound (clean_calm L (tcalm s) O val 2 k q cl) e

      abbrev gone : Scene State
      gone =
          Line.drop_scene L O val (T q) c (J (b.memory.link c))
          (G (b.memory.link c)) hb.cut.pre
          (Line.rest L O val (T q) c J G
          (val k) hb.cut hb.keep hb.from dead.0 tsound)

      gone_sound : Sound L O val gone
      gone_sound =
          Line.drop_sound L O val (T q) c J G
          (val k) hb.cut hb.keep hb.from dead.0 tsound

      gone_calm : (t : ℕ) → Calm L t A gone
      gone_calm t =
          calm_trans L (tcalm t)
          (Line.drop_calm L O val (T q) c J G
          (val k) hb.cut hb.keep hb.from dead.0 tsound t)

      gone_back : Back A gone
      gone_back = back_put A gone.memory c held_now gone.chain gone.line gone.seen (λ z. omega arith) (λ d ne. refl) (λ d ne. refl)

      gone_own : (g : Goal) → ((d : ℕ) → i.place d ≡ fresh_of s → OwnsG L g d) → (d : ℕ) → gone.place d ≡ fresh_of s → OwnsG L g d
      gone_own g own d h = own d ((gone_calm s).fresh_back d h)

      gone_place : i.place c ≡ on_list
      gone_place = Line.drop_place L O val (T q) c J G (val k) hb.cut hb.keep hb.from dead.0 tsound

      -- no c is left, and nothing else of its key
      gone_key : (d : ℕ) → gone.place d ≡ on_list → key L O val A d ≡ key L O val A c → ⊥
      gone_key d h e =
          let p : i.place d ≡ on_list = gone_in d h (cases_eq d c) in
          let z : d ≡ c = Lists.sorted_inj O (key L O val A) i.line i.sound.sorted d c (i.sound.line_back d p) (i.sound.line_back c gone_place) e in
          let y = ap kind (sym (put_here i.place c held_now) ∙ (ap (put i.place c held_now) (sym z) ∙ h)) in
          omega arith
        where
          gone_in : (d : ℕ) → gone.place d ≡ on_list → (d ≡ c) ⊎ (d ≡ c → ⊥) → i.place d ≡ on_list
          gone_in d h (inl z) = ap i.place z ∙ gone_place
          gone_in d h (inr ne) = sym (put_apart i.place c held_now d ne) ∙ h

      gone_none : b.memory.link c ≡ None → (x : ℕ) → In x gone.line → key L O val gone x ≡ val k → ⊥
      gone_none e x j y = go (Lists.in_append x hb.cut.pre (Line.rest L O val (T q) c J G (val k) hb.cut hb.keep hb.from dead.0 tsound) j)
        where
          go : In x hb.cut.pre ⊎ In x (Line.rest L O val (T q) c J G (val k) hb.cut hb.keep hb.from dead.0 tsound) → ⊥
          go (inl a) = Lists.less_irrefl O (key L O val A x) (val k) y (hb.cut.low x a)
          go (inr a) = subst (In x) (Line.drop_end L O val (T q) c J G (val k) hb.cut hb.keep hb.from dead.0 tsound e) a

      gone_next : (x : ℕ) → b.memory.link c ≡ Some x → gone.place x ≡ on_list
      gone_next x e = Line.drop_next L O val (T q) c J G (val k) hb.cut hb.keep hb.from dead.0 tsound x e

    step_unlink : (g : Goal) (q : Prev) (c : ℕ) (n : Option ℕ) → b.stage s ≡ Find g (Unlink q c n) → Stands L O val A s (Find g (Unlink q c n))
        → (t : Bool) → points b.memory q (Some c) ≡ t → Inv L O val (settled b s (unlink_marked M b.memory s g q c n t))
    step_unlink g q c n eq st false e =
        let m = Prevs.touched_calm L O val A s q s in
        land (Find g (Unlink q c n)) eq (T q) (Find g ReadFront) (Prevs.touched_sound L O val A s 2 (sought g) q st.staged.1 i.sound)
        (λ t ne. Prevs.touched_calm L O val A s q t)
        (record { staged = hunt_calm L m st.staged.0; owns = st.owns })
        (λ c e m. (e, m, refl)) (λ c e m z. z)
    step_unlink g q c None eq st true e =
        let k = sought g in
        let cl = st.staged.1 in
        let d = st.staged.3 in
        let B = gone k q c None cl d e in
        let m = gone_calm k q c None cl d e s in
        subst (λ x. Inv L O val (settled b s (absent M (retired M (relinked M b.memory q x) c) s g q None (touch_prev s q)))) d.1
        (absent_inv (Find g (Unlink q c None)) eq B.memory B.place B.chain B.line (touch_prev s q) g
        (gone_sound k q c None cl d e) (λ t ne. gone_calm k q c None cl d e t)
        (hunt_calm L m st.staged.0) (gone_own k q c None cl d e g st.owns) (gone_back k q c None cl d e) (λ v z. z) q None
        (gone_none k q c None cl d e d.1)
        2 (clean_calm L m O val 2 k q cl) tt)
    step_unlink g q c (Some n) eq st true e =
        let k = sought g in
        let cl = st.staged.1 in
        let d = st.staged.3 in
        let B = gone k q c (Some n) cl d e in
        let m₁ = gone_calm k q c (Some n) cl d e s in
        let m = calm_trans L m₁ (Moves.clear_calm L O val B s n s) in
        let p : B.place n ≡ on_list = gone_next k q c (Some n) cl d e n d.1 in
        subst (λ x. Inv L O val (settled b s (on M (retired M (relinked M b.memory q x) c) (Find g (ShiftCur q n)) (clears s n ∷ touch_prev s q)))) d.1
        (land (Find g (Unlink q c (Some n))) eq (Moves.sees L O val B (clears s n)) (Find g (ShiftCur q n))
        (Moves.clear_sound L O val B s n (gone_sound k q c (Some n) cl d e))
        (λ t ne. calm_trans L (gone_calm k q c (Some n) cl d e t) (Moves.clear_calm L O val B s n t))
        (record {
          staged = (
            hunt_calm L m st.staged.0,
            clean_calm L m O val 2 k q cl,
            record { safe = record { named = m.names 0 n st.staged.4; there = inr (inl p) }; list = inl p; cleared = Moves.clear_now L O val B s n },
          );
          owns = gone_own k q c (Some n) cl d e g st.owns;
        })
        (gone_back k q c (Some n) cl d e) (λ c e m z. z))

    step_remove : (k : ℕ) (q : Prev) (c : ℕ) (n : Option ℕ) → b.stage s ≡ RemoveCell k q c n → Stands L O val A s (RemoveCell k q c n)
        → (t : Bool) → points b.memory q (Some c) ≡ t → Inv L O val (settled b s (remove_cell M b.memory s k q c n t))
    step_remove k q c n eq st false e =
        let m = Prevs.touched_calm L O val A s q s in
        land (RemoveCell k q c n) eq (T q) (Find (Finish k) ReadFront) (Prevs.touched_sound L O val A s 2 k q st.staged.1 i.sound)
        (λ t ne. Prevs.touched_calm L O val A s q t)
        (record { staged = hunt_calm L m st.staged.0; owns = st.owns })
        (λ c e m. (e, m, refl)) (λ c e m z. z)
    step_remove k q c n eq st true e =
        let cl = st.staged.1 in
        let d = st.staged.3 in
        let B = gone k q c n cl d e in
        let m = gone_calm k q c n cl d e s in
        let h = hunt_calm L m st.staged.0 in
        subst (λ x. Inv L O val (settled b s (over M (retired M (relinked M b.memory q x) c) s (yes 0) (touch_prev s q)))) d.1
        (ending (RemoveCell k q c n) eq (Delete k) (yes 0) B h.inside h.is (gone_sound k q c n cl d e)
        (λ t ne. gone_calm k q c n cl d e t) (gone_own k q c n cl d e (Finish k) st.owns) (gone_back k q c n cl d e)
        (λ x p w z. gone_key k q c n cl d e x p (sym z ∙ sym st.staged.4)))

    step_mark : (k : ℕ) (q : Prev) (c : ℕ) (n : Option ℕ) → b.stage s ≡ MarkCell k q c n → Stands L O val A s (MarkCell k q c n)
        → (t : Bool) → points b.memory (At c) n ≡ t → Inv L O val (settled b s (mark_cell M b.memory s k q c n t))
    step_mark k q c n eq st false e =
        let m = Moves.touch_calm L O val A s c s in
        land (MarkCell k q c n) eq (Moves.sees L O val A (touches s c)) (Find (Take k) ReadFront) (Moves.touch_sound L O val A s c st.staged.2.cleared i.sound)
        (λ t ne. Moves.touch_calm L O val A s c t)
        (record { staged = hunt_calm L m st.staged.0; owns = st.owns })
        (λ c e m. (e, m, refl)) (λ c e m z. z)
    step_mark k q c n eq st true e =
        let X = Moves.sees L O val A (touches s c) in
        let m = Moves.touch_calm L O val A s c s in
        let w = at_cur (Take k) q c 0 n st.staged.2 e in
        let h = hunt_calm L m st.staged.0 in
        let xs = Moves.touch_sound L O val A s c st.staged.2.cleared i.sound in
        let B = Line.mark_scene L O val X s c in
        land₀ B (RemoveCell k q c n)
        (Line.mark_sound L O val X s c k w.0 w.1 st.staged.3 h.is xs)
        (λ t ne. calm_trans L (Moves.touch_calm L O val A s c t) (Line.mark_calm L O val X s c k w.0 w.1 st.staged.3 h.is xs t ne))
        (record {
          staged = (
            record { inside = h.inside; is = status_decided s (Delete k) (yes 0) X.seen h.is; fresh = tt },
            Prevs.mark_clean L O val X s c k w.0 w.1 st.staged.3 h.is xs 2 k q (clean_calm L m O val 2 k q st.staged.1),
            Prevs.mark_cur L O val X s c k w.0 w.1 st.staged.3 h.is xs 1 c (cur_calm L m 1 c st.staged.2),
            (put_here b.memory.mark c true, w.2),
            st.staged.3,
          );
          owns = st.owns;
        })
        (λ d p y. debt d p y (cases_eq d c))
      where
        debt : (d : ℕ) → i.place d ≡ on_list → put b.memory.mark c true d ≡ true → (d ≡ c) ⊎ (d ≡ c → ⊥)
            → (t : ℕ) × Chases L O val (put b.stage s (RemoveCell k q c n) t) (key L O val A d)
        debt d p y (inl z) = (
          s,
          subst (λ x. Chases L O val x (key L O val A d)) (sym (put_here b.stage s (RemoveCell k q c n)))
              (sym st.staged.3 ∙ ap (key L O val A) (sym z)),
        )
        debt d p y (inr ne) = old (i.debts d p (sym (put_apart b.memory.mark c true d ne) ∙ y))
          where
            old : (t : ℕ) × Chases L O val (b.stage t) (key L O val A d) → (t : ℕ) × Chases L O val (put b.stage s (RemoveCell k q c n) t) (key L O val A d)
            old (t, ch) = go (cases_eq t s)
              where
                go : (t ≡ s) ⊎ (t ≡ s → ⊥) → (u : ℕ) × Chases L O val (put b.stage s (RemoveCell k q c n) u) (key L O val A d)
                go (inl z) = absurd (subst (λ x. Chases L O val x (key L O val A d)) (ap b.stage z ∙ eq) ch)
                go (inr no₂) = (t, subst (λ x. Chases L O val x (key L O val A d)) (sym (put_apart b.stage s (RemoveCell k q c n) t no₂)) ch)

    in_beyond : (k : ℕ) (c : Option ℕ) → Beyond L O val A s k c → (n : ℕ) → c ≡ Some n → n < cells
    in_beyond k None h n e = let y : ◌≡◌ {A = ℕ} 0 1 = cc in absurd (omega arith)
    in_beyond k (Some c) h n e = let y : c ≡ n = cc in subst (λ x. x < cells) y (Prevs.cur_in L O val A s 1 c i.sound h.0)

    module _ (k f : ℕ) (q : Prev) (c : Option ℕ) (st : Stands L O val A s (LinkFresh k f q c)) where
      iclean : Clean L O val (T q) s st.staged.1.0 k q
      iclean = clean_calm L (Prevs.touched_calm L O val A s q s) O val st.staged.1.0 k q st.staged.1.1

      ibeyond : Beyond L O val (T q) s k c
      ibeyond = beyond_calm L (Prevs.touched_calm L O val A s q s) O val k c st.staged.2

      ihunt : Hunt L (T q) s (Add k f)
      ihunt = hunt_calm L (Prevs.touched_calm L O val A s q s) st.staged.0

      isound : Sound L O val (T q)
      isound = Prevs.touched_sound L O val A s st.staged.1.0 k q st.staged.1.1 i.sound

      abbrev W : Scene State
      W = More.write_scene L O val (T q) f c

      wsound : Sound L O val W
      wsound = More.write_sound L O val (T q) s f c ihunt.fresh.0 (in_beyond k c st.staged.2) isound

      wcalm : (t : ℕ) → (t ≡ s → ⊥) → Calm L t A W
      wcalm t ne =
          calm_trans L (Prevs.touched_calm L O val A s q t)
          (More.write_calm L O val (T q) s f c ihunt.fresh.0 (in_beyond k c st.staged.2) isound t ne)

      wback : Back A W
      wback d e m = go (cases_eq d f)
        where
          go : (d ≡ f) ⊎ (d ≡ f → ⊥) → (i.place d ≡ on_list) × (b.memory.mark d ≡ true) × (key L O val A d ≡ key L O val A d)
          go (inl z) =
              absurd (true≢false (sym m ∙ (ap (put b.memory.mark f false) z ∙ put_here b.memory.mark f false)))
          go (inr ne) = (e, sym (put_apart b.memory.mark f false d ne) ∙ m, refl)

      step_link : b.stage s ≡ LinkFresh k f q c → (t : Bool) → points (written M b.memory f c) q c ≡ t
          → Inv L O val (settled b s (link_fresh M (written M b.memory f c) s k f q c t))
      step_link eq false e =
          land (LinkFresh k f q c) eq W (Find (Add k f) ReadFront) wsound wcalm
          (record { staged = record { inside = ihunt.inside; is = ihunt.is; fresh = ihunt.fresh }; owns = st.owns })
          wback (λ c e m z. z)
      step_link eq true e =
          let it : b.memory.item f ≡ k = ihunt.fresh.1 in
          let v = key L O val W f in
          let j = st.staged.1.0 in
          let cW : Clean L O val W s j (b.memory.item f) q =
          subst (λ x. Clean L O val W s j x q) (sym it) (Prevs.write_clean L O val (T q) s f c ihunt.fresh.0 j k q iclean) in
          let bW : Beyond L O val W s (b.memory.item f) c =
          subst (λ x. Beyond L O val W s x c) (sym it) (Prevs.write_beyond L O val (T q) s f c ihunt.fresh.0 k c ibeyond) in
          let ph : put b.memory.link f c f ≡ c = put_here b.memory.link f c in
          let hb : Prevs.Behind L O val W q (W.memory.link f) v =
          subst (λ x. Prevs.Behind L O val W q x v) (sym ph) (Prevs.behind_at L O val W s j (b.memory.item f) q c wsound cW e) in
          let up : Prevs.Over L O val W v (W.memory.link f) =
          subst (λ x. Prevs.Over L O val W v x) (sym ph) (Prevs.beyond_over L O val W s (b.memory.item f) c bW) in
          let above = Prevs.above_post L O val W q (W.memory.link f) v wsound hb up in
          let u : status s W.seen ≡ under (Insert (b.memory.item f)) = ihunt.is ∙ ap (λ x. under (Insert x)) (sym it) in
          let mk : put b.memory.mark f false f ≡ false = put_here b.memory.mark f false in
          let J : Option ℕ → ℕ → Option ℕ = λ x. link_after W.memory q x in
          let G : Option ℕ → Option ℕ = λ x. front_after W.memory q x in
          let N = Line.insert_scene L O val W s f (J (Some f)) (G (Some f)) hb.cut.pre hb.cut.post in
          ending (LinkFresh k f q c) eq (Insert (b.memory.item f)) (yes 0) N ihunt.inside
          (status_decided s (Insert (b.memory.item f)) (yes 0) W.seen u)
          (Line.insert_sound L O val W s f J G hb.cut hb.keep hb.from ihunt.fresh.0 mk above u wsound)
          (λ t ne. calm_trans L (wcalm t ne) (Line.insert_calm L O val W s f J G hb.cut hb.keep hb.from ihunt.fresh.0 mk above u wsound t ne))
          (own_put i.place f s on_list (λ z. omega arith) st.owns)
          (back_trans A W N wback (λ d p y. nback mk d p y (cases_eq d f)))
          (λ c e m z. z)
        where
          nback : put b.memory.mark f false f ≡ false → (d : ℕ) → put i.place f on_list d ≡ on_list → W.memory.mark d ≡ true → (d ≡ f) ⊎ (d ≡ f → ⊥)
              → (i.place d ≡ on_list) × (W.memory.mark d ≡ true) × (key L O val A d ≡ key L O val A d)
          nback mk d p y (inl z) = absurd (true≢false (sym y ∙ (ap (put b.memory.mark f false) z ∙ mk)))
          nback mk d p y (inr ne) = (sym (put_apart i.place f on_list d ne) ∙ p, y, refl)

    pub stepped : (g : Stage) → b.stage s ≡ g → Stands L O val A s g → Inv L O val (settled b s (stepping M (cmp_of O val) b.memory s g))
    stepped Outside eq st = stay Outside eq Outside st (λ v z. z)
    stepped (PushReadHead f) eq st =
        let B = More.write_scene L O val A f b.memory.head in
        land (PushReadHead f) eq B (PushSwapHead f b.memory.head)
        (More.write_sound L O val A s f b.memory.head st.staged.1 headed i.sound)
        (More.write_calm L O val A s f b.memory.head st.staged.1 headed i.sound)
        (record {
          staged = (
            record { inside = st.staged.0.inside; under = st.staged.0.under },
            st.staged.1,
            put_here b.memory.link f b.memory.head,
          );
          owns = st.owns;
        })
        (λ d e m. wrote d e m (cases_eq d f)) (λ c e m z. z)
      where
        headed : (n : ℕ) → b.memory.head ≡ Some n → n < cells
        headed n e = More.head_in L O val A n e i.sound

        wrote : (d : ℕ) → i.place d ≡ on_list → put b.memory.mark f false d ≡ true → (d ≡ f) ⊎ (d ≡ f → ⊥)
            → (i.place d ≡ on_list) × (b.memory.mark d ≡ true) × (key L O val A d ≡ key L O val A d)
        wrote d e m (inl z) = absurd (true≢false (sym m ∙ (ap (put b.memory.mark f false) z ∙ put_here b.memory.mark f false)))
        wrote d e m (inr ne) = (e, sym (put_apart b.memory.mark f false d ne) ∙ m, refl)
    stepped (PushSwapHead f l) eq st = step_push_swap f l eq st (same b.memory.head l) refl
    stepped PopReadHead eq st = step_pop_read eq st b.memory.head refl
    stepped (PopProtectTop c) eq st =
        let in₁ = st.staged.0.inside in
        land (PopProtectTop c) eq (Moves.protect_scene L O val A s 0 c) (PopCheckHead c)
        (Moves.protect_sound L O val A s 0 c i.sound.fit lt in₁ (omega arith) st.staged.1 i.sound)
        (Moves.protect_calm L O val A s 0 c i.sound.fit lt in₁ (omega arith) st.staged.1)
        (record {
          staged = (
            record { inside = Moves.protect_in L O val A s 0 c i.sound.fit lt in₁ (omega arith) st.staged.1; under = st.staged.0.under },
            Moves.protect_names L O val A s 0 c i.sound.fit lt in₁ (omega arith) st.staged.1,
          );
          owns = st.owns;
        })
        (λ c e m. (e, m, refl)) (λ c e m z. z)
    stepped (PopCheckHead c) eq st = step_pop_check c eq st (same b.memory.head (Some c)) refl
    stepped (PopReadTop c) eq st =
        let m = Moves.touch_calm L O val A s c s in
        land (PopReadTop c) eq (Moves.sees L O val A (touches s c)) (PopSwapHead c (b.memory.link c) (b.memory.item c))
        (Moves.touch_sound L O val A s c st.staged.3 i.sound)
        (λ t ne. Moves.touch_calm L O val A s c t)
        (record {
          staged = (busy_calm L m st.staged.0, m.safe 0 c st.staged.1, st.staged.2, refl, refl);
          owns = st.owns;
        })
        (λ c e m. (e, m, refl)) (λ c e m z. z)
    stepped (PopSwapHead c n v) eq st = step_pop_swap c n v eq st (same b.memory.head (Some c)) refl
    stepped (Find g ReadFront) eq st = step_start g eq st b.memory.front refl
    stepped (Find g (ProtectFirst c)) eq st =
        let in₁ = st.staged.0.inside in
        land (Find g (ProtectFirst c)) eq (Moves.protect_scene L O val A s 1 c) (Find g (CheckFront c))
        (Moves.protect_sound L O val A s 1 c i.sound.fit lt in₁ (omega arith) st.staged.1 i.sound)
        (Moves.protect_calm L O val A s 1 c i.sound.fit lt in₁ (omega arith) st.staged.1)
        (record {
          staged = (
            record { inside = Moves.protect_in L O val A s 1 c i.sound.fit lt in₁ (omega arith) st.staged.1; is = st.staged.0.is; fresh = st.staged.0.fresh },
            Moves.protect_names L O val A s 1 c i.sound.fit lt in₁ (omega arith) st.staged.1,
          );
          owns = st.owns;
        })
        (λ c e m. (e, m, refl)) (λ c e m z. z)
    stepped (Find g (CheckFront c)) eq st = step_check g c eq st (points b.memory Front (Some c)) refl
    stepped (Find g (ReadCell q c)) eq st = step_read g q c eq st (b.memory.link c) refl
    stepped (Find g (ProtectNext q c mk n v)) eq st =
        let in₁ = st.staged.0.inside in
        land (Find g (ProtectNext q c mk n v)) eq (Moves.protect_scene L O val A s 0 n) (Find g (CheckPrev q c mk (Some n) v))
        (Moves.protect_sound L O val A s 0 n i.sound.fit lt in₁ (omega arith) st.staged.5 i.sound)
        (Moves.protect_calm L O val A s 0 n i.sound.fit lt in₁ (omega arith) st.staged.5)
        (record {
          staged = (
            record { inside = Moves.protect_in L O val A s 0 n i.sound.fit lt in₁ (omega arith) st.staged.5; is = st.staged.0.is; fresh = st.staged.0.fresh },
            Prevs.protect_clean L O val A s 0 n i.sound.fit lt in₁ (omega arith) st.staged.5 2 (sought g) q (λ z. omega arith) st.staged.1,
            Prevs.protect_cur L O val A s 0 n i.sound.fit lt in₁ (omega arith) st.staged.5 1 c (λ z. omega arith) st.staged.2,
            st.staged.3,
            st.staged.4,
            Moves.protect_names L O val A s 0 n i.sound.fit lt in₁ (omega arith) st.staged.5,
          );
          owns = st.owns;
        })
        (λ c e m. (e, m, refl)) (λ c e m z. z)
    stepped (Find g (CheckPrev q c mk n v)) eq st = step_compare g q c mk n v eq st (points b.memory q (Some c)) refl (weigh (cmp_of O val) v g) refl
    stepped (Find g (ConfirmCell q c n v)) eq st = step_confirm g q c n v eq st (points b.memory (At c) n) refl (weigh (cmp_of O val) v g) refl
    stepped (Find g (ShiftPrev c n)) eq st =
        let in₁ = st.staged.0.inside in
        let lc = Prevs.cur_in L O val A s 1 c i.sound st.staged.1 in
        land (Find g (ShiftPrev c n)) eq (Moves.protect_scene L O val A s 2 c) (Find g (ShiftCur (At c) n))
        (Moves.protect_sound L O val A s 2 c i.sound.fit lt in₁ (omega arith) lc i.sound)
        (Moves.protect_calm L O val A s 2 c i.sound.fit lt in₁ (omega arith) lc)
        (record {
          staged = (
            record { inside = Moves.protect_in L O val A s 2 c i.sound.fit lt in₁ (omega arith) lc; is = st.staged.0.is; fresh = st.staged.0.fresh },
            (Prevs.protect_cur_moved L O val A s 2 c i.sound.fit lt in₁ (omega arith) lc 1 st.staged.1, st.staged.2),
            Prevs.protect_cur L O val A s 2 c i.sound.fit lt in₁ (omega arith) lc 0 n (λ z. omega arith) st.staged.3,
          );
          owns = st.owns;
        })
        (λ c e m. (e, m, refl)) (λ c e m z. z)
    stepped (Find g (ShiftCur q n)) eq st =
        let in₁ = st.staged.0.inside in
        let lc = Prevs.cur_in L O val A s 0 n i.sound st.staged.2 in
        land (Find g (ShiftCur q n)) eq (Moves.protect_scene L O val A s 1 n) (Find g (ReadCell q n))
        (Moves.protect_sound L O val A s 1 n i.sound.fit lt in₁ (omega arith) lc i.sound)
        (Moves.protect_calm L O val A s 1 n i.sound.fit lt in₁ (omega arith) lc)
        (record {
          staged = (
            record { inside = Moves.protect_in L O val A s 1 n i.sound.fit lt in₁ (omega arith) lc; is = st.staged.0.is; fresh = st.staged.0.fresh },
            Prevs.protect_clean L O val A s 1 n i.sound.fit lt in₁ (omega arith) lc 2 (sought g) q (λ z. omega arith) st.staged.1,
            Prevs.protect_cur_moved L O val A s 1 n i.sound.fit lt in₁ (omega arith) lc 0 st.staged.2,
          );
          owns = st.owns;
        })
        (λ c e m. (e, m, refl)) (λ c e m z. z)
    stepped (Find g (Unlink q c n)) eq st = step_unlink g q c n eq st (points b.memory q (Some c)) refl
    stepped (LinkFresh k f q c) eq st = step_link k f q c st eq (points (written M b.memory f c) q c) refl
    stepped (MarkCell k q c n) eq st = step_mark k q c n eq st (points b.memory (At c) n) refl
    stepped (RemoveCell k q c n) eq st = step_remove k q c n eq st (points b.memory q (Some c)) refl
