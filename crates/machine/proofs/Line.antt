-- The moves of the list: insert behind prev, mark, and unlink behind prev.
use Rattle.std.proofs.Common.{◌≡◌, ℕ, ◌<◌, true, false, ◌⊎◌, List, [], ◌∷◌, ◌++◌, length, Some, None, Option, sym, refl, ap, ◌∙◌, subst, inl, inr, arith}
use Rattle.std.proofs.lemmas.Bool.{cases_eq}
use Rattle.reclaim.specs.Model.{Model, after_retire}
use Rattle.machine.proofs.Rules.{Rules, Retired}
use Rattle.machine.proofs.Rules.{Order}
use Rattle.machine.specs.Serial.{member, added, removed}
use Rattle.machine.specs.Machine.{put, decides, Memory, with_reclaimer, marked}
use Rattle.machine.proofs.Trace.{under, status, Cleared, Orderly, deeds, played, Truthful}
use Rattle.machine.specs.Serial.{pushed, inserted, deleted, serve}
use Rattle.machine.proofs.Scene.{Place, held_now, fresh_of, on_list, kind, In, Chain, Seg, is_link, live, Above, Sorted, Scene, OnStack, OnList, means, Safe, Calm, key, Sound}
use Rattle.machine.proofs.Frames.{put_here, put_apart, status_decides, chain_frame, total_put}
use Rattle.machine.proofs.Lists
use Rattle.machine.proofs.Moves
use Rattle.machine.proofs.Moves.{quiet, safe_on, put_kind, put_kind_back, bound_put, within_put, deeds_decides, Turn, turn_calm, safe_kind, calm_quiet, sound_quiet, in_line, off_line, in_bounds}
use Rattle.machine.proofs.More.{free_put}
use Rattle.machine.specs.declared.word.Op.TheVariants.{Insert, Delete}
use Rattle.machine.specs.Answers.{yes}

module _ {State : Type 0} {M : Model State} {sessions cells : ℕ} (L : Rules M sessions cells) {V : Type 0} (O : Order V) (val : ℕ → V) where
  abbrev pub relink : Memory State → (ℕ → Option ℕ) → Option ℕ → Memory State
  relink h k f = record { reclaimer = h.reclaimer; head = h.head; front = f; free = h.free; link = k; mark = h.mark; item = h.item }

  -- where prev's link goes changes no cell outside the list and no marked one
  abbrev pub Keeps : Scene State → (Option ℕ → ℕ → Option ℕ) → Type 0
  Keeps A j = (x : Option ℕ) (d : ℕ) → (kind (A.place d) ≡ 5 → ⊥) ⊎ (A.memory.mark d ≡ true) → j x d ≡ A.memory.link d

  abbrev pub From : Scene State → (Option ℕ → ℕ → Option ℕ) → Type 0
  From A j = (x : Option ℕ) (d n : ℕ) → j x d ≡ Some n → (A.memory.link d ≡ Some n) ⊎ (x ≡ Some n)

  abbrev pub CutOf : Scene State → Option ℕ → (Option ℕ → ℕ → Option ℕ) → (Option ℕ → Option ℕ) → V → Type 0
  CutOf A m j g v = Lists.Cut O (key L O val A) A.place A.memory.link A.memory.front A.line m j g v

  -- chain under a change of places and links off the stack
  chain_move : (A : Scene State) (a : Sound L O val A) (f : ℕ) (v : Place) (k : ℕ → Option ℕ) → (kind (A.place f) ≡ 3 → ⊥)
      → ((d : ℕ) → (kind (A.place d) ≡ 5 → ⊥) → k d ≡ A.memory.link d)
      → Chain (put A.place f v) k A.memory.head A.chain
  chain_move A a f v k ne keep =
      chain_frame A.place (put A.place f v) A.memory.link k A.memory.head A.chain
      (λ c n q h. put_kind A.place f v c q ne)
      (λ c n q h. keep c (λ z. let w = ap kind q in omega arith))
      a.chain

  -- insert f behind prev
  abbrev pub insert_scene : Scene State → ℕ → ℕ → (ℕ → Option ℕ) → Option ℕ → List ℕ → List ℕ → Scene State
  insert_scene A s f k h pre post =
      record {
        memory = relink A.memory k h;
        place = put A.place f on_list;
        chain = A.chain;
        line = pre ++ f ∷ post;
        seen = decides s (yes 0) ∷ A.seen;
      }

  module _ (A : Scene State) (s f : ℕ) (j : Option ℕ → ℕ → Option ℕ) (g : Option ℕ → Option ℕ)
      (cut : CutOf A (A.memory.link f) j g (key L O val A f)) (keep : Keeps A j) (from : From A j)
      (e : A.place f ≡ fresh_of s) (mk : A.memory.mark f ≡ false)
      (above : Above O (key L O val A) (key L O val A f) cut.post)
      (st : status s A.seen ≡ under (Insert (A.memory.item f))) (a : Sound L O val A) where
    abbrev new : Scene State
    new = insert_scene A s f (j (Some f)) (g (Some f)) cut.pre cut.post

    not : (n : ℕ) → (n ≡ 4 → ⊥) → kind (A.place f) ≡ n → ⊥
    not n ne q = let k = ap kind e in ne (sym q ∙ k)

    new_in : f < cells
    new_in = in_bounds L O val A a f (not 0 (λ z. omega arith))

    sorted₀ : Sorted O (key L O val A) (cut.pre ++ cut.post)
    sorted₀ = subst (Sorted O (key L O val A)) cut.whole a.sorted

    absent : member O.cmp (key L O val A f) (played O.cmp val (deeds A.seen)).set ≡ false
    absent =
        ap (member O.cmp (key L O val A f)) (sym a.set)
        ∙ Lists.member_none O (key L O val A) A.memory.mark (key L O val A f) A.line
        (λ x i q. go x q (Lists.in_append x cut.pre cut.post (subst (In x) cut.whole i)))
      where
        go : (x : ℕ) → key L O val A x ≡ key L O val A f → In x cut.pre ⊎ In x cut.post → ⊥
        go x q (inl i) = Lists.less_irrefl O (key L O val A x) (key L O val A f) q (cut.low x i)
        go x q (inr i) = Lists.less_irrefl O (key L O val A f) (key L O val A x) (sym q) (above x i)

    ins_deeds : deeds (decides s (yes 0) ∷ A.seen) ≡ (Insert (A.memory.item f), yes 0) ∷ deeds A.seen
    ins_deeds = deeds_decides s (Insert (A.memory.item f)) (yes 0) A.seen st

    ins_served : serve O.cmp val (Insert (A.memory.item f)) (played O.cmp val (deeds A.seen))
        ≡ (pushed (added O.cmp (key L O val A f) (played O.cmp val (deeds A.seen)).set) (played O.cmp val (deeds A.seen)).stack, yes 0)
    ins_served = ap (inserted O.cmp val (played O.cmp val (deeds A.seen)) (key L O val A f)) absent

    ins_played : played O.cmp val (deeds (decides s (yes 0) ∷ A.seen))
        ≡ pushed (added O.cmp (key L O val A f) (played O.cmp val (deeds A.seen)).set) (played O.cmp val (deeds A.seen)).stack
    unfolding played
    ins_played = ap (played O.cmp val) ins_deeds ∙ ap (λ x. x.0) ins_served

    pub insert_sound : Sound L O val new
    unfolding Seg Orderly Truthful
    insert_sound =
        record {
          fit = a.fit;
          free = free_put L O val A a f on_list (not 1 (λ z. omega arith));
          free_back = λ c k q. a.free_back c k (put_kind_back A.place f on_list c q (λ z. omega arith));
          held_on = λ c h. put_kind A.place f on_list c (a.held_on c h) (not 2 (λ z. omega arith));
          held_back = λ c h. a.held_back c (put_kind_back A.place f on_list c h (λ z. omega arith));
          chain = chain_move A a f on_list (j (Some f)) (not 3 (λ z. omega arith)) (λ d ne. keep (Some f) d (inl ne));
          line =
              Lists.seg_join (put A.place f on_list) (j (Some f)) (g (Some f)) cut.pre (Some f) (f ∷ cut.post) None
              (Lists.seg_frame A.place (put A.place f on_list) (j (Some f)) (j (Some f)) (g (Some f)) cut.pre (Some f)
              (λ c i q. put_kind A.place f on_list c q (not 5 (λ z. omega arith))) (λ c i q. refl) (cut.turned (Some f))) (
                refl,
                put_here A.place f on_list,
                rw (keep (Some f) f (inl (not 5 (λ z. omega arith))))
                    (Lists.seg_frame A.place (put A.place f on_list) A.memory.link (j (Some f)) (A.memory.link f) cut.post None
                    (λ c i q. put_kind A.place f on_list c q (not 5 (λ z. omega arith))) (λ c i q. cut.kept (Some f) c i) cut.after),
              );
          line_back = λ d q. back d q (cases_eq d f);
          linked = λ d n q. into d n q (from (Some f) d n q);
          sorted = Lists.sorted_mid O (key L O val A) f cut.pre cut.post sorted₀ cut.low above;
          stack = a.stack ∙ sym (ap (λ z. z.stack) ins_played);
          set =
              Lists.live_mid O (key L O val A) A.memory.mark f cut.pre cut.post mk cut.low above
              ∙ (ap (λ l. added O.cmp (key L O val A f) (live A.memory.mark (key L O val A) l)) (sym cut.whole)
              ∙ (ap (added O.cmp (key L O val A f)) a.set ∙ sym (ap (λ z. z.set) ins_played)));
          bound = bound_put cells A.place f on_list new_in a.bound;
          within = within_put cells A.place f on_list (λ z. let k = ap kind z in omega arith) a.within;
          count =
              let t = total_put A.place f on_list cells new_in in
              let u : is_link (A.place f) ≡ 0 = ap is_link e in
              let c = a.count in
              let l = Lists.length_mid f cut.pre cut.post in
              let w : length A.line ≡ length (cut.pre ++ cut.post) = ap length cut.whole in
              omega arith;
          orderly = ((Insert (A.memory.item f), st), a.orderly);
          truthful = subst (Truthful O.cmp val) (sym ins_deeds) (sym (ap (λ x. x.1) ins_served), a.truthful);
        }
      where
        into : (d n : ℕ) → j (Some f) d ≡ Some n → (A.memory.link d ≡ Some n) ⊎ (Some f ≡ Some n) → n < cells
        into d n q (inl z) = a.linked d n z
        into d n q (inr z) = let w : f ≡ n = cc in subst (λ x. x < cells) w new_in

        back : (d : ℕ) → put A.place f on_list d ≡ on_list → (d ≡ f) ⊎ (d ≡ f → ⊥) → In d (cut.pre ++ f ∷ cut.post)
        back d q (inl z) = Lists.in_right d cut.pre (f ∷ cut.post) (inl z)
        back d q (inr ne) =
            Lists.in_mid d f cut.pre cut.post
            (subst (In d) cut.whole (a.line_back d (sym (put_apart A.place f on_list d ne) ∙ q)))

    pub insert_calm : (t : ℕ) → (t ≡ s → ⊥) → Calm L t A new
    unfolding Cleared
    insert_calm t ne =
        turn_calm L t A new f
        (record {
          in_on = λ h. h;
          in_back = λ h. h;
          status = status_decides s t (yes 0) A.seen ne;
          elsewhere = λ d n. put_apart A.place f on_list d n;
          mine = λ h. let k : fresh_of s ≡ fresh_of t = sym e ∙ h in let k' : t ≡ s = cc in ne k';
          made = λ h. let k = ap kind (sym (put_here A.place f on_list) ∙ h) in omega arith;
          still = λ d n z. (keep (Some f) d (inl z), refl, refl);
          listed = λ d n z. (refl, λ m. (m, keep (Some f) d (inr m)));
          names = λ i d h. h;
          keeps = λ i d n h. h;
          here = λ i h. absurd (never (safe_kind L A t i f h));
          cleared = λ i d h k. k;
        })
      where
        never : (kind (A.place f) ≡ 3) ⊎ ((kind (A.place f) ≡ 5) ⊎ (kind (A.place f) ≡ 2)) → ⊥
        never h = let k = ap kind e in omega arith

  -- mark c, and the delete is decided
  abbrev pub mark_scene : Scene State → ℕ → ℕ → Scene State
  mark_scene A s c =
      record {
        memory = marked M A.memory c;
        place = A.place;
        chain = A.chain;
        line = A.line;
        seen = decides s (yes 0) ∷ A.seen;
      }

  module _ (A : Scene State) (s c p : ℕ) (e : A.place c ≡ on_list) (mk : A.memory.mark c ≡ false) (eq : key L O val A c ≡ val p)
      (st : status s A.seen ≡ under (Delete p)) (a : Sound L O val A) where
    mark_deeds : deeds (decides s (yes 0) ∷ A.seen) ≡ (Delete p, yes 0) ∷ deeds A.seen
    mark_deeds = deeds_decides s (Delete p) (yes 0) A.seen st

    there : member O.cmp (val p) (played O.cmp val (deeds A.seen)).set ≡ true
    there =
        ap (member O.cmp (val p)) (sym a.set)
        ∙ (ap (λ k. member O.cmp k (live A.memory.mark (key L O val A) A.line)) (sym eq)
        ∙ Lists.member_there O (key L O val A) A.memory.mark c A.line a.sorted (a.line_back c e) mk)

    mark_served : serve O.cmp val (Delete p) (played O.cmp val (deeds A.seen))
        ≡ (pushed (removed O.cmp (val p) (played O.cmp val (deeds A.seen)).set) (played O.cmp val (deeds A.seen)).stack, yes 0)
    mark_served = ap (deleted O.cmp val (played O.cmp val (deeds A.seen)) (val p)) there

    mark_played : played O.cmp val (deeds (decides s (yes 0) ∷ A.seen))
        ≡ pushed (removed O.cmp (val p) (played O.cmp val (deeds A.seen)).set) (played O.cmp val (deeds A.seen)).stack
    unfolding played
    mark_played = ap (played O.cmp val) mark_deeds ∙ ap (λ x. x.0) mark_served

    pub mark_sound : Sound L O val (mark_scene A s c)
    unfolding Orderly Truthful
    mark_sound =
        record {
          fit = a.fit;
          free = a.free;
          free_back = a.free_back;
          held_on = a.held_on;
          held_back = a.held_back;
          chain = a.chain;
          line = a.line;
          line_back = a.line_back;
          linked = a.linked;
          sorted = a.sorted;
          stack = a.stack ∙ sym (ap (λ z. z.stack) mark_played);
          set =
              Lists.live_marked O (key L O val A) A.memory.mark c A.line a.sorted (a.line_back c e) mk
              ∙ (ap (λ k. removed O.cmp k (live A.memory.mark (key L O val A) A.line)) eq
              ∙ (ap (removed O.cmp (val p)) a.set ∙ sym (ap (λ z. z.set) mark_played)));
          bound = a.bound;
          within = a.within;
          count = a.count;
          orderly = ((Delete p, st), a.orderly);
          truthful = subst (Truthful O.cmp val) (sym mark_deeds) (sym (ap (λ x. x.1) mark_served), a.truthful);
        }

    -- to s too, but for its status
    pub mark_stays : (t i : ℕ) → Safe L A t i c → Moves.Stays L t i A (mark_scene A s c) c
    mark_stays t i h = (
      safe_on L A (mark_scene A s c) t i c (λ n. n) (λ k. k) refl h,
      refl,
      λ o. (o, refl),
      list,
      λ o m. (put_here A.memory.mark c true, refl),
    )
      where
        list : OnList A c → OnList (mark_scene A s c) c
        list (inl q) = inl q
        list (inr q) = inr (q.0, put_here A.memory.mark c true)

    pub mark_calm : (t : ℕ) → (t ≡ s → ⊥) → Calm L t A (mark_scene A s c)
    unfolding Cleared
    mark_calm t ne =
        turn_calm L t A (mark_scene A s c) c
        (record {
          in_on = λ h. h;
          in_back = λ h. h;
          status = status_decides s t (yes 0) A.seen ne;
          elsewhere = λ d n. refl;
          mine = λ h. let k = ap kind (sym e ∙ h) in omega arith;
          made = λ h. let k = ap kind (sym e ∙ h) in omega arith;
          still = λ d n z. (refl, refl, put_apart A.memory.mark c true d n);
          listed = λ d n z. (refl, λ m. (put_apart A.memory.mark c true d n ∙ m, refl));
          names = λ i d h. h;
          keeps = λ i d n h. h;
          here = λ i h. mark_stays t i h;
          cleared = λ i d h k. k;
        })

  -- unlink the marked cell c behind prev
  abbrev pub drop_scene : Scene State → ℕ → (ℕ → Option ℕ) → Option ℕ → List ℕ → List ℕ → Scene State
  drop_scene A c k h pre rest =
      record {
        memory = with_reclaimer M (relink A.memory k h) (after_retire M A.memory.reclaimer c);
        place = put A.place c held_now;
        chain = A.chain;
        line = pre ++ rest;
        seen = A.seen;
      }

  module _ (A : Scene State) (c : ℕ) (j : Option ℕ → ℕ → Option ℕ) (g : Option ℕ → Option ℕ) (v : V)
      (cut : CutOf A (Some c) j g v) (keep : Keeps A j) (from : From A j) (mk : A.memory.mark c ≡ true) (a : Sound L O val A) where
    tail : (r : List ℕ) × (cut.post ≡ c ∷ r) × Seg A.place A.memory.link (A.memory.link c) r None
    tail = Lists.seg_some A.place A.memory.link c cut.post cut.after

    pub rest : List ℕ
    rest = tail.0

    abbrev gone : Scene State
    gone = drop_scene A c (j (A.memory.link c)) (g (A.memory.link c)) cut.pre rest

    whole : A.line ≡ cut.pre ++ c ∷ rest
    unfolding rest
    whole = cut.whole ∙ ap (λ x. cut.pre ++ x) tail.1

    pub drop_place : A.place c ≡ on_list
    drop_place = in_line L O val A a c (subst (In c) (sym whole) (Lists.in_right c cut.pre (c ∷ rest) (inl refl)))

    was_not : (n : ℕ) → (n ≡ 5 → ⊥) → kind (A.place c) ≡ n → ⊥
    was_not n ne q = let k = ap kind drop_place in ne (sym q ∙ k)

    sorted₁ : Sorted O (key L O val A) (cut.pre ++ c ∷ rest)
    sorted₁ = subst (Sorted O (key L O val A)) whole a.sorted

    away_pre : (x : ℕ) → In x cut.pre → x ≡ c → ⊥
    away_pre x i q =
        Lists.less_irrefl O (key L O val A x) (key L O val A c) (ap (key L O val A) q)
        (Lists.sorted_cross O (key L O val A) cut.pre (c ∷ rest) sorted₁ x c i (inl refl))

    away_rest : (x : ℕ) → In x rest → x ≡ c → ⊥
    unfolding Sorted
    away_rest x i q =
        Lists.less_irrefl O (key L O val A c) (key L O val A x) (ap (key L O val A) (sym q))
        ((Lists.sorted_right O (key L O val A) cut.pre (c ∷ rest) sorted₁).0 x i)

    pub drop_end : A.memory.link c ≡ None → rest ≡ []
    unfolding rest
    drop_end e = Lists.seg_none A.place A.memory.link tail.0 (subst (λ x. Seg A.place A.memory.link x tail.0 None) e tail.2)

    pub drop_next : (x : ℕ) → A.memory.link c ≡ Some x → put A.place c held_now x ≡ on_list
    unfolding rest
    drop_next x e =
        let j : In x tail.0 = Lists.seg_first A.place A.memory.link (A.memory.link c) tail.0 x tail.2 e in
        put_apart A.place c held_now x (away_rest x j)
        ∙ Lists.seg_in A.place A.memory.link (A.memory.link c) tail.0 None tail.2 x j

    drop_in : c < cells
    drop_in = in_bounds L O val A a c (was_not 0 (λ z. omega arith))

    unheld₁ : (means L A).held c → ⊥
    unheld₁ h = was_not 2 (λ z. omega arith) (ap kind (a.held_on c h))

    law₁ : Retired c (means L A) (means L gone)
    law₁ = L.retiring A.memory.reclaimer c a.fit drop_in unheld₁

    pub drop_sound : Sound L O val gone
    unfolding rest
    drop_sound =
        let n = A.memory.link c in
        record {
          fit = L.fits_retires A.memory.reclaimer c a.fit;
          free = free_put L O val A a c held_now (was_not 1 (λ z. omega arith));
          free_back = λ d k q. a.free_back d k (put_kind_back A.place c held_now d q (λ z. omega arith));
          held_on = λ d h. on d h (cases_eq d c);
          held_back = λ d h. back d h (cases_eq d c);
          chain = chain_move A a c held_now (j n) (was_not 3 (λ z. omega arith)) (λ d ne. keep n d (inl ne));
          line =
              Lists.seg_join (put A.place c held_now) (j n) (g n) cut.pre n rest None
              (Lists.seg_frame A.place (put A.place c held_now) (j n) (j n) (g n) cut.pre n
              (λ d i q. put_apart A.place c held_now d (away_pre d i) ∙ q) (λ d i q. refl) (cut.turned n))
              (Lists.seg_frame A.place (put A.place c held_now) A.memory.link (j n) n rest None
              (λ d i q. put_apart A.place c held_now d (away_rest d i) ∙ q)
              (λ d i q. cut.kept n d (subst (In d) (sym tail.1) (inr i)))
              tail.2);
          line_back =
              λ d q. left d q (Lists.in_unmid d c cut.pre rest (subst (In d) whole (a.line_back d (put_kind_back A.place c held_now d q (λ z. omega arith)))));
          linked = λ d k q. into d k q (from n d k q);
          sorted = Lists.sorted_drop O (key L O val A) c cut.pre rest sorted₁;
          stack = a.stack;
          set =
              sym (Lists.live_drop O (key L O val A) A.memory.mark c cut.pre rest mk)
              ∙ (ap (live A.memory.mark (key L O val A)) (sym whole) ∙ a.set);
          bound = bound_put cells A.place c held_now drop_in a.bound;
          within = within_put cells A.place c held_now (λ z. let k = ap kind z in omega arith) a.within;
          count =
              let t = total_put A.place c held_now cells drop_in in
              let u : is_link (A.place c) ≡ 1 = ap is_link drop_place in
              let k = a.count in
              let l = Lists.length_mid c cut.pre rest in
              let w : length A.line ≡ length (cut.pre ++ c ∷ rest) = ap length whole in
              omega arith;
          orderly = a.orderly;
          truthful = a.truthful;
        }
      where
        into : (d k : ℕ) → j (A.memory.link c) d ≡ Some k → (A.memory.link d ≡ Some k) ⊎ (A.memory.link c ≡ Some k) → k < cells
        into d k q (inl z) = a.linked d k z
        into d k q (inr z) = a.linked c k z

        on : (d : ℕ) → (means L gone).held d → (d ≡ c) ⊎ (d ≡ c → ⊥) → put A.place c held_now d ≡ held_now
        on d h (inl e) = ap (put A.place c held_now) e ∙ put_here A.place c held_now
        on d h (inr ne) = put_apart A.place c held_now d ne ∙ a.held_on d (law₁.back d h ne)

        back : (d : ℕ) → put A.place c held_now d ≡ held_now → (d ≡ c) ⊎ (d ≡ c → ⊥) → (means L gone).held d
        back d h (inl e) = subst (λ x. (means L gone).held x) (sym e) law₁.self
        back d h (inr ne) = law₁.on d (a.held_back d (sym (put_apart A.place c held_now d ne) ∙ h))

        left : (d : ℕ) → put A.place c held_now d ≡ on_list → (d ≡ c) ⊎ In d (cut.pre ++ rest) → In d (cut.pre ++ rest)
        left d q (inl z) =
            let k = ap kind (sym (put_here A.place c held_now) ∙ (ap (put A.place c held_now) (sym z) ∙ q)) in
            absurd (omega arith)
        left d q (inr i) = i

    pub drop_calm : (t : ℕ) → Calm L t A gone
    unfolding Cleared
    drop_calm t =
        let n = A.memory.link c in
        turn_calm L t A gone c
        (record {
          in_on = law₁.inside.on t;
          in_back = law₁.inside.back t;
          status = refl;
          elsewhere = λ d ne. put_apart A.place c held_now d ne;
          mine = λ h. let k = ap kind (sym drop_place ∙ h) in omega arith;
          made = λ h. let k = ap kind (sym (put_here A.place c held_now) ∙ h) in omega arith;
          still = λ d ne z. (keep n d (inl z), refl, refl);
          listed = λ d ne z. (refl, λ m. (m, keep n d (inr m)));
          names = law₁.slots.names t;
          keeps = λ i d ne h. law₁.slots.keeps t i d h;
          here =
              λ i h. (
                record {
                  named = law₁.slots.names t i c h.named;
                  there = inr (inr (put_here A.place c held_now, law₁.kept t i h.named));
                },
                refl,
                λ o. absurd (no_stack o),
                λ o. inr (put_here A.place c held_now, mk),
                λ o m. (m, keep n c (inr mk)),
              );
          cleared = λ i d h k. k;
        })
      where
        no_stack : OnStack A c → ⊥
        no_stack (inl p) = was_not 3 (λ z. omega arith) (ap kind p.1)
        no_stack (inr p) = was_not 2 (λ z. omega arith) (ap kind p)
