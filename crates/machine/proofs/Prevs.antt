-- What a session knows of its own cells: the list cut behind prev, and its slots over its own moves.
use Rattle.std.proofs.Common.{◌≡◌, ℕ, ◌<◌, Bool, true, false, ◌⊎◌, ◌++◌, Some, None, Option, sym, refl, ap, ◌∙◌, subst, inl, inr, arith}
use Rattle.std.proofs.lemmas.Bool.{cases_eq, true≢false}
use Rattle.reclaim.specs.Model.{Model}
use Rattle.machine.proofs.Rules.{Rules}
use Rattle.machine.proofs.Rules.{Order}
use Rattle.machine.specs.Machine.{put, is, points, link_of, mark_of, front_after, link_after, touch_prev}
use Rattle.machine.proofs.Trace.{under, status, Cleared}
use Rattle.machine.proofs.Scene.{fresh_of, on_list, kind, In, Below, Above, Sorted, Scene, OnList, means, Calm, Cur, key, Sound, Clean, Beyond, calm_refl}
use Rattle.machine.proofs.Frames.{put_here, put_apart, same_eq}
use Rattle.machine.proofs.Lists
use Rattle.machine.proofs.Moves
use Rattle.machine.proofs.More
use Rattle.machine.proofs.Line
use Rattle.machine.specs.declared.cell.Prev.{Prev}
use Rattle.machine.specs.declared.cell.Prev.TheVariants.{Front, At}
use Rattle.machine.specs.declared.word.Op.TheVariants.{Delete}

pub is_true : (m : Bool) (l c : Option ℕ) → is m l c ≡ true → (m ≡ false) × (l ≡ c)
is_true true l c e = absurd (true≢false (sym e))
is_true false l c e = (refl, same_eq l c e)

module _ {State : Type 0} {M : Model State} {sessions cells : ℕ} (L : Rules M sessions cells) {V : Type 0} (O : Order V) (val : ℕ → V) where
  -- an unmarked cell that was of the list is in it
  pub in_list : (A : Scene State) (c : ℕ) → OnList A c → A.memory.mark c ≡ false → A.place c ≡ on_list
  in_list A c (inl p) m = p
  in_list A c (inr p) m = absurd (true≢false (sym p.1 ∙ m))

  pub record Behind (A : Scene State) (q : Prev) (m : Option ℕ) (v : V) : Type 0 where
    pub cut : Line.CutOf L O val A m (λ x. link_after A.memory q x) (λ x. front_after A.memory q x) v
    pub keep : Line.Keeps L O val A (λ x. link_after A.memory q x)
    pub from : Line.From L O val A (λ x. link_after A.memory q x)

  pub behind : (A : Scene State) (s i k : ℕ) (q : Prev) → Sound L O val A → Clean L O val A s i k q → mark_of A.memory q ≡ false
      → Behind A q (link_of A.memory q) (val k)
  behind A s i k Front a h e =
      record {
        cut = Lists.cut_front O (key L O val A) A.place A.memory.link A.memory.front A.line (val k) a.line;
        keep = λ x d z. refl;
        from = λ x d n z. inl z;
      }
  behind A s i k (At p) a h e =
      let w : A.place p ≡ on_list = in_list A p h.0.list e in
      record {
        cut =
            Lists.cut_cell O (key L O val A) A.place A.memory.link A.memory.front A.line p (val k) a.line a.sorted (a.line_back p w) h.1;
        keep = λ x d z. put_apart A.memory.link p x d (λ q. off d w q z);
        from = λ x d n z. from x d n z (cases_eq d p);
      }
    where
      from : (x : Option ℕ) (d n : ℕ) → put A.memory.link p x d ≡ Some n → (d ≡ p) ⊎ (d ≡ p → ⊥) → (A.memory.link d ≡ Some n) ⊎ (x ≡ Some n)
      from x d n z (inl y) = inr (sym (put_here A.memory.link p x) ∙ (ap (put A.memory.link p x) (sym y) ∙ z))
      from x d n z (inr ne) = inl (sym (put_apart A.memory.link p x d ne) ∙ z)

      off : (d : ℕ) → A.place p ≡ on_list → d ≡ p → (kind (A.place d) ≡ 5 → ⊥) ⊎ (A.memory.mark d ≡ true) → ⊥
      off d w q (inl n) = n (ap (λ x. kind (A.place x)) q ∙ ap kind w)
      off d w q (inr m) = true≢false (sym m ∙ (ap A.memory.mark q ∙ e))

  pub behind_at : (A : Scene State) (s i k : ℕ) (q : Prev) (c : Option ℕ) → Sound L O val A → Clean L O val A s i k q → points A.memory q c ≡ true
      → Behind A q c (val k)
  behind_at A s i k q c a h e =
      let w = is_true (mark_of A.memory q) (link_of A.memory q) c e in
      subst (λ m. Behind A q m (val k)) w.1 (behind A s i k q a h w.0)

  -- nothing behind prev is sought
  pub no_key : (A : Scene State) (q : Prev) (m : Option ℕ) (k : ℕ) (h : Behind A q m (val k)) → Above O (key L O val A) (val k) h.cut.post
      → (x : ℕ) → In x A.line → key L O val A x ≡ val k → ⊥
  no_key A q m k h up x i e = go (Lists.in_append x h.cut.pre h.cut.post (subst (In x) h.cut.whole i))
    where
      go : In x h.cut.pre ⊎ In x h.cut.post → ⊥
      go (inl j) = Lists.less_irrefl O (key L O val A x) (val k) e (h.cut.low x j)
      go (inr j) = Lists.less_irrefl O (val k) (key L O val A x) (sym e) (up x j)

  abbrev pub Over : Scene State → V → Option ℕ → Type 0
  Over A v None = Unit {0}
  Over A v (Some c) = Below O v (key L O val A c)

  pub above_post : (A : Scene State) (q : Prev) (m : Option ℕ) (v : V) → Sound L O val A → (h : Behind A q m v) → Over A v m
      → Above O (key L O val A) v h.cut.post
  above_post A q None v a h up =
      let e = Lists.seg_none A.place A.memory.link h.cut.post h.cut.after in
      subst (λ l. Above O (key L O val A) v l) (sym e) (λ d i. absurd i)
  above_post A q (Some c) v a h up =
      let r = Lists.seg_some A.place A.memory.link c h.cut.post h.cut.after in
      let s₀ : Sorted O (key L O val A) h.cut.post =
      Lists.sorted_right O (key L O val A) h.cut.pre h.cut.post (subst (Sorted O (key L O val A)) h.cut.whole a.sorted) in
      subst (λ l. Above O (key L O val A) v l) (sym r.1)
      (Lists.sorted_first O (key L O val A) c r.0 v (subst (Sorted O (key L O val A)) r.1 s₀) up)

  pub beyond_over : (A : Scene State) (s k : ℕ) (c : Option ℕ) → Beyond L O val A s k c → Over A (val k) c
  beyond_over A s k None h = tt
  beyond_over A s k (Some c) h = h.1

  -- prev is touched if it is a cell
  abbrev pub touched : Scene State → ℕ → Prev → Scene State
  touched A s q = Moves.quiet L A A.memory.reclaimer (touch_prev s q ++ A.seen)

  pub touched_sound : (A : Scene State) (s i k : ℕ) (q : Prev) → Clean L O val A s i k q → Sound L O val A → Sound L O val (touched A s q)
  touched_sound A s i k Front h a = a
  touched_sound A s i k (At p) h a = Moves.touch_sound L O val A s p h.0.cleared a

  pub touched_calm : (A : Scene State) (s : ℕ) (q : Prev) (t : ℕ) → Calm L t A (touched A s q)
  touched_calm A s Front t = calm_refl L t A
  touched_calm A s (At p) t = Moves.touch_calm L O val A s p t

  pub cur_in : (A : Scene State) (s i c : ℕ) → Sound L O val A → Cur L A s i c → c < cells
  cur_in A s i c a h = Moves.in_bounds L O val A a c (λ z. go z (Moves.safe_kind L A s i c h.safe))
    where
      go : kind (A.place c) ≡ 0 → (kind (A.place c) ≡ 3) ⊎ ((kind (A.place c) ≡ 5) ⊎ (kind (A.place c) ≡ 2)) → ⊥
      go z h = omega arith

  -- over a protect of its own
  module _ (A : Scene State) (s i c : ℕ) (fx : L.fit A.memory.reclaimer) (lt : s < sessions) (in₁ : (means L A).inside s) (i3 : i < 3) (lc : c < cells) where
    pub protect_cur : (j d : ℕ) → (j ≡ i → ⊥) → Cur L A s j d → Cur L (Moves.protect_scene L O val A s i c) s j d
    protect_cur j d ne h =
        record { safe = Moves.protect_other L O val A s i c fx lt in₁ i3 lc j d ne h.safe; list = h.list; cleared = h.cleared }

    pub protect_cur_moved : (j : ℕ) → Cur L A s j c → Cur L (Moves.protect_scene L O val A s i c) s i c
    protect_cur_moved j h =
        record { safe = Moves.protect_moved L O val A s i c fx lt in₁ i3 lc j h.safe; list = h.list; cleared = h.cleared }

    pub protect_clean : (j k : ℕ) (q : Prev) → (j ≡ i → ⊥) → Clean L O val A s j k q → Clean L O val (Moves.protect_scene L O val A s i c) s j k q
    protect_clean j k Front ne h = tt
    protect_clean j k (At p) ne h = (protect_cur j p ne h.0, h.1)

  -- over a write of its own fresh cell
  module _ (A : Scene State) (s f : ℕ) (l : Option ℕ) (e : A.place f ≡ fresh_of s) where
    write_off : (i d : ℕ) → Cur L A s i d → d ≡ f → ⊥
    write_off i d h q = go (Moves.safe_kind L A s i d h.safe)
      where
        go : (kind (A.place d) ≡ 3) ⊎ ((kind (A.place d) ≡ 5) ⊎ (kind (A.place d) ≡ 2)) → ⊥
        go z = let k = ap kind (ap A.place q ∙ e) in omega arith

    pub write_cur : (i d : ℕ) → Cur L A s i d → Cur L (More.write_scene L O val A f l) s i d
    write_cur i d h =
        record {
          safe = Moves.safe_on L A (More.write_scene L O val A f l) s i d (λ x. x) (λ x. x) refl h.safe;
          list = list h.list;
          cleared = h.cleared;
        }
      where
        list : OnList A d → OnList (More.write_scene L O val A f l) d
        list (inl p) = inl p
        list (inr p) = inr (p.0, put_apart A.memory.mark f false d (write_off i d h) ∙ p.1)

    pub write_clean : (i k : ℕ) (q : Prev) → Clean L O val A s i k q → Clean L O val (More.write_scene L O val A f l) s i k q
    write_clean i k Front h = tt
    write_clean i k (At p) h = (write_cur i p h.0, h.1)

    pub write_beyond : (k : ℕ) (c : Option ℕ) → Beyond L O val A s k c → Beyond L O val (More.write_scene L O val A f l) s k c
    write_beyond k None h = tt
    write_beyond k (Some c) h = (write_cur 1 c h.0, h.1)

  -- over its own mark
  module _ (A : Scene State) (s c p : ℕ) (e : A.place c ≡ on_list) (mk : A.memory.mark c ≡ false) (eq : key L O val A c ≡ val p)
      (st : status s A.seen ≡ under (Delete p)) (a : Sound L O val A) where
    pub mark_cur : (i d : ℕ) → Cur L A s i d → Cur L (Line.mark_scene L O val A s c) s i d
    unfolding Cleared
    mark_cur i d h =
        record {
          safe = Moves.safe_on L A (Line.mark_scene L O val A s c) s i d (λ x. x) (λ x. x) refl h.safe;
          list = list h.list;
          cleared = h.cleared;
        }
      where
        list : OnList A d → OnList (Line.mark_scene L O val A s c) d
        list (inl q) = inl q
        list (inr q) = inr (q.0, go (cases_eq d c))
          where
            go : (d ≡ c) ⊎ (d ≡ c → ⊥) → put A.memory.mark c true d ≡ true
            go (inl z) = ap (put A.memory.mark c true) z ∙ put_here A.memory.mark c true
            go (inr ne) = put_apart A.memory.mark c true d ne ∙ q.1

    pub mark_clean : (i k : ℕ) (q : Prev) → Clean L O val A s i k q → Clean L O val (Line.mark_scene L O val A s c) s i k q
    mark_clean i k Front h = tt
    mark_clean i k (At r) h = (mark_cur i r h.0, h.1)
