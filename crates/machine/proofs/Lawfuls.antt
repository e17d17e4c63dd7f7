-- From the laws of the reclaimer's trait and of the order's trait to what the proof uses.
use Rattle.std.proofs.Common.{◌≡◌, ℕ, ◌<◌, ◌≤◌, Bool, true, false, cond, not, ◌&&◌, ◌||◌, eqb, ltb, ◌⊎◌, Some, None, Option, Ordering, Less, Equal, sym, refl, ap, ◌∙◌, subst, inl, inr, arith}
use Rattle.std.proofs.lemmas.Bool.{true≢false, lt-ltb, ltb-true, eq-eqb, ne_eqb, or_left, or_right, and_from, and_parts, not_from_false, cond-true, cond-false}
use Rattle.std.specs.Ordering.{ordering_reverse}
use Rattle.reclaim.specs.Model.{Model, Lawful, SameSizes, after_enter, after_leave, after_protect, after_retire}
use Rattle.reclaim.specs.Model as model
use Rattle.machine.specs.Serial.{with_none}
use Rattle.machine.proofs.Rules.{Meaning, SameInside, SameHeld, KeepsOn, Entered, Left, Protected, Retired, Collected, Rules, Order}

pub other : (a b : Bool) → a ≡ false → (a || b) ≡ true → b ≡ true
other true b e h = absurd (true≢false e)
other false b e h = h

module _ {State : Type 0} (M : Model State) (law : Lawful M) (sessions cells : ℕ) (few : cells ≤ 256) where
  abbrev pub meaning : State → Meaning
  meaning x =
      record {
        inside = λ t. M.inside x t ≡ true;
        held = λ c. M.held x c ≡ true;
        names = λ t i c. M.names x t i c ≡ true;
        keeps = λ t i c. M.keeps x t i c ≡ true;
      }

  abbrev pub Fit : State → Type 0
  Fit x = M.good x × (M.sessions x ≡ sessions) × (M.cells x ≡ cells)

  pub refit : (x y : State) → Fit x → SameSizes M x y → Fit y
  refit x y f z = (z.good, z.sessions ∙ f.1, z.cells ∙ f.2)

  pub same_inside : (x y : State) → ((t : ℕ) → M.inside y t ≡ M.inside x t) → SameInside (meaning x) (meaning y)
  same_inside x y f = record { on = λ t h. f t ∙ h; back = λ t h. sym (f t) ∙ h }

  pub same_held : (x y : State) → ((c : ℕ) → M.held y c ≡ M.held x c) → SameHeld (meaning x) (meaning y)
  same_held x y f = record { on = λ c h. f c ∙ h; back = λ c h. sym (f c) ∙ h }

  pub keeps_on : (x y : State) → ((t i c : ℕ) → model.GoesOn M x y t i c) → KeepsOn (meaning x) (meaning y)
  keeps_on x y f = record { names = λ t i c h. (f t i c).names h; keeps = λ t i c h. (f t i c).keeps h }

  pub is_false : (b : Bool) → (b ≡ true → ⊥) → b ≡ false
  is_false true f = absurd (f refl)
  is_false false f = refl

  -- a call that is not refused
  pub enters : (x : State) (s : ℕ) → Fit x → s < sessions → M.inside x s ≡ false → after_enter M x s ≡ M.enters x s
  enters x s f lt o =
      cond-true (ltb s (M.sessions x)) _ x (lt-ltb s (M.sessions x) (subst (λ n. s < n) (sym f.1) lt)) ∙ cond-false (M.inside x s) x (M.enters x s) o

  pub leaves : (x : State) (s : ℕ) → Fit x → s < sessions → M.inside x s ≡ true → after_leave M x s ≡ M.leaves x s
  leaves x s f lt o =
      cond-true (ltb s (M.sessions x)) _ x (lt-ltb s (M.sessions x) (subst (λ n. s < n) (sym f.1) lt)) ∙ cond-true (M.inside x s) (M.leaves x s) x o

  pub protects : (x : State) (s i c : ℕ) → Fit x → s < sessions → M.inside x s ≡ true → i < 3 → c < cells → after_protect M x s i c ≡ M.protects x s i c
  protects x s i c f lt o li lc =
      cond-true (ltb s (M.sessions x)) _ x (lt-ltb s (M.sessions x) (subst (λ n. s < n) (sym f.1) lt))
      ∙ (cond-true (M.inside x s) _ x o
      ∙ (cond-true (ltb i 3) _ x (lt-ltb i 3 li) ∙ cond-true (ltb c (M.cells x)) (M.protects x s i c) x (lt-ltb c (M.cells x) (subst (λ n. c < n) (sym f.2) lc))))

  pub retires : (x : State) (c : ℕ) → Fit x → c < cells → M.held x c ≡ false → after_retire M x c ≡ M.retires x c
  retires x c f lc o =
      cond-true (ltb c (M.cells x)) _ x (lt-ltb c (M.cells x) (subst (λ n. c < n) (sym f.2) lc)) ∙ cond-false (M.held x c) x (M.retires x c) o

  pub collect_fit : (x : State) (o : Option ℕ) (y : State) → model.Collected M x o y → SameSizes M x y
  collect_fit x None y g = g.sizes
  collect_fit x (Some c) y g = g.sizes

  pub collected : (x : State) (o : Option ℕ) (y : State) → model.Collected M x o y → Collected o (meaning x) (meaning y)
  collected x None y g =
      record { inside = same_inside x y g.inside; held = same_held x y g.held; slots = keeps_on x y g.slots; why = why g.why }
    where
      why : model.IdleOrBusy M x → ((c : ℕ) → M.held x c ≡ true → ⊥) ⊎ ((s : ℕ) × (M.inside x s ≡ true))
      why (inl f) = inl (λ c h. true≢false (sym h ∙ f c))
      why (inr p) = inr p
  collected x (Some c) y g =
      record {
        inside = same_inside x y g.inside;
        was = g.was_held;
        unkept = λ t i h. true≢false (sym h ∙ g.not_kept t i);
        gone = λ h. let e = g.held c in let q = eq-eqb c c refl in true≢false (sym h ∙ (e ∙ ap (λ b. not b && M.held x c) q));
        on = λ d ne h. g.held d ∙ and_from (not (eqb c d)) (M.held x d) (not_from_false (eqb c d) (ne_eqb c d (λ e. ne (sym e)))) h;
        back = λ d h. (and_parts (not (eqb c d)) (M.held x d) (sym (g.held d) ∙ h)).1;
        names = λ t i d h. g.named t i d h;
        keeps = λ t i d ne h. g.kept t i d (λ e. ne (sym e)) h;
      }

  pub stay : (x : State) → Fit x → (b : Bool) (y z : State) → (b ≡ true → Fit y) → (b ≡ false → Fit z) → Fit (cond b y z)
  stay x f true y z p q = p refl
  stay x f false y z p q = q refl

  unfoldable pub rules : Rules M sessions cells
  rules =
      record {
        few = few;
        meaning = meaning;
        fit = Fit;
        sized = λ x f. f.2;
        fits_enters =
            λ x s f.
            stay x f (ltb s (M.sessions x)) _ _
            (λ lt. stay x f (M.inside x s) _ _ (λ h. f) (λ h. refit x _ f (law.enter x s f.0 (ltb-true s (M.sessions x) lt) h).sizes))
            (λ h. f);
        fits_leaves =
            λ x s f. stay x f (ltb s (M.sessions x)) _ _ (λ lt. stay x f (M.inside x s) _ _ (λ h. refit x _ f (law.leave x s f.0 h).sizes) (λ h. f)) (λ h. f);
        fits_protects =
            λ x s i c f.
            stay x f (ltb s (M.sessions x)) _ _
            (λ lt.
            stay x f (M.inside x s) _ _
            (λ h.
            stay x f (ltb i 3) _ _
            (λ li. stay x f (ltb c (M.cells x)) _ _ (λ lc. refit x _ f (law.protect x s i c f.0 h (ltb-true i 3 li) (ltb-true c (M.cells x) lc)).sizes) (λ z. f))
            (λ z. f))
            (λ z. f))
            (λ z. f);
        fits_retires =
            λ x c f.
            stay x f (ltb c (M.cells x)) _ _
            (λ lc. stay x f (M.held x c) _ _ (λ h. f) (λ h. refit x _ f (law.retire x c f.0 (ltb-true c (M.cells x) lc) h).sizes))
            (λ h. f);
        fits_collects = λ x f. refit x (M.collects x) f (collect_fit x (M.picks x) (M.collects x) (law.collect x f.0));
        entering =
            λ x s f lt no.
            let o = is_false (M.inside x s) no in
            let g = law.enter x s f.0 (subst (λ n. s < n) (sym f.1) lt) o in
            subst (λ y. Entered s (meaning x) (meaning y)) (sym (enters x s f lt o))
            (record {
              self = g.inside s ∙ or_left (eqb s s) (M.inside x s) (eq-eqb s s refl);
              on = λ t h. g.inside t ∙ or_right (eqb s t) (M.inside x t) h;
              back = λ t h ne. other (eqb s t) (M.inside x t) (ne_eqb s t (λ e. ne (sym e))) (sym (g.inside t) ∙ h);
              held = same_held x _ g.held;
              slots = keeps_on x _ g.slots;
            });
        leaving =
            λ x s f lt o.
            let g = law.leave x s f.0 o in
            subst (λ y. Left s (meaning x) (meaning y)) (sym (leaves x s f lt o))
            (record {
              self = λ h. true≢false (sym h ∙ (g.inside s ∙ ap (λ b. not b && M.inside x s) (eq-eqb s s refl)));
              on = λ t ne h. g.inside t ∙ and_from (not (eqb s t)) (M.inside x t) (not_from_false (eqb s t) (ne_eqb s t (λ e. ne (sym e)))) h;
              back = λ t h. (and_parts (not (eqb s t)) (M.inside x t) (sym (g.inside t) ∙ h)).1;
              held = same_held x _ g.held;
              names = λ t i c ne h. (g.slots t i c (λ e. ne (sym e))).names h;
              keeps = λ t i c ne h. (g.slots t i c (λ e. ne (sym e))).keeps h;
            });
        protecting =
            λ x s i c f lt o li lc.
            let g = law.protect x s i c f.0 o li (subst (λ n. c < n) (sym f.2) lc) in
            subst (λ y. Protected s i c (meaning x) (meaning y)) (sym (protects x s i c f lt o li lc))
            (record {
              inside = same_inside x _ g.inside;
              held = same_held x _ g.held;
              self = g.named;
              moved = g.kept;
              names = λ t j d ne h. (g.slots t j d (λ e. ne (sym e.0, sym e.1))).names h;
              keeps = λ t j d ne h. (g.slots t j d (λ e. ne (sym e.0, sym e.1))).keeps h;
            });
        retiring =
            λ x c f lc no.
            let o = is_false (M.held x c) no in
            let g = law.retire x c f.0 (subst (λ n. c < n) (sym f.2) lc) o in
            subst (λ y. Retired c (meaning x) (meaning y)) (sym (retires x c f lc o))
            (record {
              inside = same_inside x _ g.inside;
              self = g.held c ∙ or_left (eqb c c) (M.held x c) (eq-eqb c c refl);
              on = λ d h. g.held d ∙ or_right (eqb c d) (M.held x d) h;
              back = λ d h ne. other (eqb c d) (M.held x d) (ne_eqb c d (λ e. ne (sym e))) (sym (g.held d) ∙ h);
              slots = keeps_on x _ g.slots;
              kept = λ t i h. g.kept t i h;
            });
        collecting = λ x f. collected x (M.picks x) (M.collects x) (law.collect x f.0);
      }

-- an order of values with one value more
module _ {V : Type 0} (cmp : V → V → Ordering)
    (same : (x y : V) → cmp x y ≡ Equal → x ≡ y) (itself : (x : V) → cmp x x ≡ Equal) (sides : (x y : V) → cmp y x ≡ ordering_reverse (cmp x y))
    (smaller : (x y z : V) → cmp x y ≡ Less → cmp y z ≡ Less → cmp x z ≡ Less) where
  pub same₁ : (x y : Option V) → with_none cmp x y ≡ Equal → x ≡ y
  same₁ None None e = refl
  same₁ None (Some y) e = let z : ◌≡◌ {A = ℕ} 0 1 = cc in absurd (omega arith)
  same₁ (Some x) None e = let z : ◌≡◌ {A = ℕ} 0 1 = cc in absurd (omega arith)
  same₁ (Some x) (Some y) e = ap Some (same x y e)

  pub self₁ : (x : Option V) → with_none cmp x x ≡ Equal
  self₁ None = refl
  self₁ (Some x) = itself x

  pub sides₁ : (x y : Option V) → with_none cmp y x ≡ ordering_reverse (with_none cmp x y)
  sides₁ None None = refl
  sides₁ None (Some y) = refl
  sides₁ (Some x) None = refl
  sides₁ (Some x) (Some y) = sides x y

  pub trans₁ : (x y z : Option V) → with_none cmp x y ≡ Less → with_none cmp y z ≡ Less → with_none cmp x z ≡ Less
  trans₁ None None z e f = let k : ◌≡◌ {A = ℕ} 0 1 = cc in absurd (omega arith)
  trans₁ None (Some y) None e f = let k : ◌≡◌ {A = ℕ} 0 1 = cc in absurd (omega arith)
  trans₁ None (Some y) (Some z) e f = refl
  trans₁ (Some x) None z e f = let k : ◌≡◌ {A = ℕ} 0 1 = cc in absurd (omega arith)
  trans₁ (Some x) (Some y) None e f = let k : ◌≡◌ {A = ℕ} 0 1 = cc in absurd (omega arith)
  trans₁ (Some x) (Some y) (Some z) e f = smaller x y z e f

  unfoldable pub ordered : Order (Option V)
  ordered = record { cmp = with_none cmp; same = same₁; self = self₁; sides = sides₁; trans = trans₁ }
