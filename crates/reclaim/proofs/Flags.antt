-- The flags that tell which cells are held.
use Rattle.std.proofs.Common.{◌≡◌, ℕ, zero, suc, ◌<◌, Bool, true, false, not, ◌&&◌, ◌||◌, eqb, List, [], ◌∷◌, ◌++◌, map, length, get_or, set, replicate, sym, refl, ap, ◌∙◌, ⊎_elim, arith}
use Rattle.std.proofs.lemmas.List.{get_or-set_same, get_or-set_other}
use Rattle.std.proofs.lemmas.Bool.{cases_eq, eq-eqb, ne_eqb}
use Rattle.reclaim.specs.Cells.{has, distinct, FlagsOf}
use Rattle.reclaim.specs.CellLemmas.{Gone, has-++, gone_left, has_map}

none_up : (n c : ℕ) → get_or (replicate n false) c false ≡ false
none_up zero c = refl
none_up (suc n) zero = refl
none_up (suc n) (suc c) = none_up n c

module _ {X : Type 0} (cell : X → ℕ) where
  pub flags_new : (xs : List X) (n : ℕ) → xs ≡ [] → FlagsOf cell xs (replicate n false)
  flags_new xs n e c = none_up n c ∙ sym (ap (λ l. has cell l c) e)

  -- a change that keeps the cells
  pub flags_kept : (f : X → X) → ((x : X) → cell (f x) ≡ cell x) → (xs ys : List X) (flags : List Bool) → ys ≡ map f xs → FlagsOf cell xs flags → FlagsOf cell ys flags
  flags_kept f same xs ys flags e told c = told c ∙ sym (ap (λ l. has cell l c) e ∙ has_map cell f same xs c)

  -- one more that stands for c
  pub flag_up : (xs ys : List X) (y : X) (flags : List Bool) (c : ℕ) → ys ≡ xs ++ y ∷ [] → cell y ≡ c → c < length flags → FlagsOf cell xs flags → FlagsOf cell ys (set flags c true)
  flag_up xs ys y flags c e k l told d =
      let h : has cell ys d ≡ (has cell xs d || (eqb c d || false)) = ap (λ l. has cell l d) e ∙ has-++ cell xs (y ∷ []) d ∙ ap (λ q. has cell xs d || (eqb q d || false)) k in
      ⊎_elim (λ (q : c ≡ d).
      let f : get_or (set flags c true) d false ≡ true = ap (λ j. get_or (set flags c true) j false) (sym q) ∙ get_or-set_same flags c true false l in
      let b = eq-eqb c d q in
      grind arith)
      (λ n.
      let f : get_or (set flags c true) d false ≡ get_or flags d false = get_or-set_other flags c d true false (λ z. n (sym z)) in
      let b = ne_eqb c d n in
      let t = told d in
      grind arith)
      (cases_eq c d)

  -- the one that stood for c is gone
  pub flag_down : (xs : List X) (x : X) (ys : List X) (flags : List Bool) (c : ℕ) → Gone xs x ys → distinct cell xs ≡ true → cell x ≡ c → c < length flags → FlagsOf cell xs flags → FlagsOf cell ys (set flags c false)
  flag_down xs x ys flags c gone apart k l told d =
      let h : has cell ys d ≡ (not (eqb c d) && has cell xs d) = gone_left cell xs x ys gone apart d ∙ ap (λ q. not (eqb q d) && has cell xs d) k in
      ⊎_elim (λ (q : c ≡ d).
      let f : get_or (set flags c false) d false ≡ false = ap (λ j. get_or (set flags c false) j false) (sym q) ∙ get_or-set_same flags c false false l in
      let b = eq-eqb c d q in
      grind arith)
      (λ n.
      let f : get_or (set flags c false) d false ≡ get_or flags d false = get_or-set_other flags c d false false (λ z. n (sym z)) in
      let b = ne_eqb c d n in
      let t = told d in
      grind arith)
      (cases_eq c d)
