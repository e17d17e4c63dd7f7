-- The free stack has room for a cell that is not on it.
use Rattle.std.proofs.Common.{◌≡◌, ℕ, ◌<◌, ◌≤◌, true, false, not, eqb, ltb, ◌⊎◌, List, [], ◌∷◌, length, sym, refl, ap, ◌∙◌, inl, inr, arith}
use Rattle.std.proofs.lemmas.Bool.{cases_lt, or_from, and_from, not_from_false, ne_eqb, lt-ltb, cond-true}
use Rattle.reclaim.specs.Cells.{itself, has, distinct, all_below}
use Rattle.reclaim.specs.CellLemmas.{room}
use Rattle.reclaim.specs.Model.{Model}
use Rattle.machine.specs.Machine.{shelve}
use Rattle.machine.proofs.Rules.{Rules, Order}
use Rattle.machine.proofs.Scene.{Place, nowhere, free_at, kind, Stacked, Scene, Sound}

-- a cell that is not free, or free further up, is not among the free ones below
not_below : (P : ℕ → Place) (l : List ℕ) (c : ℕ) → Stacked P l → ((n : ℕ) → n < length l → P c ≡ free_at n → ⊥) → has itself l c ≡ false
unfolding Stacked
not_below P [] c t f = refl
not_below P (d ∷ l) c t f =
    or_from (eqb d c) (has itself l c) (ne_eqb d c (λ e. f (length l) (omega arith) (ap P (sym e) ∙ t.0)))
    (not_below P l c t.1 (λ n h e. f n (omega arith) e))

all_apart : (P : ℕ → Place) (l : List ℕ) → Stacked P l → distinct itself l ≡ true
unfolding Stacked
all_apart P [] t = refl
all_apart P (d ∷ l) t =
    and_from (not (has itself l d)) (distinct itself l)
    (not_from_false (has itself l d) (not_below P l d t.1 (λ n h e. let k : free_at (length l) ≡ free_at n = sym t.0 ∙ e in let q : length l ≡ n = cc in omega arith)))
    (all_apart P l t.1)

all_in : (P : ℕ → Place) (cells : ℕ) (l : List ℕ) → ((c : ℕ) → cells ≤ c → P c ≡ nowhere) → Stacked P l → all_below itself cells l ≡ true
unfolding Stacked
all_in P cells [] b t = refl
all_in P cells (d ∷ l) b t = and_from (ltb d cells) (all_below itself cells l) (lt-ltb d cells (low (cases_lt d cells))) (all_in P cells l b t.1)
  where
    low : (d < cells) ⊎ (cells ≤ d) → d < cells
    low (inl h) = h
    low (inr h) = let k = ap kind (sym (b d h) ∙ t.0) in absurd (omega arith)

pub shelve_cons : (c : ℕ) (l : List ℕ) → length l < 256 → shelve c l ≡ c ∷ l
unfolding shelve
shelve_cons c l h = cond-true (ltb (length l) 256) (c ∷ l) l (lt-ltb (length l) 256 h)

module _ {State : Type 0} {M : Model State} {sessions cells : ℕ} (L : Rules M sessions cells) {V : Type 0} (O : Order V) (val : ℕ → V) where
  pub shelves : (A : Scene State) (c : ℕ) → Sound L O val A → c < cells → (kind (A.place c) ≡ 1 → ⊥)
      → shelve c A.memory.free ≡ c ∷ A.memory.free
  shelves A c a h ne =
      let r = room itself A.memory.free cells c (all_apart A.place A.memory.free a.free) (all_in A.place cells A.memory.free a.bound a.free) h
      (not_below A.place A.memory.free c a.free (λ n q e. let k = ap kind e in ne k)) in
      let f = L.few in
      shelve_cons c A.memory.free (omega arith)
