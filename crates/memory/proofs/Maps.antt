-- The array of cells as maps: what a write is to each map.
use Rattle.std.proofs.Common.{◌≡◌, ℕ, zero, suc, ◌<◌, false, eqb, ◌⊎◌, List, length, get_or, set, replicate, None, sym, refl, ap, ◌∙◌, inl, inr}
use mathlib.Core.Path.{fun_ext}
use Rattle.std.proofs.lemmas.Bool.{cases_eq, eq-eqb, ne_eqb, cond-true, cond-false}
use Rattle.std.proofs.lemmas.List.{get_or-set_same, get_or-set_other}
use Rattle.machine.specs.declared.cell.Cell.{Cell}
use Rattle.machine.specs.Machine.{put}
use Rattle.memory.specs.Of.{no_cell, links, marks, places}

module _ {X Y : Type 0} (f : X → Y) (d : X) (xs : List X) (i : ℕ) (v : X) (h : i < length xs) where
  at : (c : ℕ) → (c ≡ i) ⊎ (c ≡ i → ⊥) → f (get_or (set xs i v) c d) ≡ put (λ q. f (get_or xs q d)) i (f v) c
  unfolding put
  at c (inl e) = ap (λ q. f (get_or (set xs i v) q d)) e ∙ (ap f (get_or-set_same xs i v d h) ∙ sym (cond-true (eqb c i) (f v) (f (get_or xs c d)) (eq-eqb c i e)))
  at c (inr ne) = ap f (get_or-set_other xs i c v d ne) ∙ sym (cond-false (eqb c i) (f v) (f (get_or xs c d)) (ne_eqb c i ne))

  pub written_map : (λ c. f (get_or (set xs i v) c d)) ≡ put (λ c. f (get_or xs c d)) i (f v)
  written_map = fun_ext (λ c. at c (cases_eq c i))

  still : f v ≡ f (get_or xs i d) → (c : ℕ) → (c ≡ i) ⊎ (c ≡ i → ⊥) → f (get_or (set xs i v) c d) ≡ f (get_or xs c d)
  still k c (inl e) = ap (λ q. f (get_or (set xs i v) q d)) e ∙ (ap f (get_or-set_same xs i v d h) ∙ (k ∙ ap (λ q. f (get_or xs q d)) (sym e)))
  still k c (inr ne) = ap f (get_or-set_other xs i c v d ne)

  pub same_map : f v ≡ f (get_or xs i d) → ◌≡◌ {A = ℕ → Y} (λ c. f (get_or (set xs i v) c d)) (λ c. f (get_or xs c d))
  same_map k = fun_ext (λ c. still k c (cases_eq c i))

module _ (xs : List Cell) (i : ℕ) (v : Cell) (h : i < length xs) where
  pub links_set : links (set xs i v) ≡ put (links xs) i v.link.to
  unfolding links
  links_set = written_map (λ (c : Cell). c.link.to) no_cell xs i v h

  pub marks_set : marks (set xs i v) ≡ put (marks xs) i v.link.marked
  unfolding marks
  marks_set = written_map (λ (c : Cell). c.link.marked) no_cell xs i v h

  pub places_set : places (set xs i v) ≡ put (places xs) i v.place
  unfolding places
  places_set = written_map (λ (c : Cell). c.place) no_cell xs i v h

  pub links_same : v.link.to ≡ (get_or xs i no_cell).link.to → links (set xs i v) ≡ links xs
  unfolding links
  links_same k = same_map (λ (c : Cell). c.link.to) no_cell xs i v h k

  pub marks_same : v.link.marked ≡ (get_or xs i no_cell).link.marked → marks (set xs i v) ≡ marks xs
  unfolding marks
  marks_same k = same_map (λ (c : Cell). c.link.marked) no_cell xs i v h k

  pub places_same : v.place ≡ (get_or xs i no_cell).place → places (set xs i v) ≡ places xs
  unfolding places
  places_same k = same_map (λ (c : Cell). c.place) no_cell xs i v h k

blank : (n c : ℕ) → get_or (replicate n no_cell) c no_cell ≡ no_cell
blank zero c = refl
blank (suc n) zero = refl
blank (suc n) (suc c) = blank n c

-- the maps of a new memory
pub new_links : (n : ℕ) → links (replicate n no_cell) ≡ (λ c. None)
unfolding links
new_links n = fun_ext (λ c. ap (λ (x : Cell). x.link.to) (blank n c))

pub new_marks : (n : ℕ) → marks (replicate n no_cell) ≡ (λ c. false)
unfolding marks
new_marks n = fun_ext (λ c. ap (λ (x : Cell). x.link.marked) (blank n c))

pub new_places : (n : ℕ) → places (replicate n no_cell) ≡ (λ c. 0)
unfolding places
new_places n = fun_ext (λ c. ap (λ (x : Cell). x.place) (blank n c))
