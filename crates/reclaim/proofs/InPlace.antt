-- A loop that changes every thing of a list in place.
use Rattle.std.proofs.Common.{◌≡◌, ℕ, ◌+◌, ◌<◌, ◌≤◌, true, List, ◌++◌, map, length, get_or, take, drop, set, sym, ap, ◌∙◌, arith}
use Rattle.std.proofs.lemmas.List.Edits.{map_over_more}
use Rattle.std.proofs.lemmas.List.{drop_more, get_or_at, get_or_default, length-map, length-take-le, take_all, take_at, drop_all, append-nil}
use Rattle.reclaim.specs.Cells.{all_below, distinct}
use Rattle.reclaim.specs.CellLemmas.{below_map, distinct_map}

module _ {X : Type 0} (f : X → X) (xs ys : List X) (i : ℕ) (inv : ys ≡ map f (take i xs) ++ drop i xs) where
  -- the thing that the loop comes to is as it was
  pub not_yet : (d : X) → i < length xs → get_or ys i d ≡ get_or xs i d
  not_yet d l =
      ap (λ y. get_or y i d) inv
      ∙ ap (λ y. get_or (map f (take i xs) ++ y) i d) (drop_more xs i d l)
      ∙ get_or_at (map f (take i xs)) (get_or xs i d) (drop (i + 1) xs) d i (length-map (take i xs) f ∙ length-take-le i xs (omega arith))

  pub one_changed : (d v : X) → i < length xs → length ys ≡ length xs → v ≡ f (get_or ys i d) → set ys i v ≡ map f (take (i + 1) xs) ++ drop (i + 1) xs
  one_changed d v l n e =
      ap (set ys i) e ∙ map_over_more f xs ys i (get_or ys i d) l inv (get_or_default ys i d (get_or ys i d) (omega arith))

  pub all_changed : length xs ≤ i → ys ≡ map f xs
  all_changed l = inv ∙ ap (λ t. map f t ++ drop i xs) (take_all i xs l) ∙ ap (λ t. map f xs ++ t) (drop_all i xs l) ∙ append-nil (map f xs)

  -- as a Vec that lent its items has them back
  pub all_refilled : (items rest : List X) (len : ℕ) → xs ≡ items → length xs ≤ i → len ≡ length items → take len (ys ++ rest) ≡ map f items
  all_refilled items rest len e l n =
      let m : ys ≡ map f items = all_changed l ∙ ap (map f) e in
      take_at ys rest len (ap length m ∙ length-map items f ∙ sym n) ∙ m

-- a change that keeps the cells
pub cells_kept : {X : Type 0} (cell : X → ℕ) (f : X → X) → ((x : X) → cell (f x) ≡ cell x) → (xs ys : List X) (n : ℕ) → ys ≡ map f xs
    → all_below cell n xs ≡ true → distinct cell xs ≡ true → (all_below cell n ys ≡ true) × (distinct cell ys ≡ true)
cells_kept cell f same xs ys n e b d = (ap (all_below cell n) e ∙ below_map cell f same xs n ∙ b, ap (distinct cell) e ∙ distinct_map cell f same xs ∙ d)
