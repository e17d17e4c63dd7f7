-- The item at a place.
use Rattle.std.proofs.Common.{◌≡◌, ℕ, zero, suc, ◌<◌, ◌≤◌, List, [], ◌∷◌, length, get_or, Some, None, refl, arith}
use Rattle.machine.specs.Serial.{value_at}

pub at_place : {I V : Type 0} (f : I → V) (xs : List I) (i : ℕ) (d : I) → i < length xs → value_at f xs i ≡ Some (f (get_or xs i d))
at_place f [] i d h = absurd (omega arith)
at_place f (x ∷ xs) zero d h = refl
at_place f (x ∷ xs) (suc i) d h = at_place f xs i d (omega arith)

pub past_place : {I V : Type 0} (f : I → V) (xs : List I) (i : ℕ) → length xs ≤ i → value_at f xs i ≡ None
past_place f [] i h = refl
past_place f (x ∷ xs) zero h = absurd (omega arith)
past_place f (x ∷ xs) (suc i) h = past_place f xs i (omega arith)
