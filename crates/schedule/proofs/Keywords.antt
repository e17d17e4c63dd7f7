-- What a search among all values by their names has found.
use Rattle.std.proofs.Common.{◌≡◌, ◌≢◌, ◌<◌, ℕ, List, length, Option, Some, None}
use Rattle.std.specs.List.{AllWithin, Contains, HoldsAt}
use Rattle.std.specs.Option.{MatchOption}
use Rattle.std.proofs.lemmas.List.Elements.{All-contains, All-from_all_within}

pub searched : {K : Type 0} (all : List K) (spelled : K → List ℕ) (text : List ℕ) (r : Option K) → ((k : K) → Contains all k) → MatchOption r (AllWithin (λ k. text ≢ spelled k) all 0 (length all)) (λ k. (text ≡ spelled k) × (i : ℕ) × (i < length all) × HoldsAt (λ y. y ≡ k) all i × AllWithin (λ j. text ≢ spelled j) all 0 i) → MatchOption r ((k : K) → text ≢ spelled k) (λ k. text ≡ spelled k)
searched all spelled text None every none = λ k. All-contains (λ j. text ≢ spelled j) all k (All-from_all_within (λ j. text ≢ spelled j) all none) (every k)
searched all spelled text (Some k) every found = found.0
