use Rattle.std.proofs.Common.{◌≡◌, ℕ, ◌<◌, slice_index_or, vec_items, vec_len}
use Rattle.loads.specs.Keys.{number_at}
use Rattle.loads.proofs.keys.items.Given as goal

-- the items of the places so far
abbrev pub invariant-loop-place : goal.invariant-loop-place
invariant-loop-place g l = (vec_len l.items ≡ l.place) × ((k : ℕ) (d : _) → k < l.place → goal.F-post g l.fn.item (number_at l.keys k) (slice_index_or (vec_items l.items) k d))
