use Rattle.std.proofs.Common.{◌≡◌, ℕ, ◌<◌, true, false, get_or, take}
use Rattle.reclaim.specs.HazardPointers.{row_stores, rows_store}
use Rattle.reclaim.proofs.hazard.HazardPointersReclaimer.collect.Given as goal

-- every older cell is stored
abbrev pub invariant-held : goal.invariant-held
invariant-held l = (k : ℕ) → k < l.at → rows_store l.rows (get_or l.held_cell-items k (record { cell = 0; note = tt })).cell ≡ true

-- no row and no slot so far stores the cell
abbrev pub invariant-loop-row : goal.invariant-loop-row
invariant-loop-row l = rows_store (take l.row-index l.rows) l.cell ≡ false

abbrev pub invariant-loop-slot : goal.invariant-loop-slot
invariant-loop-slot l = row_stores (take l.slot-index l.slot-items) l.cell ≡ false
