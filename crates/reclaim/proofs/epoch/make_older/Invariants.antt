use Rattle.std.proofs.Common.{◌≡◌, ◌++◌, map, take, drop}
use Rattle.reclaim.specs.Epochs.{older}
use Rattle.reclaim.proofs.epoch.make_older.Given as goal

abbrev pub invariant-loop-held_cell : goal.invariant-loop-held_cell
invariant-loop-held_cell l =
    l.held_cell-items ≡ map older (take l.held_cell-index l.initial.held_cell-items) ++ drop l.held_cell-index l.initial.held_cell-items
