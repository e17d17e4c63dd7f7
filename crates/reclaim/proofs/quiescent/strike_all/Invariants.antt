use Rattle.std.proofs.Common.{◌≡◌, ◌++◌, map, take, drop}
use Rattle.reclaim.specs.QuiescentStates.{strike}
use Rattle.reclaim.proofs.quiescent.strike_all.Given as goal

abbrev pub invariant-loop-held_cell : goal.invariant-loop-held_cell
invariant-loop-held_cell l =
    l.held_cell-items ≡ map (strike l.session) (take l.held_cell-index l.initial.held_cell-items) ++ drop l.held_cell-index l.initial.held_cell-items
