use Rattle.std.proofs.Common.{◌≡◌, ◌++◌, map, length, take, drop}
use Rattle.machine.specs.Serial.{compared}
use Rattle.machine.specs.Machine.{ran}
use Rattle.board.specs.View.{view}
use Rattle.board.proofs.board.Board.each.Given as goal

abbrev pub invariant-loop-i : goal.invariant-loop-i
invariant-loop-i g l =
    (view g.R.Reclaimer.state l.self ≡ (ran g.R.Reclaimer.model (compared g.T.ItemOrder.order g.T.ItemOrder.value l.items) (length l.items) (view g.R.Reclaimer.state l.initial.self) (take l.i l.words)).after)
    × (l.answers ≡ map g.A.KeptAnswer.kept (ran g.R.Reclaimer.model (compared g.T.ItemOrder.order g.T.ItemOrder.value l.items) (length l.items) (view g.R.Reclaimer.state l.initial.self) (take l.i l.words)).answers ++ drop l.i l.initial.answers)
