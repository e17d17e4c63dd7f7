use Rattle.std.proofs.Common.{◌≡◌, ◌+◌, ◌-◌, ◌≤◌}
use Rattle.machine.specs.Machine.{tidyings}
use Rattle.memory.specs.Of.{memory_of}
use Rattle.memory.proofs.Tidying.{left_over}
use Rattle.memory.proofs.memory.Memory.collect_all.Given as goal

abbrev pub decreases-loop-c : goal.decreases-loop-c
decreases-loop-c g l = g.R.Reclaimer.model.count (g.R.Reclaimer.state l.self.reclaimer)

abbrev pub invariant-loop-c : goal.invariant-loop-c
invariant-loop-c g l =
    ((left_over g.R.Reclaimer.model (memory_of g.R.Reclaimer.state l.self)).memory ≡ (tidyings g.R.Reclaimer.model (memory_of g.R.Reclaimer.state l.initial.self)).memory)
    × ((left_over g.R.Reclaimer.model (memory_of g.R.Reclaimer.state l.self)).given + (l.held - decreases-loop-c g l) ≡ (tidyings g.R.Reclaimer.model (memory_of g.R.Reclaimer.state l.initial.self)).given)
    × (decreases-loop-c g l ≤ l.held)
