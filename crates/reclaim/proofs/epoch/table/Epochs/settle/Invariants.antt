use Rattle.std.proofs.Common.{◌≡◌, ◌-◌, vec_items}
use Rattle.reclaim.specs.Epochs.{settled, first_age}
use Rattle.reclaim.specs.Views.{epoch_table}
use Rattle.reclaim.proofs.epoch.table.Epochs.settle.Given as goal

abbrev pub invariant-loop-self : goal.invariant-loop-self
invariant-loop-self l = settled (epoch_table l.self) ≡ settled (epoch_table l.initial.self)

abbrev pub decreases-loop-self : goal.decreases-loop-self
decreases-loop-self l = 2 - first_age (vec_items l.self.held.list)
