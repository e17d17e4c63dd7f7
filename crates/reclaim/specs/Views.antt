-- The table that each reclaimer stands for.
use Rattle.std.specs.Prelude.{ℕ, Bool, List, vec_items}
use Rattle.reclaim.specs.declared.hazard.table.HazardPointers.{HazardPointers}
use Rattle.reclaim.specs.declared.hazard.table.Row.{Row}
use Rattle.reclaim.specs.declared.epoch.table.Epochs.{Epochs}
use Rattle.reclaim.specs.declared.quiescent.table.QuiescentStates.{QuiescentStates}
use Rattle.reclaim.specs.Epochs.{Lag}
use Rattle.reclaim.specs.Table.{Table}

abbrev pub hazard_table : HazardPointers → Table Row (Unit {0})
hazard_table x = record { sessions = x.held.sizes.sessions; cells = x.held.sizes.cells; places = x.rows; held = vec_items x.held.list }

abbrev pub epoch_table : Epochs → Table Lag ℕ
epoch_table x = record { sessions = x.held.sizes.sessions; cells = x.held.sizes.cells; places = x.lags; held = vec_items x.held.list }

abbrev pub quiescent_table : QuiescentStates → Table Bool (List Bool)
quiescent_table x = record { sessions = x.held.sizes.sessions; cells = x.held.sizes.cells; places = x.inside; held = vec_items x.held.list }
