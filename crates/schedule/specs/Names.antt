-- The names of the reclaimers and of the header lines in a schedule.
use Rattle.std.specs.Prelude.{ℕ, List, codes}
use Rattle.schedule.specs.declared.header.Header.{Header}
use Rattle.schedule.specs.declared.header.Header.TheVariants.{Reclaimer, Sessions, Cells, Items}
use Rattle.reclaim.specs.declared.scheme.Scheme.{Scheme}
use Rattle.reclaim.specs.declared.scheme.Scheme.TheVariants.{Hazard, Epoch, Quiescent}

abbrev pub scheme_name : Scheme → List ℕ
scheme_name Hazard = codes "hazard"
scheme_name Epoch = codes "epoch"
scheme_name Quiescent = codes "quiescent"

abbrev pub header_name : Header → List ℕ
header_name Reclaimer = codes "reclaimer"
header_name Sessions = codes "sessions"
header_name Cells = codes "cells"
header_name Items = codes "items"
