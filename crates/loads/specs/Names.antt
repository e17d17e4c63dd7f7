-- The names of a load's modes and of its sorts of items.
use Rattle.std.specs.Prelude.{ℕ, List, codes}
use Rattle.loads.specs.declared.load.Mode.{Mode}
use Rattle.loads.specs.declared.load.Mode.TheVariants.{Whole, Mixed, Junk}
use Rattle.loads.specs.declared.load.ItemSort.{ItemSort}
use Rattle.loads.specs.declared.load.ItemSort.TheVariants.{Numbers, Bytes}

abbrev pub mode_name : Mode → List ℕ
mode_name Whole = codes "whole"
mode_name Mixed = codes "mixed"
mode_name Junk = codes "junk"

abbrev pub sort_name : ItemSort → List ℕ
sort_name Numbers = codes "numbers"
sort_name Bytes = codes "bytes"
