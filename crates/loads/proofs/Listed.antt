-- Every value of a kind stands in the list of all.
use Rattle.std.proofs.Common.{◌∷◌, [], refl, lit<}
use Rattle.schedule.specs.Keywords.{HasAll}
use Rattle.loads.specs.declared.load.Mode.TheVariants.{Whole, Mixed, Junk}
use Rattle.loads.specs.declared.load.ItemSort.TheVariants.{Numbers, Bytes}

pub modes : HasAll (Whole ∷ Mixed ∷ Junk ∷ [])
modes = record { each = elim [ Whole ↦ (0, lit< tt, refl) | Mixed ↦ (1, lit< tt, refl) | Junk ↦ (2, lit< tt, refl) ] }

pub sorts : HasAll (Numbers ∷ Bytes ∷ [])
sorts = record { each = elim [ Numbers ↦ (0, lit< tt, refl) | Bytes ↦ (1, lit< tt, refl) ] }
