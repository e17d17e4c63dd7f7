-- Every value of a kind stands in the list of all.
use Rattle.std.proofs.Common.{◌∷◌, [], refl, lit<}
use Rattle.schedule.specs.Keywords.{HasAll}
use Rattle.reclaim.specs.declared.scheme.Scheme.TheVariants.{Hazard, Epoch, Quiescent}
use Rattle.schedule.specs.declared.header.Header.TheVariants.{Reclaimer, Sessions, Cells, Items}
use Rattle.schedule.specs.declared.word.WordKind.TheVariants as word

pub schemes : HasAll (Hazard ∷ Epoch ∷ Quiescent ∷ [])
schemes = record { each = elim [ Hazard ↦ (0, lit< tt, refl) | Epoch ↦ (1, lit< tt, refl) | Quiescent ↦ (2, lit< tt, refl) ] }

pub headers : HasAll (Reclaimer ∷ Sessions ∷ Cells ∷ Items ∷ [])
headers = record { each = elim [ Reclaimer ↦ (0, lit< tt, refl) | Sessions ↦ (1, lit< tt, refl) | Cells ↦ (2, lit< tt, refl) | Items ↦ (3, lit< tt, refl) ] }

pub kinds : HasAll (word.Step ∷ word.Insert ∷ word.Delete ∷ word.Contains ∷ word.Push ∷ word.Pop ∷ word.Tidy ∷ [])
kinds = record { each = elim [ word.Step ↦ (0, lit< tt, refl) | word.Insert ↦ (1, lit< tt, refl) | word.Delete ↦ (2, lit< tt, refl) | word.Contains ↦ (3, lit< tt, refl) | word.Push ↦ (4, lit< tt, refl) | word.Pop ↦ (5, lit< tt, refl) | word.Tidy ↦ (6, lit< tt, refl) ] }
