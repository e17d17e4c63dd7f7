-- The number of each refusal.
use Rattle.std.specs.Prelude.{ℕ}
use Rattle.reclaim.specs.declared.refusal.Refusal.{Refusal}
use Rattle.reclaim.specs.declared.refusal.Refusal.TheVariants.{NoSession, NoSlot, NoCell, AlreadyInside, NotInside, AlreadyHeld}
use Rattle.reclaim.specs.declared.refusal.Unmade.{Unmade}
use Rattle.reclaim.specs.declared.refusal.Unmade.TheVariants.{Sizes, Memory}

abbrev pub refusal_number : Refusal → ℕ
refusal_number NoSession = 31
refusal_number NoSlot = 32
refusal_number NoCell = 33
refusal_number AlreadyInside = 34
refusal_number NotInside = 35
refusal_number AlreadyHeld = 36

abbrev pub unmade_number : Unmade → ℕ
unmade_number Sizes = 3
unmade_number Memory = 2
