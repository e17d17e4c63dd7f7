-- Why there is no board when its reclaimer was not made.
use Rattle.machine.specs.declared.answer.Reason.{Reason}
use Rattle.machine.specs.declared.answer.Reason.TheVariants as reason
use Rattle.reclaim.specs.declared.refusal.Unmade.{Unmade}
use Rattle.reclaim.specs.declared.refusal.Unmade.TheVariants as unmade

abbrev pub unmade_reason : Unmade → Reason
unmade_reason unmade.Sizes = reason.Sizes
unmade_reason unmade.Memory = reason.Memory
