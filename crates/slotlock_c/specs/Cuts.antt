-- The number of each reason why bytes were not cut.
use Rattle.std.specs.Prelude.{ℕ}
use Rattle.slotlock_c.specs.declared.bytes.Uncut.{Uncut}
use Rattle.slotlock_c.specs.declared.bytes.Uncut.TheVariants.{TooLong, Misfit, Memory}

abbrev pub uncut_number : Uncut → ℕ
uncut_number TooLong = 4
uncut_number Misfit = 11
uncut_number Memory = 2
