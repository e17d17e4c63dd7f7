use Rattle.std.proofs.Common.{◌≡◌, take}
use Rattle.std.specs.Str.Parse.{AllDigits, digits_value}
use Rattle.schedule.proofs.number.hexadecimal.Given as goal

-- the digits so far, and the number that they write
abbrev pub invariant-loop-b : goal.invariant-loop-b
invariant-loop-b l = (l.n ≡ digits_value 16 (take l.b-index l.digits)) × AllDigits 16 (take l.b-index l.digits)
