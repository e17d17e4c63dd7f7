-- What each answer counts for in a load.
use Rattle.std.specs.Prelude.{ℕ, ◌+◌, ◌-◌, ◌^◌, min}
use Rattle.machine.specs.declared.answer.AnswerKind.{AnswerKind}
use Rattle.machine.specs.declared.answer.AnswerKind.TheVariants.{UnderWay, Yes, No, Tidied, Refused}

-- its number in the sum
abbrev pub letter_number : AnswerKind → ℕ
letter_number UnderWay = 0
letter_number Yes = 1
letter_number No = 2
letter_number Tidied = 3
letter_number Refused = 4

-- yes and no end an operation
abbrev pub ends : AnswerKind → ℕ
ends UnderWay = 0
ends Yes = 1
ends No = 1
ends Tidied = 0
ends Refused = 0

abbrev pub refuses : AnswerKind → ℕ
refuses UnderWay = 0
refuses Yes = 0
refuses No = 0
refuses Tidied = 0
refuses Refused = 1

-- a count of 64 bits stops at its most
abbrev pub counted : ℕ → ℕ → ℕ
counted count more = min (count + more) (2 ^ 64 - 1)
