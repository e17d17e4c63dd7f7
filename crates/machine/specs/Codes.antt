-- Codes of answers: the reason of a number, and the letter of a kind.
use Rattle.std.specs.Prelude.{ℕ, ◌≡◌, ◌≢◌, Result, Ok, Err}
use Rattle.machine.specs.declared.answer.AnswerKind.{AnswerKind}
use Rattle.machine.specs.declared.answer.AnswerKind.TheVariants.{UnderWay, Yes, No, Tidied, Refused}
use Rattle.machine.specs.declared.answer.NoReason.{NoReason}
use Rattle.machine.specs.declared.answer.Reason.{Reason}
use Rattle.machine.specs.Answers.{number}

-- the reason of this number, or no reason has it
abbrev pub Numbered : ℕ → Result Reason NoReason → Type 0
Numbered n (Ok w) = number w ≡ n
Numbered n (Err e) = (w : Reason) → number w ≢ n

-- w, y, n, t and r in ASCII
abbrev pub letter : AnswerKind → ℕ
letter UnderWay = 119
letter Yes = 121
letter No = 110
letter Tidied = 116
letter Refused = 114
