-- The answers, with the number and the value of each. Assumes nothing.
use Rattle.std.specs.Prelude.{ℕ}
use Rattle.machine.specs.declared.answer.Answer.{Answer}
use Rattle.machine.specs.declared.answer.AnswerKind.TheVariants.{UnderWay, Yes, No, Tidied, Refused}
use Rattle.machine.specs.declared.answer.Reason.{Reason}
use Rattle.machine.specs.declared.answer.Reason.TheVariants as reason

abbrev pub number : Reason → ℕ
number reason.Sizes = 3
number reason.Kind = 5
number reason.SpareBits = 6
number reason.NoSession = 7
number reason.NoPlace = 8
number reason.OtherItems = 9
number reason.ShortAnswers = 10
number reason.Inside = 21
number reason.Outside = 22
number reason.NoCell = 23
number reason.InUse = 24
number reason.Memory = 2

abbrev pub under_way : Answer
under_way = record { kind = UnderWay; value = 0 }

abbrev pub yes : ℕ → Answer
yes p = record { kind = Yes; value = p }

abbrev pub no : Answer
no = record { kind = No; value = 0 }

abbrev pub tidied : ℕ → Answer
tidied n = record { kind = Tidied; value = n }

abbrev pub refused : Reason → Answer
refused w = record { kind = Refused; value = number w }
