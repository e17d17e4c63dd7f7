-- An answer as a record: its letter and its value.
use Rattle.machine.specs.declared.answer.Answer.{Answer}
use Rattle.machine.specs.Codes.{letter}
use Rattle.slotlock_c.specs.declared.record.AnswerRecord.{AnswerRecord}

abbrev pub as_record : Answer → AnswerRecord
as_record a = record { letter = letter a.kind; value = a.value }
