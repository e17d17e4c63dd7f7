-- What a call says and writes: of a run that was done, or why there was none.
use Rattle.std.specs.Prelude.{◌≡◌, ℕ, ◌≤◌, Bool, true, cond, ◌⊎◌, List, ◌++◌, map, length, drop, nat_lt}
use Rattle.std.specs.declared.cmp.Ordering.{Ordering}
use Rattle.reclaim.specs.Model.{Model}
use Rattle.machine.specs.Laws.{Promise}
use Rattle.machine.specs.Machine.{Machine, Ran, ran, opened}
use Rattle.machine.specs.Serial.{with_none, value_at, compared}
use Rattle.slotlock_c.specs.declared.record.AnswerRecord.{AnswerRecord}
use Rattle.slotlock_c.specs.declared.report.Report.{Report}
use Rattle.slotlock_c.specs.Records.{as_record}

abbrev pub refusal : ℕ → Report
refusal n = record { error = n; held = 0; free = 0; words = 0 }

-- the report of a board after so many words
abbrev pub done : {S : Type 0} → Model S → Machine S → ℕ → Report
done M m n = record { error = 0; held = M.count m.memory.reclaimer; free = length m.memory.free; words = n }

-- the run of the words on a board that was just opened over a reclaimer in the state x
abbrev pub run_on : {S I V : Type 0} → Model S → (V → V → Ordering) → (I → V) → S → List I → List ℕ → Ran S
run_on M cmp value x items words = ran M (compared cmp value items) (length items) (opened M x (length items)) words

-- the run was done: its report, the records of its answers before the rest of the old ones, and the promise
pub record Played {S I V : Type 0} (M : Model S) (cmp : V → V → Ordering) (value : I → V) (x : S) (items : List I) (words : List ℕ) (old new : List AnswerRecord) (said : Report) : Type 0 where
  pub enough : length words ≤ length old
  pub few : length items ≤ 1024
  pub report : said ≡ done M (run_on M cmp value x items words).after (length words)
  pub written : new ≡ map as_record (run_on M cmp value x items words).answers ++ drop (length words) old
  pub promise : Promise M (with_none cmp) (value_at value items) (length items) (run_on M cmp value x items words).after (run_on M cmp value x items words).seen

-- nothing was done, for the reason of this number
pub record Refused (n : ℕ) (old new : List AnswerRecord) (said : Report) : Type 0 where
  pub report : said ≡ refusal n
  pub untouched : new ≡ old

-- the first check that fails: enough records, few items, and then what is last
abbrev pub first_of : (words records items last : ℕ) → ℕ
first_of words records items last = cond (nat_lt records words) 10 (cond (nat_lt 1024 items) 3 last)

-- done; or refused by the first check that fails, where with sizes that fit there was no memory
abbrev pub Reported : {S I V : Type 0} → Model S → (V → V → Ordering) → (I → V) → S → (fit : Bool) → List I → List ℕ → List AnswerRecord → List AnswerRecord → Report → Type 0
Reported M cmp value x fit items words old new said =
    ((fit ≡ true) × Played M cmp value x items words old new said)
    ⊎ Refused (first_of (length words) (length old) (length items) (cond fit 2 3)) old new said
