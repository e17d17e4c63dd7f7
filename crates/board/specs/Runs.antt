-- A list of words with a list for the answers: refused for other items, then for too few answers; else done, the rest of the answers as it was.
use Rattle.std.specs.Prelude.{◌≡◌, ℕ, cond, List, [], ◌++◌, length, drop, Ok, Err, Result, ◌==◌, nat_lt}
use Rattle.std.specs.declared.cmp.Ordering.{Ordering}
use Rattle.reclaim.specs.Model.{Model}
use Rattle.machine.specs.declared.answer.Answer.{Answer}
use Rattle.machine.specs.declared.answer.Reason.{Reason}
use Rattle.machine.specs.declared.answer.Reason.TheVariants as reason
use Rattle.machine.specs.Machine.{Machine, Event, worded, ran}
use Rattle.machine.specs.Laws.{Carries}
use Rattle.machine.specs.Serial.{compared}

pub record Run (S : Type 0) : Type 0 where
  pub after : Machine S
  pub seen : List Event
  pub written : List Answer
  pub value : Result ℕ Reason

abbrev pub refuses : {S : Type 0} → Machine S → List Answer → Reason → Run S
refuses m out why = record { after = m; seen = []; written = out; value = Err why }

abbrev pub does : {S : Type 0} → Model S → (ℕ → ℕ → Ordering) → ℕ → Machine S → List ℕ → List Answer → Run S
does M cmp n m words out =
    record {
      after = (ran M cmp n m words).after;
      seen = (ran M cmp n m words).seen;
      written = (ran M cmp n m words).answers ++ drop (length words) out;
      value = Ok (length words);
    }

abbrev pub running : {S : Type 0} → Model S → (ℕ → ℕ → Ordering) → ℕ → Machine S → List ℕ → List Answer → Run S
running M cmp n m words out =
    cond (n == m.items)
    (cond (nat_lt (length out) (length words)) (refuses m out reason.ShortAnswers) (does M cmp n m words out))
    (refuses m out reason.OtherItems)

-- what a word call does: the board after it, its answer, and the promise
pub record WordDone {S I V : Type 0} (M : Model S) (cmp : V → V → Ordering) (value : I → V) (items : List I) (m : Machine S) (w : ℕ) (next : Machine S) (said : Answer) : Type 0 where
  pub after : next ≡ (worded M (compared cmp value items) (length items) m w).after
  pub answer : said ≡ (worded M (compared cmp value items) (length items) m w).answer
  pub promise : Carries M cmp value items m next (worded M (compared cmp value items) (length items) m w).seen

-- what a run call does: the board after it, the answers, what it says, and the promise
pub record RunDone {S I V : Type 0} (M : Model S) (cmp : V → V → Ordering) (value : I → V) (items : List I) (m : Machine S) (words : List ℕ) (out : List Answer) (next : Machine S) (written : List Answer) (said : Result ℕ Reason) : Type 0 where
  pub after : next ≡ (running M (compared cmp value items) (length items) m words out).after
  pub answers : written ≡ (running M (compared cmp value items) (length items) m words out).written
  pub count : said ≡ (running M (compared cmp value items) (length items) m words out).value
  pub promise : Carries M cmp value items m next (running M (compared cmp value items) (length items) m words out).seen
