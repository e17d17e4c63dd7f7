-- What becomes of an unlinked cell that is offered to a reclaimer.
use Rattle.std.specs.Prelude.{ℕ, Some, None, Ok, Err, Option, Result}
use Rattle.reclaim.specs.declared.refusal.Refusal.{Refusal}
use Rattle.reclaim.specs.declared.unlinked.Unlinked.{Unlinked}
use Rattle.reclaim.specs.declared.unlinked.Unpaid.{Unpaid}
use Rattle.reclaim.specs.Model.{Model, owed, retire_answer}

abbrev refusal : Result (Unit {0}) Unpaid → Option Refusal
refusal (Ok done) = None
refusal (Err unpaid) = Some unpaid.why

-- why the taker refuses the token of a cell that the maker can make one of
abbrev offered_token : {S : Type 0} → Model S → S → Option Unlinked → Option Refusal
offered_token m taker None = None
offered_token m taker (Some debt) = refusal (retire_answer m taker debt)

abbrev pub why_refused : {S : Type 0} → Model S → S → S → ℕ → Option Refusal
why_refused m maker taker cell = offered_token m taker (owed m maker cell)
