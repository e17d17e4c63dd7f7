-- The calls: a run over the scheme asked for, and the call on numbers.
use Rattle.std.specs.Prelude.{ℕ, false, cond, ◌⊎◌, List, length, None, Ok, Err, Result}
use Rattle.std.specs.declared.cmp.Ordering.{Ordering}
use Rattle.items.specs.Orders.{order_numbers}
use Rattle.reclaim.specs.Checks.{sizes_fit}
use Rattle.reclaim.specs.Epochs.{epochs}
use Rattle.reclaim.specs.HazardPointers.{hazard, empty_row}
use Rattle.reclaim.specs.Model.{Model}
use Rattle.reclaim.specs.QuiescentStates.{quiescent}
use Rattle.reclaim.specs.Refusals.{unmade_number}
use Rattle.reclaim.specs.Table.{new as new_table}
use Rattle.reclaim.specs.declared.refusal.Unmade.{Unmade}
use Rattle.board.specs.Opens.{bad_sizes, in_use}
use Rattle.slotlock_c.specs.declared.record.AnswerRecord.{AnswerRecord}
use Rattle.slotlock_c.specs.declared.report.Report.{Report}
use Rattle.reclaim.specs.declared.scheme.NoScheme.{NoScheme}
use Rattle.reclaim.specs.declared.scheme.Scheme.{Scheme}
use Rattle.reclaim.specs.declared.scheme.Scheme.TheVariants.{Hazard, Epoch, Quiescent}
use Rattle.slotlock_c.specs.Reports.{Played, Refused, Reported, first_of}
use Rattle.reclaim.specs.Schemes.{scheme_numbered}

-- why no board was opened over a reclaimer in this state
abbrev pub unopened : {S : Type 0} → Model S → S → ℕ → ℕ
unopened M x items = cond (bad_sizes M x items) 3 (cond (in_use M x) 24 2)

-- a run over a reclaimer in the state x, with records and items in number
abbrev pub RunOn : {S I V : Type 0} → Model S → (V → V → Ordering) → (I → V) → S → List I → List ℕ → List AnswerRecord → List AnswerRecord → Report → Type 0
RunOn M cmp value x items words old new said = Played M cmp value x items words old new said ⊎ Refused (unopened M x (length items)) old new said

-- a run over any reclaimer, or for want of one
abbrev pub RunOver : {R S I V : Type 0} → Model S → (R → S) → (V → V → Ordering) → (I → V) → Result R Unmade → List I → List ℕ → List AnswerRecord → List AnswerRecord → Report → Type 0
RunOver M st cmp value (Ok r) items words old new said =
    Played M cmp value (st r) items words old new said
    ⊎ Refused (first_of (length words) (length old) (length items) (unopened M (st r) (length items))) old new said
RunOver M st cmp value (Err e) items words old new said = Refused (first_of (length words) (length old) (length items) (unmade_number e)) old new said

-- a run over a new reclaimer of the scheme; 1 where there is no such scheme
abbrev pub ReportedBy : {I V : Type 0} → Result Scheme NoScheme → (sessions cells : ℕ) → (V → V → Ordering) → (I → V) → List I → List ℕ → List AnswerRecord → List AnswerRecord → Report → Type 0
ReportedBy (Err e) s c cmp value items words old new said = Refused 1 old new said
ReportedBy (Ok Hazard) s c cmp value items words old new said = Reported hazard cmp value (new_table (empty_row false) s c) (sizes_fit s c) items words old new said
ReportedBy (Ok Epoch) s c cmp value items words old new said = Reported epochs cmp value (new_table None s c) (sizes_fit s c) items words old new said
ReportedBy (Ok Quiescent) s c cmp value items words old new said = Reported quiescent cmp value (new_table false s c) (sizes_fit s c) items words old new said

abbrev pub NumbersPlayed : (scheme sessions cells : ℕ) (items words : List ℕ) → List AnswerRecord → List AnswerRecord → Report → Type 0
NumbersPlayed scheme s c items words old new said = ReportedBy (scheme_numbered scheme) s c order_numbers (λ x. x) items words old new said
