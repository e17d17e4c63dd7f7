-- Opening a board, and opening one to run words.
use Rattle.std.specs.Prelude.{◌≡◌, ℕ, zero, suc, Bool, false, cond, ◌||◌, ltb, List, length, Ok, Err, Result, ◌==◌, nat_lt}
use Rattle.std.specs.declared.cmp.Ordering.{Ordering}
use Rattle.reclaim.specs.Model.{Model}
use Rattle.machine.specs.declared.answer.Answer.{Answer}
use Rattle.machine.specs.declared.answer.Reason.{Reason}
use Rattle.machine.specs.declared.answer.Reason.TheVariants as reason
use Rattle.machine.specs.Laws.{Promise, Openable, Came}
use Rattle.machine.specs.Machine.{opened}
use Rattle.machine.specs.Serial.{with_none, value_at, compared}
use Rattle.board.specs.declared.board.Board.{Board}
use Rattle.board.specs.declared.open.Unopened.{Unopened}
use Rattle.board.specs.Runs.{Run, running}
use Rattle.board.specs.View.{view}

-- a session below n is inside
abbrev pub inside_below : {S : Type 0} → Model S → S → ℕ → Bool
inside_below M x zero = false
inside_below M x (suc n) = inside_below M x n || M.inside x n

abbrev pub bad_sizes : {S : Type 0} → Model S → S → ℕ → Bool
bad_sizes M x items =
    (M.sessions x == 0) || (nat_lt 8 (M.sessions x) || (M.cells x == 0 || (nat_lt 256 (M.cells x) || nat_lt 1024 items)))

abbrev pub in_use : {S : Type 0} → Model S → S → Bool
in_use M x = nat_lt 0 (M.count x) || inside_below M x 8

-- not opened: the first of the reasons, and the same reclaimer
abbrev pub refused : {R : Type 0} → R → Reason → Unopened R
refused r why = record { why = why; reclaimer = r }

abbrev pub Opened : {R S : Type 0} → Model S → (R → S) → R → ℕ → Result (Board R) (Unopened R) → Type 0
Opened M st r items (Ok b) =
    (bad_sizes M (st r) items ≡ false) × (in_use M (st r) ≡ false) × (view st b ≡ opened M (st r) items) × Openable M (st r)
Opened M st r items (Err e) =
    e ≡ cond (bad_sizes M (st r) items) (refused r reason.Sizes) (cond (in_use M (st r)) (refused r reason.InUse) (refused r reason.Memory))

-- a run on a newly opened board
abbrev pub first_run : {S I V : Type 0} → Model S → (V → V → Ordering) → (I → V) → S → List I → List ℕ → List Answer → Run S
first_run M cmp value x items words out = running M (compared cmp value items) (length items) (opened M x (length items)) words out

-- a board opened over the reclaimer has run the words, and the whole run keeps the promise
pub record Played {R S I V : Type 0} (M : Model S) (st : R → S) (cmp : V → V → Ordering) (value : I → V) (r : R) (items : List I) (words : List ℕ) (out : List Answer) (b : Board R) : Type 0 where
  pub enough : ltb (length out) (length words) ≡ false
  pub after : view st b ≡ (first_run M cmp value (st r) items words out).after
  pub came : Came M cmp value items (view st b) (first_run M cmp value (st r) items words out).seen
  pub promise : Promise M (with_none cmp) (value_at value items) (length items) (view st b) (first_run M cmp value (st r) items words out).seen

-- not played: too few answers for the words, or not opened
abbrev pub NotPlayed : {R S : Type 0} → Model S → (R → S) → R → ℕ → List ℕ → List Answer → Unopened R → Type 0
NotPlayed M st r items words out e =
    e ≡ cond (nat_lt (length out) (length words)) (refused r reason.ShortAnswers)
    (cond (bad_sizes M (st r) items) (refused r reason.Sizes) (cond (in_use M (st r)) (refused r reason.InUse) (refused r reason.Memory)))

-- the board and the answers of an opening with a run; or why there was none, with the answers untouched
abbrev pub PlayedAs : {R S I V : Type 0} → Model S → (R → S) → (V → V → Ordering) → (I → V) → R → List I → List ℕ → List Answer → List Answer → Result (Board R) (Unopened R) → Type 0
PlayedAs M st cmp value r items words out next (Ok b) = Played M st cmp value r items words out b × (next ≡ (first_run M cmp value (st r) items words out).written)
PlayedAs M st cmp value r items words out next (Err e) = NotPlayed M st r (length items) words out e × (next ≡ out)
