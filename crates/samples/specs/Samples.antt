-- Sample schedules with what they answer, by the definitions that the contracts of board, reclaimers and orders use.
use Rattle.std.specs.Prelude.{◌≡◌, ℕ, ◌+◌, ◌*◌, ◌^◌, false, List, [], ◌∷◌, ◌++◌, length, replicate, Some, None, Option}
use Rattle.std.specs.declared.cmp.Ordering.TheVariants.{Less}
use Rattle.std.specs.declared.cmp.Ordering.{Ordering}
use Rattle.items.specs.Orders.{order_numbers, order_bytes}
use Rattle.reclaim.specs.Model.{Model, after_enter, after_protect, after_retire}
use Rattle.reclaim.specs.HazardPointers as hazard
use Rattle.reclaim.specs.Epochs as epoch
use Rattle.reclaim.specs.QuiescentStates as quiescent
use Rattle.reclaim.specs.Table.{new}
use Rattle.machine.specs.declared.answer.Answer.{Answer}
use Rattle.machine.specs.declared.answer.Reason.TheVariants.{NoCell}
use Rattle.machine.specs.declared.stage.Stage.{Stage}
use Rattle.machine.specs.declared.stage.Stage.TheVariants.{PushReadHead}
use Rattle.machine.specs.Answers.{under_way, yes, refused}
use Rattle.machine.specs.Serial.{compared}
use Rattle.machine.specs.Machine.{Ran, ran, opened}

pub data Scheme : Type 0 where
  hazard_pointers : Scheme
  epochs : Scheme
  quiescent_states : Scheme

pub data Call : Type 0 where
  enters : ℕ → Call
  protects : ℕ → ℕ → ℕ → Call
  retires : ℕ → Call
  collects : Call

pub data Sample : Type 0 where
  -- a new board with so many sessions and cells, its items and its words: the answers
  answers : Scheme → ℕ → ℕ → List ℕ → List ℕ → List Answer → Sample
  -- the same: where a session stands after the words
  stands : Scheme → ℕ → ℕ → List ℕ → List ℕ → ℕ → Stage → Sample
  -- two byte strings: how they compare
  compares : List ℕ → List ℕ → Ordering → Sample
  -- a new reclaimer and calls: what the collects among them answer
  gives : Scheme → ℕ → ℕ → List Call → List (Option ℕ) → Sample

abbrev pub board_run : {S : Type 0} → Model S → S → List ℕ → List ℕ → Ran S
board_run M x items words = ran M (compared order_numbers (λ i. i) items) (length items) (opened M x (length items)) words

abbrev pub given : {S : Type 0} → Model S → S → List Call → List (Option ℕ)
given M x [] = []
given M x (enters s ∷ calls) = given M (after_enter M x s) calls
given M x (protects s i c ∷ calls) = given M (after_protect M x s i c) calls
given M x (retires c ∷ calls) = given M (after_retire M x c) calls
given M x (collects ∷ calls) = M.picks x ∷ given M (M.collects x) calls

abbrev pub Holds : Sample → Type 0
Holds (answers hazard_pointers s c items words out) = (board_run hazard.hazard (new (hazard.empty_row false) s c) items words).answers ≡ out
Holds (answers epochs s c items words out) = (board_run epoch.epochs (new None s c) items words).answers ≡ out
Holds (answers quiescent_states s c items words out) = (board_run quiescent.quiescent (new false s c) items words).answers ≡ out
Holds (stands hazard_pointers s c items words t g) = (board_run hazard.hazard (new (hazard.empty_row false) s c) items words).after.stage t ≡ g
Holds (stands epochs s c items words t g) = (board_run epoch.epochs (new None s c) items words).after.stage t ≡ g
Holds (stands quiescent_states s c items words t g) = (board_run quiescent.quiescent (new false s c) items words).after.stage t ≡ g
Holds (compares x y o) = order_bytes x y ≡ o
Holds (gives hazard_pointers s c calls out) = given hazard.hazard (new (hazard.empty_row false) s c) calls ≡ out
Holds (gives epochs s c calls out) = given epoch.epochs (new None s c) calls ≡ out
Holds (gives quiescent_states s c calls out) = given quiescent.quiescent (new false s c) calls ≡ out

abbrev pub AllHold : List Sample → Type 0
AllHold [] = Unit {0}
AllHold (x ∷ xs) = Holds x × AllHold xs

-- words: the kind, then the session, then the place
abbrev pub step : ℕ → ℕ
step s = s * 2 ^ 24

abbrev pub insert : ℕ → ℕ → ℕ
insert s p = 1 * 2 ^ 29 + s * 2 ^ 24 + p

abbrev pub delete : ℕ → ℕ → ℕ
delete s p = 2 * 2 ^ 29 + s * 2 ^ 24 + p

abbrev pub push : ℕ → ℕ → ℕ
push s p = 4 * 2 ^ 29 + s * 2 ^ 24 + p

abbrev pub pop : ℕ → ℕ
pop s = 5 * 2 ^ 29 + s * 2 ^ 24

-- n times under way, then this
abbrev pub after_steps : ℕ → Answer → List Answer
after_steps n a = replicate n under_way ++ a ∷ []

-- session 0 pushes places 0 and 1 and takes a pop as far as reading its top; session 1 pops twice and begins a push
abbrev pub stalled_pop : List ℕ
stalled_pop =
    push 0 0 ∷ replicate 2 (step 0) ++ push 0 1 ∷ replicate 2 (step 0) ++ pop 0 ∷ replicate 4 (step 0)
    ++ pop 1 ∷ replicate 5 (step 1) ++ pop 1 ∷ replicate 5 (step 1) ++ push 1 2 ∷ []

abbrev pub stalled_answers : List Answer
stalled_answers =
    after_steps 2 (yes 0) ++ after_steps 2 (yes 0) ++ replicate 5 under_way ++ after_steps 5 (yes 1) ++ after_steps 5 (yes 0)

-- one cell: insert, delete and insert, each to its end
abbrev pub one_cell : List ℕ
one_cell = insert 0 0 ∷ replicate 2 (step 0) ++ delete 0 0 ∷ replicate 8 (step 0) ++ insert 0 0 ∷ replicate 2 (step 0)

abbrev pub one_cell_answers : List Answer
one_cell_answers = after_steps 2 (yes 0) ++ after_steps 8 (yes 0) ++ after_steps 2 (yes 0)

abbrev pub samples : List Sample
samples =
    -- an insert on an empty list
    answers hazard_pointers 1 1 (7 ∷ []) (insert 0 0 ∷ step 0 ∷ step 0 ∷ []) (under_way ∷ under_way ∷ yes 0 ∷ [])
    -- hazard pointers: the push gets cell 0, and when it has ended the stalled swap fails
    ∷ stands hazard_pointers 2 2 (7 ∷ 9 ∷ 8 ∷ []) stalled_pop 1 (PushReadHead 0)
    ∷ answers hazard_pointers 2 2 (7 ∷ 9 ∷ 8 ∷ []) (stalled_pop ++ step 1 ∷ step 1 ∷ step 0 ∷ [])
    (stalled_answers ++ under_way ∷ under_way ∷ yes 0 ∷ under_way ∷ [])
    -- epochs and quiescent states refuse the push
    ∷ answers epochs 2 2 (7 ∷ 9 ∷ 8 ∷ []) stalled_pop (stalled_answers ++ refused NoCell ∷ [])
    ∷ answers quiescent_states 2 2 (7 ∷ 9 ∷ 8 ∷ []) stalled_pop (stalled_answers ++ refused NoCell ∷ [])
    -- byte strings: the empty one before A, AB before ABC, byte 7F before 80
    ∷ compares [] (0x41 ∷ []) Less
    ∷ compares (0x41 ∷ 0x42 ∷ []) (0x41 ∷ 0x42 ∷ 0x43 ∷ []) Less
    ∷ compares (0x7F ∷ []) (0x80 ∷ []) Less
    -- epochs, nobody inside: one collect gives the one cell held
    ∷ gives epochs 8 256 (retires 200 ∷ collects ∷ []) (Some 200 ∷ [])
    -- hazard pointers: of the cells 4 and 5 the unnamed one is given, then none
    ∷ gives hazard_pointers 1 6 (enters 0 ∷ protects 0 0 4 ∷ retires 4 ∷ retires 5 ∷ collects ∷ collects ∷ []) (Some 5 ∷ None ∷ [])
    -- one cell is enough for an insert, a delete and an insert
    ∷ answers hazard_pointers 1 1 (7 ∷ []) one_cell one_cell_answers
    ∷ answers epochs 1 1 (7 ∷ []) one_cell one_cell_answers
    ∷ answers quiescent_states 1 1 (7 ∷ []) one_cell one_cell_answers
    ∷ []
