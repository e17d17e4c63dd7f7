-- The promise over whole runs of words. A history is all that has been seen since the opening, oldest first.
use Rattle.std.specs.Prelude.{◌≡◌, ℕ, ◌≤◌, ◌⊎◌, ◌↔◌, List, [], ◌∷◌, ◌++◌, map, length, Some, None, Ok, Option, ◌≢◌}
use Rattle.std.specs.declared.cmp.Ordering.{Ordering}
use Rattle.reclaim.specs.Model.{Model, New}
use Rattle.machine.specs.declared.word.Op.{Op}
use Rattle.machine.specs.declared.word.Kind.TheVariants.{Begin}
use Rattle.machine.specs.declared.word.Word.TheVariants.{Of}
use Rattle.machine.specs.declared.answer.Answer.{Answer}
use Rattle.machine.specs.declared.answer.Reason.TheVariants as reason
use Rattle.machine.specs.Answers.{refused}
use Rattle.machine.specs.Words.{parsed}
use Rattle.machine.specs.Serial.{with_none, value_at, compared, empty, serial_answers, serial_after, members}
use Rattle.machine.specs.Machine.{Event, begins, touches, clears, gives, decides, completes, put, Adding, op_of, Machine, worded, ran, opened}

abbrev pub History : Type 0
History = List Event

abbrev pub Never : Event → History → Type 0
Never e [] = Unit {0}
Never e (f ∷ h) = (f ≢ e) × Never e h

abbrev pub Occurs : Event → History → Type 0
Occurs e h = (before : History) × (after : History) × (h ≡ before ++ e ∷ after)

-- the operation that s is in has cleared c, and c was not given back since
pub record Cleared (s c : ℕ) (h : History) : Type 0 where
  pub before : History
  pub since : History
  pub there : h ≡ before ++ clears s c ∷ since
  pub own : (op : Op) → Never (begins s op) since
  pub kept : Never (gives c) since

-- safe reuse: a cell is touched only by an operation that has cleared it, and not after it was given back
abbrev pub SafeReuse : History → Type 0
SafeReuse h = (before after : History) (s c : ℕ) → h ≡ before ++ touches s c ∷ after → Cleared s c before

-- nothing in h begins, decides or completes an operation of s
pub record Silent (s : ℕ) (h : History) : Type 0 where
  pub begun : (op : Op) → Never (begins s op) h
  pub decided : (a : Answer) → Never (decides s a) h
  pub completed : (a : Answer) → Never (completes s a) h

-- e is the last event of h that begins, decides or completes an operation of s
pub record Last (s : ℕ) (e : Event) (h : History) : Type 0 where
  pub before : History
  pub since : History
  pub there : h ≡ before ++ e ∷ since
  pub silent : Silent s since

-- each operation begins outside any other, is decided at most once before it completes, and completes with the answer decided
pub record OneDecision (h : History) : Type 0 where
  pub begun : (before after : History) (s : ℕ) (op : Op) → h ≡ before ++ begins s op ∷ after
      → Silent s before ⊎ ((a : Answer) × Last s (completes s a) before)
  pub decided : (before after : History) (s : ℕ) (a : Answer) → h ≡ before ++ decides s a ∷ after → (op : Op) × Last s (begins s op) before
  pub completed : (before after : History) (s : ℕ) (a : Answer) → h ≡ before ++ completes s a ∷ after → Last s (decides s a) before

-- the decided operations with their answers, in the order of their deciding steps; inside says which operation each session is in
abbrev pub decided_by : Option Op → Answer → List (Op × Answer) → List (Op × Answer)
decided_by None a ds = ds
decided_by (Some op) a ds = (op, a) ∷ ds

unfoldable pub decisions : (ℕ → Option Op) → History → List (Op × Answer)
decisions inside [] = []
decisions inside (begins s op ∷ h) = decisions (put inside s (Some op)) h
decisions inside (touches s c ∷ h) = decisions inside h
decisions inside (clears s c ∷ h) = decisions inside h
decisions inside (gives c ∷ h) = decisions inside h
decisions inside (decides s a ∷ h) = decided_by (inside s) a (decisions inside h)
decisions inside (completes s a ∷ h) = decisions inside h

abbrev pub decided_ops : History → List Op
decided_ops h = map (λ d. d.0) (decisions (λ s. None) h)

abbrev pub decided_answers : History → List Answer
decided_answers h = map (λ d. d.1) (decisions (λ s. None) h)

-- every operation that was begun has completed
abbrev pub NobodyInside : History → Type 0
NobodyInside h = (before after : History) (s : ℕ) (op : Op) → h ≡ before ++ begins s op ∷ after → (a : Answer) × Occurs (completes s a) after

-- what is promised of a board m with the history h, over a list of n items with these values
pub record Promise {State : Type 0} (M : Model State) {V : Type 0} (cmp : V → V → Ordering) (val : ℕ → V) (n : ℕ) (m : Machine State) (h : History) : Type 0 where
  pub safe_reuse : SafeReuse h
  pub one_decision : OneDecision h
  -- one serial order: the serial machine, fed the decided operations, gives their answers
  pub serial_order : serial_answers cmp val empty (decided_ops h) ≡ decided_answers h
  -- room: with nobody inside, a sound insert or push as the next word finds no cell exactly when every cell has a member
  pub room : NobodyInside h → (w s p : ℕ) (k : Adding) → parsed w m.sessions m.items ≡ Ok (Of s (Begin (op_of k p)))
      → ((worded M (λ a b. cmp (val a) (val b)) n m w).answer ≡ refused reason.NoCell)
      ↔ (members (serial_after cmp val empty (decided_ops h)) ≡ M.cells m.memory.reclaimer)

-- a reclaimer that a board may be opened over
pub record Openable {State : Type 0} (M : Model State) (x : State) : Type 0 where
  pub good : M.good x
  pub few_cells : M.cells x ≤ 256
  pub new : New M x

-- the board m came from an opening by words on these items, and h is its history
pub record Came {State I V : Type 0} (M : Model State) (cmp : V → V → Ordering) (value : I → V) (items : List I) (m : Machine State) (h : History) : Type 0 where
  pub first : State
  pub words : List ℕ
  pub openable : Openable M first
  pub stands : m ≡ (ran M (compared cmp value items) (length items) (opened M first (length items)) words).after
  pub saw : h ≡ (ran M (compared cmp value items) (length items) (opened M first (length items)) words).seen

-- this call's list is the board's own, or one of another length, with which every word is refused
abbrev pub FitsIn : {I : Type 0} → List I → List I → Type 0
FitsIn given items = (given ≡ items) ⊎ (length given ≢ length items)

-- a call with the list given takes the board from m to next and lets more be seen:
-- whatever the board's history on its own list, it goes on, and the promise holds of the whole of it
abbrev pub Carries : {State I V : Type 0} → Model State → (V → V → Ordering) → (I → V) → List I → Machine State → Machine State → History → Type 0
Carries {I = I} M cmp value given m next more =
    (items : List I) (h : History) → FitsIn given items → Came M cmp value items m h
    → Came M cmp value items next (h ++ more) × Promise M (with_none cmp) (value_at value items) (length items) next (h ++ more)

-- the promise of every run of words from an opening
abbrev pub KeptOverRuns : {State I V : Type 0} → Model State → (V → V → Ordering) → (I → V) → Type 0
KeptOverRuns {State} {I} M cmp value =
    (items : List I) (x : State) (ws : List ℕ) → Openable M x
    → Promise M (with_none cmp) (value_at value items) (length items)
    (ran M (compared cmp value items) (length items) (opened M x (length items)) ws).after
    (ran M (compared cmp value items) (length items) (opened M x (length items)) ws).seen
