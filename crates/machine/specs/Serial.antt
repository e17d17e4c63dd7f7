-- The serial machine: a set of items and a stack of places, one operation after another.
use Rattle.std.specs.Prelude.{ℕ, zero, suc, ◌+◌, Bool, true, false, List, [], ◌∷◌, length, Some, None, Option}
use Rattle.std.specs.declared.cmp.Ordering.TheVariants.{Less, Equal, Greater}
use Rattle.std.specs.declared.cmp.Ordering.{Ordering}
use Rattle.machine.specs.declared.word.Op.{Op}
use Rattle.machine.specs.declared.word.Op.TheVariants.{Insert, Delete, Contains, Push, Pop}
use Rattle.machine.specs.declared.answer.Answer.{Answer}
use Rattle.machine.specs.Answers.{yes, no}

abbrev pub by3 : {X : Type 0} → Ordering → X → X → X → X
by3 Less a b c = a
by3 Equal a b c = b
by3 Greater a b c = c

module _ {V : Type 0} (cmp : V → V → Ordering) where
  unfoldable pub member : V → List V → Bool
  member k [] = false
  member k (x ∷ l) = by3 (cmp k x) false true (member k l)

  unfoldable pub added : V → List V → List V
  added k [] = k ∷ []
  added k (x ∷ l) = by3 (cmp k x) (k ∷ x ∷ l) (x ∷ l) (x ∷ added k l)

  unfoldable pub removed : V → List V → List V
  removed k [] = []
  removed k (x ∷ l) = by3 (cmp k x) (x ∷ l) l (x ∷ removed k l)

  -- the order with one value more, before all others: a place past the items has it
  abbrev pub with_none : Option V → Option V → Ordering
  with_none None None = Equal
  with_none None (Some y) = Less
  with_none (Some x) None = Greater
  with_none (Some x) (Some y) = cmp x y

-- the value of the item at a place
abbrev pub value_at : {I V : Type 0} → (I → V) → List I → ℕ → Option V
value_at value [] p = None
value_at value (x ∷ xs) zero = Some (value x)
value_at value (x ∷ xs) (suc p) = value_at value xs p

-- how the items at two places compare
abbrev pub compared : {I V : Type 0} → (V → V → Ordering) → (I → V) → List I → ℕ → ℕ → Ordering
compared cmp value xs a b = with_none cmp (value_at value xs a) (value_at value xs b)

-- the serial machine: a set, as its items in order, and a stack of places
pub record Serial (V : Type 0) : Type 0 where
  pub set : List V
  pub stack : List ℕ

abbrev pub pushed : {V : Type 0} → List V → List ℕ → Serial V
pushed x y = record { set = x; stack = y }

abbrev pub empty : {V : Type 0} → Serial V
empty = pushed [] []

abbrev pub popped : {V : Type 0} → List V → List ℕ → Serial V × Answer
popped x [] = (pushed x [], no)
popped x (v ∷ st) = (pushed x st, yes v)

module _ {V : Type 0} (cmp : V → V → Ordering) (val : ℕ → V) where
  abbrev pub inserted : Serial V → V → Bool → Serial V × Answer
  inserted z k true = (z, no)
  inserted z k false = (pushed (added cmp k z.set) z.stack, yes 0)

  abbrev pub deleted : Serial V → V → Bool → Serial V × Answer
  deleted z k true = (pushed (removed cmp k z.set) z.stack, yes 0)
  deleted z k false = (z, no)

  abbrev pub looked : Serial V → Bool → Serial V × Answer
  looked z true = (z, yes 0)
  looked z false = (z, no)

  abbrev pub serve : Op → Serial V → Serial V × Answer
  serve (Push p) z = (pushed z.set (p ∷ z.stack), yes 0)
  serve Pop z = popped z.set z.stack
  serve (Insert p) z = inserted z (val p) (member cmp (val p) z.set)
  serve (Delete p) z = deleted z (val p) (member cmp (val p) z.set)
  serve (Contains p) z = looked z (member cmp (val p) z.set)

  -- the answers to a list of operations, and what is left
  unfoldable pub serial_answers : Serial V → List Op → List Answer
  serial_answers z [] = []
  serial_answers z (op ∷ ops) = (serve op z).1 ∷ serial_answers (serve op z).0 ops

  unfoldable pub serial_after : Serial V → List Op → Serial V
  serial_after z [] = z
  serial_after z (op ∷ ops) = serial_after (serve op z).0 ops

-- the items of the set and the places of the stack, repeats too
abbrev pub members : {V : Type 0} → Serial V → ℕ
members z = length z.set + length z.stack
