-- The words that a schedule names: the number of each kind, its keyword, and the bits of a word. Assumes nothing.
use Rattle.std.specs.Prelude.{◌≡◌, ◌≢◌, ℕ, ◌+◌, ◌*◌, ◌%◌, ◌^◌, ◌<◌, List, codes, Result, Ok, Err}
use Rattle.machine.specs.declared.word.Op.TheVariants as op
use Rattle.machine.specs.declared.word.Kind.TheVariants as kind
use Rattle.machine.specs.declared.word.Word.{Word}
use Rattle.machine.specs.declared.word.Word.TheVariants as word
use Rattle.schedule.specs.declared.word.WordKind.{WordKind}
use Rattle.schedule.specs.declared.word.WordKind.TheVariants.{Step, Insert, Delete, Contains, Push, Pop, Tidy}
use Rattle.schedule.specs.declared.word.NoWordKind.{NoWordKind}

abbrev pub number_of : WordKind → ℕ
number_of Step = 0
number_of Insert = 1
number_of Delete = 2
number_of Contains = 3
number_of Push = 4
number_of Pop = 5
number_of Tidy = 6

-- the kind of this number, or that there is none
abbrev pub Numbered : ℕ → Result WordKind NoWordKind → Type 0
Numbered n (Ok k) = number_of k ≡ n
Numbered n (Err e) = (k : WordKind) → number_of k ≢ n

abbrev pub keyword : WordKind → List ℕ
keyword Step = codes "step"
keyword Insert = codes "insert"
keyword Delete = codes "delete"
keyword Contains = codes "contains"
keyword Push = codes "push"
keyword Pop = codes "pop"
keyword Tidy = codes "tidy"

-- the kind in the three top bits, the session in the next five, the place in the lowest sixteen
abbrev pub encoded : WordKind → ℕ → ℕ → ℕ
encoded k session place = number_of k * 2 ^ 29 + session % 2 ^ 5 * 2 ^ 24 + place

-- what a word of this kind asks of the machine
abbrev pub meant : WordKind → ℕ → ℕ → Word
meant Step s p = word.Of s kind.Step
meant Insert s p = word.Of s (kind.Begin (op.Insert p))
meant Delete s p = word.Of s (kind.Begin (op.Delete p))
meant Contains s p = word.Of s (kind.Begin (op.Contains p))
meant Push s p = word.Of s (kind.Begin (op.Push p))
meant Pop s p = word.Of s (kind.Begin op.Pop)
meant Tidy s p = word.Tidy

-- a session of its own, and a place among the items
abbrev pub ForItem : ℕ → ℕ → ℕ → ℕ → Type 0
ForItem s p sessions items = (s < sessions) × (s < 32) × (p < items) × (p < 2 ^ 16)

-- a session of its own, and no place
abbrev pub Plain : ℕ → ℕ → ℕ → Type 0
Plain s p sessions = (s < sessions) × (s < 32) × (p ≡ 0)

-- session and place are in range where the kind has them, else 0
abbrev pub Fitting : WordKind → ℕ → ℕ → ℕ → ℕ → Type 0
Fitting Step s p sessions items = Plain s p sessions
Fitting Insert s p sessions items = ForItem s p sessions items
Fitting Delete s p sessions items = ForItem s p sessions items
Fitting Contains s p sessions items = ForItem s p sessions items
Fitting Push s p sessions items = ForItem s p sessions items
Fitting Pop s p sessions items = Plain s p sessions
Fitting Tidy s p sessions items = (s ≡ 0) × (p ≡ 0)
