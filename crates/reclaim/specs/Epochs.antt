-- Epochs: a session inside lags behind by the advances since it entered, and a held cell has the age of the advances since it was retired.
use Rattle.std.specs.Prelude.{◌≡◌, ℕ, zero, suc, ◌+◌, ◌-◌, Bool, true, false, cond, not, ◌&&◌, List, [], ◌∷◌, map, is_some, Some, None, Option, ◌==◌, nat_le, nat_lt, slice_index_or}
use Rattle.std.specs.List.{list_all}
use Rattle.reclaim.specs.declared.held.HeldCell.{HeldCell}
use Rattle.reclaim.specs.Model.{Model}
use Rattle.reclaim.specs.Table.{Table, Scheme, put, with_held, hold, model}

-- the place of a session is its lag while it is inside, and the note of a held cell its age
abbrev pub Lag : Type 0
Lag = Option ℕ

abbrev pub Aged : Type 0
Aged = HeldCell ℕ

abbrev pub LagTable : Type 0
LagTable = Table Lag ℕ

-- the age of the oldest held cell, and 2 where nothing is held
abbrev pub first_age : List Aged → ℕ
first_age [] = 2
first_age (h ∷ hs) = h.note

-- not a session inside with lag 1
abbrev pub may_advance : Lag → Bool
may_advance None = true
may_advance (Some lag) = not (lag == 1)

-- a cell is held, the oldest has an age below 2, and no session inside has lag 1
abbrev pub ready : LagTable → Bool
ready t = nat_lt (first_age t.held) 2 && list_all may_advance t.places

abbrev pub later : Lag → Lag
later None = None
later (Some lag) = Some (lag + 1)

abbrev pub older : Aged → Aged
older h = record { cell = h.cell; note = h.note + 1 }

-- an advance adds 1 to every lag and every age
abbrev pub advance : LagTable → LagTable
advance t = record { sessions = t.sessions; cells = t.cells; places = map later t.places; held = map older t.held }

-- at most n advances, each while the table is ready
abbrev pub settle : ℕ → LagTable → LagTable
settle zero t = t
settle (suc n) t = cond (ready t) (settle n (advance t)) t

-- all of them: each adds 1 to an age that is below 2
abbrev pub settled : LagTable → LagTable
settled t = settle (2 - first_age t.held) t

-- the oldest cell if its age is n, and the others
abbrev pub ripe : ℕ → List Aged → Option ℕ
ripe n [] = None
ripe n (h ∷ hs) = cond (h.note == n) (Some h.cell) None

abbrev pub without_ripe : ℕ → List Aged → List Aged
without_ripe n [] = []
without_ripe n (h ∷ hs) = cond (h.note == n) hs (h ∷ hs)

abbrev pub gives : ℕ → LagTable → LagTable
gives n t = with_held t (without_ripe n t.held)

-- a held cell is kept while its age is at most the lag
abbrev pub within : Lag → ℕ → Bool
within None age = false
within (Some lag) age = nat_le age lag

abbrev pub low : Lag → Bool
low None = true
low (Some lag) = nat_le lag 1

abbrev pub Low : List Lag → Type 0
Low lags = (s : ℕ) → low (slice_index_or lags s None) ≡ true

-- no age is above n or above that of an older cell
abbrev pub aging : ℕ → List Aged → Bool
aging n [] = true
aging n (h ∷ hs) = nat_le h.note n && aging h.note hs

-- the age of the newest held cell, and 2 where nothing is held
abbrev pub youngest : List Aged → ℕ
youngest [] = 2
youngest (h ∷ []) = h.note
youngest (h ∷ (k ∷ hs)) = youngest (k ∷ hs)

abbrev pub scheme : Scheme Lag ℕ
scheme = record {
  beyond = None;
  inside = is_some;
  names = λ lag i c. is_some lag;
  keeps = λ s lag age. within lag age;
  good = λ t. Low t.places × (aging 2 t.held ≡ true);
  enters = λ t s. put t s (Some 0);
  leaves = λ t s. put t s None;
  protects = λ t s i c. t;
  retires = λ t c. hold t c 0;
  picks = λ t. ripe 2 (settled t).held;
  collects = λ t. gives 2 (settled t);
}

abbrev pub epochs : Model LagTable
epochs = model scheme
