-- What the schemes share: a table with a place for each session and the held cells, oldest first, and the model over it.
use Rattle.std.specs.Prelude.{◌≡◌, ℕ, ◌≤◌, Bool, true, false, cond, ◌&&◌, List, [], ◌∷◌, ◌++◌, length, replicate, Option, nat_lt, slice_index_or, slice_set}
use Rattle.reclaim.specs.declared.held.HeldCell.{HeldCell}
use Rattle.reclaim.specs.Cells.{has, has_with, distinct, all_below}
use Rattle.reclaim.specs.Model.{Model}

-- P is what the table says of a session, N what it notes of a held cell
pub record Table (P N : Type 0) : Type 0 where
  pub sessions : ℕ
  pub cells : ℕ
  pub places : List P
  pub held : List (HeldCell N)

abbrev pub cell : {N : Type 0} → HeldCell N → ℕ
cell h = h.cell

-- A scheme: what a place means, what its slots name and keep, and what each call does to the table.
pub record Scheme (P N : Type 0) : Type 1 where
  pub beyond : P
  pub inside : P → Bool
  pub names : (place : P) (slot cell : ℕ) → Bool
  pub keeps : (session : ℕ) (place : P) (note : N) → Bool
  pub good : Table P N → Type 0
  pub enters : Table P N → (session : ℕ) → Table P N
  pub leaves : Table P N → (session : ℕ) → Table P N
  pub protects : Table P N → (session slot cell : ℕ) → Table P N
  pub retires : Table P N → (cell : ℕ) → Table P N
  pub picks : Table P N → Option ℕ
  pub collects : Table P N → Table P N

-- a table with nobody inside that holds nothing
abbrev pub new : {P N : Type 0} → P → (sessions cells : ℕ) → Table P N
new outside sessions cells = record { sessions = sessions; cells = cells; places = replicate 8 outside; held = [] }

-- the place of session s becomes p
abbrev pub put : {P N : Type 0} → Table P N → ℕ → P → Table P N
put t s p = record { sessions = t.sessions; cells = t.cells; places = slice_set t.places s p; held = t.held }

-- the held cells become hs
abbrev pub with_held : {P N : Type 0} → Table P N → List (HeldCell N) → Table P N
with_held t hs = record { sessions = t.sessions; cells = t.cells; places = t.places; held = hs }

-- c is held too, as the newest, with the note n
abbrev pub hold : {P N : Type 0} → Table P N → ℕ → N → Table P N
hold t c n = with_held t (t.held ++ record { cell = c; note = n } ∷ [])

-- the held cells after c was retired with the note n: a refused call changes nothing
abbrev pub held_after : {N : Type 0} → (cells : ℕ) → List (HeldCell N) → (c : ℕ) → N → List (HeldCell N)
held_after cells hs c n = cond (nat_lt c cells) (cond (has cell hs c) hs (hs ++ record { cell = c; note = n } ∷ [])) hs

-- nobody at or past the number of sessions is inside
abbrev pub NonePast : {P : Type 0} → (P → Bool) → P → ℕ → List P → Type 0
NonePast inside beyond sessions places = (s : ℕ) → sessions ≤ s → inside (slice_index_or places s beyond) ≡ false

-- a table that calls can lead to
pub record Fits {P N : Type 0} (sc : Scheme P N) (t : Table P N) : Type 0 where
  pub few : t.sessions ≤ 8
  pub eight : length t.places ≡ 8
  pub past : NonePast sc.inside sc.beyond t.sessions t.places
  pub below : all_below cell t.cells t.held ≡ true
  pub apart : distinct cell t.held ≡ true
  pub more : sc.good t

abbrev pub at : {P N : Type 0} → Scheme P N → Table P N → ℕ → P
at sc t s = slice_index_or t.places s sc.beyond

-- a slot keeps a held cell that it names and that its session keeps
abbrev pub model : {P N : Type 0} → Scheme P N → Model (Table P N)
model sc = record {
  good = Fits sc;
  sessions = λ t. t.sessions;
  cells = λ t. t.cells;
  inside = λ t s. sc.inside (at sc t s);
  held = λ t c. has cell t.held c;
  count = λ t. length t.held;
  names = λ t s i c. sc.names (at sc t s) i c;
  keeps = λ t s i c. sc.names (at sc t s) i c && has_with cell (λ h. sc.keeps s (at sc t s) h.note) t.held c;
  enters = sc.enters;
  leaves = sc.leaves;
  protects = sc.protects;
  retires = sc.retires;
  picks = sc.picks;
  collects = sc.collects;
}
