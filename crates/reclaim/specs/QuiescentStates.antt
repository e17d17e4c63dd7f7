-- Quiescent states: a held cell waits until every session has left that was inside when it was retired.
use Rattle.std.specs.Prelude.{◌≡◌, ℕ, Bool, true, false, not, List, map, length, ◌==◌, slice_index_or, slice_set}
use Rattle.std.specs.List.{list_all}
use Rattle.reclaim.specs.declared.held.HeldCell.{HeldCell}
use Rattle.reclaim.specs.Cells.{has_with, oldest, without, cell_of}
use Rattle.reclaim.specs.Model.{Model}
use Rattle.reclaim.specs.Table.{Table, Scheme, cell, put, with_held, hold, model}

abbrev pub is_inside : Bool → Bool
is_inside b = b

-- the note of a held cell is the record of those who have not left since, by session
abbrev pub Waiting : Type 0
Waiting = HeldCell (List Bool)

abbrev pub RecordTable : Type 0
RecordTable = Table Bool (List Bool)

-- the record is not empty
abbrev pub waits : Waiting → Bool
waits h = not (list_all not h.note)

abbrev pub recorded : ℕ → Waiting → Bool
recorded s h = slice_index_or h.note s false

-- session s goes out of the record
abbrev pub strike : ℕ → Waiting → Waiting
strike s h = record { cell = h.cell; note = slice_set h.note s false }

-- who is in a record is inside
abbrev pub InsideStill : List Bool → List Waiting → Type 0
InsideStill bs hs = (c s : ℕ) → has_with cell (recorded s) hs c ≡ true → slice_index_or bs s false ≡ true

-- a record has a place for every session
abbrev pub full : Waiting → Bool
full h = length h.note == 8

abbrev pub scheme : Scheme Bool (List Bool)
scheme = record {
  beyond = false;
  inside = is_inside;
  names = λ b i c. b;
  keeps = λ s b users. slice_index_or users s false;
  good = λ t. InsideStill t.places t.held × (list_all full t.held ≡ true);
  enters = λ t s. put t s true;
  leaves = λ t s. with_held (put t s false) (map (strike s) t.held);
  protects = λ t s i c. t;
  retires = λ t c. hold t c t.places;
  picks = λ t. cell_of cell (oldest waits t.held);
  collects = λ t. with_held t (without waits t.held);
}

abbrev pub quiescent : Model RecordTable
quiescent = model scheme
