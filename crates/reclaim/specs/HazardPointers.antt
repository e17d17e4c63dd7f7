-- Hazard pointers: a session inside stores cells in its three slots, and a held cell waits while a slot stores it.
use Rattle.std.specs.Prelude.{◌≡◌, ℕ, ◌<◌, Bool, true, false, List, [], ◌∷◌, length, get_or, Some, None, Option, ◌==◌, slice_index_or, slice_set}
use Rattle.std.specs.List.{list_any}
use Rattle.reclaim.specs.declared.held.HeldCell.{HeldCell}
use Rattle.reclaim.specs.declared.hazard.table.Row.{Row}
use Rattle.reclaim.specs.Cells.{oldest, without, cell_of}
use Rattle.reclaim.specs.Model.{Model}
use Rattle.reclaim.specs.Table.{Table, Scheme, cell, put, with_held, hold, model}

-- the place of a session is its row, and nothing is noted of a held cell
abbrev pub RowTable : Type 0
RowTable = Table Row (Unit {0})

abbrev pub is_inside : Row → Bool
is_inside r = r.inside

abbrev pub stores : Option ℕ → ℕ → Bool
stores None c = false
stores (Some d) c = d == c

-- some slot of a row stores c
abbrev pub row_stores : List (Option ℕ) → ℕ → Bool
row_stores os c = list_any (λ o. stores o c) os

-- some slot of some row stores c
abbrev pub rows_store : List Row → ℕ → Bool
rows_store rs c = list_any (λ (r : Row). row_stores r.slots c) rs

-- no slot of a row stores a cell
abbrev pub row_blank : List (Option ℕ) → Bool
row_blank [] = true
row_blank (None ∷ os) = row_blank os
row_blank (Some c ∷ os) = false

-- the row of a session that has stored nothing
abbrev pub empty_row : Bool → Row
empty_row inside = record { inside = inside; slots = None ∷ (None ∷ (None ∷ [])) }

-- what stands past the last row
abbrev pub no_row : Row
no_row = record { inside = false; slots = [] }

abbrev pub store : Row → ℕ → ℕ → Row
store r i c = record { inside = r.inside; slots = slice_set r.slots i (Some c) }

-- the slots of a session outside store nothing
abbrev pub Vacant : List Row → Type 0
Vacant rs = (s : ℕ) → (get_or rs s no_row).inside ≡ false → row_blank (get_or rs s no_row).slots ≡ true

abbrev pub ThreeSlots : List Row → Type 0
ThreeSlots rs = (s : ℕ) → s < length rs → length (get_or rs s no_row).slots ≡ 3

-- some slot stores the held cell
abbrev pub guarded : RowTable → HeldCell (Unit {0}) → Bool
guarded t h = rows_store t.places h.cell

abbrev pub scheme : Scheme Row (Unit {0})
scheme = record {
  beyond = no_row;
  inside = is_inside;
  names = λ r i c. stores (slice_index_or r.slots i None) c;
  keeps = λ s r n. true;
  good = λ t. Vacant t.places × ThreeSlots t.places;
  enters = λ t s. put t s (empty_row true);
  leaves = λ t s. put t s (empty_row false);
  protects = λ t s i c. put t s (store (slice_index_or t.places s no_row) i c);
  retires = λ t c. hold t c tt;
  picks = λ t. cell_of cell (oldest (guarded t) t.held);
  collects = λ t. with_held t (without (guarded t) t.held);
}

abbrev pub hazard : Model RowTable
hazard = model scheme
