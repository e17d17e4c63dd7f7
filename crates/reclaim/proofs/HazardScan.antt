-- The search of all slots for the oldest held cell that none stores.
use Rattle.std.proofs.Common.{◌≡◌, ℕ, ◌<◌, ◌≤◌, true, false, List, map, length, get_or, Some, None, sym, ap, ◌∙◌, ⊎_elim, arith}
use Rattle.std.specs.List.{remove}
use Rattle.std.proofs.lemmas.Bool.{cases_Bool, both_ways}
use Rattle.reclaim.specs.declared.held.HeldCell.{HeldCell}
use Rattle.reclaim.specs.declared.hazard.table.Row.{Row}
use Rattle.reclaim.specs.Cells.{oldest, without, cell_of}
use Rattle.reclaim.specs.Table.{cell, with_held}
use Rattle.reclaim.specs.HazardPointers.{RowTable, guarded, stores, rows_store, no_row}
use Rattle.reclaim.specs.CellLemmas.{found_at, none_at}
use Rattle.reclaim.specs.HazardLaws.{row_stored}

-- a slot that stores the cell
stored_by : (rs : List Row) (s i c : ℕ) → stores (get_or (get_or rs s no_row).slots i None) c ≡ true → rows_store rs c ≡ true
stored_by rs s i c h =
    ⊎_elim (λ (e : rows_store rs c ≡ true). e) (λ (e : rows_store rs c ≡ false). absurd (both_ways (stores (get_or (get_or rs s no_row).slots i None) c) (row_stored rs s i c e) h))
    (cases_Bool (rows_store rs c))

-- a slot that stores the cell that is looked at, which is x in the list
pub stored_at : (rs : List Row) (s i : ℕ) (x y : HeldCell (Unit {0})) → x ≡ y → true ≡ stores (get_or (get_or rs s no_row).slots i None) x.cell → rows_store rs y.cell ≡ true
stored_at rs s i x y e h = ap (λ (z : HeldCell (Unit {0})). rows_store rs z.cell) (sym e) ∙ stored_by rs s i x.cell (sym h)

module _ (t : RowTable) (d : HeldCell (Unit {0})) (i : ℕ) (before : (k : ℕ) → k < i → rows_store t.places (get_or t.held k d).cell ≡ true) where
  pub scan_stops : (r s n : ℕ) (hs : List (HeldCell (Unit {0}))) → i < length t.held → rows_store t.places (get_or t.held i d).cell ≡ false
      → r ≡ get_or (map cell t.held) i 0 → hs ≡ remove t.held i → s ≡ t.sessions → n ≡ t.cells
      → (Some r ≡ cell_of cell (oldest (guarded t) t.held))
      × (◌≡◌ {A = RowTable} (record { sessions = s; cells = n; places = t.places; held = hs }) (with_held t (without (guarded t) t.held)))
  scan_stops r s n hs l free a b q e =
      let f = found_at cell (guarded t) t.held i d l before free in
      let h : hs ≡ without (guarded t) t.held = b ∙ sym f.2 in
      (ap (λ c. Some c) a ∙ sym f.1, (λ j. record { sessions = q j; cells = e j; places = t.places; held = h j }))

  pub scan_ends : length t.held ≤ i → (None ≡ cell_of cell (oldest (guarded t) t.held)) × (t ≡ with_held t (without (guarded t) t.held))
  scan_ends l = let f = none_at cell (guarded t) t.held d (λ k m. before k (omega arith)) in (sym f.0, ap (with_held t) (sym f.1))
