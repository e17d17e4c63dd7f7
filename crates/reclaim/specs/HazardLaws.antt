-- Hazard pointers are lawful.
use Rattle.std.specs.Prelude.{◌≡◌, ℕ, zero, suc, ◌<◌, true, false, ◌&&◌, List, [], ◌∷◌, length, get_or, Some, None, Option, slice_index_or, slice_set, refl}
use Rattle.std.proofs.Common.{sym, ap, subst, ◌∙◌, ⊎_elim, arith, length-set}
use Rattle.std.proofs.lemmas.Bool.{cases_eq, cases_Bool, eq-eqb, and_parts, and_from, and_left, or_parts, or_cases, both_ways}
use Rattle.std.proofs.lemmas.List.{get_or-set_same, get_or-set_other}
use Rattle.reclaim.specs.declared.hazard.table.Row.{Row}
use Rattle.reclaim.specs.Cells.{has_with}
use Rattle.reclaim.specs.Model.{Protected, Lawful}
use Rattle.reclaim.specs.Table.{Fits, cell, at, put}
use Rattle.reclaim.specs.HazardPointers.{RowTable, hazard, scheme, guarded, stores, row_stores, rows_store, row_blank, empty_row, no_row, store, Vacant, ThreeSlots}
use Rattle.reclaim.specs.TableLaws.{set_each, sound, others, entered, left, retired, collected, put_fits}

blank_stores : (os : List (Option ℕ)) (i c : ℕ) → row_blank os ≡ true → stores (slice_index_or os i None) c ≡ false
blank_stores [] i c b = refl
blank_stores (None ∷ os) zero c b = refl
blank_stores (None ∷ os) (suc i) c b = blank_stores os i c b
blank_stores (Some d ∷ os) i c b = absurd (grind arith)

blank_row : (os : List (Option ℕ)) (c : ℕ) → row_blank os ≡ true → row_stores os c ≡ false
blank_row [] c b = refl
blank_row (None ∷ os) c b = blank_row os c b
blank_row (Some d ∷ os) c b = absurd (grind arith)

-- a cell that some row stores
row_of : (rs : List Row) (c : ℕ) → rows_store rs c ≡ true → (s : ℕ) × (row_stores (get_or rs s no_row).slots c ≡ true)
row_of [] c h = absurd (grind arith)
row_of (r ∷ rs) c h =
    ⊎_elim (λ (e : row_stores r.slots c ≡ true). (0, e))
    (λ (e : rows_store rs c ≡ true). let f = row_of rs c e in (suc f.0, f.1))
    (or_cases (row_stores r.slots c) (rows_store rs c) h)

-- where no row stores a cell no slot does
slot_stored : (os : List (Option ℕ)) (i c : ℕ) → row_stores os c ≡ false → stores (slice_index_or os i None) c ≡ false
slot_stored [] i c h = refl
slot_stored (o ∷ os) zero c h = (or_parts (stores o c) (row_stores os c) h).0
slot_stored (o ∷ os) (suc i) c h = slot_stored os i c (or_parts (stores o c) (row_stores os c) h).1

pub row_stored : (rs : List Row) (s i c : ℕ) → rows_store rs c ≡ false → stores (slice_index_or (get_or rs s no_row).slots i None) c ≡ false
row_stored [] s i c h = refl
row_stored (r ∷ rs) zero i c h = slot_stored r.slots i c (or_parts (row_stores r.slots c) (rows_store rs c) h).0
row_stored (r ∷ rs) (suc s) i c h = row_stored rs s i c (or_parts (row_stores r.slots c) (rows_store rs c) h).1

silent : (t : RowTable) → Fits scheme t → (s i c : ℕ) → (at scheme t s).inside ≡ false → stores (slice_index_or (at scheme t s).slots i None) c ≡ false
silent t f s i c h = blank_stores (at scheme t s).slots i c (f.more.0 s h)

-- a row that is written keeps what holds of every row
written : (rs : List Row) (s : ℕ) (r : Row) → Vacant rs × ThreeSlots rs → (r.inside ≡ false → row_blank r.slots ≡ true) → length r.slots ≡ 3
    → Vacant (slice_set rs s r) × ThreeSlots (slice_set rs s r)
written rs s r g b n = (
  (λ u. set_each (λ (q : Row). q.inside ≡ false → row_blank q.slots ≡ true) rs s u r no_row b (g.0 u)),
  (λ u l. set_each (λ (q : Row). length q.slots ≡ 3) rs s u r no_row n (g.1 u (let z = length-set rs s r in omega arith))),
)

hazard_protect : (t : RowTable) (s i c : ℕ) → Fits scheme t → (at scheme t s).inside ≡ true → i < 3 → c < t.cells → Protected hazard t s i c (put t s (store (at scheme t s) i c))
hazard_protect t s i c f h li lc =
    let l = (sound scheme t f (silent t f)).inside_below s h in
    let v : s < length t.places = omega (arith, f.few, f.eight) in
    let old : Row = at scheme t s in
    let new : Row = store old i c in
    let three = f.more.1 s v in
    let a : get_or (slice_set t.places s new) s no_row ≡ new = get_or-set_same t.places s new no_row v in
    let stored : get_or new.slots i None ≡ Some c = get_or-set_same old.slots i (Some c) None (omega arith) in
    let named : stores (slice_index_or (get_or (slice_set t.places s new) s no_row).slots i None) c ≡ true =
    ap (λ (r : Row). stores (slice_index_or r.slots i None) c) a ∙ ap (λ (o : Option ℕ). stores o c) stored ∙ eq-eqb c c refl in
    record {
      sizes = record {
        good = put_fits scheme t s new t.held f l f.below f.apart
            (written t.places s new f.more (λ o. absurd (both_ways old.inside o h)) (length-set old.slots i (Some c) ∙ three));
        sessions = refl;
        cells = refl;
      };
      inside = λ u.
          ⊎_elim
          (λ (e : s ≡ u). subst (λ (k : ℕ). (get_or (slice_set t.places s new) k no_row).inside ≡ (get_or t.places k no_row).inside) e (ap (λ (r : Row). r.inside) a))
          (λ (n : s ≡ u → ⊥). ap (λ (r : Row). r.inside) (get_or-set_other t.places s u new no_row (λ e. n (sym e))))
          (cases_eq s u);
      held = λ d. refl;
      named = named;
      kept = λ j k. and_from _ _ named (and_parts (stores (slice_index_or old.slots j None) c) (has_with cell (λ _. true) t.held c) k).1;
      slots = λ u j d n.
          ⊎_elim
          (λ (e : s ≡ u).
          let same : stores (slice_index_or (get_or (slice_set t.places s new) u no_row).slots j None) d ≡ stores (slice_index_or (at scheme t u).slots j None) d =
          subst (λ (k : ℕ). stores (slice_index_or (get_or (slice_set t.places s new) k no_row).slots j None) d ≡ stores (slice_index_or (at scheme t k).slots j None) d) e
          (ap (λ (r : Row). stores (slice_index_or r.slots j None) d) a
          ∙ ap (λ (o : Option ℕ). stores o d) (get_or-set_other old.slots i j (Some c) None (λ q. n (e, sym q)))) in
          record { names = λ k. same ∙ k; keeps = λ k. ap (λ b. b && has_with cell (λ _. true) t.held d) same ∙ k })
          (λ (m : s ≡ u → ⊥). others scheme t s new t.held u j d m (λ k. k))
          (cases_eq s u);
    }

-- who stores a cell is inside
busy_inside : (t : RowTable) → Fits scheme t → (c : ℕ) → rows_store t.places c ≡ true → (s : ℕ) × ((at scheme t s).inside ≡ true)
busy_inside t f c h =
    let r = row_of t.places c h in (
      r.0,
      ⊎_elim (λ (e : (at scheme t r.0).inside ≡ true). e)
          (λ (e : (at scheme t r.0).inside ≡ false). absurd (both_ways (row_stores (at scheme t r.0).slots c) (blank_row (at scheme t r.0).slots c (f.more.0 r.0 e)) r.1))
          (cases_Bool (at scheme t r.0).inside),
    )

pub hazard_lawful : Lawful hazard
hazard_lawful = record {
  sound = λ t f. sound scheme t f (silent t f);
  enter = λ t s f l o. entered scheme t s (empty_row true) f l refl (λ i c. silent t f s i c o) (written t.places s (empty_row true) f.more (λ h. refl) refl);
  leave = λ t s f h.
      left scheme t s (empty_row false) t.held f ((sound scheme t f (silent t f)).inside_below s h) refl (λ c. refl) f.below f.apart (λ u c n k. k)
      (written t.places s (empty_row false) f.more (λ h. refl) refl);
  protect = hazard_protect;
  retire = λ t c f l free. retired scheme t c tt f l free (λ u i h. refl) f.more;
  collect = λ t f.
      collected scheme (guarded t) t f (λ x b u i. and_left _ _ (row_stored t.places u i x.cell b)) (λ x hs e b. busy_inside t f x.cell b) (λ x hs gone. f.more);
}
