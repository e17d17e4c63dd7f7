use Rattle.std.proofs.Common.{◌≡◌, false, get_or, sym, ap, ◌∙◌, arith}
use Rattle.std.proofs.lemmas.List.{take_all}
use Rattle.reclaim.specs.declared.held.HeldCell.{HeldCell}
use Rattle.reclaim.specs.declared.sizes.Sizes.{Sizes}
use Rattle.reclaim.specs.HazardPointers.{rows_store}
use Rattle.reclaim.specs.Views.{hazard_table}
use Rattle.reclaim.proofs.HazardScan.{scan_stops, scan_ends}
use Rattle.reclaim.proofs.hazard.HazardPointersReclaimer.collect.Goals as goal

abbrev none : HeldCell (Unit {0})
none = record { cell = 0; note = tt }

pub returns-in-held : goal.returns-in-held
returns-in-held c =
    let h = c.args.self.now in
    let v = c.deref-held_cell-items.ensures.value in
    let free : rows_store h.rows (get_or h.held.list.items c.held.at none).cell ≡ false =
    ap (λ l. rows_store h.rows (get_or l c.held.at none).cell) (sym v)
    ∙ ap (λ l. rows_store l (get_or c.deref-held_cell-items.result.now c.held.at none).cell) (sym (take_all c.loop-row.row-index h.rows (omega (arith, h.eight, c.loop-row-test.false))))
    ∙ c.loop-row.invariant in
    let r = scan_stops (hazard_table h) none c.held.at (λ k l. ap (λ l. rows_store h.rows (get_or l k none).cell) (sym v) ∙ c.held.invariant k l)
    c.give.result c.give.new.self.sizes.sessions c.give.new.self.sizes.cells c.give.new.self.list.items (omega (arith, c.held-test.true)) free c.give.ensures.answer c.give.ensures.after (ap (λ (z : Sizes). z.sessions) c.give.ensures.same) (ap (λ (z : Sizes). z.cells) c.give.ensures.same) in
    record { answer = r.0; after = r.1 }

pub returns : goal.returns
returns c =
    let h = c.args.self.now in
    let v = c.deref-held_cell-items.ensures.value in
    let r = scan_ends (hazard_table h) none c.held.at (λ k l. ap (λ l. rows_store h.rows (get_or l k none).cell) (sym v) ∙ c.held.invariant k l)
    (omega (arith, c.held-test.false)) in
    record { answer = r.0; after = r.1 }
