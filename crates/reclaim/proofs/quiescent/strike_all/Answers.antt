use Rattle.std.proofs.Common.{[], refl}
use Rattle.reclaim.specs.Table.{cell}
use Rattle.reclaim.specs.QuiescentStates.{Waiting, strike}
use Rattle.reclaim.proofs.Flags.{flags_kept}
use Rattle.reclaim.proofs.InPlace.{one_changed, all_refilled, cells_kept}
use Rattle.reclaim.proofs.quiescent.strike_all.Goals as goal

abbrev blank : Waiting
blank = record { cell = 0; note = [] }

pub loop-held_cell-preserved : goal.loop-held_cell-preserved
loop-held_cell-preserved c =
    one_changed (strike c.args.session) c.deref_mut-held_cell-items.result.now c.loop-held_cell.held_cell-items c.loop-held_cell.held_cell-index c.loop-held_cell.invariant blank _
    c.loop-held_cell-test.true c.loop-held_cell.auto.held_cell-items refl

pub invariant_of-held : goal.invariant_of-held
invariant_of-held c =
    let h = c.args.held.now in
    let e = all_refilled (strike c.args.session) c.deref_mut-held_cell-items.result.now c.loop-held_cell.held_cell-items c.loop-held_cell.held_cell-index c.loop-held_cell.invariant
    c.args.held.now.list.items _ c.args.held.now.list.len c.deref_mut-held_cell-items.ensures.value c.loop-held_cell-test.false h.list.ok.0 in
    let k = cells_kept cell (strike c.args.session) (λ x. refl) c.args.held.now.list.items _ c.args.held.now.sizes.cells e h.below h.apart in
    let t = flags_kept cell (strike c.args.session) (λ x. refl) c.args.held.now.list.items _ c.args.held.now.flags e h.told in
    record { below = k.0; apart = k.1; room = h.room; every = h.every; told = t }
