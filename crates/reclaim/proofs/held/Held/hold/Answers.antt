use Rattle.std.proofs.Common.{refl, ap, ◌∙◌, arith, length-set}
use Rattle.reclaim.specs.Cells.{has}
use Rattle.reclaim.specs.Table.{cell}
use Rattle.reclaim.specs.CellLemmas.{room, pushed}
use Rattle.reclaim.proofs.Flags.{flag_up}
use Rattle.reclaim.proofs.held.Held.hold.Goals as goal

pub push_reserved-requires : goal.push_reserved-requires
push_reserved-requires g c =
    let h = c.args.self.now in
    let r = room cell c.args.self.now.list.items c.args.self.now.sizes.cells c.args.debt.cell h.apart h.below c.requires.below c.requires.apart in
    omega (arith, h.list.ok.0, h.room)

pub invariant_of-self : goal.invariant_of-self
invariant_of-self g c =
    let h = c.args.self.now in
    let p = pushed cell c.args.self.now.list.items c.push_reserved.new.self.items (record { cell = c.paid-cell.result; note = c.args.note }) c.args.self.now.sizes.cells
    c.push_reserved.ensures.items h.below h.apart (omega (arith, c.requires.below)) (ap (has cell c.args.self.now.list.items) c.paid-cell.ensures ∙ c.requires.apart) in
    let told = flag_up cell c.args.self.now.list.items c.push_reserved.new.self.items (record { cell = c.paid-cell.result; note = c.args.note }) h.flags c.paid-cell.result c.push_reserved.ensures.items refl (omega (arith, h.every)) h.told in
    record { below = p.0; apart = p.1; room = omega (arith, h.room, c.push_reserved.ensures.capacity); every = length-set h.flags _ _ ∙ h.every; told = told }
