use Rattle.std.proofs.Common.{get_or, sym, ap, ◌∙◌, arith, length-set}
use Rattle.reclaim.specs.Table.{cell}
use Rattle.reclaim.specs.CellLemmas.{removed_gone, gone_below, gone_apart}
use Rattle.reclaim.proofs.Flags.{flag_down}
use Rattle.reclaim.proofs.held.Held.give.Goals as goal

pub invariant_of-self : goal.invariant_of-self
invariant_of-self g c =
    let h = c.args.self.now in
    let xs = c.args.self.now.list.items in
    let x = get_or c.args.self.now.list.items c.args.at c.remove-cell.result in
    let ys = c.remove-cell.new.self.items in
    let gone = removed_gone c.args.self.now.list.items c.remove-cell.new.self.items c.args.at c.remove-cell.result c.requires c.remove-cell.ensures.items in
    let told = flag_down cell xs x ys h.flags c.remove-cell.result.cell gone h.apart (ap cell (sym c.remove-cell.ensures.value)) (omega (arith, h.every)) h.told in
    record { below = gone_below cell xs x ys gone h.sizes.cells h.below; apart = gone_apart cell xs x ys gone h.apart; room = omega (arith, h.room, c.remove-cell.ensures.capacity); every = length-set h.flags _ _ ∙ h.every; told = told }
