use Rattle.std.proofs.Common.{vec_items, arith}
use Rattle.reclaim.specs.Table.{cell}
use Rattle.reclaim.specs.CellLemmas.{few}
use Rattle.reclaim.proofs.held.Held.count.Goals as goal

pub overflow_cast-result : goal.overflow_cast-result
overflow_cast-result g c =
    let h = c.args.self.now in
    let n = few cell (vec_items h.list) h.sizes.cells h.apart h.below in
    omega (arith, h.list.ok.0, c.len.ensures)
