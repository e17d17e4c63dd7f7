use Rattle.std.proofs.Common.{sym, arith, rules}
use Rattle.memory.proofs.Tops.{counting_start, counting_more}
use Rattle.memory.proofs.free.FreeStack.all.Goals as goal

pub loop-cell-init : goal.loop-cell-init
loop-cell-init c = rw (sym (counting_start c.min-cell.result)) (search rules)

pub loop-cell-preserved : goal.loop-cell-preserved
loop-cell-preserved c = (
  counting_more _ _ c.loop-cell.cell c.min-cell.result (omega arith) (omega (arith, c.loop-cell.invariant.1)) c.push_reserved.ensures.items c.loop-cell.invariant.0,
  omega (arith, c.loop-cell.invariant.1, c.push_reserved.ensures.len),
  omega (arith, c.loop-cell.invariant.2, c.push_reserved.ensures.capacity),
  c.loop-cell.invariant.3,
)
