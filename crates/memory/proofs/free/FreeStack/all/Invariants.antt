use Rattle.std.proofs.Common.{◌≡◌, ◌+◌, ◌-◌, ◌≤◌, reverse, vec_items, vec_len, vec_capacity}
use Rattle.machine.specs.Machine.{counting}
use Rattle.memory.proofs.free.FreeStack.all.Given as goal

abbrev pub invariant-loop-cell : goal.invariant-loop-cell
invariant-loop-cell l =
    (reverse (vec_items l.stack) ≡ counting l.cell (l.initial.cell - l.cell))
    × (vec_len l.stack + l.cell ≡ l.initial.cell)
    × (256 ≤ vec_capacity l.stack)
    × (l.initial.cell ≤ 256)
