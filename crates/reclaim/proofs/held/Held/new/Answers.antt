use Rattle.std.proofs.Common.{◌≡◌, [], vec_items, rules}
use Rattle.reclaim.specs.Table.{cell}
use Rattle.reclaim.proofs.Flags.{flags_new}
use Rattle.reclaim.proofs.held.Held.new.Goals as goal

pub invariant_of-result-clause-told : goal.invariant_of-result-clause-told
invariant_of-result-clause-told g c =
    let e : vec_items c.in_ok-with_capacity.field-0 ≡ [] = search rules in flags_new cell (vec_items c.in_ok-with_capacity.field-0) 256 e
