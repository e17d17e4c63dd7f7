use Rattle.std.proofs.Common.{false, []}
use Rattle.reclaim.specs.QuiescentStates.{is_inside}
use Rattle.reclaim.specs.QuiescentLaws.{removed_good}
use Rattle.reclaim.proofs.SameSizes.{past_still}
use Rattle.reclaim.proofs.quiescent.table.QuiescentStates.give.Goals as goal

pub invariant_of-self : goal.invariant_of-self
invariant_of-self c =
    let h = c.args.self.now in
    let g = removed_good c.args.self.now.inside c.args.self.now.held.list.items c.give.new.self.list.items c.args.at (record { cell = 0; note = [] })
    c.requires c.give.ensures.after h.still h.full_records in
    record { eight = h.eight; past = past_still is_inside false h.inside _ _ c.give.ensures.same h.past; still = g.0; full_records = g.1 }
