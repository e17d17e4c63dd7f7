use Rattle.std.proofs.Common.{is_some, None}
use Rattle.reclaim.specs.EpochLaws.{aging_removed}
use Rattle.reclaim.proofs.SameSizes.{past_still}
use Rattle.reclaim.proofs.epoch.table.Epochs.give.Goals as goal

pub invariant_of-self-clause-ages : goal.invariant_of-self-clause-ages
invariant_of-self-clause-ages c =
    let h = c.args.self.now in aging_removed 2 h.held.list.items c.give.new.self.list.items c.args.at c.give.ensures.after h.ages

pub invariant_of-self-clause-past : goal.invariant_of-self-clause-past
invariant_of-self-clause-past c = past_still is_some None c.args.self.now.lags _ _ c.give.ensures.same c.args.self.now.past
