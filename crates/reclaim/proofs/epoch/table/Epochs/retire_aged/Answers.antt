use Rattle.std.proofs.Common.{◌≡◌, true, is_some, None, refl, ap, ◌∙◌}
use Rattle.reclaim.specs.Epochs.{aging}
use Rattle.reclaim.specs.EpochLaws.{aging_held}
use Rattle.reclaim.proofs.SameSizes.{past_still}
use Rattle.reclaim.proofs.Retired.{either_way}
use Rattle.reclaim.proofs.epoch.table.Epochs.retire_aged.Goals as goal

pub invariant_of-self-clause-ages : goal.invariant_of-self-clause-ages
invariant_of-self-clause-ages c =
    let h = c.args.self.now in
    ap (aging 2) c.retire.ensures.after
    ∙ either_way (λ l. aging 2 l ≡ true) h.held.sizes.cells h.held.list.items c.args.debt.cell c.args.age h.ages
    (aging_held h.held.list.items _ (record { cell = c.args.debt.cell; note = c.args.age }) refl c.requires.youngest h.ages)

pub invariant_of-self-clause-past : goal.invariant_of-self-clause-past
invariant_of-self-clause-past c = past_still is_some None c.args.self.now.lags _ _ c.retire.ensures.same c.args.self.now.past
