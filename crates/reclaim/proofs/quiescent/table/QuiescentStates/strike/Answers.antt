use Rattle.std.proofs.Common.{false, ap, ◌∙◌}
use Rattle.reclaim.specs.Cells.{has_with}
use Rattle.reclaim.specs.Table.{cell}
use Rattle.reclaim.specs.QuiescentStates.{is_inside, recorded}
use Rattle.reclaim.specs.QuiescentLaws.{struck_good, out_of_all}
use Rattle.reclaim.proofs.SameSizes.{past_still}
use Rattle.reclaim.proofs.quiescent.table.QuiescentStates.strike.Goals as goal

pub invariant_of-self : goal.invariant_of-self
invariant_of-self c =
    let h = c.args.self.now in
    let g = struck_good c.args.self.now.inside c.args.self.now.held.list.items c.strike_all.new.held.list.items c.args.session c.strike_all.ensures.items h.still h.full_records in
    record { eight = h.eight; past = past_still is_inside false h.inside _ _ c.strike_all.ensures.sizes h.past; still = g.0; full_records = g.1 }

pub returns-clause-out : goal.returns-clause-out
returns-clause-out c k = ap (λ l. has_with cell (recorded c.args.session) l k) c.strike_all.ensures.items ∙ out_of_all c.args.session c.args.self.now.held.list.items k
