use Rattle.std.proofs.Common.{false, ◌≡◌, true, List, sym, refl, subst}
use Rattle.std.specs.List.{list_all}
use Rattle.reclaim.specs.QuiescentStates.{is_inside, Waiting, InsideStill, full}
use Rattle.reclaim.specs.QuiescentLaws.{held_good}
use Rattle.reclaim.proofs.SameSizes.{past_still}
use Rattle.reclaim.proofs.Retired.{either_way}
use Rattle.reclaim.proofs.quiescent.table.QuiescentStates.retire_recorded.Goals as goal

pub invariant_of-self : goal.invariant_of-self
invariant_of-self c =
    let h = c.args.self.now in
    let Good : List Waiting → Type 0 = λ l. InsideStill h.inside l × (list_all full l ≡ true) in
    let g = subst Good (sym c.retire.ensures.after)
    (either_way Good h.held.sizes.cells h.held.list.items c.args.debt.cell c.args.users (h.still, h.full_records)
    (held_good h.inside h.held.list.items _ (record { cell = c.args.debt.cell; note = c.args.users }) refl c.requires.eight c.requires.inside h.still h.full_records)) in
    record { eight = h.eight; past = past_still is_inside false h.inside _ _ c.retire.ensures.same h.past; still = g.0; full_records = g.1 }
