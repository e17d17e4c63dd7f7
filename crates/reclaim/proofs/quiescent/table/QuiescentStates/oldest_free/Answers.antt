use Rattle.std.proofs.Common.{◌≡◌, ℕ, ◌<◌, true, false, List, [], length, Some, None, Option, arith, rules}
use Rattle.std.specs.List.{AllWithin, HoldsAt}
use Rattle.std.specs.Option.{MatchOption}
use Rattle.std.proofs.lemmas.Iterator.{IsFirst-from_position, YieldsList-from_slice}
use borrow.Author.Tests.{tests}
use Rattle.reclaim.specs.Cells.{Found}
use Rattle.reclaim.specs.Table.{cell}
use Rattle.reclaim.specs.QuiescentStates.{Waiting, waits}
use Rattle.reclaim.specs.CellLemmas.{found_at, none_at}
use Rattle.reclaim.proofs.quiescent.table.QuiescentStates.oldest_free.Goals as goal

abbrev none : Waiting
none = record { cell = 0; note = [] }

found : (hs : List Waiting) (place : Option ℕ)
    → MatchOption place (AllWithin (λ h. waits h ≡ true) hs 0 (length hs)) (λ i. (i < length hs) × HoldsAt (λ h. waits h ≡ false) hs i × AllWithin (λ h. waits h ≡ true) hs 0 i)
    → Found cell waits hs place
found hs None w = none_at cell waits hs none (λ k l. w k none (omega arith) l)
found hs (Some i) w = found_at cell waits hs i none w.0 (λ k l. w.2 k none (omega arith) l) (w.1 none)

pub returns : goal.returns
returns c =
    found _ _
    (IsFirst-from_position _ _ c.position.result (λ (h : Waiting). waits h ≡ false) (λ (h : Waiting). waits h ≡ true) c.position.ensures.ran
    (YieldsList-from_slice c.args.self.now.held.list.items (search rules)) (λ x q k. search (rules, tests)) (λ x q k. search (rules, tests)))
