use Rattle.std.proofs.Common.{rules}
use Rattle.board.specs.View.{view}
use Rattle.board.proofs.Runs.{ran_carries}
use Rattle.board.proofs.board.Board.answer_each.Goals as goal

pub returns-clause-promise : goal.returns-clause-promise
returns-clause-promise g c =
    let t = g.met.T.ItemOrder in
    ran_carries g.R.Reclaimer.model g.met.R.Reclaimer.lawful g.T.ItemOrder.order g.T.ItemOrder.value t.same t.itself t.sides t.smaller
    c.args.items.now (view g.R.Reclaimer.state c.args.self.now) _ _ (search rules)
