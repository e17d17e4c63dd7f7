use Rattle.std.proofs.Common.{rules}
use Rattle.board.specs.View.{view}
use Rattle.board.proofs.FirstRun.{played}
use Rattle.board.proofs.playing.open_and_run.Goals as goal

pub returns : goal.returns
returns g c =
    let o = c.in_ok-board.ensures in
    played g.R.Reclaimer.model g.R.Reclaimer.state g.T.ItemOrder.order g.T.ItemOrder.value c.args.reclaimer c.args.items.now c.args.words.now
    c.args.answers.now _ (view g.R.Reclaimer.state c.in_ok-board.board) _ (search rules) o.2 o.3 c.do_run.ensures.after c.do_run.ensures.answers c.do_run.ensures.promise
