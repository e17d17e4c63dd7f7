use Rattle.std.proofs.Common.{refl, arith}
use Rattle.board.specs.View.{stages}
use Rattle.board.proofs.Stages.{stages_set}
use Rattle.board.proofs.board.Board.move_session.Goals as goal

pub returns : goal.returns
unfolding stages
returns g c =
    let e = c.act.ensures in
    record {
      after = rw (stages_set c.args.self.now.stages c.args.session c.act.new.turn.stage.now (omega (arith, c.args.self.now.eight)), e.1, e.2) refl;
      answer = e.3;
    }
