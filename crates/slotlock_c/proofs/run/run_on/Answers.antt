use Rattle.std.proofs.Common.{◌≡◌, ◌++◌, min, map, length, take, drop, ap, ◌∙◌, inl}
use Rattle.std.proofs.Math.Seq.{take-length}
use native.Mathlib.Nat.{min-eq_left}
use Rattle.machine.proofs.Whole.{whole}
use Rattle.machine.specs.Machine.{ran}
use Rattle.machine.specs.Serial.{compared}
use Rattle.board.specs.View.{view}
use Rattle.slotlock_c.specs.Records.{as_record}
use Rattle.slotlock_c.specs.Reports.{done}
use Rattle.slotlock_c.proofs.run.run_on.Goals as goal

pub returns-in-Ok : goal.returns-in-Ok
returns-in-Ok g c =
    let M = g.R.Reclaimer.model in
    let items = c.args.items.now in
    let words = c.args.words.now in
    let old = c.args.answers.now in
    let cmp = compared g.T.ItemOrder.order g.T.ItemOrder.value items in
    let o = c.in-Ok.ensures in
    let t = g.met.T.ItemOrder in
    let m = view g.R.Reclaimer.state c.in-Ok.board in
    let all : min (length words) (length old) ≡ length words = min-eq_left c.requires.enough in
    let e : take (min (length words) (length old)) words ≡ words = ap (λ n. take n words) all ∙ take-length words in
    inl (record {
      enough = c.requires.enough;
      few = c.requires.few;
      report = c.report_of.ensures ∙ ap (λ y. done M y (length words)) (c.answer_each.ensures.after
          ∙ (ap (λ ws. (ran M cmp (length items) m ws).after) e ∙ ap (λ y. (ran M cmp (length items) y words).after) o.2));
      written = c.answer_each.ensures.written ∙ (ap (λ ws. map as_record (ran M cmp (length items) m ws).answers ++ drop (min (length words) (length old)) old) e
          ∙ (ap (λ n. map as_record (ran M cmp (length items) m words).answers ++ drop n old) all
          ∙ ap (λ y. map as_record (ran M cmp (length items) y words).answers ++ drop (length words) old) o.2));
      promise = whole M g.met.R.Reclaimer.lawful g.T.ItemOrder.order g.T.ItemOrder.value t.same t.itself t.sides t.smaller items (g.R.Reclaimer.state c.args.reclaimer) words o.3;
    })
