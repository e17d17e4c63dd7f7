use Rattle.std.proofs.Common.{◌-◌, sym, ap, ◌∙◌, arith, rules}
use Rattle.memory.specs.Of.{memory_of}
use Rattle.memory.proofs.Tidying.{falls, stays, turn, ends}
use Rattle.memory.proofs.memory.Memory.collect_all.Goals as goal

pub loop-c-smaller : goal.loop-c-smaller
loop-c-smaller g c =
    let x = g.R.Reclaimer.state c.loop-c.self.reclaimer in
    let f = falls g.R.Reclaimer.model g.met.R.Reclaimer.lawful x _ (g.met.R.Reclaimer.good c.loop-c.self.reclaimer) (sym c.collect.ensures.answer ∙ c.in-Some.is) in
    let e = ap g.R.Reclaimer.model.count c.collect.ensures.after in
    omega arith

pub loop-c-preserved : goal.loop-c-preserved
loop-c-preserved g c =
    turn g.R.Reclaimer.model g.met.R.Reclaimer.lawful (memory_of g.R.Reclaimer.state c.loop-c.self) _ _ _ _ _
    (g.met.R.Reclaimer.good c.loop-c.self.reclaimer) (sym c.collect.ensures.answer ∙ c.in-Some.is) (search rules) c.loop-c.invariant

pub overflow_sub-result : goal.overflow_sub-result
overflow_sub-result g c =
    let x = g.R.Reclaimer.state c.loop-c.self.reclaimer in
    let f = stays g.R.Reclaimer.model g.met.R.Reclaimer.lawful x (g.met.R.Reclaimer.good c.loop-c.self.reclaimer) (sym c.collect.ensures.answer ∙ c.in_default.is) in
    let e = ap g.R.Reclaimer.model.count c.collect.ensures.after in
    omega (arith, c.loop-c.invariant.2, c.held_count.ensures)

pub returns : goal.returns
returns g c =
    let e = ends g.R.Reclaimer.model g.met.R.Reclaimer.lawful (memory_of g.R.Reclaimer.state c.loop-c.self) _ _ _ _
    (g.met.R.Reclaimer.good c.loop-c.self.reclaimer) (sym c.collect.ensures.answer ∙ c.in_default.is) (search rules) c.loop-c.invariant in
    record {
      after = e.0;
      value = ap (λ k. c.held_count-held.result - k) c.held_count.ensures ∙ e.1;
      none = (g.R.Reclaimer.state c.loop-c.self.reclaimer, sym c.collect.ensures.answer ∙ c.in_default.is, sym c.collect.ensures.after);
    }
