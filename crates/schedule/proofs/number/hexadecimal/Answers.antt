use Rattle.std.proofs.Common.{◌≤◌, length, take, arith, length-take, rules}
use Rattle.std.proofs.lemmas.Int.Digits.{digits_value_more, digits_more}
use Rattle.std.proofs.lemmas.List.{take_all}
use Rattle.schedule.proofs.Numerals.{digit_at, seven_digits}
use Rattle.schedule.proofs.number.hexadecimal.Goals as goal

pub returns-in_default : goal.returns-in_default
returns-in_default c = λ h. c.in_default.ensures (digit_at 16 c.args.digits.now c.loop-b.b-index h.0.1 c.loop-b-test.true)

pub overflow_mul-n : goal.overflow_mul-n
overflow_mul-n c =
    let few : length (take c.loop-b.b-index c.args.digits.now) ≤ 7 = simp length-take (omega arith) in
    let small = seven_digits _ c.loop-b.invariant.1 few in
    omega (arith, small, c.loop-b.invariant.0)

pub overflow_add-n : goal.overflow_add-n
overflow_add-n c =
    let few : length (take c.loop-b.b-index c.args.digits.now) ≤ 7 = simp length-take (omega arith) in
    let small = seven_digits _ c.loop-b.invariant.1 few in
    omega (arith, small, c.loop-b.invariant.0)

pub loop-b-preserved : goal.loop-b-preserved
loop-b-preserved c =
    let read = c.in-Some.ensures in (
      omega (arith, digits_value_more 16 c.args.digits.now c.loop-b.b-index c.loop-b-test.true, read.1, c.from.ensures, c.loop-b.invariant.0),
      digits_more 16 c.args.digits.now c.loop-b.b-index c.loop-b-test.true c.loop-b.invariant.1 read.0,
    )

pub returns : goal.returns
returns c =
    let all = take_all c.loop-b.b-index c.args.digits.now c.loop-b-test.false in
    (((search rules, rw all at c.loop-b.invariant.1), c.if-digits-gt8.false), rw all at c.loop-b.invariant.0)
