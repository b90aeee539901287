use mathlib.Core.Path.{refl}
use native.Mathlib.Omega.{arith}
use Rattle.print.proofs.Decimals.{count_one, count_two, count_three, count_four, count_on}
use Rattle.print.proofs.digit_count.Goals as goal

pub loop-y-init : goal.loop-y-init
loop-y-init c = (20, refl, (omega arith, omega (arith, c.ranges.x.fits)), omega arith)

pub loop-y-preserved : goal.loop-y-preserved
loop-y-preserved c =
    let k = c.loop-y in
    let t = count_on k.invariant.0 k.y k.invariant.2 c.loop-y-test.true in
    (t.0, omega (arith, t.1), t.2, omega (arith, k.invariant.3, t.3))

pub returns-then-y-lt10 : goal.returns-then-y-lt10
returns-then-y-lt10 c = record { is = let k = c.loop-y in omega (arith, k.invariant.3, count_one k.invariant.0 k.y k.invariant.2 c.if-y-lt10.true) }

pub returns-then-y-lt100 : goal.returns-then-y-lt100
returns-then-y-lt100 c = record { is = let k = c.loop-y in omega (arith, k.invariant.3, count_two k.invariant.0 k.y k.invariant.2 c.if-y-lt10.false c.if-y-lt100.true) }

pub returns-then-y-lt1000 : goal.returns-then-y-lt1000
returns-then-y-lt1000 c = record { is = let k = c.loop-y in omega (arith, k.invariant.3, count_three k.invariant.0 k.y k.invariant.2 c.if-y-lt100.false c.if-y-lt1000.true) }

pub returns : goal.returns
returns c = record { is = let k = c.loop-y in omega (arith, k.invariant.3, count_four k.invariant.0 k.y k.invariant.2 c.if-y-lt1000.false c.loop-y-test.false) }
