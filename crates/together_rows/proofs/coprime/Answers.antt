use mathlib.Core.Path.{sym, ◌∙◌}
use Prim.Native.Nat.{◌+◌}
use native.Mathlib.Omega.{arith}
use borrow.Author.Tests.{eq-eqb}
use Rattle.together_rows.proofs.Tables.{common_none, common_turn, common_whole}
use Rattle.together_rows.proofs.coprime.Goals as goal

pub loop-i-init : goal.loop-i-init
loop-i-init c = sym (common_none _ _ _)

pub returns-then-g-eq1 : goal.returns-then-g-eq1
returns-then-g-eq1 c =
    record {
      is = let a = c.args in
          let k = c.loop-i in
          let t = c.loop-i-test.true in
          let e = common_turn a.scale a.rows.period.now a.rows.deadline.now k.i k.g _ _ k.invariant (rw c.row.ensures.is at c.quotient.ensures.is) c.gcd-g.ensures.is in
          sym (eq-eqb _ _ (common_whole a.scale a.rows.period.now a.rows.deadline.now (k.i + 1) a.rows.count (omega arith) (sym e ∙ c.if-g-eq1.true)));
    }

pub loop-i-preserved : goal.loop-i-preserved
loop-i-preserved c =
    let a = c.args in
    let k = c.loop-i in
    common_turn a.scale a.rows.period.now a.rows.deadline.now k.i k.g _ _ k.invariant (rw c.row.ensures.is at c.quotient.ensures.is) c.gcd-g.ensures.is
