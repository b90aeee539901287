use mathlib.Core.Path.{sym, ◌∙◌}
use native.Mathlib.Omega.{arith}
use Rattle.plane.specs.Lent.{work}
use Rattle.plane.proofs.Crews.{same_self, same_crew}
use Rattle.plane.proofs.Turns.{c_some, seizing_from, seizing_yields, seizing_on, seizing_stays, seizing_out}
use Rattle.plane.proofs.c_all.Goals as goal

pub loop-init : goal.loop-init
loop-init c = (seizing_from c.requires.fit (omega arith), same_self _)

pub returns-then-not-is_due-clause-is : goal.returns-then-not-is_due-clause-is
returns-then-not-is_due-clause-is c = seizing_stays _ c.loop.invariant.0 (sym c.is_due.ensures.is ∙ c.if-not-is_due.true)

pub c_one-requires : goal.c_one-requires
c_one-requires c =
    record {
      fit = let e = sym c.is_due.ensures.is ∙ c.if-not-is_due.false in
          let v = c.loop.invariant.0 in
          (c_some (work c.args.plane c.loop.crew) e, seizing_yields _ (omega arith) v e, v.fit);
    }

pub loop-preserved : goal.loop-preserved
loop-preserved c =
    let v = c.loop.invariant in
    (seizing_on (omega arith) v.0 (sym c.is_due.ensures.is ∙ c.if-not-is_due.false) c.c_one.ensures.is, same_crew v.1 c.c_one.ensures.same)

pub returns-clause-is : goal.returns-clause-is
returns-clause-is c = seizing_out _ (omega arith) c.loop.invariant.0
