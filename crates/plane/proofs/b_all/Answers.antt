use mathlib.Core.Path.{sym, ◌∙◌}
use Rattle.plane.proofs.Crews.{same_self, same_crew}
use Rattle.plane.proofs.Turns.{turning_from, turning_on, turning_end, turn_less}
use Rattle.plane.proofs.b_all.Goals as goal

pub loop-plane-init : goal.loop-plane-init
loop-plane-init c = (turning_from c.requires.fit, same_self _)

pub loop-plane-smaller : goal.loop-plane-smaller
loop-plane-smaller c = turn_less _ _ (sym c.is_due.ensures.is ∙ c.loop-plane-test.true) c.b_one.ensures.is

pub loop-plane-preserved : goal.loop-plane-preserved
loop-plane-preserved c =
    let v = c.loop-plane.invariant in
    (turning_on v.0 (sym c.is_due.ensures.is ∙ c.loop-plane-test.true) c.b_one.ensures.is, same_crew v.1 c.b_one.ensures.same)

pub returns-clause-is : goal.returns-clause-is
returns-clause-is c = turning_end c.loop-plane.invariant.0 (sym c.is_due.ensures.is ∙ c.loop-plane-test.false)
