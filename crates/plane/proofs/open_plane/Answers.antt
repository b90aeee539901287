use Rattle.plane.proofs.Crews.{same_crew}
use Rattle.plane.proofs.Entering.{entering_on, entering_end}
use Rattle.plane.proofs.open_plane.Goals as goal

pub loop-i-preserved : goal.loop-i-preserved
loop-i-preserved c =
    let v = c.loop-i.invariant in
    (entering_on v.0 c.loop-i-test.true c.enter_row.ensures.is, same_crew v.1 c.enter_row.ensures.same)

pub returns-clause-is : goal.returns-clause-is
returns-clause-is c = entering_end c.loop-i.invariant.0 c.loop-i-test.false
