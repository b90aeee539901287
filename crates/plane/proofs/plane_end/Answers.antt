use Rattle.plane.proofs.Rows.{ending_from, ending_on, ending_end}
use Rattle.plane.proofs.plane_end.Goals as goal

pub loop-i-init : goal.loop-i-init
loop-i-init c = ending_from c.limit-first.ensures.is

pub loop-i-preserved : goal.loop-i-preserved
loop-i-preserved c = ending_on c.loop-i-test.true c.loop-i.invariant (rw c.limit.ensures.is at c.min-first.ensures)

pub returns : goal.returns
returns c = record { is = ending_end c.loop-i-test.false c.loop-i.invariant }
