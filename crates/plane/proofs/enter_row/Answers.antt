use Rattle.state.specs.Work.{enter_row}
use Rattle.plane.proofs.enter_row.Goals as goal

pub returns-then-awake-i-clause-is : goal.returns-then-awake-i-clause-is
unfolding enter_row
returns-then-awake-i-clause-is c = let e = c.from-i.ensures in rw (rw e at c.if-awake-i.true) (rw e at c.enter.ensures.is)

pub returns-else-awake-i-clause-is : goal.returns-else-awake-i-clause-is
unfolding enter_row
returns-else-awake-i-clause-is c = let e = c.from-i.ensures in rw (rw e at c.if-awake-i.false)
