use Rattle.plane.specs.Rows.{rows_in}
use Rattle.plane.proofs.Rows.{sleeping_from, sleeping_on, sleeping_end}
use Rattle.plane.proofs.sleep_all.Goals as goal

pub loop-i-init : goal.loop-i-init
loop-i-init c = sleeping_from (rows_in c.args.rows) c.requires.came

pub loop-i-preserved : goal.loop-i-preserved
loop-i-preserved c = sleeping_on c.loop-i-test.true c.loop-i.invariant c.sleep_row.ensures.is

pub returns : goal.returns
returns c = record { is = sleeping_end c.loop-i-test.false c.loop-i.invariant }
