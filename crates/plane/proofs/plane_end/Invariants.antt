use Rattle.plane.specs.Rows.{rows_in, jobs}
use Rattle.plane.proofs.Rows.{Ending}
use Rattle.plane.proofs.plane_end.Given as goal

abbrev pub invariant-loop-i : goal.invariant-loop-i
invariant-loop-i l = Ending (rows_in l.rows) (jobs l.awake l.last) l.tick l.first l.i
