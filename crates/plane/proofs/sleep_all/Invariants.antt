use Rattle.plane.specs.Rows.{rows_in}
use Rattle.plane.proofs.Rows.{Sleeping}
use Rattle.plane.proofs.sleep_all.Given as goal

abbrev pub invariant-loop-i : goal.invariant-loop-i
invariant-loop-i l = Sleeping (rows_in l.rows) l.last l.tick l.initial.awake l.awake l.i
