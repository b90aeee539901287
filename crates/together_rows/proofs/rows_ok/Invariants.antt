use Rattle.table.specs.Lent.{table_in}
use Rattle.together_rows.proofs.Rows.{Passed}
use Rattle.together_rows.proofs.rows_ok.Given as goal

abbrev pub invariant-loop-i : goal.invariant-loop-i
invariant-loop-i l = Passed (table_in l.table) l.jobs l.times l.i l.whole l.total l.shares
