use mathlib.Core.Path.{◌≡◌}
use Rattle.together_rows.specs.Tables.{common_below}
use Rattle.together_rows.proofs.coprime.Given as goal

abbrev pub invariant-loop-i : goal.invariant-loop-i
invariant-loop-i l = l.g ≡ common_below l.scale l.rows.period.now l.rows.deadline.now l.i
