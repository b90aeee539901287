use Rattle.course.specs.Moves.{left}
use Rattle.bench_step.proofs.Making.{Listed}
use Rattle.bench_step.proofs.public_lines.Given as goal

abbrev pub invariant-loop-out : goal.invariant-loop-out
invariant-loop-out l = Listed l.text l.c

abbrev pub decreases-loop-out : goal.decreases-loop-out
decreases-loop-out l = left l.text l.c
