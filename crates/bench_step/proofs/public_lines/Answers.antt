use Rattle.std.proofs.Common.{sym, ◌∙◌}
use Rattle.bench_step.proofs.Making.{listed_on, listed_end}
use Rattle.bench_step.proofs.public_lines.Goals as goal

pub loop-out-preserved : goal.loop-out-preserved
loop-out-preserved c = listed_on _ c.loop-out.c _ c.next.ensures.is.0 (sym c.is_ended.ensures.is ∙ c.loop-out-test.true) c.loop-out.invariant

pub returns : goal.returns
returns c = record { ends = listed_end _ c.loop-out.c (sym c.is_ended.ensures.is ∙ c.loop-out-test.false) c.loop-out.invariant }
