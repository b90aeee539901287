use mathlib.Core.Path.{sym}
use Rattle.state.specs.Sound.{runs_ok}
use Rattle.together_rows.proofs.Folds.{all_none, all_more, all_fails}
use Rattle.together_queues.proofs.runs_ok.Goals as goal

pub loop-i-init : goal.loop-i-init
unfolding runs_ok
loop-i-init c = all_none _

pub returns-then-not-run_ok : goal.returns-then-not-run_ok
unfolding runs_ok
returns-then-not-run_ok c = record { is = sym (all_fails _ _ c.loop-i.i c.loop-i-test.true (sym c.if-not-run_ok.ensures.is)) }

pub loop-i-preserved : goal.loop-i-preserved
unfolding runs_ok
loop-i-preserved c = all_more _ _ c.loop-i.invariant (sym c.if-not-run_ok.ensures.is)
