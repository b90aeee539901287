use mathlib.Core.Path.{◌≡◌}
use mathlib.Core.Bool.{true}
use Rattle.state.specs.Sound.{runs_ok}
use Rattle.together_queues.proofs.runs_ok.Given as goal

abbrev pub invariant-loop-i : goal.invariant-loop-i
invariant-loop-i l = runs_ok l.present.0 l.seats l.lane.keys.now l.lane.tasks.now l.i ≡ true
