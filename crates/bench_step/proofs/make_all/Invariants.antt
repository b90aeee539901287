use mathlib.Core.Path.{◌≡◌}
use lib.ListN.{length, drop}
use Rattle.bench_step.specs.Made.{made_all}
use Rattle.bench_step.proofs.make_all.Given as goal

abbrev pub invariant-loop-call : goal.invariant-loop-call
invariant-loop-call l = (length l.room ≡ length l.initial.room)
    × (made_all (length l.initial.room) l.s (drop l.call-index l.list) ≡ made_all (length l.initial.room) l.initial.s l.list)
