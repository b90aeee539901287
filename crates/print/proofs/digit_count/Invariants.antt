use Prim.Native.Nat.{ℕ, ◌+◌}
use mathlib.Core.Path.{◌≡◌}
use lib.ListN.{length}
use Rattle.print.specs.Decimals.{digits}
use Rattle.print.proofs.Decimals.{Enough}
use Rattle.print.proofs.digit_count.Given as goal

abbrev pub invariant-loop-y : goal.invariant-loop-y
invariant-loop-y l = (f : ℕ) × (l.n + f ≡ 20) × Enough f l.y × (length (digits 20 l.x) ≡ l.n + length (digits f l.y))

abbrev pub decreases-loop-y : goal.decreases-loop-y
decreases-loop-y l = l.y
