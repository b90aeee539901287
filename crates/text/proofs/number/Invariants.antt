use Prim.Native.Nat.{◌≤◌}
use mathlib.Core.Bool.{true}
use mathlib.Core.Path.{◌≡◌}
use lib.ListN.{drop}
use Rattle.ground.specs.Tests.{every}
use Rattle.text.specs.Numbers.{most_number, is_digit, plain, spelled, spelled_after}
use Rattle.text.proofs.number.Given as goal

abbrev pub invariant-loop-i : goal.invariant-loop-i
invariant-loop-i l = (l.v ≤ most_number) × (plain l.part ≡ true) × (every is_digit (drop l.i l.part) ≡ every is_digit l.part) × (spelled_after l.v (drop l.i l.part) ≡ spelled l.part)
