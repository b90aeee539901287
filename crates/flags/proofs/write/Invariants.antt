use mathlib.Core.Path.{◌≡◌}
use mathlib.Core.List.{map}
use lib.ListN.{length, take}
use Rattle.flags.specs.Flags.{bit}
use Rattle.flags.proofs.write.Given as goal

abbrev pub invariant-loop-i : goal.invariant-loop-i
invariant-loop-i l = (length l.bytes ≡ 128) × (take l.i l.bytes ≡ map bit (take l.i l.flags))
