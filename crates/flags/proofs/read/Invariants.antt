use mathlib.Core.Path.{◌≡◌}
use mathlib.Core.List.{map}
use lib.Dec.{leb}
use lib.ListN.{length, take}
use Rattle.flags.specs.Flags.{flag, flags_ok}
use Rattle.flags.proofs.read.Given as goal

abbrev pub invariant-loop-i : goal.invariant-loop-i
invariant-loop-i l = (length l.flags ≡ 128) × (take l.i l.flags ≡ map flag (take l.i l.bytes)) × (leb l.most 1 ≡ flags_ok (take l.i l.bytes))
