use Prim.Native.Nat.{◌+◌, ◌-◌, ◌<◌, ◌^◌}
use mathlib.Core.Path.{◌≡◌}
use lib.ListN.{take, drop}
use Rattle.ground.specs.Bytes.{number}
use Rattle.ground.proofs.get.Given as goal

abbrev pub invariant-loop-i : goal.invariant-loop-i
invariant-loop-i l = (l.r ≡ number (take (l.width - l.i) (drop (l.at + l.i) l.bytes))) × (l.r < 256 ^ (l.width - l.i))
