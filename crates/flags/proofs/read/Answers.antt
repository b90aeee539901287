use mathlib.Core.Path.{refl, ◌∙◌}
use Prim.Native.Nat.{◌<◌}
use native.Mathlib.Omega.{arith}
use lib.ListN.{length, length-set}
use Rattle.flags.specs.Flags.{flag}
use Rattle.flags.proofs.Flags.{mapped_turn, most_turn, none_ok}
use Rattle.flags.proofs.read.Goals as goal

pub loop-i-init : goal.loop-i-init
loop-i-init c = (c.told-flags, refl, none_ok)

pub loop-i-preserved : goal.loop-i-preserved
loop-i-preserved c =
    let k = c.loop-i in
    let b = c.args.bytes.now in
    let h : k.i < length b = omega (arith, c.told-bytes) in (
      length-set k.flags k.i _ ∙ k.invariant.0,
      mapped_turn flag 0 b k.flags k.i _ h (omega (arith, k.invariant.0)) k.invariant.1 refl,
      most_turn b k.i k.most _ _ h k.invariant.2 refl c.max-most.ensures,
    )
