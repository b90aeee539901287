use mathlib.Core.Path.{ap, ◌∙◌}
use mathlib.Core.List.{List}
use Prim.Native.Nat.{ℕ}
use native.Mathlib.Omega.{arith}
use Rattle.ground.specs.Bytes.{le, pasted}
use Rattle.ground.proofs.Bytes.{length_le, grown}
use Rattle.record.proofs.put_head.Goals as goal

pub returns : goal.returns
unfolding le
returns c =
    record {
      is = c.put-2.ensures.is
          ∙ ap (λ (l : List ℕ). pasted l 8 (le 8 c.args.to)) c.put.ensures.is
          ∙ grown (le 8 c.args.from) (le 8 c.args.to) c.args.room.now 8 (length_le 8 c.args.from) (omega (arith, c.requires.fits));
    }
