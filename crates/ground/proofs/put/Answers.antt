use Prim.Native.Nat.{ℕ, ◌+◌, ◌-◌}
use mathlib.Core.List.{List}
use mathlib.Core.Path.{sym, ◌∙◌, ap}
use native.Mathlib.Omega.{arith}
use borrow.Rule.Slice.PartMut.{put_mid}
use lib.ListN.{take, drop}
use Rattle.ground.specs.Bytes.{le}
use Rattle.ground.proofs.Bytes.{length_le, le_turn, le_none, part_long, part_stored}
use Rattle.ground.proofs.put.Goals as goal

pub loop-byte-preserved : goal.loop-byte-preserved
loop-byte-preserved c =
    let k = c.loop-byte in
    let a = c.args in
    let long = part_long a.bytes.now a.at a.width c.requires.fits in
    sym (le_turn k.byte-items k.byte-index (a.width - k.byte-index) (a.width - (k.byte-index + 1)) k.rest (omega (arith, long, c.loop-byte-test.true))) ∙ k.invariant

pub returns : goal.returns
returns c =
    record {
      is = let k = c.loop-byte in
          let a = c.args in
          let part = take (a.at + a.width - a.at) (drop a.at a.bytes.now) in
          let long = part_long a.bytes.now a.at a.width c.requires.fits in
          ap (λ (v : List ℕ). put_mid a.at (a.at + a.width - a.at) a.bytes.now v)
          (sym (le_none k.byte-items k.byte-index (a.width - k.byte-index) k.rest (omega (arith, long, c.loop-byte-test.false))) ∙ k.invariant)
          ∙ part_stored a.bytes.now part (le a.width a.x) a.at (a.at + a.width - a.at) (omega (arith, long)) (omega (arith, length_le a.width a.x));
    }
