use Prim.Native.Nat.{◌+◌}
use mathlib.Core.List.{◌++◌}
use mathlib.Core.Path.{◌≡◌, ◌∙◌}
use native.Mathlib.Omega.{arith}
use lib.ListN.{length, length-append}
use Rattle.ground.proofs.Bytes.{length_le, paste_then}
use Rattle.ground.specs.Bytes.{le}
use Rattle.text.proofs.put_row.Goals as goal

pub returns : goal.returns
returns c =
    record {
      is = let l = c.args.out.now in
          let p = le 4 c.args.p in
          let e = le 4 c.args.e in
          let d = le 4 c.args.d in
          let at = c.args.at in
          let np : length p ≡ 4 = length_le 4 c.args.p in
          let ne : length (p ++ e) ≡ 8 = omega (arith, length-append p e, length_le 4 c.args.e) in
          let two = c.put-2.ensures.is ∙ paste_then l _ at (at + 4) p e (omega arith) c.put.ensures.is (omega arith) in
          c.put-3.ensures.is ∙ paste_then l _ at (at + 8) (p ++ e) d (omega arith) two (omega arith);
    }
