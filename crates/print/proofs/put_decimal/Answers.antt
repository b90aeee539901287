use Prim.Native.Nat.{ℕ}
use mathlib.Core.List.{List}
use mathlib.Core.Path.{◌≡◌, refl, sym, ap, ◌∙◌}
use native.Mathlib.Omega.{arith}
use lib.ListN.{length-set}
use Rattle.ground.specs.Bytes.{pasted}
use Rattle.ground.proofs.Bytes.{paste_none}
use Rattle.print.specs.Decimals.{decimal_of}
use Rattle.print.proofs.Decimals.{low, digits_low, low_turn, low_none}
use Rattle.print.proofs.put_decimal.Goals as goal

pub loop-i-init : goal.loop-i-init
loop-i-init c =
    let a = c.args in
    let e : low c.digit_count-n.result a.x ≡ decimal_of a.x = ap (λ (n : ℕ). low n a.x) c.digit_count-n.ensures.is ∙ sym (digits_low 20 a.x) in
    record {
      size = refl;
      count = c.digit_count-n.ensures.is;
      rest = ap (λ (v : List ℕ). pasted a.out.now a.at v) e;
    }

pub loop-i-preserved : goal.loop-i-preserved
loop-i-preserved c =
    let k = c.loop-i in
    let v = k.invariant in
    record {
      size = simp length-set v.size;
      count = v.count;
      rest = sym (low_turn k.out c.args.at k.i k.y c.loop-i-test.true (omega (arith, v.size, v.count, c.requires.room))) ∙ v.rest;
    }

pub returns : goal.returns
returns c =
    record {
      is = let k = c.loop-i in
          let v = k.invariant in
          let a = c.args in
          (sym (low_none k.out a.at k.i k.y (omega arith) ∙ paste_none k.out a.at) ∙ v.rest, omega (arith, v.count));
    }
