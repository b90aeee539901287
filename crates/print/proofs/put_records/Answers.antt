use Rattle.std.proofs.Common.{rules}
use Prim.Native.Nat.{◌*◌}
use mathlib.Core.Path.{refl, sym, ◌∙◌}
use native.Mathlib.Omega.{arith}
use lib.ListN.{drop}
use Rattle.print.proofs.Records.{records_turn, records_none}
use Rattle.print.proofs.put_records.Goals as goal

pub loop-i-init : goal.loop-i-init
loop-i-init c = record { same = record { out = refl; size = refl }; short = omega arith; left = (c.args.n, omega arith, refl, omega arith) }

pub loop-i-preserved : goal.loop-i-preserved
loop-i-preserved c =
    let k = c.loop-i in
    let v = k.invariant in
    let f = c.line.ensures.is in
    let t = records_turn k.pen.out.now c.line.new.self.out.now c.args.room.now k.pen.at c.line.new.self.at c.args.m v.left.0 k.i (omega (arith, v.left.1)) (omega (arith, f.0.1, f.1)) f.0 in
    record {
      same = record { out = c.line.ensures.same.out ∙ v.same.out; size = c.line.ensures.same.size ∙ v.same.size };
      short = omega (arith, f.1);
      left = (t.0, omega (arith, t.1, v.left.1), sym t.2 ∙ v.left.2, sym t.3 ∙ v.left.3);
    }

pub returns-clause-is : goal.returns-clause-is
returns-clause-is c =
    let v = c.loop-i.invariant in
    let t = records_none c.loop-i.pen.out.now (drop (48 * c.loop-i.i) c.args.room.now) c.loop-i.pen.at c.args.m v.left.0 (omega (arith, v.left.1)) in
    let all = sym t.0 ∙ v.left.2 in
    (search (rules, all, v.same.out), omega (arith, t.1, v.left.3))
