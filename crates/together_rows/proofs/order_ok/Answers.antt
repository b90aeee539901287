use mathlib.Core.Path.{◌≡◌, sym}
use mathlib.Core.Bool.{◌&&◌, false, true}
use Rattle.std.proofs.Common.{rules}
use Prim.Native.Nat.{◌+◌, ◌-◌}
use native.Mathlib.Omega.{arith}
use lib.Dec.{ltb}
use Rattle.together_rows.specs.Tables.{ahead, order_ok}
use Rattle.together_rows.proofs.Orders.{falls_first, falls_outside, falls_stops, falls_more, falls_end}
use Rattle.together_rows.proofs.order_ok.Goals as goal

pub returns-then-count-i : goal.returns-then-count-i
unfolding order_ok
returns-then-count-i c = record { is = let t = c.args.table in sym (falls_outside t.share.now t.order.now t.rows.count _ _ c.from-i.ensures c.requires.inside.0 c.if-count-i.true) }

pub loop-k-init : goal.loop-k-init
loop-k-init c = let t = c.args.table in falls_first t.share.now t.order.now t.rows.count _ c.from-i.ensures c.if-count-i.false

pub returns-then-not-ahead : goal.returns-then-not-ahead
unfolding order_ok
returns-then-not-ahead c =
    record {
      is = let k = c.loop-k in
          let t = c.args.table in
          let z : k.k - 1 + 1 ≡ k.k = omega arith in
          let s : ltb c.from-j.result t.rows.count && ahead t.share.now k.i c.from-j.result ≡ false = search rules in
          sym (falls_stops t.share.now t.order.now t.rows.count (k.k - 1) k.i _ k.invariant (rw z c.from-j.ensures) (omega arith) s);
    }

pub loop-k-preserved : goal.loop-k-preserved
loop-k-preserved c =
    let k = c.loop-k in
    let t = c.args.table in
    let z : k.k - 1 + 1 ≡ k.k = omega arith in
    let y : k.k ≡ k.k + 1 - 1 = omega arith in
    let s : ltb c.from-j.result t.rows.count && ahead t.share.now k.i c.from-j.result ≡ true = search rules in
    let F = falls_more t.share.now t.order.now t.rows.count (k.k - 1) k.i _ k.invariant (rw z c.from-j.ensures) s in
    rw (z, y) at F

pub returns : goal.returns
unfolding order_ok
returns c = record { is = let t = c.args.table in let k = c.loop-k in falls_end t.share.now t.order.now t.rows.count (k.k - 1) k.i k.invariant c.requires.inside.0 (omega arith) }
