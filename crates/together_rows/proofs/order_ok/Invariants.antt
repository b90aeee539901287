use Prim.Native.Nat.{◌-◌}
use Rattle.together_rows.proofs.Orders.{Falls}
use Rattle.together_rows.proofs.order_ok.Given as goal

abbrev pub invariant-loop-k : goal.invariant-loop-k
invariant-loop-k l = Falls l.table.share.now l.table.order.now l.count (l.k - 1) l.i
