use Rattle.std.proofs.Common.{◌≤◌}
use Rattle.figures.proofs.orders.numbers_of.Given as goal

abbrev pub invariant-loop-b : goal.invariant-loop-b
invariant-loop-b l = l.k ≤ 5
