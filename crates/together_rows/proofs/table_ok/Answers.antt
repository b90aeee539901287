use mathlib.Core.Path.{◌≡◌, sym}
use mathlib.Core.Bool.{false}
use Rattle.std.proofs.Common.{rules}
use Prim.Native.Nat.{◌*◌}
use native.Mathlib.Omega.{arith}
use borrow.Author.Tests.{le-leb, eq-eqb}
use lib.Dec.{eqb}
use Rattle.table.specs.Lent.{table_in}
use Rattle.table.specs.Rows.{share_sum_of}
use Rattle.together_rows.specs.Tables.{common_below}
use Rattle.together_rows.proofs.Front.{sized_of, each_some, front_passes, sizes_fail, rows_fail, sum_fails, least_fails}
use Rattle.together_rows.proofs.table_ok.Goals as goal
use Rattle.together_rows.proofs.table_ok.Goals.{then-sums, else-sums}

pub returns-then-not-size_ok : goal.returns-then-not-size_ok
returns-then-not-size_ok c =
    record { is = let a = c.args in sizes_fail (table_in a.table) a.present.0 a.going a.end (record { arrived = a.arrived; awake = a.awake; last = a.last }) _ (sym c.if-not-size_ok.ensures.is) }

pub rows_ok-requires : goal.rows_ok-requires
rows_ok-requires c =
    record {
      inside = let a = c.args in
          let z = sized_of a.table.rows.count a.table.m a.table.scale a.present.0 (sym c.if-not-size_ok.ensures.is) in
          rw c.at-times.ensures.is (z.count.1, z.scale.0, z.scale.1, z.tick, z.top);
    }

pub returns-in_err-sums : goal.returns-in_err-sums
returns-in_err-sums c =
    record {
      is = let a = c.args in
          rw c.from_residual.ensures (rows_fail (table_in a.table) a.present.0 a.going a.end (record { arrived = a.arrived; awake = a.awake; last = a.last }) _ (rw c.at-times.ensures.is at c.in_err-sums.ensures.is));
    }

pub returns-then-table-sums : goal.returns-then-table-sums
returns-then-table-sums c =
    record {
      is = let a = c.args in
          let s = c.in_ok-sums.ensures.is.1 in
          let h = c.if-table-sums.true in
          sum_fails (table_in a.table) a.present.0 a.going a.end (record { arrived = a.arrived; awake = a.awake; last = a.last }) _ (omega (arith, s.all));
    }

pub coprime-requires : goal.coprime-requires
coprime-requires c =
    record {
      inside = let a = c.args in
          let z = sized_of a.table.rows.count a.table.m a.table.scale a.present.0 (sym c.if-not-size_ok.ensures.is) in
          (z.count.1, each_some (table_in a.table) a.present.0 a.going a.end (record { arrived = a.arrived; awake = a.awake; last = a.last }) (rw c.at-times.ensures.is at c.in_ok-sums.ensures.is.0));
    }

pub returns-then-not-coprime : goal.returns-then-not-coprime
returns-then-not-coprime c =
    record {
      is = let a = c.args in
          let e : eqb (common_below a.table.scale a.table.rows.period.now a.table.rows.deadline.now a.table.rows.count) 1 ≡ false = search rules in
          least_fails (table_in a.table) a.present.0 a.going a.end (record { arrived = a.arrived; awake = a.awake; last = a.last }) _ e;
    }

pub returns : goal.returns
returns c =
    record {
      is = let a = c.args in
          let s = c.in_ok-sums.ensures.is.1 in
          let h = c.if-table-sums.false in
          front_passes (table_in a.table) a.present.0 a.going a.end (record { arrived = a.arrived; awake = a.awake; last = a.last }) _ _
          (record {
            sized = sym c.if-not-size_ok.ensures.is;
            each = rw c.at-times.ensures.is at c.in_ok-sums.ensures.is.0;
            least = elim c.if-sums.branch [ then-sums w ↦ eq-eqb _ _ (s.least w.if-sums.true) | else-sums w ↦ search rules ];
            sum = le-leb (share_sum_of a.table.share.now a.table.rows.count) (a.table.m * a.table.scale) (omega (arith, s.all));
          })
          s.up;
    }
