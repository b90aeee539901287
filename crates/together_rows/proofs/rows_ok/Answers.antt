use Rattle.std.specs.Prelude.{if◌then◌else◌}
use Rattle.std.proofs.Common.{rules}
use mathlib.Core.Path.{◌≡◌}
use mathlib.Core.Bool.{false, ◌||◌}
use native.Mathlib.Omega.{arith}
use lib.Dec.{eqb}
use lib.ListN.{get_or}
use Rattle.table.specs.Lent.{table_in}
use Rattle.together_rows.proofs.Rows.{passed_none, row_stops, share_stops, job_stops, total_fits, shares_fit, passed_more}
use Rattle.together_rows.proofs.rows_ok.Goals as goal

pub loop-i-init : goal.loop-i-init
loop-i-init c = passed_none _ _ _

pub returns-then-not-row_ok : goal.returns-then-not-row_ok
returns-then-not-row_ok c =
    record { is = let a = c.args in row_stops (table_in a.table) a.jobs a.times _ c.loop-i.i c.loop-i-test.true (rw c.row-row.ensures.is at c.if-not-row_ok.ensures.is) }

pub returns-then-not-share_ok : goal.returns-then-not-share_ok
returns-then-not-share_ok c =
    record { is = let a = c.args in share_stops (table_in a.table) a.jobs a.times _ c.loop-i.i c.loop-i-test.true (rw c.row-row.ensures.is at c.if-not-share_ok.ensures.is) }

pub returns-then-not-ok : goal.returns-then-not-ok
returns-then-not-ok c =
    record { is = let a = c.args in job_stops (table_in a.table) a.jobs a.times _ c.loop-i.i c.loop-i-test.true (rw (c.job-job.ensures.is, c.row-row.ensures.is) at c.if-not-ok.ensures.is) }

pub overflow_add-total : goal.overflow_add-total
overflow_add-total c =
    let a = c.args in
    let t = c.loop-i-test.true in
    omega (
      arith,
      total_fits (table_in a.table) a.jobs a.times c.loop-i.invariant (rw c.row-row.ensures.is at c.if-not-row_ok.ensures.is) (rw c.row-row.ensures.is at c.if-not-share_ok.ensures.is)
          (rw (c.job-job.ensures.is, c.row-row.ensures.is) at c.if-not-ok.ensures.is) c.requires.inside.2 (omega arith),
    )

pub overflow_add-shares : goal.overflow_add-shares
overflow_add-shares c =
    let a = c.args in
    let t = c.loop-i-test.true in
    let s : c.if-job.shares ≡ (if get_or a.jobs.awake.now c.loop-i.i false then get_or a.table.share.now c.loop-i.i 0 else 0) = search rules in
    omega (
      arith,
      s,
      shares_fit (table_in a.table) a.jobs a.times c.loop-i.invariant (rw c.row-row.ensures.is at c.if-not-row_ok.ensures.is) (rw c.row-row.ensures.is at c.if-not-share_ok.ensures.is)
          (rw (c.job-job.ensures.is, c.row-row.ensures.is) at c.if-not-ok.ensures.is) c.requires.inside.2 (omega arith),
    )

pub loop-i-preserved : goal.loop-i-preserved
loop-i-preserved c =
    let a = c.args in
    let k = c.loop-i in
    let s : c.if-job.shares ≡ (if get_or a.jobs.awake.now k.i false then get_or a.table.share.now k.i 0 else 0) = search rules in
    let w : c.if-whole.whole ≡ (k.whole || eqb c.quotient-d.result 1) = search rules in
    passed_more (table_in a.table) a.jobs a.times k.invariant (rw c.row-row.ensures.is at c.if-not-row_ok.ensures.is) (rw c.row-row.ensures.is at c.if-not-share_ok.ensures.is)
    (rw (c.job-job.ensures.is, c.row-row.ensures.is) at c.if-not-ok.ensures.is) _ _ _ (rw c.row-row.ensures.is at c.quotient-d.ensures.is) w (omega (arith, s))
