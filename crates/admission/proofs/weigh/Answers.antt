use mathlib.Core.Path.{sym, ◌∙◌, ap}
use Prim.Native.Nat.{ℕ, ◌*◌, ◌≤◌, ◌<◌}
use native.Mathlib.Nat.{mul-le-mul}
use native.Mathlib.Omega.{arith}
use Rattle.std.specs.Prelude.{Err}
use Rattle.ground.specs.Sums.{sum_of}
use Rattle.rules.specs.Scale.{scale_of, share_of}
use Rattle.rules.specs.Bounds.{most_scale}
use Rattle.table.specs.Rows.{rows_on, verdict_in}
use Rattle.table.specs.declared.Fault.{Fault}
use Rattle.admission.proofs.Sizes.{bounded_none, bounded_some, scaled, sum_stored, in_range_stored, size_scale, size_shares, size_done, short_in_range}
use Rattle.admission.proofs.weigh.Goals as goal

pub scale-requires : goal.scale-requires
scale-requires c =
    record {
      inside = let r = c.args.rows in
          (c.requires.inside.1, short_in_range r.period.now r.exec.now r.deadline.now r.count c.requires.inside.2);
    }

pub returns-in_default : goal.returns-in_default
returns-in_default c =
    record {
      is = let r = c.args.rows in
          ap (λ (f : Fault). verdict_in (Err f)) c.from.ensures ∙ sym (size_scale c.args.m (rows_on r) (bounded_none (rows_on r) (c.in_default.ensures.is r.exec.now)));
    }

pub shares-requires : goal.shares-requires
shares-requires c =
    record {
      inside = let r = c.args.rows in
          let b = bounded_some (rows_on r) c.in-Some.scale (c.in-Some.ensures.is r.exec.now) in
          (c.requires.inside.1, omega (arith, b), short_in_range r.period.now r.exec.now r.deadline.now r.count c.requires.inside.2);
    }

pub overflow_mul-m : goal.overflow_mul-m
overflow_mul-m c =
    let b = bounded_some (rows_on c.args.rows) c.in-Some.scale (c.in-Some.ensures.is c.args.rows.exec.now) in
    let most : c.in-Some.scale ≤ most_scale = omega (arith, b) in
    omega (arith, mul-le-mul c.requires.inside.0 most)

pub share_sum-requires : goal.share_sum-requires
share_sum-requires c =
    record {
      inside = let r = c.args.rows in
          let s = scaled r c.in-Some.scale c.shares.new.out c.requires.inside.1 (c.in-Some.ensures.is r.exec.now) c.shares.ensures.is in
          (c.requires.inside.1, in_range_stored r c.in-Some.scale c.shares.new.out c.requires.inside.2 s);
    }

pub returns-then-m-scale : goal.returns-then-m-scale
returns-then-m-scale c =
    record {
      is = let r = c.args.rows in
          let rows = rows_on r in
          let s = scaled r c.in-Some.scale c.shares.new.out c.requires.inside.1 (c.in-Some.ensures.is r.exec.now) c.shares.ensures.is in
          let sum = c.share_sum.ensures.is ∙ sum_stored r c.in-Some.scale c.shares.new.out c.requires.inside.2 s in
          let above : c.args.m * scale_of rows < sum_of (share_of (scale_of rows)) rows = omega (arith, c.if-m-scale.true, sum, ap (λ (l : ℕ). c.args.m * l) s.is_scale) in
          ap (λ (f : Fault). verdict_in (Err f)) c.from-then-m-scale.ensures ∙ sym (size_shares c.args.m rows s.bounded above);
    }

pub returns : goal.returns
returns c =
    record {
      is = let r = c.args.rows in
          let rows = rows_on r in
          let s = scaled r c.in-Some.scale c.shares.new.out c.requires.inside.1 (c.in-Some.ensures.is r.exec.now) c.shares.ensures.is in
          let sum = c.share_sum.ensures.is ∙ sum_stored r c.in-Some.scale c.shares.new.out c.requires.inside.2 s in
          let most : sum_of (share_of (scale_of rows)) rows ≤ c.args.m * scale_of rows = omega (arith, c.if-m-scale.false, sum, ap (λ (l : ℕ). c.args.m * l) s.is_scale) in
          record { is_scale = s.is_scale; stored = s.stored; fits = size_done c.args.m rows s.bounded most };
    }
