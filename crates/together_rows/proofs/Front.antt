-- The tests of the table, the instant, the last arrivals and the limits, one by one
use Rattle.std.specs.Prelude.{Option, Some, None, if◌then◌else◌}
use mathlib.Core.Path.{◌≡◌, ◌∙◌, ap}
use mathlib.Core.Bool.{Bool, true, false, ◌&&◌}
use Prim.Native.Nat.{ℕ, ◌+◌, ◌*◌, ◌/◌, ◌≤◌, ◌<◌, min}
use native.Mathlib.Omega.{arith}
use lib.Dec.{leb, eqb}
use lib.ListN.{get_or}
use borrow.Author.Tests.{leb-true, lt-leb}
use Rattle.ground.proofs.Tests.{of_true}
use Rattle.rules.specs.Admission.{processors_ok}
use Rattle.rules.specs.Bounds.{clock, most_scale}
use Rattle.rules.proofs.Holding.{processors_says}
use Rattle.queue.specs.Below.{all_below}
use Rattle.table.specs.Rows.{share_sum_of}
use Rattle.table.specs.declared.Table.{Table}
use Rattle.together_rows.specs.declared.Jobs.{Jobs}
use Rattle.together_rows.specs.declared.Times.{Times}
use Rattle.together_rows.specs.Tables.{row_ok, rows_ok, scale_in_range, share_ok, shares_ok, common_below, scale_ok, table_ok}
use Rattle.together_rows.specs.Jobs.{last_ok, lasts_ok, limit_ok, limits_ok, ceil_of}
use Rattle.together_rows.specs.Front.{each_ok, times_of, front_of}
use Rattle.together_rows.proofs.Bounds.{within, row_within, tick_small, ceil_small}
use Rattle.together_rows.proofs.Folds.{all_at, all_both, all_joined, and_both, and_next, refuted, clash}

-- SIZES
-- m, the row count and L are in range, and the instant is within the clock
abbrev pub sizes : ℕ → ℕ → ℕ → ℕ → Bool
sizes n m l now = processors_ok m && ((leb 1 n && leb n 128) && (scale_in_range l && leb now (clock * l)))

pub record Sized (n m l now : ℕ) : Type 0 where
  pub processors : (1 ≤ m) × (m ≤ 16)
  pub count : (1 ≤ n) × (n ≤ 128)
  pub scale : (0 < l) × (l ≤ most_scale)
  pub clock_in : now ≤ clock * l
  pub tick : now / l ≤ clock
  pub top : ceil_of now l ≤ clock + 1

pub sized_of : (n m l now : ℕ) → sizes n m l now ≡ true → Sized n m l now
sized_of n m l now e =
    let p = and_both (processors_ok m) _ e in
    let c = and_both (leb 1 n && leb n 128) _ p.1 in
    let s = and_both (scale_in_range l) _ c.1 in
    let w = within 1 l most_scale s.0 in
    let k = leb-true now (clock * l) s.1 in
    let t = tick_small now l (omega arith) k in
    record {
      processors = of_true (processors_ok m) (processors_says m) p.0;
      count = within 1 n 128 c.0;
      scale = (omega arith, w.1);
      clock_in = k;
      tick = t;
      top = omega (arith, ceil_small now l);
    }

-- ONE BY ONE
module _ (t : Table) (now : ℕ) (going : Bool) (end : ℕ) (jobs : Jobs) where
  abbrev times : Times
  times = times_of now t.scale going end

  abbrev each_row : Bool
  each_row = each_ok t jobs times t.count

  abbrev front : Bool
  front = front_of t now going end jobs.arrived.now jobs.awake.now jobs.last.now

  abbrev row_at : ℕ → Bool
  row_at i = row_ok (get_or t.period i 0) (get_or t.exec i 0) (get_or t.deadline i 0)

  abbrev share_at : ℕ → Bool
  share_at i = share_ok t.scale (min (get_or t.period i 0) (get_or t.deadline i 0)) (get_or t.exec i 0) (get_or t.share i 0)

  abbrev last_at : ℕ → Bool
  last_at i = last_ok (get_or jobs.arrived.now i false) (get_or jobs.awake.now i false) (get_or jobs.last.now i 0) times.tick

  abbrev limit_at : ℕ → Bool
  limit_at i =
      limit_ok (get_or jobs.awake.now i false) (get_or jobs.arrived.now i false) (get_or jobs.last.now i 0) (get_or t.period i 0) (get_or t.deadline i 0)
      times.ceil times.reach

  pub record Front : Type 0 where
    pub sized : sizes t.count t.m t.scale now ≡ true
    pub each : each_row ≡ true
    pub least : eqb (common_below t.scale t.period t.deadline t.count) 1 ≡ true
    pub sum : leb (share_sum_of t.share t.count) (t.m * t.scale) ≡ true

  pub front_parts : front ≡ true → Front
  unfolding front_of table_ok scale_ok each_ok rows_ok shares_ok lasts_ok limits_ok
  front_parts e =
      let a = and_both (table_ok t) _ e in
      let p = and_both (processors_ok t.m) _ a.0 in
      let c = and_both (leb 1 t.count && leb t.count 128) _ p.1 in
      let r = and_both (rows_ok t.period t.exec t.deadline t.count) _ c.1 in
      let s = and_both (scale_in_range t.scale) _ r.1 in
      let u = and_both (scale_ok t.scale t.period t.exec t.deadline t.share t.count) _ s.1 in
      let v = and_both (shares_ok t.scale t.period t.exec t.deadline t.share t.count) _ u.0 in
      let k = and_both (leb now (clock * t.scale)) _ a.1 in
      let j = and_both (lasts_ok jobs.arrived.now jobs.awake.now jobs.last.now times.tick t.count) _ k.1 in
      record {
        sized = and_next (processors_ok t.m) _ p.0 ∙ and_next (leb 1 t.count && leb t.count 128) _ c.0 ∙ and_next (scale_in_range t.scale) _ s.0 ∙ k.0;
        each = all_joined (λ i. row_at i && share_at i) (λ i. last_at i && limit_at i) t.count (all_joined row_at share_at t.count r.0 v.0) (all_joined last_at limit_at t.count j.0 j.1);
        least = v.1;
        sum = u.1;
      }

  module _ (e : each_row ≡ true) where
    halves : (all_below t.count (λ i. row_at i && share_at i) ≡ true) × (all_below t.count (λ i. last_at i && limit_at i) ≡ true)
    unfolding each_ok
    halves = all_both (λ i. row_at i && share_at i) (λ i. last_at i && limit_at i) t.count e

    -- every q is above 0
    pub each_some : (i : ℕ) → i < t.count → 0 < min (get_or t.period i 0) (get_or t.deadline i 0)
    each_some i h = (row_within (get_or t.period i 0) (get_or t.exec i 0) (get_or t.deadline i 0) (all_at row_at t.count i (all_both row_at share_at t.count halves.0).0 h)).some

  pub front_whole : Front → front ≡ true
  unfolding front_of table_ok scale_ok rows_ok shares_ok lasts_ok limits_ok
  front_whole F =
      let p = and_both (processors_ok t.m) _ F.sized in
      let c = and_both (leb 1 t.count && leb t.count 128) _ p.1 in
      let s = and_both (scale_in_range t.scale) _ c.1 in
      let h = halves F.each in
      let r = all_both row_at share_at t.count h.0 in
      let j = all_both last_at limit_at t.count h.1 in
      and_next (table_ok t) _
      (and_next (processors_ok t.m) _ p.0 ∙ and_next (leb 1 t.count && leb t.count 128) _ c.0 ∙ and_next (rows_ok t.period t.exec t.deadline t.count) _ r.0
      ∙ and_next (scale_in_range t.scale) _ s.0
      ∙ and_next (scale_ok t.scale t.period t.exec t.deadline t.share t.count) _ (and_next (shares_ok t.scale t.period t.exec t.deadline t.share t.count) _ r.1 ∙ F.least)
      ∙ F.sum)
      ∙ and_next (leb now (clock * t.scale)) _ s.1 ∙ and_next (lasts_ok jobs.arrived.now jobs.awake.now jobs.last.now times.tick t.count) _ j.0 ∙ j.1

  -- WHAT IS ANSWERED
  abbrev answer : ℕ → Option ℕ
  answer x = if front then Some x else None

  front_true : (x : ℕ) → front ≡ true → Some x ≡ answer x
  front_true x e = rw e

  front_false : (x : ℕ) → front ≡ false → None ≡ answer x
  front_false x e = rw e

  pub front_passes : (x y : ℕ) → Front → x ≡ y → Some x ≡ answer y
  front_passes x y F e = ap Some e ∙ front_true y (front_whole F)

  -- THE TEST THAT FAILS
  pub sizes_fail : (x : ℕ) → sizes t.count t.m t.scale now ≡ false → None ≡ answer x
  sizes_fail x e = front_false x (refuted front (λ f. clash (sizes t.count t.m t.scale now) e (front_parts f).sized))

  pub rows_fail : (x : ℕ) → each_row ≡ false → None ≡ answer x
  rows_fail x e = front_false x (refuted front (λ f. clash each_row e (front_parts f).each))

  pub sum_fails : (x : ℕ) → t.m * t.scale < share_sum_of t.share t.count → None ≡ answer x
  sum_fails x h = front_false x (refuted front (λ f. clash (leb (share_sum_of t.share t.count) (t.m * t.scale)) (lt-leb _ _ h) (front_parts f).sum))

  pub least_fails : (x : ℕ) → eqb (common_below t.scale t.period t.deadline t.count) 1 ≡ false → None ≡ answer x
  least_fails x e = front_false x (refuted front (λ f. clash (eqb (common_below t.scale t.period t.deadline t.count) 1) e (front_parts f).least))
