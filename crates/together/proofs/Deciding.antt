-- The test in the order in which the code decides it: the rows, the kept order, and then the queues
use Rattle.std.specs.Prelude.{Some, None, if◌then◌else◌}
use mathlib.Core.Path.{◌≡◌, refl, sym, ◌∙◌, ap}
use mathlib.Core.Bool.{Bool, true, false, ◌&&◌}
use mathlib.Core.List.{List}
use Prim.Native.Nat.{ℕ, ◌+◌, ◌*◌, ◌/◌, ◌%◌, ◌≤◌, ◌<◌, min}
use native.Mathlib.Numerals.{add-one}
use native.Mathlib.Omega.{arith}
use borrow.Author.Tests.{le-leb, leb-true}
use lib.Dec.{ltb, eqb}
use lib.ListN.{get_or}
use Rattle.state.specs.declared.State.{State}
use Rattle.ground.proofs.Tests.{of_true}
use Rattle.rules.specs.Bounds.{clock}
use Rattle.state.specs.Machine.{end_at, tick_at}
use Rattle.state.specs.Sound.{sound_of}
use Rattle.together_rows.specs.Tables.{table_ok, order_ok}
use Rattle.together_rows.specs.Jobs.{rest_ok, rests_ok, ceil_of, soonest_of, limit_ok, limits_ok, reach_of, awake_sum}
use Rattle.together_rows.specs.Front.{front_of}
use Rattle.together_rows.proofs.Folds.{all_same, and_both, and_next, second_holds, refuted, clash}
use Rattle.together_queues.specs.Amounts.{amounts_ok, Soon}
use Rattle.together.specs.Clauses.{closed_by, open_by}
use Rattle.together.specs.Holds.{clock_ok, closed_ok, open_ok, plane_ok, arrivals_ok, holds_of, TableOk}
use Rattle.together.proofs.Bounds.{end_soon}
use Rattle.together.proofs.Tables.{table_ok_says}

-- A CLOSED PLANE'S TASKS
-- q after the last arrival lies later than the tick exactly when it reaches the next tick; an asleep task's limit always does
rest_limit : (awake arrived : Bool) (last p d tick ceil : ℕ) → 0 < min p d → tick ≤ ceil → rest_ok awake last (min p d) tick ≡ limit_ok awake arrived last p d ceil (tick + 1)
rest_limit true arrived last p d tick ceil s h = rw add-one
rest_limit false true last p d tick ceil s h = sym (le-leb (tick + 1) (soonest_of true last p ceil + min p d) (omega arith))
rest_limit false false last p d tick ceil s h = sym (le-leb (tick + 1) (ceil + min p d) (omega arith))

rests_limits : (ps ds : List ℕ) (awake arrived : List Bool) (last : List ℕ) (tick ceil n : ℕ) → ((i : ℕ) → i < n → 0 < min (get_or ps i 0) (get_or ds i 0)) → tick ≤ ceil
    → rests_ok ps ds awake last tick n ≡ limits_ok ps ds awake arrived last ceil (tick + 1) n
unfolding rests_ok limits_ok
rests_limits ps ds awake arrived last tick ceil n s h =
    all_same _ _ n (λ i k. rest_limit (get_or awake i false) (get_or arrived i false) (get_or last i 0) (get_or ps i 0) (get_or ds i 0) tick ceil (s i k) h)

ceil_least : (now scale : ℕ) → now / scale ≤ ceil_of now scale
ceil_least now scale = go (eqb (now % scale) 0)
  where
    go : (b : Bool) → now / scale ≤ (if b then now / scale else now / scale + 1)
    go true = omega arith
    go false = omega arith

-- WHAT THE ROWS' TEST ANSWERS
pub front_is : (b : Bool) (x y : ℕ) → Some x ≡ (if b then Some y else None) → (b ≡ true) × (x ≡ y)
front_is true x y e = (refl, cc)
front_is false x y e = cc

pub front_not : (b : Bool) (y : ℕ) → None ≡ (if b then Some y else None) → b ≡ false
front_not true y e = cc
front_not false y e = refl

module _ (s : State) where
  -- THE ROWS
  abbrev front : Bool
  front = front_of s.table s.now.0 s.going s.end s.jobs.arrived s.jobs.awake s.jobs.last

  abbrev limits : ℕ → Bool
  limits end = limits_ok s.table.period s.table.deadline s.jobs.awake s.jobs.arrived s.jobs.last (ceil_of s.now.0 s.table.scale) end s.table.count

  abbrev rests : Bool
  rests = rests_ok s.table.period s.table.deadline s.jobs.awake s.jobs.last (tick_at s) s.table.count

  rests_same : TableOk s.table → rests ≡ limits (tick_at s + 1)
  rests_same T =
      rests_limits s.table.period s.table.deadline s.jobs.awake s.jobs.arrived s.jobs.last (tick_at s) (ceil_of s.now.0 s.table.scale) s.table.count
      (λ i h. let a = (T.rows i h).0.0.0 in let b = (T.rows i h).0.2.0 in omega arith) (ceil_least s.now.0 s.table.scale)

  plane_reaches : TableOk s.table → (g : Bool) → (if g then open_ok s else closed_ok s) ≡ true → limits (reach_of g s.end (tick_at s)) ≡ true
  unfolding open_by closed_by
  plane_reaches T true e =
      (and_both (amounts_ok (awake_sum s.jobs.awake s.table.share s.table.count) s.table.m s.table.scale s.now.0 (end_at s) s.running.keys s.running.len s.waiting.keys s.waiting.len) _
      (and_both (ltb s.now.0 (end_at s)) _ e).1).1
  plane_reaches T false e =
      sym (rests_same T)
      ∙ (and_both (eqb s.waiting.len 0) rests (and_both (eqb s.running.len 0) _ (and_both (eqb (s.now.0 % s.table.scale) 0) _ e).1).1).1

  front_holds : holds_of s ≡ true → front ≡ true
  unfolding holds_of front_of
  front_holds e =
      let a = and_both (table_ok s.table) _ e in
      let b = and_both (clock_ok s) _ a.1 in
      let c = and_both (sound_of s) _ b.1 in
      let d = and_both (plane_ok s) _ c.1 in
      let f = and_both (arrivals_ok s) _ d.1 in
      and_next (table_ok s.table) _ a.0 ∙ and_next (clock_ok s) _ b.0 ∙ and_next (arrivals_ok s) _ f.0
      ∙ plane_reaches (of_true (table_ok s.table) (table_ok_says s.table) a.0) s.going d.0

  pub front_fails : front ≡ false → holds_of s ≡ false
  front_fails e = refuted (holds_of s) (λ h. clash front e (front_holds h))

  -- THE KEPT ORDER
  pub order_fails : order_ok s.table ≡ false → holds_of s ≡ false
  unfolding holds_of
  order_fails e =
      refuted (holds_of s) (λ h. clash (order_ok s.table) e
      (and_both (arrivals_ok s) _ (and_both (plane_ok s) _ (and_both (sound_of s) _ (and_both (clock_ok s) _ (and_both (table_ok s.table) _ h).1).1).1).1).1)

  -- THE PLANE
  module _ (f : front ≡ true) where
    parts : (table_ok s.table ≡ true) × (clock_ok s ≡ true) × (arrivals_ok s ≡ true) × (limits (reach_of s.going s.end (tick_at s)) ≡ true)
    unfolding front_of
    parts =
        let a = and_both (table_ok s.table) _ f in
        let b = and_both (clock_ok s) _ a.1 in
        let c = and_both (arrivals_ok s) _ b.1 in
        (a.0, b.0, c.0, c.1)

    pub table_passes : TableOk s.table
    table_passes = of_true (table_ok s.table) (table_ok_says s.table) parts.0

    pub plane_soon : s.going ≡ true → Soon (awake_sum s.jobs.awake s.table.share s.table.count) s.table.count s.table.m s.table.scale s.now.0 s.end
    plane_soon g =
        end_soon s.table table_passes s.now.0 s.end s.jobs.arrived s.jobs.awake s.jobs.last (leb-true s.now.0 (clock * s.table.scale) parts.1) parts.2
        (ap (λ (b : Bool). limits (reach_of b s.end (tick_at s))) (sym g) ∙ parts.3)

    module _ (o : order_ok s.table ≡ true) where
      the_plane : holds_of s ≡ sound_of s && plane_ok s
      unfolding holds_of
      the_plane =
          and_next (table_ok s.table) _ parts.0 ∙ and_next (clock_ok s) _ parts.1
          ∙ ap (λ (b : Bool). sound_of s && b) (second_holds (plane_ok s) _ (and_next (arrivals_ok s) _ parts.2 ∙ o))

      pub open_decides : s.going ≡ true
          → sound_of s && (ltb s.now.0 (end_at s) && amounts_ok (awake_sum s.jobs.awake s.table.share s.table.count) s.table.m s.table.scale s.now.0 (end_at s) s.running.keys s.running.len s.waiting.keys s.waiting.len)
          ≡ holds_of s
      unfolding open_by
      open_decides g =
          let l : limits s.end ≡ true = ap (λ (b : Bool). limits (reach_of b s.end (tick_at s))) (sym g) ∙ parts.3 in
          let A = amounts_ok (awake_sum s.jobs.awake s.table.share s.table.count) s.table.m s.table.scale s.now.0 (end_at s) s.running.keys s.running.len s.waiting.keys s.waiting.len in
          sym (the_plane ∙ ap (λ (b : Bool). sound_of s && (if b then open_ok s else closed_ok s)) g ∙ ap (λ (b : Bool). sound_of s && (ltb s.now.0 (end_at s) && b)) (second_holds A _ l))

      pub closed_decides : s.going ≡ false → sound_of s && (eqb (s.now.0 % s.table.scale) 0 && (eqb s.running.len 0 && eqb s.waiting.len 0)) ≡ holds_of s
      unfolding closed_by
      closed_decides g =
          let l : rests ≡ true = rests_same table_passes ∙ ap (λ (b : Bool). limits (reach_of b s.end (tick_at s))) (sym g) ∙ parts.3 in
          sym (the_plane ∙ ap (λ (b : Bool). sound_of s && (if b then open_ok s else closed_ok s)) g
          ∙ ap (λ (b : Bool). sound_of s && (eqb (s.now.0 % s.table.scale) 0 && (eqb s.running.len 0 && b))) (second_holds (eqb s.waiting.len 0) _ l))
