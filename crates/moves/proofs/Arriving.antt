-- What an arrival asks, and what it does
use Rattle.std.specs.Prelude.{if◌then◌else◌}
use mathlib.Core.Path.{◌≡◌, sym, ◌∙◌, ap}
use mathlib.Core.Bool.{Bool, true, false}
use Prim.Native.Nat.{ℕ, ◌+◌, ◌*◌, ◌-◌, ◌≤◌, ◌<◌}
use native.Mathlib.Nat.{mul-le-mul_right, lt_of_mul-lt-mul_right}
use native.Mathlib.Omega.{arith}
use lib.Dec.{ltb}
use lib.ListN.{get_or}
use Rattle.state.specs.declared.State.{State}
use Rattle.rules.specs.State as Rules
use Rattle.rules.specs.State.{on}
use Rattle.rules.proofs.Calls.{comes_asleep}
use Rattle.rules.specs.Reasons.{Comes}
use Rattle.rules.proofs.Keeping.{Running, running_stands}
use Rattle.rules.proofs.Standing.{facts}
use Rattle.rules.proofs.Cases.{runs_of, waits_of}
use Rattle.queue.specs.Heap.{below}
use Rattle.state.specs.Fit.{Joining}
use Rattle.state.specs.Machine.{woken, end_at, tick_at, work_of, with_work, amount_at, joined, arrived_of}
use Rattle.state.specs.View.{tasks_at, view}
use Rattle.state.specs.Work.{Work, first_idle, joins}
use Rattle.state.proofs.Views.{sound_is}
use Rattle.plane.proofs.Ready.{join_ready}
use Rattle.moves.specs.Whole.{Whole}
use Rattle.moves.proofs.Keeping.{tasks_count, shares_fit, together_of}
use Rattle.moves.proofs.Moving.{plane_runs, end_fits}

module _ (s : State) (i : ℕ) (W : Whole s) (C : Comes (view s) i) where
  pub arrive_row : (i < s.table.count) × (i < 128)
  arrive_row = (omega (arith, C.known, tasks_count s), omega (arith, C.known, tasks_count s, W.sound.few))

  pub arrive_scale : 0 < s.table.scale
  arrive_scale = (facts (tasks_at s) (together_of W).table).scale_pos

  -- in an open plane
  module _ (on : s.going ≡ true) where
    P : Running s.table.m s.table.scale s.now.0 s.end (tasks_at s)
    P = plane_runs s W on

    pub arrive_later : tick_at s < s.end
    arrive_later = lt_of_mul-lt-mul_right s.table.scale (omega (arith, C.whole, P.going.later))

    -- the amount is at most what is left of the plane
    pub arrive_amount : amount_at s i ≤ end_at s - s.now.0
    arrive_amount =
        let lt = arrive_later in
        let e : s.end ≡ tick_at s + (s.end - tick_at s) = omega arith in
        omega (arith, mul-le-mul_right (s.end - tick_at s) (shares_fit s W i arrive_row.0).1, ap (λ x. x * s.table.scale) e, C.whole)

    pub arrive_fits : amount_at s i < 18446744073709551616
    arrive_fits = omega (arith, arrive_amount, (end_fits s W on).0)

    pub arrive_joins : Joining (work_of s) (amount_at s i)
    arrive_joins =
        let later = P.going.later in
        let sl = comes_asleep (view s) i (together_of W) C in
        join_ready (sound_is s W.sound) (running_stands (tasks_at s) P) (omega arith) (end_fits s W on).0 (together_of W).table.processors.0 i (amount_at s i) arrive_row.0
        (ap (λ (c : Rules.Cond). runs_of c + waits_of c) sl) arrive_amount

pub arrive_inside : {s : State} {i : ℕ} → Whole s × Comes (view s) i → i < 128
arrive_inside {s} {i} p = (arrive_row s i p.0 p.1).1

-- with no plane open the task is simply awake
pub arrived_off : (s : State) (i : ℕ) → s.going ≡ false → woken s i (tick_at s) ≡ arrived_of s i
unfolding arrived_of
arrived_off s i off = sym (ap (λ b. if b then joined (woken s i (tick_at s)) i else woken s i (tick_at s)) off)

-- else it joins the plane
pub arrived_on : (s : State) (i : ℕ) → s.going ≡ true → (w : Work) (t : ℕ) (below : Bool) → t ≡ i + 1 → below ≡ ltb (get_or s.table.share i 0) s.table.scale
    → w ≡ joins (first_idle s.table.m s.slots) t (amount_at s i) below (work_of s) → with_work (woken s i (tick_at s)) w ≡ arrived_of s i
unfolding arrived_of joined
arrived_on s i on w t below e f h =
    let k = woken s i (tick_at s) in
    ap (λ (x : Work). with_work k x) h
    ∙ ap (λ (x : ℕ). with_work k (joins (first_idle s.table.m s.slots) x (amount_at s i) below (work_of s))) e
    ∙ ap (λ (x : Bool). with_work k (joins (first_idle s.table.m s.slots) (i + 1) (amount_at s i) x (work_of s))) f
    ∙ sym (ap (λ b. if b then with_work k (joins (first_idle s.table.m s.slots) (i + 1) (amount_at s i) (ltb (get_or s.table.share i 0) s.table.scale) (work_of s)) else k) on)
