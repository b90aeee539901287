-- The refusals are the rules', seen through the view
use Rattle.std.specs.Prelude.{if◌then◌else◌}
use mathlib.Core.Path.{◌≡◌, refl, sym, ◌∙◌, ap}
use mathlib.Core.Bool.{Bool, true, false, not}
use Prim.Native.Nat.{ℕ, ◌-◌, ◌≤◌, ◌<◌}
use native.Mathlib.Omega.{arith}
use lib.Dec.{leb}
use Rattle.rules.specs.Answers.{Done, TaskNumber, BetweenTicks, TooSoon}
use Rattle.state.specs.declared.State.{State}
use Rattle.rules.specs.State as Rules
use Rattle.rules.specs.Calls as Rule
use Rattle.ground.specs.Tests.{Says}
use Rattle.ground.proofs.Tests.{leb_says, and_says}
use Rattle.rules.specs.State.{at}
use Rattle.state.specs.Machine.{tick_at}
use Rattle.state.specs.View.{tasks_at, view}
use Rattle.state.proofs.Lasts.{soon_shown}
use Rattle.moves.specs.Whole.{Whole}
use Rattle.moves.proofs.Keeping.{tasks_count, task_at_lem}
use Rattle.refusals.specs.Arrive.{task_in, whole_tick, soon_again, arrive_answer_of}
use Rattle.refusals.specs.Step.{moves_by, step_answer_of}
use Rattle.refusals.proofs.Checking.{whole_holds, view_holds}

soon_same : (s : State) (i : ℕ) → i < s.table.count → soon_again (tick_at s) s.table.period s.jobs.arrived s.jobs.last i ≡ Rule.too_soon (Rules.tick_of (view s)) (at i (tasks_at s))
soon_same s i h = sym (ap (Rule.too_soon (tick_at s)) (task_at_lem s i h) ∙ soon_shown (tick_at s) s.table s.jobs i)

pub arrive_same : (s : State) (task : ℕ) → Whole s → arrive_answer_of s task ≡ Rule.arrive_answer (view s) task
unfolding arrive_answer_of Rule.arrive_answer
arrive_same s task W = rw (whole_holds s W, view_holds s W, tasks_count s) (go (task_in s.table.count task) (and_says (1 ≤ task) (task ≤ s.table.count) (leb 1 task) (leb task s.table.count) (leb_says 1 task) (leb_says task s.table.count)))
  where
    go : (b : Bool) → Says ((1 ≤ task) × (task ≤ s.table.count)) b
        → (if not b then TaskNumber else (if not (whole_tick s.table.scale s.now.0) then BetweenTicks else (if soon_again (tick_at s) s.table.period s.jobs.arrived s.jobs.last (task - 1) then TooSoon else Done)))
        ≡ (if not b then TaskNumber else (if not (whole_tick s.table.scale s.now.0) then BetweenTicks else (if Rule.too_soon (Rules.tick_of (view s)) (at (task - 1) (tasks_at s)) then TooSoon else Done)))
    go false h = refl
    go true h = ap (λ (x : Bool). if not (whole_tick s.table.scale s.now.0) then BetweenTicks else (if x then TooSoon else Done)) (soon_same s (task - 1) (omega (arith, h)))

pub step_same : (s : State) (h n : ℕ) → Whole s → step_answer_of s h n ≡ Rule.step_answer (view s) h n
unfolding step_answer_of moves_by Rule.step_answer
step_same s h n W = rw (whole_holds s W, view_holds s W)
