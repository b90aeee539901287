-- What a step asks at the next instant of an open plane, and what it does there
use Rattle.std.specs.Prelude.{if◌then◌else◌}
use mathlib.Core.Path.{◌≡◌, sym, ◌∙◌, ap}
use mathlib.Core.Bool.{true, false}
use mathlib.Core.Option.{none, some}
use Prim.Native.Nat.{ℕ, ◌*◌, ◌≤◌, ◌<◌}
use native.Mathlib.Omega.{arith}
use borrow.Author.Tests.{eq-eqb}
use Rattle.std.proofs.Math.Arith.{lt_of_le-ne}
use lib.Dec.{lit≤, eqb}
use mathlib.Core.List.{List}
use Rattle.queue.specs.declared.Queue.{Queue}
use Rattle.plane.specs.Lent.{parts_at}
use Rattle.table.specs.declared.Table.{Table}
use Rattle.state.specs.declared.State.{State}
use Rattle.rules.specs.State.{on}
use Rattle.rules.proofs.Calls.{open_parts, next_is}
use Rattle.rules.proofs.Keeping.{Running, not_both, running_stands}
use Rattle.rules.proofs.Standing.{Facts, facts}
use Rattle.state.specs.Fit.{Eventful}
use Rattle.state.specs.Machine.{move_to, moved_of, end_at, work_of, with_work, opened_of, closed_of}
use Rattle.state.specs.View.{tasks_at, view}
use Rattle.state.specs.Work.{at_time, events_of, next_of}
use Rattle.state.proofs.Shows.{next_same}
use Rattle.state.proofs.Step.{opened_view}
use Rattle.state.proofs.Views.{IsState, sound_is}
use Rattle.plane.specs.Rows.{Came}
use Rattle.plane.proofs.Ready.{events_ready, came_ready}
use Rattle.moves.specs.Whole.{Whole, Settles}
use Rattle.moves.proofs.Keeping.{can_step, opened_table, together_of}
use Rattle.moves.proofs.Opening.{end_small, instant_small}
use Rattle.rules.specs.Bounds.{clock}

-- the next instant, by two queues that show those of the plane
pub next_seen : {run run_in wait wait_in : Queue} {x : ℕ} (m t e : ℕ) (slots : List ℕ) (stop : ℕ) → run ≡ run_in → wait ≡ wait_in
    → x ≡ next_of (parts_at m t e run wait slots) stop → x ≡ next_of (parts_at m t e run_in wait_in slots) stop
next_seen {run} {run_in} {wait} {wait_in} m t e slots stop r w h =
    h
    ∙ ap (λ (q : Queue). next_of (parts_at m t e q wait slots) stop) r
    ∙ ap (λ (q : Queue). next_of (parts_at m t e run_in q slots) stop) w

-- an open plane, as the rules know it
pub plane_runs : (s : State) → Whole s → s.going ≡ true → Running s.table.m s.table.scale s.now.0 s.end (tasks_at s)
plane_runs s W on = open_parts (view s) s.end (together_of W) (ap (λ b. if b then some s.end else none) on)

-- its end fits 64 bits
pub end_fits : (s : State) → Whole s → s.going ≡ true → (end_at s < 18446744073709551616) × (s.end ≤ 4297064447)
end_fits s W on =
    let h = end_small (tasks_at s) (plane_runs s W on) (together_of W).clock in
    (instant_small s.end s.table.scale h (together_of W).table.scale_most, h)

module _ (s : State) (to : ℕ) (S : Settles s to) where
  P : Running s.table.m s.table.scale s.now.0 s.end (tasks_at s)
  P = plane_runs s S.whole S.on

  I : IsState s (tasks_at s)
  I = sound_is s S.whole.sound

  F : Facts s.table.m s.table.scale (tasks_at s)
  F = facts (tasks_at s) P.table

  pub settle_came : Came s.jobs.awake s.jobs.last s.table.count s.end
  settle_came = came_ready s (tasks_at s) I F.scale_pos P.lasts s.end (omega (arith, P.going.later)) (omega (arith, (end_fits s S.whole S.on).1))

  by_end : to ≤ end_at s
  by_end = rw S.next (rw (next_same I S.stop) at (next_is (tasks_at s) S.stop P S.ahead).by_end)

  pub settle_fit : eqb to (end_at s) ≡ false → Eventful (at_time to (work_of s))
  settle_fit f =
      let later = P.going.later in
      let lt : to < end_at s = lt_of_le-ne by_end (λ q. not_both ⊥ (sym f ∙ eq-eqb to (end_at s) q)) in
      let before : next_of (work_of s) S.stop < end_at s = let e = S.next in omega arith in
      rw S.next (events_ready I (running_stands (tasks_at s) P) F.scale_pos (omega arith) (omega arith) (end_fits s S.whole S.on).0 S.stop S.ahead before)

-- at the end the plane closes; else the events happen
pub moved_end : (s : State) (to : ℕ) → eqb to (end_at s) ≡ true → closed_of s to ≡ (move_to s to).state
unfolding move_to
moved_end s to e = sym (ap (λ b. if b then closed_of s to else with_work s (events_of (at_time to (work_of s)))) e)

pub moved_on : (s : State) (to : ℕ) → eqb to (end_at s) ≡ false → with_work s (events_of (at_time to (work_of s))) ≡ (move_to s to).state
unfolding move_to
moved_on s to e = sym (ap (λ b. if b then closed_of s to else with_work s (events_of (at_time to (work_of s)))) e)

-- A STEP
-- the stop fits 64 bits
pub stop_fits : (s : State) (h : ℕ) → Whole s → h ≤ clock → h * s.table.scale < 18446744073709551616
stop_fits s h W hc = instant_small h s.table.scale (let b : clock ≤ 4297064447 = lit≤ tt in omega arith) (together_of W).table.scale_most

-- the opened state has the same table and present
pub opened_terms : (s : State) → Whole s → ((opened_of s).table ≡ s.table) × ((opened_of s).now.0 ≡ s.now.0)
opened_terms s W = let O = opened_view s W.sound (can_step s W) in (O.table, O.now)

-- from the opened state to the next instant is a step
pub moved_from : (s : State) (h : ℕ) (o : State) → o ≡ opened_of s → move_to o (next_of (work_of o) (h * s.table.scale)) ≡ moved_of s h
unfolding moved_of
moved_from s h o e =
    ap (λ (k : State). move_to k (next_of (work_of k) (h * s.table.scale))) e
    ∙ ap (λ (n : ℕ). move_to (opened_of s) (next_of (work_of (opened_of s)) (h * n))) (sym (ap (λ (t : Table). t.scale) (opened_table s).0))
