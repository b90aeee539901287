-- A step and an arrival keep a state whole, and show what the rules say
use Rattle.std.specs.Prelude.{if◌then◌else◌}
use mathlib.Core.Path.{◌≡◌, refl, sym, ◌∙◌, ap, subst}
use mathlib.Core.Bool.{Bool, true, false, ◌&&◌}
use mathlib.Core.Option.{Option, none, some}
use mathlib.Core.List.{List, [], ◌∷◌, map, foldl}
use Prim.Native.Nat.{ℕ, ◌+◌, ◌*◌, ◌≤◌, ◌<◌}
use native.Mathlib.Omega.{arith}
use lib.Dec.{eqb}
use lib.ListN.{length, get_or, set, take, length-set}
use Rattle.table.specs.declared.Table.{Table}
use Rattle.state.specs.declared.Jobs.{Jobs}
use Rattle.state.specs.declared.State.{State}
use Rattle.rules.specs.State as Rules
use Rattle.ground.specs.Sums.{up_from}
use Rattle.ground.proofs.Ranges.{length_up, at_up}
use Rattle.rules.specs.Calls.{arriving, moving}
use Rattle.rules.specs.Planes.{end_of, falling, shares_of, opened}
use Rattle.rules.specs.State.{Task, nobody, at}
use Rattle.rules.proofs.Together.{Together}
use Rattle.rules.proofs.Calls.{open_parts, shut_parts, moving_keeps, comes_asleep, arriving_keeps}
use Rattle.rules.specs.Reasons.{Comes}
use Rattle.rules.proofs.Keeping.{Running, running_stands, opens_plane}
use Rattle.rules.proofs.Standing.{facts}
use Rattle.state.specs.Machine.{end_at, tick_at, work_of, with_work, shorter_at, plane_end, opens_to, opened_of, sleep_row, sleep_all, closed_of, move_to, moved_of, woken_jobs, woken, joined, arrived_of}
use Rattle.state.specs.View.{task_at, tasks_at, plane_of, view, Sound, Sized}
use Rattle.state.specs.Work.{at_time, events_of, next_of}
use Rattle.state.proofs.Arriving.{CanArrive, arrived_view}
use Rattle.state.proofs.Step.{InPlane, CanStep, moved_view}
use Rattle.moves.specs.Whole.{Whole}
use Rattle.rules.specs.Bounds.{clock}
use Rattle.rules.proofs.Cases.{open_at, open_case}
use Rattle.rules.proofs.Holding.{together_is, holds_as}

-- WHAT STAYS
-- the tasks' count, shares and rows are the table's
pub tasks_count : (s : State) → length (tasks_at s) ≡ s.table.count
tasks_count s = length_up (task_at s) 0 s.table.count

pub task_at_lem : (s : State) (i : ℕ) → i < s.table.count → at i (tasks_at s) ≡ task_at s i
task_at_lem s i h = at_up (task_at s) nobody 0 s.table.count i h ∙ (let z : 0 + i ≡ i = omega arith in ap (task_at s) z)

shares_are : (s : State) → shares_of (tasks_at s) ≡ map (λ i. get_or s.table.share i 0) (up_from 0 s.table.count)
shares_are s = go (up_from 0 s.table.count)
  where
    go : (is : List ℕ) → map (λ (t : Task). t.share) (map (task_at s) is) ≡ map (λ i. get_or s.table.share i 0) is
    go [] = refl
    go (i ∷ is) = ap (λ (x : List ℕ). get_or s.table.share i 0 ∷ x) (go is)

-- the order stays the falling one while the table stays
pub order_kept : (s k : State) → k.table ≡ s.table → take s.table.count s.table.order ≡ falling (shares_of (tasks_at s)) → take k.table.count k.table.order ≡ falling (shares_of (tasks_at k))
order_kept s k e h =
    ap (λ (t : Table). take t.count t.order) e ∙ h ∙ ap falling (shares_are s ∙ ap (λ (t : Table). map (λ i. get_or t.share i 0) (up_from 0 t.count)) (sym e) ∙ sym (shares_are k))

-- THE TABLE AND THE ARRAYS STAY
pub opened_table : (s : State) → ((opened_of s).table ≡ s.table) × ((opened_of s).jobs ≡ s.jobs)
unfolding opened_of opens_to
opened_table s = go s.going
  where
    go : (b : Bool) → ((if b then s else opens_to s (tick_at s) (plane_end s.table s.jobs (tick_at s))).table ≡ s.table)
        × ((if b then s else opens_to s (tick_at s) (plane_end s.table s.jobs (tick_at s))).jobs ≡ s.jobs)
    go true = (refl, refl)
    go false = (refl, refl)

sleep_length : (t : Table) (last : List ℕ) (tick : ℕ) (awake : List Bool) → length (sleep_all t last tick awake) ≡ length awake
unfolding sleep_all sleep_row
sleep_length t last tick awake = go (up_from 0 t.count) awake
  where
    one : (b : Bool) (a : List Bool) (i : ℕ) → length (if b then set a i false else a) ≡ length a
    one true a i = length-set a i false
    one false a i = refl

    go : (is : List ℕ) (a : List Bool) → length (foldl (sleep_row t last tick) a is) ≡ length a
    go [] a = refl
    go (i ∷ is) a = go is (sleep_row t last tick a i) ∙ one (get_or a i false && eqb (get_or last i 0 + shorter_at t i) tick) a i

pub record Same (s k : State) : Type 0 where
  pub table : k.table ≡ s.table
  pub awake : length k.jobs.awake ≡ length s.jobs.awake
  pub arrived : k.jobs.arrived ≡ s.jobs.arrived
  pub last : k.jobs.last ≡ s.jobs.last

move_same : (s : State) (to : ℕ) → Same s (move_to s to).state
unfolding move_to closed_of
move_same s to = go (eqb to (end_at s))
  where
    go : (b : Bool) → Same s (if b then closed_of s to else with_work s (events_of (at_time to (work_of s))))
    go true = record { table = refl; awake = sleep_length s.table s.jobs.last s.end s.jobs.awake; arrived = refl; last = refl }
    go false = record { table = refl; awake = refl; arrived = refl; last = refl }

moved_same : (s : State) (h : ℕ) → Same s (moved_of s h).state
unfolding moved_of
moved_same s h =
    let o = opened_of s in
    let O = opened_table s in
    let M = move_same o (next_of (work_of o) (h * o.table.scale)) in
    record {
      table = M.table ∙ O.0;
      awake = M.awake ∙ ap (λ (j : Jobs). length j.awake) O.1;
      arrived = M.arrived ∙ ap (λ (j : Jobs). j.arrived) O.1;
      last = M.last ∙ ap (λ (j : Jobs). j.last) O.1;
    }

-- arrays have their places
pub sized_by : (k : State) → Sound k → length k.table.order ≡ 128 → length k.jobs.awake ≡ 128 → length k.jobs.arrived ≡ 128 → length k.jobs.last ≡ 128 → Sized k
sized_by k S o a b c = record {
  order = o;
  awake = a;
  arrived = b;
  last = c;
  running_keys = S.running.keys_room;
  running_tasks = S.running.tasks_room;
  waiting_keys = S.waiting.keys_room;
  waiting_tasks = S.waiting.tasks_room;
  slots = S.seats.room;
}

-- WHAT A STEP NEEDS
-- an open plane, as plane's laws want it
running_plane : (r : Rules.State) (e : ℕ) → Running r.m r.scale r.now e r.tasks → InPlane r e
running_plane r e P = record { scale = (facts r.tasks P.table).scale_pos; before = P.going.later; stands = running_stands r.tasks P; known = P.lasts.known }

-- what it says that the state holds together
pub together_of : {s : State} → Whole s → Together (view s)
together_of {s} W = together_is (view s) W.together

opened_plane : (r : Rules.State) → Together r → (p : Option ℕ) → r.plane ≡ p → (e : ℕ) → (open_case r p).plane ≡ some e → InPlane (open_case r p) e
opened_plane r H none q e z =
    let O = (opens_plane r.tasks (shut_parts r H q)).running in
    let y : end_of (Rules.tick_of r) r.tasks ≡ e = some_same z in
    subst (InPlane (open_at r (Rules.tick_of r) (end_of (Rules.tick_of r) r.tasks))) y (running_plane (open_at r (Rules.tick_of r) (end_of (Rules.tick_of r) r.tasks)) (end_of (Rules.tick_of r) r.tasks) O)
  where
    some_same : {a b : ℕ} → ◌≡◌ {A = Option ℕ} (some a) (some b) → a ≡ b
    some_same z = cc
opened_plane r H (some x) q e z = running_plane r e (open_parts r e H z)

pub shares_fit : (s : State) → Whole s → (i : ℕ) → i < s.table.count → (0 < get_or s.table.share i 0) × (get_or s.table.share i 0 ≤ s.table.scale)
shares_fit s W i h =
    let F = facts (tasks_at s) (together_of W).table in
    let n = tasks_count s in
    let e : (at i (tasks_at s)).share ≡ get_or s.table.share i 0 = ap (λ (t : Task). t.share) (task_at_lem s i h) in
    (omega (arith, F.some_share i (omega arith)), omega (arith, F.most i))

pub can_step : (s : State) → Whole s → CanStep s
unfolding opened
can_step s W =
    let F = facts (tasks_at s) (together_of W).table in
    record {
      some_row = omega (arith, F.size, tasks_count s);
      scale = F.scale_pos;
      shares = shares_fit s W;
      order = W.order;
      known = (together_of W).lasts.known;
      idle = λ g i. (shut_parts (view s) (together_of W) (ap (λ (b : Bool). if b then some s.end else none) g)).shut.idle i;
      plane = opened_plane (view s) (together_of W) (plane_of s) refl;
    }

-- STEP
pub record Steps (s : State) (h : ℕ) : Type 0 where
  pub view_is : view (moved_of s h).state ≡ (moving (view s) h).state
  pub rec_is : (moved_of s h).rec ≡ (moving (view s) h).rec
  pub whole : Whole (moved_of s h).state

pub step_whole : (s : State) (h : ℕ) → Whole s → s.now.0 < h * s.table.scale → h ≤ clock → Steps s h
step_whole s h W lt hc =
    let M = moved_view s h W.sound (can_step s W) lt in
    let K = moved_same s h in
    record {
      view_is = M.0;
      rec_is = M.1;
      whole = record {
        sized = sized_by (moved_of s h).state M.2 (ap (λ (t : Table). length t.order) K.table ∙ W.sized.order) (K.awake ∙ W.sized.awake) (ap length K.arrived ∙ W.sized.arrived) (ap length K.last ∙ W.sized.last);
        sound = M.2;
        together = holds_as M.0 (moving_keeps (view s) h (together_of W) lt hc);
        order = order_kept s (moved_of s h).state K.table W.order;
      };
    }

-- ARRIVE
joined_table : (s : State) (i : ℕ) → ((joined s i).table ≡ s.table) × ((joined s i).jobs ≡ s.jobs)
unfolding joined
joined_table s i = (refl, refl)

arrived_jobs : (s : State) (i : ℕ) → ((arrived_of s i).table ≡ s.table) × ((arrived_of s i).jobs ≡ woken_jobs s.jobs i (tick_at s))
unfolding arrived_of
arrived_jobs s i = go s.going
  where
    go : (b : Bool) → ((if b then joined (woken s i (tick_at s)) i else woken s i (tick_at s)).table ≡ s.table)
        × ((if b then joined (woken s i (tick_at s)) i else woken s i (tick_at s)).jobs ≡ woken_jobs s.jobs i (tick_at s))
    go true = joined_table (woken s i (tick_at s)) i
    go false = (refl, refl)

open_plane : (r : Rules.State) → Together r → (e : ℕ) → r.plane ≡ some e → InPlane r e
open_plane r H e q = running_plane r e (open_parts r e H q)

pub can_arrive : (s : State) (i : ℕ) → Whole s → Comes (view s) i → CanArrive s i
can_arrive s i W C =
    let h : i < s.table.count = omega (arith, C.known, tasks_count s) in
    record {
      row = h;
      sleeps = comes_asleep (view s) i (together_of W) C;
      procs = (together_of W).table.processors.0;
      share = shares_fit s W i h;
      plane = open_plane (view s) (together_of W);
    }

pub record Comes-whole (s : State) (i : ℕ) : Type 0 where
  pub view_is : view (arrived_of s i) ≡ arriving (view s) i
  pub whole : Whole (arrived_of s i)

pub arrive_whole : (s : State) (i : ℕ) → Whole s → Comes (view s) i → Comes-whole s i
arrive_whole s i W C =
    let A = arrived_view s i W.sized W.sound (can_arrive s i W C) in
    let K = arrived_jobs s i in
    let k = arrived_of s i in
    record {
      view_is = A.0;
      whole = record {
        sized = sized_by k A.1 (ap (λ (t : Table). length t.order) K.0 ∙ W.sized.order) (ap (λ (j : Jobs). length j.awake) K.1 ∙ length-set s.jobs.awake i true ∙ W.sized.awake)
            (ap (λ (j : Jobs). length j.arrived) K.1 ∙ length-set s.jobs.arrived i true ∙ W.sized.arrived)
            (ap (λ (j : Jobs). length j.last) K.1 ∙ length-set s.jobs.last i (tick_at s) ∙ W.sized.last);
        sound = A.1;
        together = holds_as A.0 (arriving_keeps (view s) i (together_of W) C);
        order = order_kept s k K.0 W.order;
      };
    }
