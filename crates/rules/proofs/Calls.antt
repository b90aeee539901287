-- Each call keeps a state together, and time moves
use mathlib.Core.Path.{◌≡◌, refl, sym, ◌∙◌, ap, subst}
use mathlib.Core.Bool.{Bool, true, false}
use mathlib.Core.Option.{Option, none, some}
use mathlib.Core.Logic.{◌≢◌}
use mathlib.Core.List.{List}
use Prim.Native.Nat.{ℕ, ◌*◌, ◌-◌, ◌/◌, ◌≤◌, ◌<◌}
use native.Mathlib.Nat.{mul-le-mul_right, mul-div_cancel}
use native.Mathlib.Omega.{arith}
use lib.Dec.{eqb}
use lib.ListN.{length}
use Rattle.ground.specs.Tests.{Says}
use Rattle.ground.proofs.Tests.{eqb_says}
use Rattle.rules.specs.Bounds.{clock}
use Rattle.rules.specs.Calls.{lowest_idle, wake, arrive_in, arriving, Moved, after, moving}
use Rattle.rules.specs.Events.{next_at}
use Rattle.rules.specs.Planes.{end_of, opened}
use Rattle.rules.specs.Reasons.{Comes}
use Rattle.rules.specs.State.{running, Cond, asleep, resting, waiting, Task, State, at, is_awake, tick_of, last_of}
use Rattle.rules.proofs.Together.{Awake, Plane, Together}
use Rattle.rules.proofs.Cases.{open_at, open_case, move_in}
use Rattle.rules.proofs.Arriving.{idle_is, woken, wake_same, wake_other, wake_size, wake_by, wakes_shut, arrives}
use Rattle.rules.proofs.Events.{Core, core, Kept, kept_refl}
use Rattle.rules.proofs.Keeping.{Running, running_stands, runs_on, Resting, closes, opens_plane}
use Rattle.rules.proofs.Time.{Next, next_ok}
use Rattle.rules.proofs.Lasts.{awake_last}

-- the present of a whole tick
pub tick_of_lem : (now scale tick : ℕ) → 0 < scale → now ≡ tick * scale → now / scale ≡ tick
tick_of_lem now scale tick h e = rw e (mul-div_cancel tick h)

-- OPEN AND CLOSED
-- the state's parts together with an open plane, with a closed one
pub open_parts : (s : State) (e : ℕ) → Together s → s.plane ≡ some e → Running s.m s.scale s.now e s.tasks
open_parts s e H q = record { table = H.table; seats = H.seats; lasts = H.lasts; going = subst (Plane s) q H.plane }

pub shut_parts : (s : State) → Together s → s.plane ≡ none → Resting s.m s.scale s.now s.tasks
shut_parts s H q = record { table = H.table; seats = H.seats; lasts = H.lasts; shut = subst (Plane s) q H.plane }

-- STEP
-- the instant that a step runs to, in an open plane
pub next_is : {m scale now e : ℕ} (l : List Task) (stop : ℕ) → Running m scale now e l → now < stop → Next (e * scale) now stop (e * scale - now) (next_at (e * scale) now l stop) l
next_is {m} {scale} {now} {e} l stop P h = next_ok (e * scale) now stop l (running_stands l P) (omega (arith, P.going.later)) (omega (arith, P.going.later)) h

-- at the instant `to`: the end, or before it
after_keeps : (s : State) (e to stop : ℕ) → Running s.m s.scale s.now e s.tasks → Next (e * s.scale) s.now stop (e * s.scale - s.now) to s.tasks → to ≤ clock * s.scale
    → (b : Bool) → Says (to ≡ e * s.scale) b → Together (after s e to b)
unfolding after
after_keeps s e to stop P N c true q =
    let C = closes s.tasks P in
    rw q (record { table = C.table; clock = rw q at c; seats = C.seats; lasts = C.lasts; plane = C.shut })
after_keeps s e to stop P N c false q =
    let R = (runs_on s.tasks P to N.moves N.room (omega (arith, N.by_end))).running in
    record { table = R.table; clock = c; seats = R.seats; lasts = R.lasts; plane = R.going }

move_keeps : (s : State) (h e : ℕ) → Running s.m s.scale s.now e s.tasks → s.now < h * s.scale → h ≤ clock → Together (move_in s (some e) h).state
move_keeps s h e P lt hc =
    let N = next_is s.tasks (h * s.scale) P lt in
    after_keeps s e _ (h * s.scale) P N (omega (arith, N.by_stop, mul-le-mul_right s.scale hc)) _ (eqb_says _ (e * s.scale))

case_keeps : (s : State) (h : ℕ) → Together s → s.now < h * s.scale → h ≤ clock → (p : Option ℕ) → s.plane ≡ p → Together (move_in (open_case s p) (open_case s p).plane h).state
case_keeps s h H lt hc none q =
    let O = opens_plane s.tasks (shut_parts s H q) in
    move_keeps (open_at s (tick_of s) (end_of (tick_of s) s.tasks)) h (end_of (tick_of s) s.tasks) O.running lt hc
case_keeps s h H lt hc (some e) q = subst (λ p. Together (move_in s p h).state) (sym q) (move_keeps s h e (open_parts s e H q) lt hc)

pub moving_keeps : (s : State) (h : ℕ) → Together s → s.now < h * s.scale → h ≤ clock → Together (moving s h).state
unfolding moving opened
moving_keeps s h H lt hc = case_keeps s h H lt hc s.plane refl

-- time moves: the record goes from the present to a later instant, no later than the horizon, and so does the state
pub record Moves (s : State) (h : ℕ) (x : Moved) : Type 0 where
  pub from_now : x.rec.from ≡ s.now
  pub later : x.rec.from < x.rec.to
  pub by_horizon : x.rec.to ≤ h * s.scale
  pub arrives : x.state.now ≡ x.rec.to
  pub same_m : x.state.m ≡ s.m
  pub same_scale : x.state.scale ≡ s.scale

pub after_now : (s : State) (e to : ℕ) (b : Bool) → ((after s e to b).now ≡ to) × ((after s e to b).m ≡ s.m) × ((after s e to b).scale ≡ s.scale)
unfolding after
after_now s e to true = (refl, refl, refl)
after_now s e to false = (refl, refl, refl)

move_moves : (s : State) (h e : ℕ) → Running s.m s.scale s.now e s.tasks → s.now < h * s.scale → Moves s h (move_in s (some e) h)
move_moves s h e P lt =
    let N = next_is s.tasks (h * s.scale) P lt in
    let A = after_now s e (next_at (e * s.scale) s.now s.tasks (h * s.scale)) (eqb (next_at (e * s.scale) s.now s.tasks (h * s.scale)) (e * s.scale)) in
    record { from_now = refl; later = N.moves; by_horizon = N.by_stop; arrives = A.0; same_m = A.1; same_scale = A.2 }

case_moves : (s : State) (h : ℕ) → Together s → s.now < h * s.scale → (p : Option ℕ) → s.plane ≡ p → Moves s h (move_in (open_case s p) (open_case s p).plane h)
case_moves s h H lt none q =
    let O = opens_plane s.tasks (shut_parts s H q) in
    let M = move_moves (open_at s (tick_of s) (end_of (tick_of s) s.tasks)) h (end_of (tick_of s) s.tasks) O.running lt in
    record { from_now = M.from_now; later = M.later; by_horizon = M.by_horizon; arrives = M.arrives; same_m = M.same_m; same_scale = M.same_scale }
case_moves s h H lt (some e) q = subst (λ p. Moves s h (move_in s p h)) (sym q) (move_moves s h e (open_parts s e H q) lt)

pub moving_moves : (s : State) (h : ℕ) → Together s → s.now < h * s.scale → Moves s h (moving s h)
unfolding moving opened
moving_moves s h H lt = case_moves s h H lt s.plane refl

-- ARRIVE
-- a task that may come is asleep
not_awake_is : (c : Cond) → ¬ (is_awake c ≡ true) → c ≡ asleep
not_awake_is asleep h = refl
not_awake_is resting h = absurd (h refl)
not_awake_is (running p a) h = absurd (h refl)
not_awake_is (waiting a) h = absurd (h refl)

pub comes_asleep : (s : State) (i : ℕ) → Together s → Comes s i → (at i s.tasks).cond ≡ asleep
comes_asleep s i H C = not_awake_is (at i s.tasks).cond (λ w. case s.plane H.plane w)
  where
    case : (p : Option ℕ) → Plane s p → Awake (at i s.tasks) → ⊥
    case none S w = omega (arith, S.due i w, C.late (last_of (at i s.tasks)) (awake_last H.lasts i w))
    case (some e) G w =
        let le : e ≤ tick_of s = omega (arith, G.due i w, C.late (last_of (at i s.tasks)) (awake_last H.lasts i w)) in
        omega (arith, mul-le-mul_right s.scale le, C.whole, G.later)

arrive_case : (s : State) (i : ℕ) → Together s → Comes s i → (at i s.tasks).cond ≡ asleep → (p : Option ℕ) → s.plane ≡ p
    → Together (record { m = s.m; scale = s.scale; now = s.now; plane = p; tasks = arrive_in s (tick_of s) i p })
unfolding arrive_in
arrive_case s i H C sl none q =
    let W = wakes_shut i s.tasks C.known (shut_parts s H q) in
    record { table = W.table; clock = H.clock; seats = W.seats; lasts = W.lasts; plane = W.shut }
arrive_case s i H C sl (some e) q =
    let A = (arrives i (tick_of s) s.tasks C.known (open_parts s e H q) C.whole sl C.late s refl refl refl (lowest_idle s.tasks 1 s.m) (idle_is s.tasks 1 s.m)).running in
    record { table = A.table; clock = H.clock; seats = A.seats; lasts = A.lasts; plane = A.going }

pub arriving_keeps : (s : State) (i : ℕ) → Together s → Comes s i → Together (arriving s i)
unfolding arriving
arriving_keeps s i H C = arrive_case s i H C (comes_asleep s i H C) s.plane refl

-- of the tasks, only the one in place i has come, at this tick, and it is awake
pub record Takes (i tick : ℕ) (l k : List Task) : Type 0 where
  pub size : length k ≡ length l
  pub row : (j : ℕ) → (at j k).row ≡ (at j l).row
  pub awake : Awake (at i k)
  pub last : (at i k).last ≡ some tick
  pub others : (j : ℕ) → j ≢ i → core (at j k) ≡ core (at j l)

kept_takes : (i tick : ℕ) (c : Cond) (l k : List Task) → i < length l → is_awake c ≡ true → Kept (wake i tick c l) k → Takes i tick l k
kept_takes i tick c l k hi up K =
    let w = wake i tick c l in
    let here : core (at i k) ≡ core (woken tick c (at i l)) = K.same i ∙ ap core (wake_same i tick c l hi) in
    record {
      size = K.size ∙ wake_size i tick c l hi;
      row = λ j. ap (λ (x : Core). x.row) (K.same j) ∙ wake_by i tick c l hi j (λ t. t.row ≡ (at j l).row) (λ q. rw q) (λ _. refl);
      awake = ap (λ (x : Core). x.awake) here ∙ up;
      last = ap (λ (x : Core). x.last) here;
      others = λ j n. K.same j ∙ ap core (wake_other i tick c l hi j n);
    }

pub arriving_takes : (s : State) (i : ℕ) → Together s → Comes s i → Takes i (tick_of s) s.tasks (arriving s i).tasks
unfolding arriving arrive_in
arriving_takes s i H C = go s.plane refl
  where
    go : (p : Option ℕ) → s.plane ≡ p → Takes i (tick_of s) s.tasks (arrive_in s (tick_of s) i p)
    go none q = unfold arrive_in in (kept_takes i (tick_of s) resting s.tasks _ C.known refl (kept_refl _))
    go (some e) q = unfold arrive_in in (
        let A = arrives i (tick_of s) s.tasks C.known (open_parts s e H q) C.whole (comes_asleep s i H C) C.late s refl refl refl (lowest_idle s.tasks 1 s.m) (idle_is s.tasks 1 s.m) in
        kept_takes i (tick_of s) A.cond s.tasks _ C.known A.awake A.kept)
