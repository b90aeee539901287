-- A step of the code over its queues is the step of the rules, and leaves a sound state
use Rattle.std.specs.Prelude.{if◌then◌else◌}
use mathlib.Core.Path.{◌≡◌, refl, sym, ◌∙◌, ap, subst}
use mathlib.Core.Bool.{Bool, true, false}
use mathlib.Core.Option.{Option, none, some}
use mathlib.Core.Logic.{◌≢◌}
use mathlib.Core.List.{List}
use Prim.Native.Nat.{ℕ, ◌+◌, ◌*◌, ◌-◌, ◌≤◌, ◌<◌}
use native.Mathlib.Omega.{arith}
use borrow.Author.Tests.{eqb-false}
use lib.Dec.{eqb}
use lib.ListN.{get_or, take}
use Rattle.state.specs.declared.State.{State}
use Rattle.rules.specs.State as Rules
use Rattle.rules.specs.Calls as Calls
use Rattle.rules.specs.Calls.{moving}
use Rattle.rules.specs.Events.{advance, next_at, events}
use Rattle.rules.specs.Planes.{end_of, falling, shares_of, open_tasks, opened}
use Rattle.rules.specs.State.{Task, at, runs, waits}
use Rattle.rules.proofs.Cases.{open_case, move_in, move_to}
use Rattle.rules.proofs.Events.{Stands}
use Rattle.rules.proofs.Plane.{Fits}
use Rattle.rules.proofs.Time.{advance_ok, Next, next_ok}
use Rattle.state.specs.Machine as Machine
use Rattle.state.specs.Machine.{end_at, tick_at, work_of, with_work, plane_end, opens_to, opened_of, closed_of, moved_of}
use Rattle.state.specs.View.{plane_of, view, Sound}
use Rattle.state.specs.Work.{at_time, events_of, next_of}
use Rattle.state.proofs.Amounts.{scale_some, tick_before, amount_some, amount_in_time}
use Rattle.state.proofs.Closing.{close_is}
use Rattle.state.proofs.Lasts.{Known}
use Rattle.state.proofs.Opening.{end_same, open_is, opens_now}
use Rattle.state.proofs.Passing.{advance_is, next_late, slots_same}
use Rattle.state.proofs.Seizing.{events_is, frame_events}
use Rattle.state.proofs.Shows.{Is, next_same}
use Rattle.state.proofs.Views.{crew, IsState, sound_is, seen_as, view_is, put_is}

-- WHAT THE RULES KNOW OF AN OPEN PLANE: it ends at the tick e, which is later than the present, and it stands
pub record InPlane (r : Rules.State) (e : ℕ) : Type 0 where
  pub scale : 0 < r.scale
  pub before : r.now < e * r.scale
  pub stands : Stands r.m r.scale (e * r.scale - r.now) r.tasks
  pub known : Known r.tasks

-- FROM A PLANE THAT IS OPEN
-- the next instant, before the plane's end: time has passed, no event has happened yet
pub record Reached (s : State) (l : List Task) (to : ℕ) : Type 0 where
  pub low : to < end_at s
  pub is : Is (crew s) (at_time to (work_of s)) (advance (to - s.now.0) l)
  pub fits : Fits 0 s.table.m s.table.scale (end_at s - to) (advance (to - s.now.0) l)

module _ (s : State) (l : List Task) (I : IsState s l) (P : InPlane (seen_as s l) s.end) (stop : ℕ) (hn : s.now.0 < stop) where
  next : Next (end_at s) s.now.0 stop (end_at s - s.now.0) (next_of (work_of s) stop) l
  next = rw (next_same I stop) at (next_ok (end_at s) s.now.0 stop l P.stands (omega (arith, P.before)) (omega (arith, P.before)) hn)

  pub reached : next_of (work_of s) stop ≢ end_at s → Reached s l (next_of (work_of s) stop)
  reached ne =
      let N = next in
      let to = next_of (work_of s) stop in
      let R : end_at s - s.now.0 - (to - s.now.0) ≡ end_at s - to = omega (arith, N.moves) in
      record {
        low = omega (arith, N.by_end);
        is = advance_is I to (omega (arith, N.moves)) (next_late I stop);
        fits = rw R at (advance_ok l P.stands.fits (to - s.now.0) N.room);
      }

record Done (k : State) (r : Rules.State) : Type 0 where
  sound : Sound k
  same : view k ≡ r

module _ (s : State) (l : List Task) (I : IsState s l) (on : s.going ≡ true) (P : InPlane (seen_as s l) s.end) (stop : ℕ) (hn : s.now.0 < stop) where
  after_same : Done (Machine.move_to s (next_of (work_of s) stop)).state (Calls.after (seen_as s l) s.end (next_of (work_of s) stop) (eqb (next_of (work_of s) stop) (end_at s)))
  unfolding Machine.move_to Calls.after
  after_same = go (eqb to (end_at s)) refl
    where
      to : ℕ
      to = next_of (work_of s) stop

      go : (b : Bool) → eqb to (end_at s) ≡ b → Done (if b then closed_of s to else with_work s (events_of (at_time to (work_of s)))) (Calls.after (seen_as s l) s.end to b)
      go true q =
          let C = close_is s l I P.known to in
          record { sound = C.tidy; same = view_is (closed_of s to) _ C ∙ (unfold closed_of in refl) }
      go false q =
          let k = advance (to - s.now.0) l in
          let r = reached s l I P stop hn (eqb-false to (end_at s) q) in
          let E = events_is (crew s) s.table.m s.table.scale (end_at s - to) (omega (arith, r.low)) (scale_some s.now.0 s.end s.table.scale P.before) (at_time to (work_of s)) k (omega (arith, r.low)) r.is r.fits in
          let f = frame_events (at_time to (work_of s)) in
          let J = put_is s (events_of (at_time to (work_of s))) (events (end_at s) to k) f.m f.end E in
          record {
            sound = J.tidy;
            same = view_is (with_work s (events_of (at_time to (work_of s)))) _ J
                ∙ (λ i. record { m = s.table.m; scale = s.table.scale; now = f.now i; plane = if on i then some s.end else none; tasks = events (end_at s) to k });
          }

  -- the step from an open plane: state, record, soundness
  pub move_to_lem : (view (Machine.move_to s (next_of (work_of s) stop)).state ≡ (move_to (seen_as s l) s.end (next_at (end_at s) s.now.0 l stop)).state)
      × ((Machine.move_to s (next_of (work_of s) stop)).rec ≡ (move_to (seen_as s l) s.end (next_at (end_at s) s.now.0 l stop)).rec)
      × Sound (Machine.move_to s (next_of (work_of s) stop)).state
  unfolding Machine.move_to
  move_to_lem = (
    rw (next_same I stop) after_same.same,
    rw (next_same I stop) (λ i. record { from = s.now.0; to = next_of (work_of s) stop; slots = sym (slots_same I) i }),
    after_same.sound,
  )

-- WHAT A STEP NEEDS, as the rules know it of the view
pub record CanStep (s : State) : Type 0 where
  pub some_row : 0 < s.table.count
  pub scale : 0 < s.table.scale
  pub shares : (i : ℕ) → i < s.table.count → (0 < get_or s.table.share i 0) × (get_or s.table.share i 0 ≤ s.table.scale)
  pub order : take s.table.count s.table.order ≡ falling (shares_of (view s).tasks)
  pub known : Known (view s).tasks
  pub idle : s.going ≡ false → (i : ℕ) → runs (at i (view s).tasks) + waits (at i (view s).tasks) ≡ 0
  pub plane : (e : ℕ) → (opened (view s)).plane ≡ some e → InPlane (opened (view s)) e

-- OPENED
-- the state o shows r, is sound, and is s but for its plane
pub record Opened (s : State) (r : Rules.State) (o : State) : Type 0 where
  pub same : view o ≡ r
  pub sound : Sound o
  pub on : o.going ≡ true
  pub table : o.table ≡ s.table
  pub now : o.now.0 ≡ s.now.0

module _ (s : State) (S : Sound s) (C : CanStep s) where
  abbrev l : List Task
  l = (view s).tasks

  abbrev tick : ℕ
  tick = tick_at s

  abbrev e : ℕ
  e = plane_end s.table s.jobs (tick_at s)

  ends_alike : end_of tick l ≡ e
  ends_alike = end_same s l (sound_is s S) C.known tick C.some_row

  open_case_lem : (b : Bool) → s.going ≡ b
      → ((e : ℕ) → (open_case (view s) (if b then some s.end else none)).plane ≡ some e → InPlane (open_case (view s) (if b then some s.end else none)) e)
      → Opened s (open_case (view s) (if b then some s.end else none)) (if b then s else opens_to s tick e)
  unfolding opens_to
  open_case_lem true q P = record { same = refl; sound = S; on = q; table = refl; now = refl }
  open_case_lem false q P =
      record {
        same =
            view_is (opens_to s tick e) _ O
            ∙ (λ i. record { m = s.table.m; scale = s.table.scale; now = opens_now s tick e i; plane = some (sym ends_alike i); tasks = open_tasks s.table.m (sym ends_alike i - tick) l });
        sound = O.tidy;
        on = refl;
        table = refl;
        now = opens_now s tick e;
      }
    where
      later : tick < e
      later = subst (λ (x : ℕ). tick < x) ends_alike (tick_before s.now.0 (end_of tick l) s.table.scale (P (end_of tick l) refl).before)

      amounts : (i : ℕ) → i < s.table.count → (0 < get_or s.table.share i 0 * (e - tick)) × (get_or s.table.share i 0 * (e - tick) ≤ e * s.table.scale)
      amounts i hi =
          let b = C.shares i hi in
          (amount_some (get_or s.table.share i 0) tick e b.0 later, omega (arith, amount_in_time (get_or s.table.share i 0) s.table.scale tick e b.1 later))

      O : IsState (opens_to s tick e) (open_tasks s.table.m (e - tick) l)
      O = open_is s l (sound_is s S) C.order (C.idle q) tick e amounts

  -- the opened state shows the rules' opened state, and is sound
  pub opened_view : Opened s (opened (view s)) (opened_of s)
  unfolding opened opened_of
  opened_view = open_case_lem s.going refl C.plane

-- STEP
-- a step of the code shows the step of the rules, writes its record, and leaves a sound state
pub moved_view : (s : State) (h : ℕ) → Sound s → CanStep s → s.now.0 < h * s.table.scale
    → (view (moved_of s h).state ≡ (moving (view s) h).state) × ((moved_of s h).rec ≡ (moving (view s) h).rec) × Sound (moved_of s h).state
unfolding moved_of moving
moved_view s h S C hn =
    let o = opened_of s in
    let O = opened_view s S C in
    let on : plane_of o ≡ some o.end = ap (λ (b : Bool). if b then some o.end else none) O.on in
    let P : InPlane (view o) o.end = subst (λ (r : Rules.State). InPlane r o.end) (sym O.same) (C.plane o.end (ap (λ (r : Rules.State). r.plane) (sym O.same) ∙ on)) in
    let hn' : o.now.0 < h * o.table.scale = rw (O.table, O.now) hn in
    let M = move_to_lem o (view o).tasks (sound_is o O.sound) O.on P (h * o.table.scale) hn' in
    let turn : move_in (opened (view s)) (opened (view s)).plane h ≡ move_to (view o) o.end (next_at (o.end * o.table.scale) o.now.0 (view o).tasks (h * o.table.scale)) =
    ap (λ (r : Rules.State). move_in r r.plane h) (sym O.same) ∙ ap (λ (x : Option ℕ). move_in (view o) x h) on in
    (M.0 ∙ ap (λ (x : Calls.Moved). x.state) (sym turn), M.1 ∙ ap (λ (x : Calls.Moved). x.rec) (sym turn), M.2)
