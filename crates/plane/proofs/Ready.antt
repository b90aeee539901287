-- WHAT THE PUBLIC FUNCTIONS ASK, from a state that holds together: its work is sound and shows tasks in a plane that stands
use mathlib.Core.Path.{◌≡◌, refl, ◌∙◌, ap, subst}
use mathlib.Core.Bool.{true, false}
use mathlib.Core.Option.{some}
use mathlib.Core.List.{List}
use Prim.Native.Nat.{ℕ, zero, suc, ◌+◌, ◌*◌, ◌-◌, ◌≤◌, ◌<◌}
use native.Mathlib.Nat.{mul-le-mul_right, le_of_mul-le-mul_right}
use native.Mathlib.Decide.{dec_lt}
use native.Mathlib.Omega.{arith}
use lib.ListN.{length, get_or, take, length-map}
use lib.Seq.{get_or-take}
use Rattle.rules.specs.Events.{advance, b_events, seize}
use Rattle.rules.specs.Planes.{falling, shares_of}
use Rattle.rules.specs.State.{Task, at, amount, runs, waits, last_of}
use Rattle.rules.proofs.Together.{Lasts}
use Rattle.rules.proofs.Cases.{amount_of}
use Rattle.rules.proofs.Events.{Stands, b_all_lem}
use Rattle.rules.proofs.Falling.{falling_below, falling_length}
use Rattle.rules.proofs.Places.{inside}
use Rattle.rules.proofs.Plane.{Fits, Alive}
use Rattle.rules.proofs.Time.{advance_ok, Next, next_ok}
use Rattle.queue.specs.Queues.{key_in}
use Rattle.state.specs.declared.State.{State}
use Rattle.state.specs.Fit.{Fit, Yielding, Eventful, Joining, Opens}
use Rattle.state.specs.Machine.{work_of, begun}
use Rattle.state.specs.Work.{Work, at_time, c_one, b_all, next_of}
use Rattle.state.proofs.Arriving.{idle_none, top_yields}
use Rattle.state.proofs.Giving.{b_all_is, frame_b_all}
use Rattle.state.proofs.Moves.{wait_room, run_room}
use Rattle.state.proofs.Opening.{in_no_queue}
use Rattle.state.proofs.Passing.{advance_is, next_late, awake_at}
use Rattle.state.proofs.Seizing.{c_top, frame_c}
use Rattle.state.proofs.Shows.{Crew, Is, run_cond, wait_cond, next_same}
use Rattle.state.proofs.Views.{IsState}
use Rattle.plane.specs.Rows.{Came}
use Rattle.rules.proofs.Lasts.{awake_last, awake_came}
use Rattle.state.proofs.Lasts.{last_kept}

-- A WORK THAT FITS
-- the amounts that the plane bounds bound the keys
module _ {c : Crew} {w : Work} {l : List Task} (I : Is c w l) {m scale R : ℕ} (F : Fits 0 m scale R l) (he : w.now + R ≡ w.end) (small : w.end < 18446744073709551616) where
  run_by : (t k : ℕ) → key_in w.running t ≡ some k → k ≤ w.end
  run_by zero k e = absurd (omega (arith, (I.tidy.run_in zero k e).0))
  run_by (suc i) k e =
      let b = I.tidy.run_in (suc i) k e in
      omega (arith, F.small i, ap amount_of (run_cond I i k b.1 e), b.2)

  wait_from : (t k : ℕ) → key_in w.waiting t ≡ some k → w.now ≤ k
  wait_from zero k e = absurd (omega (arith, (I.tidy.wait_in zero k e).0))
  wait_from (suc i) k e =
      let b = I.tidy.wait_in (suc i) k e in
      omega (arith, F.small i, ap amount_of (wait_cond I i k b.1 b.4 e), b.2)

  pub fit_ready : Fit w
  fit_ready =
      record {
        count = c.count;
        awake = c.awake;
        timely = record { tidy = I.tidy; run_by = run_by; wait_from = wait_from; past = omega arith; small = small };
      }

-- EVENTS
-- each C event has somebody to displace
module _ (c : Crew) (m scale R : ℕ) (h_r : 0 < R) (hs : 0 < scale) where
  yielding : (n : ℕ) (w : Work) (l : List Task) → w.now + R ≡ w.end → Is c w l → Fits 0 m scale R l → Alive l → Yielding n w
  yielding zero w l he I F A = tt
  yielding (suc n) w l he I F A =
      λ e.
      let T = c_top c m scale R h_r hs w l he I F A e in
      let f = frame_c w in
      (T.yields, yielding n (c_one w) (seize w.now T.task l) (omega (arith, f.now, f.end)) T.is T.fits T.alive)

  -- at an instant where the plane fits
  pub events_fit : (w : Work) (l : List Task) → w.now + R ≡ w.end → w.end < 18446744073709551616 → Is c w l → Fits 0 m scale R l → Eventful w
  events_fit w l he small I F =
      let B = b_all_is I F in
      let f = frame_b_all w in
      let b = b_all_lem m scale R w.end l F in
      let k = b_events w.end l in
      record {
        fit = fit_ready I F he small;
        yields = yielding (b_all w).waiting.len (b_all w) k (omega (arith, f.now, f.end)) B b.0 (λ j. go j b.1 b.2.size (dec_lt 0 (runs (at j k))));
      }
    where
      go : (j : ℕ) → ((j : ℕ) → j < length l → runs (at j (b_events w.end l)) ≤ amount (at j (b_events w.end l))) → length (b_events w.end l) ≡ length l
          → Dec (0 < runs (at j (b_events w.end l))) → runs (at j (b_events w.end l)) ≤ amount (at j (b_events w.end l))
      go j b s (yes h) = b j (omega (arith, inside runs (b_events w.end l) j refl h))
      go j b s (no h) = omega arith

-- at the next instant of a plane that stands, if that is not its end
pub events_ready : {c : Crew} {w : Work} {l : List Task} {m scale R : ℕ} → Is c w l → Stands m scale R l → 0 < scale → 0 < R → w.now + R ≡ w.end → w.end < 18446744073709551616
    → (stop : ℕ) → w.now < stop → next_of w stop < w.end → Eventful (at_time (next_of w stop) w)
events_ready {c} {w} {l} {m} {scale} {R} I S hs h_r he small stop hn before =
    let to = next_of w stop in
    let N : Next w.end w.now stop R to l = rw (next_same I stop) at (next_ok w.end w.now stop l S h_r he hn) in
    let d = to - w.now in
    let A = advance_is I to (omega (arith, N.moves)) (next_late I stop) in
    let F = advance_ok l S.fits d N.room in
    events_fit c m scale (R - d) (omega (arith, N.moves)) hs (at_time to w) (advance d l) (omega (arith, N.moves)) small A F

-- OPENING AND CLOSING
-- no last arrival of an awake task is after a tick that has not passed
pub came_ready : (s : State) (l : List Task) → IsState s l → 0 < s.table.scale → Lasts s.table.scale s.now.0 l → (tick : ℕ) → s.now.0 ≤ tick * s.table.scale → tick ≤ 18446744069414584320
    → Came s.jobs.awake s.jobs.last s.table.count tick
came_ready s l I hs L tick h small = record { few = I.tidy.few; past = past; small = small }
  where
    past : (i : ℕ) → i < s.table.count → get_or s.jobs.awake i false ≡ true → get_or s.jobs.last i 0 ≤ tick
    past i hi e =
        let w = awake_at I i hi ∙ e in
        let z : last_of (at i l) ≡ get_or s.jobs.last i 0 = last_kept s l I i hi (last_of (at i l)) (awake_last L i w) in
        let b : last_of (at i l) * s.table.scale ≤ tick * s.table.scale = omega (arith, awake_came L i w) in
        omega (arith, le_of_mul-le-mul_right b hs)

-- a plane from the present, a whole tick, to tick e: the shares are at most the scale, and the order is the rules'
pub open_ready : (s : State) (l : List Task) → IsState s l → (tick e : ℕ) → s.now.0 ≡ tick * s.table.scale → tick ≤ e → e * s.table.scale < 18446744073709551616
    → ((i : ℕ) → i < s.table.count → get_or s.table.share i 0 ≤ s.table.scale) → length s.table.order ≡ 128 → take s.table.count s.table.order ≡ falling (shares_of l)
    → Opens (work_of (begun s e)) s.table.order s.table.share s.table.count (e - tick)
open_ready s l I tick e whole later small shares rows order =
    record {
      room = record { run_keys = refl; run_tasks = refl; wait_keys = refl; wait_tasks = refl; slots = refl; places = I.tidy.seats.most };
      idle = refl;
      few = I.tidy.few;
      rows = rows;
      inside = λ i h. subst (λ (x : ℕ). x < s.table.count) (get_or-take s.table.count s.table.order i 0 h) (row i h);
      amounts = λ t h. amount_in t h;
      small = small;
    }
  where
    size : length (shares_of l) ≡ s.table.count
    size = length-map l (λ (t : Task). t.share) ∙ I.shows.size

    row : (i : ℕ) → i < s.table.count → get_or (take s.table.count s.table.order) i 0 < s.table.count
    row i h = rw order (omega (arith, falling_below (shares_of l) i (omega (arith, falling_length (shares_of l), size)), size))

    amount_in : (t : ℕ) → t < s.table.count → s.now.0 + get_or s.table.share t 0 * (e - tick) ≤ e * s.table.scale
    amount_in t h =
        let d : e - tick + tick ≡ e = omega arith in
        omega (arith, mul-le-mul_right (e - tick) (shares t h), ap (λ (x : ℕ). x * s.table.scale) d)

-- ARRIVING
-- the search for an idle processor stays inside the slots
pub idle_ready : {c : Crew} {w : Work} {l : List Task} → Is c w l → w.m ≤ 16
idle_ready I = I.tidy.seats.most

-- the task in row i, which neither runs nor waits, joins a plane that stands with at most what is left of it
pub join_ready : {c : Crew} {w : Work} {l : List Task} {m scale R : ℕ} → Is c w l → Stands m scale R l → w.now + R ≡ w.end → w.end < 18446744073709551616 → 0 < w.m
    → (i a : ℕ) → i < c.count → runs (at i l) + waits (at i l) ≡ 0 → a ≤ R → Joining w a
join_ready {w = w} I S he small procs i a hi out most =
    let o = in_no_queue I i hi out in
    record {
      fit = fit_ready I S.fits he small;
      run_room = run_room I i hi o.0;
      wait_room = wait_room I i hi o.1;
      amount = omega arith;
      yields = λ e. (top_yields I S he (idle_none I procs e)).0;
    }
