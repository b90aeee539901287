-- A work that fits stays one through the moves and the events, and gives the code what it asks
use Rattle.std.specs.Prelude.{if◌then◌else◌}
use mathlib.Core.Path.{◌≡◌, refl, sym, ◌∙◌, ap, subst}
use mathlib.Core.Bool.{Bool, true, false}
use mathlib.Core.Option.{none, some}
use mathlib.Core.Logic.{◌≢◌, ◌⊎◌, inl, inr}
use mathlib.Core.List.{List, map}
use Prim.Native.Nat.{ℕ, suc, ◌+◌, ◌-◌, ◌≤◌, ◌<◌}
use native.Mathlib.Omega.{arith}
use borrow.Author.Tests.{ltb-true}
use lib.Dec.{ltb}
use lib.ListN.{get_or}
use lib.Seq.{get_or-set_same}
use Rattle.ground.specs.Sums.{up_from}
use Rattle.rules.specs.State.{nobody}
use Rattle.queue.specs.Queues.{push_of, pop_of, top_key, top_task, key_in}
use Rattle.queue.proofs.Keys.{Added, Removed, push_adds, pop_removes}
use Rattle.state.specs.Fit.{Room, Timely, Yields}
use Rattle.state.specs.View.{Tidy}
use Rattle.state.specs.Work.{Work, seat, top_place, rest_top, unqueue, park, place, give_top, b_one, seize_top, c_one}
use Rattle.state.proofs.Moves.{Top, runner, waiter, rest_is, unqueue_is, wait_room, run_room, park_is, place_is}
use Rattle.state.proofs.Seats.{Sits, sits_in}
use Rattle.state.proofs.Shows.{Crew, seen, shows_all, Is, clash, removed_some, added_some, removed_none, run_not_wait, run_awake, wait_awake}

-- LENGTHS
pub fit_room : {n : ℕ} {awake : List Bool} {w : Work} → Timely n awake w → Room w
fit_room f =
    let S = f.tidy in
    record {
      run_keys = S.running.keys_room;
      run_tasks = S.running.tasks_room;
      wait_keys = S.waiting.keys_room;
      wait_tasks = S.waiting.tasks_room;
      slots = S.seats.room;
      places = S.seats.most;
    }

-- tasks of which nothing but the condition matters
abbrev any_crew : ℕ → List Bool → Crew
any_crew n awake = record { count = n; awake = awake; base = λ i. nobody }

fit_is : {n : ℕ} {awake : List Bool} {w : Work} → Timely n awake w → Is (any_crew n awake) w (map (seen (any_crew n awake) w) (up_from 0 n))
fit_is {n} {awake} {w} f = record { tidy = f.tidy; shows = shows_all (any_crew n awake) w }

-- THE TOPS
module _ {n : ℕ} {awake : List Bool} {w : Work} (f : Timely n awake w) where
  S : Tidy n awake w
  S = f.tidy

  module _ (some : 0 < w.running.len) where
    pub top_runner : Top w.running
    top_runner = runner (fit_is f) some

    pub top_sits : Sits w.m w.slots (suc top_runner.task)
    top_sits = sits_in S.seats top_runner.task (top_key w.running) top_runner.held

    -- the slot of the running's top exists
    pub top_seat : (0 < seat (top_task w.running) w.slots) × (top_place w < 16) × (top_place w ≡ top_sits.place)
    top_seat = rw (top_runner.is, top_sits.is) (omega arith, omega (arith, top_sits.low, S.seats.most), omega arith)

    -- its key is not past, and by the end
    pub run_top : (w.now ≤ top_key w.running) × (top_key w.running ≤ w.end)
    run_top = ((S.run_in (suc top_runner.task) (top_key w.running) top_runner.held).2, f.run_by (suc top_runner.task) (top_key w.running) top_runner.held)

    -- it has room among the waiting
    pub run_fits_wait : w.waiting.len < 128
    run_fits_wait = wait_room (fit_is f) top_runner.task (S.run_in (suc top_runner.task) (top_key w.running) top_runner.held).1
        (run_not_wait S (suc top_runner.task) (top_key w.running) top_runner.held)

  module _ (some : 0 < w.waiting.len) where
    pub top_waiter : Top w.waiting
    top_waiter = waiter (fit_is f) some

    -- the waiting's top has a key not past and before the end
    pub wait_top : (w.now ≤ top_key w.waiting) × (top_key w.waiting < w.end)
    wait_top = (f.wait_from (suc top_waiter.task) (top_key w.waiting) top_waiter.held, (S.wait_in (suc top_waiter.task) (top_key w.waiting) top_waiter.held).2)

    -- it has room among the running
    pub wait_fits_run : w.running.len < 128
    wait_fits_run = let b = S.wait_in (suc top_waiter.task) (top_key w.waiting) top_waiter.held in run_room (fit_is f) top_waiter.task b.1 b.4

-- THE FOUR MOVES
module _ {n : ℕ} {awake : List Bool} {w : Work} (f : Timely n awake w) where
  pub fit_rest : 0 < w.running.len → Timely n awake (rest_top (top_place w) w)
  unfolding rest_top
  fit_rest h =
      let t = top_runner f h in
      let R : Removed w.running (pop_of w.running) (suc t.task) = rw t.is at (pop_removes w.running f.tidy.running h) in
      record {
        tidy = rw (top_seat f h).2 (rest_is (fit_is f) h t (top_sits f h)).tidy;
        run_by = λ x k e. f.run_by x k (removed_some w.running (pop_of w.running) (suc t.task) x k R e).1;
        wait_from = f.wait_from;
        past = f.past;
        small = f.small;
      }

  pub fit_unqueue : 0 < w.waiting.len → Timely n awake (unqueue w)
  unfolding unqueue
  fit_unqueue h =
      let t = top_waiter f h in
      let R : Removed w.waiting (pop_of w.waiting) (suc t.task) = rw t.is at (pop_removes w.waiting f.tidy.waiting h) in
      record {
        tidy = (unqueue_is (fit_is f) h t).tidy;
        run_by = f.run_by;
        wait_from = λ x k e. f.wait_from x k (removed_some w.waiting (pop_of w.waiting) (suc t.task) x k R e).1;
        past = f.past;
        small = f.small;
      }

  module _ (u a : ℕ) (hu : u < n) (out_r : key_in w.running (suc u) ≡ none) (out_w : key_in w.waiting (suc u) ≡ none) (up : get_or awake u false ≡ true) (in_time : w.now + a ≤ w.end) where
    pub fit_park : 0 < a → Timely n awake (park (suc u) a w)
    unfolding park
    fit_park pos =
        record {
          tidy = (park_is (fit_is f) u a hu out_r out_w up pos (omega arith)).tidy;
          run_by = f.run_by;
          wait_from = λ x k e. from x k (added_some w.waiting (push_of w.waiting (w.end - a) (suc u)) (w.end - a) (suc u) x k A e);
          past = f.past;
          small = f.small;
        }
      where
        A : Added w.waiting (push_of w.waiting (w.end - a) (suc u)) (w.end - a) (suc u)
        A = push_adds w.waiting (w.end - a) (suc u) f.tidy.waiting (wait_room (fit_is f) u hu out_w) out_w

        from : (x k : ℕ) → ((x ≡ suc u) × (k ≡ w.end - a)) ⊎ ((x ≢ suc u) × (key_in w.waiting x ≡ some k)) → w.now ≤ k
        from x k (inl z) = omega arith
        from x k (inr z) = f.wait_from x k z.1

    pub fit_place : (r : ℕ) → r < w.m → get_or w.slots r 0 ≡ 0 → Timely n awake (place r (suc u) a w)
    unfolding place
    fit_place r hr idle =
        record {
          tidy = (place_is (fit_is f) r u a hr idle hu out_r out_w up).tidy;
          run_by = λ x k e. by x k (added_some w.running (push_of w.running (w.now + a) (suc u)) (w.now + a) (suc u) x k A e);
          wait_from = f.wait_from;
          past = f.past;
          small = f.small;
        }
      where
        A : Added w.running (push_of w.running (w.now + a) (suc u)) (w.now + a) (suc u)
        A = push_adds w.running (w.now + a) (suc u) f.tidy.running (run_room (fit_is f) u hu out_r) out_r

        by : (x k : ℕ) → ((x ≡ suc u) × (k ≡ w.now + a)) ⊎ ((x ≢ suc u) × (key_in w.running x ≡ some k)) → k ≤ w.end
        by x k (inl z) = omega arith
        by x k (inr z) = f.run_by x k z.1

-- THE EVENTS
pub fit_give : {n : ℕ} {awake : List Bool} {w : Work} → Timely n awake w → (p : ℕ) → p < w.m → get_or w.slots p 0 ≡ 0 → Timely n awake (give_top p w)
unfolding give_top unqueue
fit_give {n} {awake} {w} f p hp idle = go (ltb 0 w.waiting.len) refl
  where
    go : (b : Bool) → ltb 0 w.waiting.len ≡ b → Timely n awake (if b then place p (top_task w.waiting) (w.end - top_key w.waiting) (unqueue w) else w)
    go true e =
        let h = ltb-true 0 w.waiting.len e in
        let t = top_waiter f h in
        let b = f.tidy.wait_in (suc t.task) (top_key w.waiting) t.held in
        let k = wait_top f h in
        let gone : key_in (pop_of w.waiting) (suc t.task) ≡ none = rw t.is at (pop_removes w.waiting f.tidy.waiting h).this in
        rw t.is
        (fit_place (fit_unqueue f h) t.task (w.end - top_key w.waiting) b.1 b.4 gone (wait_awake f.tidy t.task (top_key w.waiting) t.held) (omega (arith, k.0, k.1)) p hp idle)
    go false e = f

-- the place that the running's top leaves is idle
left_idle : {n : ℕ} {awake : List Bool} {w : Work} (f : Timely n awake w) (h : 0 < w.running.len) → (top_place w < w.m) × (get_or (rest_top (top_place w) w).slots (top_place w) 0 ≡ 0)
unfolding rest_top
left_idle {w = w} f h =
    let low : top_place w < w.m = omega (arith, (top_seat f h).2, (top_sits f h).low) in
    (low, get_or-set_same w.slots (top_place w) 0 0 (omega (arith, f.tidy.seats.room, f.tidy.seats.most)))

pub fit_b : {n : ℕ} {awake : List Bool} {w : Work} → Timely n awake w → 0 < w.running.len → Timely n awake (b_one w)
unfolding b_one
fit_b {w = w} f h = let o = left_idle f h in fit_give (fit_rest f h) (top_place w) (unfold rest_top in o.0) o.1

-- a task in no queue takes the processor of the running's top
pub fit_seize : {n : ℕ} {awake : List Bool} {w : Work} (f : Timely n awake w) → Yields w → (u a : ℕ) → u < n → key_in w.running (suc u) ≡ none → key_in w.waiting (suc u) ≡ none → get_or awake u false ≡ true
    → w.now + a ≤ w.end → Timely n awake (seize_top (suc u) a w)
unfolding seize_top rest_top park
fit_seize {n} {awake} {w} f y u a hu out_r out_w up in_time =
    subst (λ (v : ℕ). Timely n awake (place (top_place w) (suc u) a (park v x (rest_top (top_place w) w)))) (sym t.is)
    (fit_place P u a hu
    (removed_none w.running (pop_of w.running) (suc t.task) (suc u) R out_r)
    (A.others (suc u) (λ z. clash (key_in w.running (suc u)) (top_key w.running) (ap (key_in w.running) z ∙ t.held) out_r) ∙ out_w)
    up in_time (top_place w) o.0 o.1)
  where
    h : 0 < w.running.len
    h = y.runs

    t : Top w.running
    t = top_runner f h

    x : ℕ
    x = top_key w.running - w.now

    o : (top_place w < w.m) × (get_or (rest_top (top_place w) w).slots (top_place w) 0 ≡ 0)
    o = left_idle f h

    R : Removed w.running (pop_of w.running) (suc t.task)
    R = rw t.is at (pop_removes w.running f.tidy.running h)

    b : (0 < suc t.task) × (suc t.task ≤ n) × (w.now ≤ top_key w.running) × (get_or awake (suc t.task - 1) false ≡ true)
    b = f.tidy.run_in (suc t.task) (top_key w.running) t.held

    not_w : key_in w.waiting (suc t.task) ≡ none
    not_w = run_not_wait f.tidy (suc t.task) (top_key w.running) t.held

    A : Added w.waiting (push_of w.waiting (w.end - x) (suc t.task)) (w.end - x) (suc t.task)
    A = push_adds w.waiting (w.end - x) (suc t.task) f.tidy.waiting (run_fits_wait f h) not_w

    P : Timely n awake (park (suc t.task) x (rest_top (top_place w) w))
    P = fit_park (fit_rest f h) t.task x b.1 R.this not_w (run_awake f.tidy t.task (top_key w.running) t.held) (omega (arith, (run_top f h).1, b.2)) (omega (arith, y.live))

-- the same in a C event
pub fit_c : {n : ℕ} {awake : List Bool} {w : Work} → Timely n awake w → 0 < w.waiting.len → Yields w → Timely n awake (c_one w)
unfolding c_one unqueue
fit_c {n} {awake} {w} f h y =
    let t = top_waiter f h in
    let b = f.tidy.wait_in (suc t.task) (top_key w.waiting) t.held in
    let k = wait_top f h in
    let gone : key_in (pop_of w.waiting) (suc t.task) ≡ none = rw t.is at (pop_removes w.waiting f.tidy.waiting h).this in
    rw t.is
    (fit_seize (fit_unqueue f h) (record { runs = y.runs; live = y.live }) t.task (w.end - top_key w.waiting) b.1 b.4 gone
    (wait_awake f.tidy t.task (top_key w.waiting) t.held) (omega (arith, k.0, k.1)))
