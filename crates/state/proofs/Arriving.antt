-- An arrival over the queues is the arrival of the rules, and leaves a sound state
use Rattle.std.specs.Prelude.{if◌then◌else◌}
use mathlib.Core.Path.{◌≡◌, refl, sym, ◌∙◌, ap}
use mathlib.Core.Bool.{Bool, true, false}
use mathlib.Core.Option.{Option, none, some}
use mathlib.Core.List.{List, [], ◌∷◌}
use Prim.Native.Nat.{ℕ, zero, suc, ◌+◌, ◌*◌, ◌-◌, ◌≤◌, ◌<◌}
use native.Mathlib.Numerals.{add-one}
use native.Mathlib.Decide.{ℕ_discrete}
use native.Mathlib.Omega.{arith}
use borrow.Author.Tests.{ne_eqb}
use lib.Dec.{ltb, eqb}
use lib.ListN.{length, get_or, set, take, length-set}
use lib.Seq.{get_or-set_same, get_or-set_other, set-set, get_or-take, length-take-le}
use Rattle.state.specs.declared.State.{State}
use Rattle.rules.specs.Calls as Calls
use Rattle.rules.specs.Calls.{lowest_idle, wake, arrive_idle, arrive_in, arriving}
use Rattle.rules.specs.Events.{seize}
use Rattle.rules.specs.Record.{on_proc}
use Rattle.rules.specs.State.{Cond, asleep, resting, running, waiting, Task, nobody, at, be, become, runs, waits}
use Rattle.rules.proofs.Cases.{amount_of, runs_of, waits_of}
use Rattle.rules.proofs.Events.{Stands}
use Rattle.queue.specs.Queues.{top_key, key_in}
use Rattle.queue.proofs.Keys.{some_held}
use Rattle.state.specs.Fit.{Yields}
use Rattle.state.specs.Machine.{end_at, tick_at, work_of, with_work, woken, amount_at, joined, arrived_of}
use Rattle.state.specs.View.{cond_in, task_at, plane_of, view, Tidy, Sound, Sized}
use Rattle.state.specs.Work.{Work, seat_from, first_idle, rest_top, park, place, seize_top, joins}
use Rattle.state.proofs.Amounts.{tick_before, amount_some, amount_in_time}
use Rattle.state.proofs.Frame.{Frame, frame_if}
use Rattle.state.proofs.Moves.{runner, park_is, place_is}
use Rattle.state.proofs.Opening.{in_no_queue}
use Rattle.state.proofs.Passing.{slot_is}
use Rattle.state.proofs.Seats.{seat_found, seat_none}
use Rattle.state.proofs.Seizing.{seize_is}
use Rattle.state.proofs.Shows.{Crew, Is, in_list, run_cond}
use Rattle.state.proofs.Step.{InPlane}
use Rattle.state.proofs.Views.{crew, IsState, sound_is, seen_as, view_is, put_is}

-- A TASK IN NO QUEUE WAKES
woken_is : (s : State) (l : List Task) → IsState s l → Sized s → (i tick : ℕ) → i < s.table.count → key_in s.running (suc i) ≡ none → key_in s.waiting (suc i) ≡ none
    → IsState (woken s i tick) (wake i tick resting l)
unfolding wake cond_in
woken_is s l I A i tick hi out_r out_w =
    record {
      tidy =
          record {
            few = S.few;
            running = S.running;
            waiting = S.waiting;
            run_in = λ t k e. let r = S.run_in t k e in (r.0, r.1, r.2, still (t - 1) r.3);
            wait_in = λ t k e. let r = S.wait_in t k e in (r.0, r.1, r.2, still (t - 1) r.3, r.4);
            seats = S.seats;
          };
      shows = record { size = length-set l i _ ∙ I.shows.size; each = λ j hj. each j hj (ℕ_discrete j i) };
    }
  where
    S : Sound s
    S = I.tidy

    still : (x : ℕ) → get_or s.jobs.awake x false ≡ true → get_or (set s.jobs.awake i true) x false ≡ true
    still x e = go (ℕ_discrete x i)
      where
        go : Dec (x ≡ i) → get_or (set s.jobs.awake i true) x false ≡ true
        go (yes z) = rw z (get_or-set_same s.jobs.awake i true false (omega (arith, A.awake, S.few)))
        go (no z) = get_or-set_other s.jobs.awake i x true false z ∙ e

    each : (j : ℕ) → j < s.table.count → Dec (j ≡ i) → at j (wake i tick resting l) ≡ task_at (woken s i tick) j
    each j hj (yes z) =
        rw z (get_or-set_same l i _ nobody (in_list I i hi)
        ∙ ap (λ (t : Task). record { row = t.row; share = t.share; cond = resting; last = some tick }) (I.shows.each i hi)
        ∙ rw (
          out_r,
          out_w,
          get_or-set_same s.jobs.awake i true false (omega (arith, A.awake, S.few)),
          get_or-set_same s.jobs.arrived i true false (omega (arith, A.arrived, S.few)),
          get_or-set_same s.jobs.last i tick 0 (omega (arith, A.last, S.few)),
        ))
    each j hj (no z) =
        get_or-set_other l i j _ nobody z ∙ I.shows.each j hj
        ∙ rw (get_or-set_other s.jobs.awake i j true false z, get_or-set_other s.jobs.arrived i j true false z, get_or-set_other s.jobs.last i j tick 0 z)

wake_become : (i tick : ℕ) (d : Cond) (l : List Task) → i < length l → wake i tick d l ≡ become i d (wake i tick resting l)
unfolding wake become
wake_become i tick d l hi =
    let t : Task = record { row = (at i l).row; share = (at i l).share; cond = resting; last = some tick } in
    sym (ap (λ (u : Task). set (set l i t) i (be d u)) (get_or-set_same l i t nobody hi) ∙ set-set l i t (be d t))

-- THE LOWEST IDLE PROCESSOR
-- 0 for none
abbrev pub as_proc : ℕ → Option ℕ
as_proc zero = none
as_proc (suc p) = some (suc p)

abbrev idle_case : List Task → ℕ → ℕ → ℕ → Option ℕ
idle_case l p n x = elim x [ zero ↦ some (suc p) | suc k ↦ lowest_idle l (suc (suc p)) n ]

idle_from : (l : List Task) (p n : ℕ) (xs : List ℕ) → length xs ≡ n → ((j : ℕ) → j < n → on_proc (suc p + j) 1 l ≡ get_or xs j 0) → lowest_idle l (suc p) n ≡ as_proc (seat_from 0 (suc p) xs)
unfolding lowest_idle
idle_from l p zero [] e h = refl
idle_from l p zero (x ∷ xs) e h = absurd (omega arith)
idle_from l p (suc n) [] e h = absurd (omega arith)
idle_from l p (suc n) (x ∷ xs) e h =
    let z : suc p + 0 ≡ suc p = omega arith in
    ap (idle_case l p n) (rw z at (h 0 (omega arith))) ∙ go x (idle_from l (suc p) n xs (omega arith) (λ j hj. let y : suc p + suc j ≡ suc (suc p) + j = omega arith in rw y at (h (suc j) (omega arith))))
  where
    go : (x : ℕ) → lowest_idle l (suc (suc p)) n ≡ as_proc (seat_from 0 (suc (suc p)) xs)
        → idle_case l p n x ≡ as_proc (if eqb x 0 then suc p else seat_from 0 (suc (suc p)) xs)
    go zero ih = refl
    go (suc k) ih = rw (ne_eqb (suc k) 0 (λ z. omega arith)) ih

module _ {c : Crew} {w : Work} {l : List Task} (I : Is c w l) where
  S : Tidy c.count c.awake w
  S = I.tidy

  slots_len : length (take w.m w.slots) ≡ w.m
  slots_len = length-take-le w.m w.slots (omega (arith, S.seats.room, S.seats.most))

  -- the lowest idle processor of the rules
  pub idle_same : lowest_idle l 1 w.m ≡ as_proc (first_idle w.m w.slots)
  idle_same =
      idle_from l 0 w.m (take w.m w.slots) slots_len
      (λ j hj. let z : 1 + j ≡ suc j = omega arith in rw z (slot_is I j ∙ sym (get_or-take w.m w.slots j 0 hj)))

  -- it is one of the m, and idle
  pub idle_place : (r : ℕ) → first_idle w.m w.slots ≡ suc r → (r < w.m) × (get_or w.slots r 0 ≡ 0)
  idle_place r e =
      let f = seat_found 0 0 r (take w.m w.slots) e in
      let hr : r < w.m = omega (arith, f.1, f.2, slots_len) in
      let fr : f.0 ≡ r = omega (arith, f.2) in
      (hr, sym (get_or-take w.m w.slots r 0 hr) ∙ ap (λ (x : ℕ). get_or (take w.m w.slots) x 0) (sym fr) ∙ f.3)

  -- where none is, somebody runs
  pub idle_none : 0 < w.m → first_idle w.m w.slots ≡ 0 → 0 < w.running.len
  idle_none hm e = slot (get_or w.slots 0 0) refl
    where
      held : (x : ℕ) → get_or w.slots 0 0 ≡ suc x → (o : Option ℕ) → key_in w.running (suc x) ≡ o → 0 < w.running.len
      held x q none f = absurd (S.seats.runs 0 x q f)
      held x q (some k) f = some_held w.running S.running (suc x) k f

      slot : (x : ℕ) → get_or w.slots 0 0 ≡ x → 0 < w.running.len
      slot zero q = absurd (seat_none 0 0 (take w.m w.slots) e 0 (omega (arith, slots_len)) (get_or-take w.m w.slots 0 0 hm ∙ q))
      slot (suc x) q = held x q (key_in w.running (suc x)) refl

  -- in a plane that stands, the top of the running has work left, and no more than the plane
  pub top_yields : {m scale R : ℕ} → Stands m scale R l → w.now + R ≡ w.end → 0 < w.running.len → Yields w × (top_key w.running ≤ w.end)
  top_yields F he n =
      let t = runner I n in
      let r = S.run_in (suc t.task) (top_key w.running) t.held in
      let d = run_cond I t.task (top_key w.running) r.1 t.held in
      (record { runs = n; live = omega (arith, F.alive t.task, ap runs_of d, ap amount_of d) }, omega (arith, F.fits.small t.task, ap amount_of d, r.2))

pub frame_joins : (p t a : ℕ) (below : Bool) (w : Work) → Frame w (joins p t a below w)
unfolding joins park place seize_top rest_top
frame_joins p t a below w =
    frame_if (eqb p 0) (frame_if below (record { m = refl; now = refl; end = refl }) (record { m = refl; now = refl; end = refl })) (record { m = refl; now = refl; end = refl })

-- IT JOINS THE PLANE
-- task i, just awake in the work of the crew c, joins with amount a
module _ {c : Crew} {w : Work} {l : List Task} (I : Is c w l) (i a : ℕ) (hi : i < c.count) (out_r : key_in w.running (suc i) ≡ none) (out_w : key_in w.waiting (suc i) ≡ none)
    (up : get_or c.awake i false ≡ true) (pos : 0 < a) (small : a ≤ w.end) where
  joins_idle : (r : ℕ) (below : Bool) → first_idle w.m w.slots ≡ suc r → Is c (joins (suc r) (suc i) a below w) (become i (running (suc r) a) l)
  unfolding joins
  joins_idle r below e =
      let f = idle_place I r e in
      let z : suc r - 1 ≡ r = omega arith in
      rw (ne_eqb (suc r) 0 (λ y. omega arith), z) (place_is I r i a f.0 f.1 hi out_r out_w up)

  joins_busy : (below : Bool) → Yields w → top_key w.running ≤ w.end → Is c (joins 0 (suc i) a below w) (if below then become i (waiting a) l else seize w.now i (become i (waiting a) l))
  unfolding joins
  joins_busy true y k = park_is I i a hi out_r out_w up pos small
  joins_busy false y k = seize_is I i a hi out_r out_w up pos small y.runs y.live (omega arith)

-- ARRIVE
-- what an arrival needs, as the rules know it of the view
pub record CanArrive (s : State) (i : ℕ) : Type 0 where
  pub row : i < s.table.count
  pub sleeps : (at i (view s).tasks).cond ≡ asleep
  pub procs : 0 < s.table.m
  pub share : (0 < get_or s.table.share i 0) × (get_or s.table.share i 0 ≤ s.table.scale)
  pub plane : (e : ℕ) → (view s).plane ≡ some e → InPlane (view s) e

module _ (s : State) (i : ℕ) (A : Sized s) (S : Sound s) (C : CanArrive s i) where
  abbrev l : List Task
  l = (view s).tasks

  abbrev tick : ℕ
  tick = tick_at s

  abbrev k : State
  k = woken s i tick

  I : IsState s l
  I = sound_is s S

  out : (key_in s.running (suc i) ≡ none) × (key_in s.waiting (suc i) ≡ none)
  out = in_no_queue I i C.row (let z : runs (at i l) ≡ 0 = ap runs_of C.sleeps in let y : waits (at i l) ≡ 0 = ap waits_of C.sleeps in omega arith)

  W : IsState k (wake i tick resting l)
  W = woken_is s l I A i tick C.row out.0 out.1

  share_is : (at i l).share ≡ get_or s.table.share i 0
  share_is = ap (λ (t : Task). t.share) (I.shows.each i C.row)

  -- in an open plane
  module _ (on : s.going ≡ true) where
    P : InPlane (view s) s.end
    P = C.plane s.end (ap (λ (b : Bool). if b then some s.end else none) on)

    later : tick < s.end
    later = tick_before s.now.0 s.end s.table.scale P.before

    pos : 0 < amount_at s i
    pos = amount_some (get_or s.table.share i 0) tick s.end C.share.0 later

    small : amount_at s i ≤ end_at s
    small = omega (arith, amount_in_time (get_or s.table.share i 0) s.table.scale tick s.end C.share.1 later)

    up : get_or (set s.jobs.awake i true) i false ≡ true
    up = get_or-set_same s.jobs.awake i true false (omega (arith, A.awake, S.few, C.row))

    joined_work : (p : ℕ) → first_idle s.table.m s.slots ≡ p
        → Is (crew k) (joins p (suc i) (amount_at s i) (ltb (get_or s.table.share i 0) s.table.scale) (work_of k)) (Calls.arrive_idle (view s) tick i (amount_at s i) (as_proc p))
    unfolding Calls.arrive_idle
    joined_work (suc r) e =
        rw (wake_become i tick (running (suc r) (amount_at s i)) l (in_list I i C.row))
        (joins_idle W i (amount_at s i) C.row out.0 out.1 up pos small r (ltb (get_or s.table.share i 0) s.table.scale) e)
    joined_work zero e =
        rw (share_is, wake_become i tick (waiting (amount_at s i)) l (in_list I i C.row))
        (joins_busy W i (amount_at s i) C.row out.0 out.1 up pos small (ltb (get_or s.table.share i 0) s.table.scale) (record { runs = yields.0.runs; live = yields.0.live }) yields.1)
      where
        yields : Yields (work_of s) × (top_key s.running ≤ end_at s)
        yields = top_yields I P.stands (omega (arith, P.before)) (idle_none I C.procs e)

    joined_is : (view (joined k i) ≡ seen_as s (arrive_idle (view s) tick i ((at i l).share * (s.end - tick)) (lowest_idle l 1 s.table.m))) × Sound (joined k i)
    unfolding joined
    joined_is =
        let p = first_idle s.table.m s.slots in
        let J = joined_work p refl in
        let f = frame_joins p (suc i) (amount_at s i) (ltb (get_or s.table.share i 0) s.table.scale) (work_of k) in
        let v = joins p (suc i) (amount_at s i) (ltb (get_or s.table.share i 0) s.table.scale) (work_of k) in
        let K = put_is k v _ f.m f.end J in
        rw (add-one i) (
          view_is (with_work k v) _ K
              ∙ (λ x. record { m = s.table.m; scale = s.table.scale; now = f.now x; plane = plane_of s; tasks = arrive_idle (view s) tick i (sym share_is x * (s.end - tick)) (sym (idle_same I) x) }),
          K.tidy,
        )

  arrive_case : (b : Bool) → s.going ≡ b
      → (view (if b then joined k i else k) ≡ seen_as s (arrive_in (view s) tick i (if b then some s.end else none))) × Sound (if b then joined k i else k)
  unfolding arrive_in
  arrive_case true q = joined_is q
  arrive_case false q = (view_is k _ W, W.tidy)

  -- the arrival of a sleeping task shows the arrival of the rules, and leaves a sound state
  pub arrived_view : (view (arrived_of s i) ≡ arriving (view s) i) × Sound (arrived_of s i)
  unfolding arrived_of arriving
  arrived_view = arrive_case s.going refl
