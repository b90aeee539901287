-- Time passing in an open plane, and the instant of the next event
use Rattle.std.specs.Prelude.{if◌then◌else◌}
use mathlib.Core.Path.{◌≡◌, refl, ap}
use mathlib.Core.Option.{Option, none, some}
use mathlib.Core.Logic.{◌⊎◌, inl, inr}
use mathlib.Core.List.{List, [], ◌∷◌}
use Prim.Native.Nat.{ℕ, ◌+◌, ◌*◌, ◌-◌, ◌≤◌, ◌<◌, min}
use native.Mathlib.Decide.{dec_lt}
use native.Mathlib.Omega.{arith}
use lib.ListN.{length, length-map, get_or-map}
use Rattle.ground.specs.Sums.{sum_of}
use Rattle.ground.proofs.Sums.{sum_of_mono, sum_of_at, sum_of_scale, sum_of_add, sum_of_cong}
use Rattle.rules.specs.Events.{spend, advance, or_key, next_at}
use Rattle.rules.specs.Keys.{run_key, wait_key, Best, nope, best, least}
use Rattle.rules.specs.State.{Cond, asleep, resting, running, waiting, Task, nobody, at, be, is_awake, amount, runs, waits, on, awake_share}
use Rattle.rules.proofs.Cases.{amount_of, proc_of, runs_of, waits_of, on_of_lem, run_key_of, wait_key_of}
use Rattle.rules.proofs.Events.{Stands}
use Rattle.rules.proofs.Places.{IsLeast, least_is}
use Rattle.rules.proofs.Plane.{Fits, is_waiting, is_running}
use Rattle.rules.proofs.Slope.{key}

pub at_advance : (d j : ℕ) (l : List Task) → at j (advance d l) ≡ be (spend d (at j l).cond) (at j l)
unfolding advance
at_advance d j l = get_or-map (λ t. be (spend d t.cond) t) l j nobody

pub length_advance : (d : ℕ) (l : List Task) → length (advance d l) ≡ length l
unfolding advance
length_advance d l = length-map l _

-- a reading that time leaves alone
sum_still : (d : ℕ) (f : Task → ℕ) → ((t : Task) → f (be (spend d t.cond) t) ≡ f t) → (l : List Task) → sum_of f (advance d l) ≡ sum_of f l
unfolding sum_of advance
sum_still d f e [] = refl
sum_still d f e (t ∷ l) = omega (arith, e t, sum_still d f e l)

pub still_runs : (d : ℕ) (c : Cond) → runs_of (spend d c) ≡ runs_of c
still_runs d asleep = refl
still_runs d resting = refl
still_runs d (running p a) = refl
still_runs d (waiting a) = refl

still_waits : (d : ℕ) (c : Cond) → waits_of (spend d c) ≡ waits_of c
still_waits d asleep = refl
still_waits d resting = refl
still_waits d (running p a) = refl
still_waits d (waiting a) = refl

still_on : (p d : ℕ) (c : Cond) → on_of_lem p (spend d c) ≡ on_of_lem p c
still_on p d asleep = refl
still_on p d resting = refl
still_on p d (running p' a) = refl
still_on p d (waiting a) = refl

still_proc : (d : ℕ) (c : Cond) → proc_of (spend d c) ≡ proc_of c
still_proc d asleep = refl
still_proc d resting = refl
still_proc d (running p a) = refl
still_proc d (waiting a) = refl

pub still_awake : (d : ℕ) (c : Cond) → is_awake (spend d c) ≡ is_awake c
still_awake d asleep = refl
still_awake d resting = refl
still_awake d (running p a) = refl
still_awake d (waiting a) = refl

-- what a task has left, after d
pub left_after : (d : ℕ) (c : Cond) → runs_of c * d ≤ amount_of c → amount_of (spend d c) + runs_of c * d ≡ amount_of c
left_after d asleep h = omega arith
left_after d resting h = omega arith
left_after d (running p a) h = omega arith
left_after d (waiting a) h = omega arith

-- d fits: no running task is run dry, and no waiting task is left behind
pub record Room (d R : ℕ) (l : List Task) : Type 0 where
  pub end : d ≤ R
  pub run : (j : ℕ) → runs (at j l) * d ≤ amount (at j l)
  pub wait : (j : ℕ) → waits (at j l) * d + amount (at j l) ≤ R

spent : (d : ℕ) (l : List Task) → sum_of amount (advance d l) ≡ sum_of (λ t. amount_of (spend d t.cond)) l
unfolding sum_of advance
spent d [] = refl
spent d (t ∷ l) = omega (arith, spent d l)

amount_sum : (d : ℕ) (l : List Task) → ((j : ℕ) → runs (at j l) * d ≤ amount (at j l)) → sum_of amount (advance d l) + sum_of runs l * d ≡ sum_of amount l
amount_sum d l h =
    let f : Task → ℕ = λ t. amount_of (spend d t.cond) in
    let a : sum_of amount (advance d l) ≡ sum_of f l = spent d l in
    let b : sum_of (λ t. f t + runs t * d) l ≡ sum_of amount l = sum_of_cong (λ t. f t + runs t * d) amount nobody l (λ j hj. left_after d (at j l).cond (h j)) in
    omega (arith, sum_of_add f (λ t. runs t * d) l, sum_of_scale runs d l)

module _ {m scale R : ℕ} (l : List Task) (F : Fits 0 m scale R l) (d : ℕ) (room : Room d R l) where
  -- nobody waits, so k running tasks have at most R each
  few : sum_of waits l ≡ 0 → sum_of amount l ≤ sum_of runs l * R
  few z = rw (← sum_of_scale runs R l) (sum_of_mono amount (λ t. runs t * R) nobody l
      (λ i hi. each (at i l).cond (F.small i) (omega (arith, sum_of_at waits l i nobody hi))))
    where
      each : (c : Cond) → amount_of c ≤ R → waits_of c ≡ 0 → amount_of c ≤ runs_of c * R
      each asleep h w = omega arith
      each resting h w = omega arith
      each (running p a) h w = omega arith
      each (waiting a) h w = omega arith

  cases : Dec (0 < sum_of waits l) → ((sum_of runs l ≡ m) × (sum_of awake_share l ≤ m * scale)) ⊎ (sum_of amount l ≤ sum_of runs l * R)
  cases (yes w) = inl (omega (arith, F.busy w), F.admit)
  cases (no w) = inr (few (omega arith))

  small_after : (c : Cond) → runs_of c * d ≤ amount_of c → waits_of c * d + amount_of c ≤ R → amount_of (spend d c) ≤ R - d
  small_after asleep r w = omega arith
  small_after resting r w = omega arith
  small_after (running p a) r w = omega arith
  small_after (waiting a) r w = omega arith

  left_kept : (c : Cond) → waits_of c ≤ amount_of c → waits_of (spend d c) ≤ amount_of (spend d c)
  left_kept asleep h = h
  left_kept resting h = h
  left_kept (running p a) h = omega arith
  left_kept (waiting a) h = h

  pub advance_ok : Fits 0 m scale (R - d) (advance d l)
  advance_ok =
      let S : sum_of awake_share (advance d l) ≡ sum_of awake_share l = sum_still d awake_share (λ t. ap (λ b. if b then t.share else 0) (still_awake d t.cond)) l in
      let K : sum_of runs (advance d l) ≡ sum_of runs l = sum_still d runs (λ t. still_runs d t.cond) l in
      let W : sum_of waits (advance d l) ≡ sum_of waits l = sum_still d waits (λ t. still_waits d t.cond) l in
      let A = amount_sum d l room.run in
      let A' : sum_of amount (advance d l) ≡ sum_of amount l - sum_of runs l * d = omega arith in
      record {
        small = λ j. rw at_advance (small_after (at j l).cond (room.run j) (room.wait j));
        left = λ j. rw at_advance (left_kept (at j l).cond (F.left j));
        low = λ j. rw (at_advance, still_runs, still_proc) (F.low j);
        high = λ j. rw (at_advance, still_proc) (F.high j);
        apart = λ p. rw (sum_still d (on p) (λ t. still_on p d t.cond) l) (F.apart p);
        most = omega (arith, F.most);
        busy = λ w. omega (arith, F.busy (omega arith));
        total = rw (S, A') (key (sum_of amount l) scale (sum_of awake_share l) R (sum_of runs l) d m room.end (omega arith) F.total (cases (dec_lt 0 (sum_of waits l))));
        admit = omega (arith, F.admit);
      }

-- THE NEXT INSTANT
apart_options : (o : Option ℕ) (k : ℕ) (A : Type 0) → o ≡ none → o ≡ some k → A
apart_options o k A p q = let z : ◌≡◌ {A = ℕ} 0 1 = cc in absurd (omega arith)

or_le : (b : Best) (n : ℕ) → or_key b n ≤ n
unfolding or_key
or_le nope n = omega arith
or_le (best i k) n = omega arith

or_key_lem : (key : Task → Option ℕ) (l : List Task) (b : Best) → IsLeast key l b → (n j k : ℕ) → key (at j l) ≡ some k → or_key b n ≤ k
unfolding or_key
or_key_lem key l nope h n j k e = apart_options (key (at j l)) k (n ≤ k) (h j) e
or_key_lem key l (best i k') h n j k e = omega (arith, h.2 j k e)

or_above : (key : Task → Option ℕ) (l : List Task) (b : Best) → IsLeast key l b → (n x : ℕ) → x < n → ((j k : ℕ) → key (at j l) ≡ some k → x < k) → x < or_key b n
unfolding or_key
or_above key l nope h n x a g = a
or_above key l (best i k) h n x a g = omega (arith, g i k h.1)

pub record Next (end now stop R to : ℕ) (l : List Task) : Type 0 where
  pub moves : now < to
  pub by_end : to ≤ end
  pub by_stop : to ≤ stop
  pub room : Room (to - now) R l

pub next_ok : {m scale R : ℕ} (end now stop : ℕ) (l : List Task) → Stands m scale R l → 0 < R → now + R ≡ end → now < stop → Next end now stop R (next_at end now l stop) l
unfolding next_at
next_ok {R = R} end now stop l S h_r he hn =
    let rb = least (run_key now) l in
    let wb = least (wait_key end) l in
    let rl = least_is (run_key now) refl l in
    let wl = least_is (wait_key end) refl l in
    let n = or_key wb (min end stop) in
    let to = or_key rb n in
    let a : to ≤ n = or_le rb n in
    let b : n ≤ min end stop = or_le wb (min end stop) in
    let moves : now < to = or_above (run_key now) l rb rl n now
    (or_above (wait_key end) l wb wl (min end stop) now (omega arith)
    (λ j k e. let w = is_waiting end (at j l).cond k e in omega (arith, S.below j, w.1, ap waits_of w.0)))
    (λ j k e. let r = is_running now (at j l).cond k e in omega (arith, S.alive j, r.1, ap runs_of r.0)) in
    record {
      moves = moves;
      by_end = omega arith;
      by_stop = omega arith;
      room = record {
        end = omega arith;
        run = λ j. run to j (λ k e. or_key_lem (run_key now) l rb rl n j k e) (at j l).cond refl;
        wait = λ j. wait to moves j (S.fits.small j) (λ k e. omega (arith, or_key_lem (wait_key end) l wb wl (min end stop) j k e)) (at j l).cond refl;
      };
    }
  where
    run : (to j : ℕ) → ((k : ℕ) → run_key now (at j l) ≡ some k → to ≤ k) → (c : Cond) → (at j l).cond ≡ c → runs_of c * (to - now) ≤ amount_of c
    run to j h asleep e = omega arith
    run to j h resting e = omega arith
    run to j h (running p a) e = omega (arith, h (now + a) (ap (run_key_of now) e))
    run to j h (waiting a) e = omega arith

    wait : (to : ℕ) → now < to → (j : ℕ) → amount (at j l) ≤ R → ((k : ℕ) → wait_key end (at j l) ≡ some k → to ≤ k) → (c : Cond) → (at j l).cond ≡ c
        → waits_of c * (to - now) + amount_of c ≤ R
    wait to g j s h asleep e = omega arith
    wait to g j s h resting e = omega arith
    wait to g j s h (running p a) e = omega (arith, ap amount_of e)
    wait to g j s h (waiting a) e = omega (arith, ap amount_of e, h (end - a) (ap (wait_key_of end) e))
