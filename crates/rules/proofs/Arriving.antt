-- An arrival at a whole tick, into a closed or an open plane, keeps a state together
use Rattle.std.specs.Prelude.{if◌then◌else◌}
use mathlib.Core.Path.{◌≡◌, refl, sym, ◌∙◌, ap, subst}
use mathlib.Core.Bool.{true}
use mathlib.Core.Option.{Option, none, some, some-injective}
use mathlib.Core.Logic.{◌≢◌}
use mathlib.Core.List.{List}
use Prim.Native.Nat.{ℕ, zero, suc, ◌+◌, ◌*◌, ◌-◌, ◌/◌, ◌≤◌, ◌<◌}
use native.Mathlib.Nat.{mul-le-mul_right, mul-le-mul}
use native.Mathlib.Decide.{dec_lt, ℕ_discrete}
use native.Mathlib.Omega.{arith}
use lib.Dec.{ltb, eqb}
use lib.ListN.{length, length-set}
use lib.Seq.{get_or-set_same, get_or-set_other}
use Rattle.ground.specs.Sums.{sum_of, up_from, same}
use Rattle.ground.proofs.Sums.{sum_of_set, sum_of_at, sum_of_const, sum_of_add, sum_of_none}
use Rattle.ground.proofs.Tests.{ltb_says, eqb_says, if_by}
use Rattle.ground.proofs.Times.{up_length, same_yes, same_no, up_once, by_same}
use Rattle.rules.specs.Calls.{lowest_idle, wake, arrive_idle}
use Rattle.rules.specs.Events.{seize}
use Rattle.rules.specs.Keys.{run_key, least}
use Rattle.rules.specs.Record.{on_proc}
use Rattle.rules.specs.State.{running, Cond, asleep, resting, waiting, Task, State, nobody, at, period, short, is_awake, amount, proc, runs, waits, on, awake_share, due}
use Rattle.rules.specs.Table.{Row}
use Rattle.rules.proofs.Together.{Awake, Table, Seats, Lasts}
use Rattle.rules.proofs.Cases.{amount_of, runs_of, waits_of, on_of_lem, take_from}
use Rattle.rules.proofs.Events.{Stands, Core, Kept, kept_refl, kept_take}
use Rattle.rules.proofs.Keeping.{kept_alike, table_kept, lasts_kept, Running, running_stands, stands_seats, not_both, Resting, idle_seats}
use Rattle.rules.proofs.Places.{inside, least_is}
use Rattle.rules.proofs.Plane.{Fits, one_more, seize_ok}
use Rattle.rules.proofs.Slots.{on_proc_lem}
use Rattle.rules.proofs.Standing.{Facts, facts, awake_fits, seats_count}

-- PROCESSORS
range_le : (f g : ℕ → ℕ) (i n : ℕ) → ((x : ℕ) → i ≤ x → x < i + n → f x ≤ g x) → sum_of f (up_from i n) ≤ sum_of g (up_from i n)
unfolding sum_of up_from
range_le f g i zero h = omega arith
range_le f g i (suc n) h = omega (arith, h i (omega arith) (omega arith), range_le f g (suc i) n (λ x a b. h x (omega arith) (omega arith)))

range_ones : (i n : ℕ) → sum_of (λ x. 1) (up_from i n) ≡ n
range_ones i n = omega (arith, sum_of_const 1 (up_from i n), up_length i n)

module _ {m : ℕ} (l : List Task) (S : Seats m l) where
  idle_free : (p : ℕ) → 0 < p → on_proc p 1 l ≡ 0 → sum_of (on p) l ≡ 0
  idle_free p hp e = sum_of_none (on p) nobody l (λ j hj. sym (on_proc_lem p hp l (S.apart p) 1 j (omega arith)) ∙ same_no (on_proc p 1 l) (1 + j) (λ q. omega arith))

  busy_used : (p : ℕ) → 0 < p → 0 < on_proc p 1 l → 1 ≤ sum_of (on p) l
  busy_used p hp h =
      let j = on_proc p 1 l - 1 in
      let o : 1 ≡ on p (at j l) = sym (same_yes (on_proc p 1 l) (1 + j) (omega arith)) ∙ on_proc_lem p hp l (S.apart p) 1 j (omega arith) in
      omega (arith, sum_of_at (on p) l j nobody (inside (on p) l j refl (omega arith)))

  -- an idle processor leaves room for one more that runs
  room_for : (p : ℕ) → 0 < p → p ≤ m → on_proc p 1 l ≡ 0 → sum_of runs l < m
  room_for p hp hm e =
      let one : sum_of (λ x. same p x) (up_from 1 m) ≡ 1 = up_once p 1 m (omega arith) (omega arith) in
      let le = range_le (λ x. sum_of (on x) l + same p x) (λ x. 1) 1 m (λ x a b. by_same (λ y. sum_of (on x) l + y ≤ 1) p x
      (λ q. omega (arith, rw q at (idle_free p hp e))) (λ q. omega (arith, S.apart x))) in
      omega (arith, seats_count m l S.low S.high, sum_of_add (λ x. sum_of (on x) l) (λ x. same p x) (up_from 1 m), range_ones 1 m)

  -- with no processor idle, m run
  all_used : ((p : ℕ) → 1 ≤ p → p < 1 + m → 0 < on_proc p 1 l) → m ≤ sum_of runs l
  all_used h = omega (arith, seats_count m l S.low S.high, range_ones 1 m, range_le (λ x. 1) (λ p. sum_of (on p) l) 1 m (λ x a b. busy_used x a (h x a b)))

-- the lowest idle processor, as the search finds it
abbrev pub IsIdle : List Task → ℕ → ℕ → Option ℕ → Type 0
IsIdle l p n none = (x : ℕ) → p ≤ x → x < p + n → 0 < on_proc x 1 l
IsIdle l p n (some y) = (p ≤ y) × (y < p + n) × (on_proc y 1 l ≡ 0) × ((x : ℕ) → p ≤ x → x < y → 0 < on_proc x 1 l)

pub idle_is : (l : List Task) (p n : ℕ) → IsIdle l p n (lowest_idle l p n)
unfolding lowest_idle
idle_is l p zero = λ x a b. absurd (omega arith)
idle_is l p (suc n) = go (on_proc p 1 l) refl (lowest_idle l (suc p) n) (idle_is l (suc p) n)
  where
    go : (k : ℕ) → on_proc p 1 l ≡ k → (o : Option ℕ) → IsIdle l (suc p) n o → IsIdle l p (suc n) (elim k [ zero ↦ some p | suc k ↦ o ])
    go zero e o h = (omega arith, omega arith, e, λ x a b. absurd (omega arith))
    go (suc k) e none h = λ x a b. next x a b (ℕ_discrete p x)
      where
        next : (x : ℕ) → p ≤ x → x < p + suc n → Dec (p ≡ x) → 0 < on_proc x 1 l
        next x a b (yes q) = rw (← q) (omega arith)
        next x a b (no q) = h x (omega arith) (omega arith)
    go (suc k) e (some y) h = (omega arith, omega arith, h.2, λ x a b. next x a b (ℕ_discrete p x))
      where
        next : (x : ℕ) → p ≤ x → x < y → Dec (p ≡ x) → 0 < on_proc x 1 l
        next x a b (yes q) = rw (← q) (omega arith)
        next x a b (no q) = h.3 x (omega arith) b

-- WAKING
abbrev pub woken : ℕ → Cond → Task → Task
woken tick c t = record { row = t.row; share = t.share; cond = c; last = some tick }

module _ (i tick : ℕ) (c : Cond) (l : List Task) (hi : i < length l) where
  pub wake_same : at i (wake i tick c l) ≡ woken tick c (at i l)
  unfolding wake
  wake_same = get_or-set_same l i _ _ hi

  pub wake_other : (j : ℕ) → j ≢ i → at j (wake i tick c l) ≡ at j l
  unfolding wake
  wake_other j n = get_or-set_other l i j _ _ n

  pub wake_size : length (wake i tick c l) ≡ length l
  unfolding wake
  wake_size = length-set l i _

  wake_sum : (f : Task → ℕ) → sum_of f (wake i tick c l) + f (at i l) ≡ sum_of f l + f (woken tick c (at i l))
  unfolding wake
  wake_sum f = sum_of_set f l i _ nobody hi

  pub wake_by : (j : ℕ) (P : Task → Type 0) → (j ≡ i → P (woken tick c (at i l))) → (j ≢ i → P (at j l)) → P (at j (wake i tick c l))
  wake_by j P p q = go (ℕ_discrete j i)
    where
      go : Dec (j ≡ i) → P (at j (wake i tick c l))
      go (yes e) = rw (e, wake_same) (p e)
      go (no n) = rw (wake_other j n) (q n)

  wake_keeps : {X : Type 0} (g : Task → X) → g (woken tick c (at i l)) ≡ g (at i l) → (j : ℕ) → g (at j (wake i tick c l)) ≡ g (at j l)
  wake_keeps g e j = wake_by j (λ t. g t ≡ g (at j l)) (λ q. rw q e) (λ q. refl)

  wake_table : {m scale : ℕ} → Table m scale l → Table m scale (wake i tick c l)
  wake_table T = table_kept wake_size (wake_keeps (λ t. t.row) refl) (wake_keeps (λ t. t.share) refl) T

  wake_lasts : {scale now : ℕ} → tick * scale ≤ now → Lasts scale now l → Lasts scale now (wake i tick c l)
  wake_lasts {scale} {now} h L = record {
    known = λ j. wake_by j (λ t. Awake t → (a : ℕ) × (t.last ≡ some a)) (λ _ w. (tick, refl)) (λ _. L.known j);
    came = λ j. wake_by j (λ t. (a : ℕ) → t.last ≡ some a → a * scale ≤ now) (λ _ a e. subst (λ x. x * scale ≤ now) (some-injective tick a e) h) (λ _. L.came j);
  }

-- into a closed plane: "the task is simply awake"
pub wakes_shut : {m scale now : ℕ} (i : ℕ) (l : List Task) → i < length l → Resting m scale now l → Resting m scale now (wake i (now / scale) resting l)
wakes_shut {m} {scale} {now} i l hi P =
    let tick = now / scale in
    let idle : (j : ℕ) → runs (at j (wake i tick resting l)) + waits (at j (wake i tick resting l)) ≡ 0 =
    λ j. wake_by i tick resting l hi j (λ t. runs t + waits t ≡ 0) (λ _. refl) (λ _. P.shut.idle j) in
    record {
      table = wake_table i tick resting l hi P.table;
      seats = idle_seats m _ idle;
      lasts = wake_lasts i tick resting l hi (omega (arith, P.shut.whole)) P.lasts;
      shut = record {
        whole = P.shut.whole;
        idle = idle;
        due = λ j. wake_by i tick resting l hi j (λ t. Awake t → tick < due t) (λ _ w. omega (arith, (facts l P.table).some_q i hi)) (λ _. P.shut.due j);
      };
    }

-- into an open plane
module _ {m scale now e : ℕ} (i tick : ℕ) (l : List Task) (hi : i < length l) (P : Running m scale now e l) (whole : now ≡ tick * scale) (sl : (at i l).cond ≡ asleep)
    (late : (b : ℕ) → (at i l).last ≡ some b → b + period (at i l) ≤ tick) where
  abbrev a : ℕ
  a = (at i l).share * (e - tick)

  abbrev R : ℕ
  R = e * scale - now

  later : tick < e
  later = go (dec_lt tick e)
    where
      go : Dec (tick < e) → tick < e
      go (yes q) = q
      go (no q) = let q' : e ≤ tick = omega arith in absurd (omega (arith, mul-le-mul_right scale q', P.going.later))

  R_is : e * scale - now ≡ (e - tick) * scale
  R_is = let h = later in let p : e ≡ tick + (e - tick) = omega arith in omega (arith, ap (λ x. x * scale) p)

  F : Facts m scale l
  F = facts l P.table

  a_pos : 0 < (at i l).share * (e - tick)
  a_pos = let h = later in let hl : 0 < e - tick = omega arith in mul-le-mul (F.some_share i hi) hl

  a_small : (at i l).share * (e - tick) ≤ e * scale - now
  a_small = rw R_is (omega (arith, mul-le-mul_right (e - tick) (F.most i)))

  S₀ : Stands m scale (e * scale - now) l
  S₀ = running_stands l P

  -- the sums, for any condition in which the amount is a
  total_wake : (c : Cond) → amount_of c ≡ a → is_awake c ≡ true → sum_of amount (wake i tick c l) * scale ≤ sum_of awake_share (wake i tick c l) * R
  total_wake c ea w =
      let s1 = wake_sum i tick c l hi amount in
      let s2 = wake_sum i tick c l hi awake_share in
      let z1 : amount (at i l) ≡ 0 = ap amount_of sl in
      let z2 : awake_share (at i l) ≡ 0 = ap (λ x. if is_awake x then (at i l).share else 0) sl in
      let z3 : (if is_awake c then (at i l).share else 0) ≡ (at i l).share = ap (λ b. if b then (at i l).share else 0) w in
      let A : sum_of amount (wake i tick c l) ≡ sum_of amount l + (at i l).share * (e - tick) = omega arith in
      let S : sum_of awake_share (wake i tick c l) ≡ sum_of awake_share l + (at i l).share = omega arith in
      let old = P.going.total in
      rw (A, S) (omega (arith, ap (λ x. (at i l).share * x) R_is))

  admit_wake : (c : Cond) → sum_of awake_share (wake i tick c l) ≤ m * scale
  admit_wake c = awake_fits _ (facts _ (wake_table i tick c l hi P.table))

  fits_run : (p : ℕ) → 0 < p → p ≤ m → on_proc p 1 l ≡ 0 → Stands m scale R (wake i tick (running p a) l)
  fits_run p hp hm o =
      let n = running p a in
      let K = room_for l P.seats p hp hm o in
      let z_run : runs (at i l) ≡ 0 = ap runs_of sl in
      let z_wait : waits (at i l) ≡ 0 = ap waits_of sl in
      let s_run = wake_sum i tick n l hi runs in
      let s_wait = wake_sum i tick n l hi waits in
      let sm = a_small in
      let ap' = a_pos in
      record {
        fits = record {
          small = λ j. wake_by i tick n l hi j (λ t. amount t ≤ R) (λ _. sm) (λ _. S₀.fits.small j);
          left = λ j. wake_by i tick n l hi j (λ t. waits t ≤ amount t) (λ _. omega arith) (λ _. S₀.fits.left j);
          low = λ j. wake_by i tick n l hi j (λ t. runs t ≤ proc t) (λ _. omega arith) (λ _. P.seats.low j);
          high = λ j. wake_by i tick n l hi j (λ t. proc t ≤ m) (λ _. omega arith) (λ _. P.seats.high j);
          apart = λ p'. one_more p p' _ (λ x. sum_of (on x) l) (eqb p p') (eqb_says p p') (idle_free l P.seats p hp o) (P.seats.apart p')
              (let z : on p' (at i l) ≡ 0 = ap (on_of_lem p') sl in omega (arith, wake_sum i tick n l hi (on p')));
          most = omega arith;
          busy = λ w. omega (arith, P.going.busy (omega arith));
          total = total_wake n refl refl;
          admit = admit_wake n;
        };
        alive = λ j. wake_by i tick n l hi j (λ t. runs t ≤ amount t) (λ _. omega arith) (λ _. S₀.alive j);
        below = λ j. wake_by i tick n l hi j (λ t. amount t + waits t ≤ R) (λ _. omega arith) (λ _. S₀.below j);
      }

  fits_wait : ((p : ℕ) → 1 ≤ p → p < 1 + m → 0 < on_proc p 1 l) → Fits 0 m scale R (wake i tick (waiting a) l)
  fits_wait o =
      let n = waiting a in
      let K = all_used l P.seats o in
      let z_run : runs (at i l) ≡ 0 = ap runs_of sl in
      let s_run = wake_sum i tick n l hi runs in
      let sm = a_small in
      let ap' = a_pos in
      record {
        small = λ j. wake_by i tick n l hi j (λ t. amount t ≤ R) (λ _. sm) (λ _. S₀.fits.small j);
        left = λ j. wake_by i tick n l hi j (λ t. waits t ≤ amount t) (λ _. omega arith) (λ _. S₀.fits.left j);
        low = λ j. wake_by i tick n l hi j (λ t. runs t ≤ proc t) (λ _. omega arith) (λ _. P.seats.low j);
        high = λ j. wake_by i tick n l hi j (λ t. proc t ≤ m) (λ _. omega arith) (λ _. P.seats.high j);
        apart = λ p. let z : on p (at i l) ≡ 0 = ap (on_of_lem p) sl in omega (arith, wake_sum i tick n l hi (on p), P.seats.apart p);
        most = omega (arith, S₀.fits.most);
        busy = λ w. omega (arith, S₀.fits.most);
        total = total_wake n refl refl;
        admit = admit_wake n;
      }

  not_awake : ¬ Awake (at i l)
  not_awake w = not_both ⊥ (sym (ap is_awake sl) ∙ w)

  -- the new job has its whole amount before it, and the others are as they were
  pub record Arrives (k : List Task) : Type 0 where
    pub running : Running m scale now e k
    pub cond : Cond
    pub whole_amount : amount_of cond ≡ (at i l).share * (e - tick)
    pub awake : is_awake cond ≡ true
    pub kept : Kept (wake i tick cond l) k

  arrived_as : (c : Cond) (k : List Task) → amount_of c ≡ a → is_awake c ≡ true → Stands m scale R k → Kept (wake i tick c l) k → Arrives k
  arrived_as c k ea wc S K =
      let w = wake i tick c l in
      let A = kept_alike K in
      let still : (j : ℕ) → Awake (at j w) → Awake (at j k) = λ j v. ap (λ (x : Core). x.awake) (K.same j) ∙ v in
      record {
        running = record {
          table = table_kept A.size A.row A.share (wake_table i tick c l hi P.table);
          seats = stands_seats S;
          lasts = lasts_kept A (omega arith) (wake_lasts i tick c l hi (omega arith) P.lasts);
          going = record {
            later = P.going.later;
            alive = S.alive;
            left = S.fits.left;
            below = S.below;
            busy = λ v. omega (arith, S.fits.busy v);
            total = S.fits.total;
            due = λ j v. rw (A.last j, A.row j)
                (wake_by i tick c l hi j (λ t. Awake t → e ≤ due t) (λ _ _. P.going.free i hi not_awake tick (omega arith) late) (λ _. P.going.due j) (A.awake j v));
            free = λ j hj v t ht b.
                let per : period (at j k) ≡ period (at j w) = ap (λ (r : Row). r.period) (A.row j) in
                rw (A.row j) (wake_by i tick c l hi j (λ t'. ¬ Awake t' → ((b : ℕ) → t'.last ≡ some b → b + period t' ≤ t) → e ≤ t + short t') (λ _ n _. absurd (n wc))
                (λ _ n b'. P.going.free j (omega (arith, A.size, wake_size i tick c l hi)) n t ht b') (λ v'. v (still j v')) (λ x q. omega (arith, b x (A.last j ∙ q), per)));
          };
        };
        cond = c;
        whole_amount = ea;
        awake = wc;
        kept = K;
      }

  -- "If a processor is idle, take the lowest. Else, if the share is below L, wait. Else take the processor of the running task with the least key"
  pub arrives : (s : State) → s.tasks ≡ l → s.now ≡ now → s.scale ≡ scale → (o : Option ℕ) → IsIdle l 1 m o → Arrives (arrive_idle s tick i a o)
  unfolding arrive_idle seize
  arrives s es en ec (some p) h = rw es (arrived_as (running p a) (wake i tick (running p a) l) refl refl (fits_run p h.0 (omega (arith, h.1)) h.2) (kept_refl _))
  arrives s es en ec none h = rw (es, ec, en) (if_by Arrives (ltb (at i l).share scale) (ltb_says (at i l).share scale) light heavy)
    where
      w : List Task
      w = wake i tick (waiting a) l

      Fw : Fits 0 m scale R w
      Fw = fits_wait h

      alive : (j : ℕ) → runs (at j w) ≤ amount (at j w)
      alive j = wake_by i tick (waiting a) l hi j (λ t. runs t ≤ amount t) (λ _. omega arith) (λ _. S₀.alive j)

      light : (at i l).share < scale → Arrives w
      light q =
          let lt : 0 < e - tick = let x = later in omega arith in
          let b : a < R = omega (arith, R_is, mul-le-mul_right (e - tick) q) in
          arrived_as (waiting a) w refl refl
          (record { fits = Fw; alive = alive; below = λ j. wake_by i tick (waiting a) l hi j (λ t. amount t + waits t ≤ R) (λ _. omega arith) (λ _. S₀.below j) })
          (kept_refl w)

      under : (k : List Task) → ((j : ℕ) → amount (at j k) ≤ R) → waits (at i k) ≡ 0 → ((j : ℕ) → amount (at j w) + waits (at j w) ≤ R → amount (at j k) + waits (at j k) ≤ R)
          → (j : ℕ) → Dec (j ≡ i) → amount (at j k) + waits (at j k) ≤ R
      under k sm z o j (yes q) = rw q (omega (arith, sm i))
      under k sm z o j (no q) = o j (rw (wake_other i tick (waiting a) l hi j q) (S₀.below j))

      heavy : ¬ ((at i l).share < scale) → Arrives (seize now i w)
      heavy q =
          let full : (at i l).share ≡ scale = omega (arith, F.most i) in
          let hw : at i w ≡ woken tick (waiting a) (at i l) = wake_same i tick (waiting a) l hi in
          let cw : (at i w).cond ≡ waiting (amount (at i w)) = rw hw refl in
          let ra : R ≤ amount (at i w) = rw hw (omega (arith, R_is, ap (λ x. x * (e - tick)) full)) in
          let hi' : i < length w = omega (arith, wake_size i tick (waiting a) l hi) in
          let L = least_is (run_key now) refl w in
          let b = least (run_key now) w in
          let z = seize_ok (omega (arith, P.going.later)) F.scale_pos now i w hi' cw ra Fw alive b L in
          arrived_as (waiting a) (take_from i w b) refl refl
          (record { fits = z.0; alive = z.1; below = λ j. under (take_from i w b) z.0.small z.2 z.3 j (ℕ_discrete j i) }) (kept_take now i w hi' cw b L)
