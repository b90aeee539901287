-- The invariant of an open plane, kept by time passing and by the events
use Rattle.std.specs.Prelude.{if◌then◌else◌}
use mathlib.Core.Path.{◌≡◌, refl, ◌∙◌, ap}
use mathlib.Core.Bool.{Bool, true, false}
use mathlib.Core.Option.{none, some}
use mathlib.Core.Logic.{◌≢◌}
use mathlib.Core.List.{List}
use Prim.Native.Nat.{ℕ, suc, ◌+◌, ◌*◌, ◌-◌, ◌≤◌, ◌<◌}
use native.Mathlib.Nat.{mul-le-mul_right, mul-le-mul}
use native.Mathlib.Decide.{dec_lt}
use native.Mathlib.Omega.{arith}
use lib.Dec.{eqb}
use lib.ListN.{length}
use Rattle.ground.specs.Sums.{sum_of}
use Rattle.ground.specs.Tests.{Says}
use Rattle.ground.proofs.Sums.{sum_of_mono, sum_of_at, sum_of_scale, sum_of_none}
use Rattle.ground.proofs.Tests.{eqb_says}
use Rattle.rules.specs.Keys.{run_key, wait_key, Best, nope, best}
use Rattle.rules.specs.State.{Cond, asleep, resting, running, waiting, Task, nobody, at, become, is_awake, amount, proc, runs, waits, on, awake_share}
use Rattle.rules.proofs.Cases.{amount_of, proc_of, runs_of, waits_of, on_of_lem, run_key_of, wait_key_of, give_to, take_from}
use Rattle.rules.proofs.Places.{at_same, length_become, sum_become, all_become, sum_two, one_two, IsLeast}

-- c processors were just freed and not yet given on
pub record Fits (c m scale R : ℕ) (l : List Task) : Type 0 where
  pub small : (i : ℕ) → amount (at i l) ≤ R
  pub left : (i : ℕ) → waits (at i l) ≤ amount (at i l)
  pub low : (i : ℕ) → runs (at i l) ≤ proc (at i l)
  pub high : (i : ℕ) → proc (at i l) ≤ m
  pub apart : (p : ℕ) → sum_of (on p) l ≤ 1
  pub most : c + sum_of runs l ≤ m
  pub busy : 0 < sum_of waits l → c + sum_of runs l ≡ m
  pub total : sum_of amount l * scale ≤ sum_of awake_share l * R
  pub admit : sum_of awake_share l ≤ m * scale

-- the queues' keys, read back
pub not_waiting : (end : ℕ) (c : Cond) → wait_key_of end c ≡ none → waits_of c ≡ 0
not_waiting end asleep e = refl
not_waiting end resting e = refl
not_waiting end (running p a) e = refl
not_waiting end (waiting a) e = cc

pub is_waiting : (end : ℕ) (c : Cond) (k : ℕ) → wait_key_of end c ≡ some k → (c ≡ waiting (amount_of c)) × (end - amount_of c ≡ k)
is_waiting end asleep k e = (cc, cc)
is_waiting end resting k e = (cc, cc)
is_waiting end (running p a) k e = (cc, cc)
is_waiting end (waiting a) k e = (refl, cc)

pub not_running : (now : ℕ) (c : Cond) → run_key_of now c ≡ none → runs_of c ≡ 0
not_running now asleep e = refl
not_running now resting e = refl
not_running now (running p a) e = cc
not_running now (waiting a) e = refl

pub is_running : (now : ℕ) (c : Cond) (k : ℕ) → run_key_of now c ≡ some k → (c ≡ running (proc_of c) (amount_of c)) × (now + amount_of c ≡ k)
is_running now asleep k e = (cc, cc)
is_running now resting k e = (cc, cc)
is_running now (running p a) k e = (refl, cc)
is_running now (waiting a) k e = (cc, cc)

pub one_more : (p p' y : ℕ) (g : ℕ → ℕ) (b : Bool) → Says (p ≡ p') b → g p ≡ 0 → g p' ≤ 1 → y ≡ g p' + (if b then 1 else 0) → y ≤ 1
one_more p p' y g true e h h' s = omega (arith, rw e at h)
one_more p p' y g false e h h' s = omega arith

pub on_self : (p : ℕ) (b : Bool) → Says (p ≡ p) b → ◌≡◌ {A = ℕ} (if b then 1 else 0) 1
on_self p true e = refl
on_self p false e = absurd (e refl)

module _ {c m scale R : ℕ} where
  pub give_ok : (end p : ℕ) (l : List Task) → Fits (suc c) m scale R l → 0 < p → p ≤ m → sum_of (on p) l ≡ 0
      → (b : Best) → IsLeast (wait_key end) l b → Fits c m scale R (give_to p l b)
  give_ok end p l F hp hm free nope h =
      let w : sum_of waits l ≡ 0 = sum_of_none waits nobody l (λ j hj. not_waiting end (at j l).cond (h j)) in
      record {
        small = F.small;
        left = F.left;
        low = F.low;
        high = F.high;
        apart = F.apart;
        most = omega arith;
        busy = omega arith;
        total = F.total;
        admit = F.admit;
      }
  give_ok end p l F hp hm free (best i k) h =
      let C = (at i l).cond in
      let e : C ≡ waiting (amount_of C) = (is_waiting end C k h.1).0 in
      let n = running p (amount_of C) in
      let s_run = sum_become runs l i n h.0 in
      let s_wait = sum_become waits l i n h.0 in
      let e_run : runs_of C ≡ 0 = ap runs_of e in
      let e_wait : waits_of C ≡ 1 = ap waits_of e in
      let e_share : awake_share (at i l) ≡ (at i l).share = ap (λ x. if is_awake x then (at i l).share else 0) e in
      let s_share = sum_become awake_share l i n h.0 in
      let same : sum_of awake_share (become i n l) ≡ sum_of awake_share l = omega arith in
      let same_a : sum_of amount (become i n l) ≡ sum_of amount l = omega (arith, sum_become amount l i n h.0) in
      record {
        small = all_become (λ t. amount t ≤ R) l i n h.0 (F.small i) F.small;
        left = all_become (λ t. waits t ≤ amount t) l i n h.0 (omega arith) F.left;
        low = all_become (λ t. runs t ≤ proc t) l i n h.0 (omega arith) F.low;
        high = all_become (λ t. proc t ≤ m) l i n h.0 (omega arith) F.high;
        apart = λ p'. one_more p p' _ (λ x. sum_of (on x) l) (eqb p p') (eqb_says p p') free (F.apart p')
            (let e_on : on_of_lem p' C ≡ 0 = ap (on_of_lem p') e in omega (arith, sum_become (on p') l i n h.0));
        most = omega arith;
        busy = λ w. omega (arith, F.busy (omega arith));
        total = rw (same, same_a) F.total;
        admit = omega (arith, F.admit);
      }

  -- a running task with nothing left rests: its processor is free
  pub rest_ok : (i p : ℕ) (l : List Task) → i < length l → (at i l).cond ≡ running p 0 → Fits c m scale R l
      → Fits (suc c) m scale R (become i resting l) × (sum_of (on p) (become i resting l) ≡ 0) × (0 < p) × (p ≤ m)
  rest_ok i p l hi e F =
      let s_run = sum_become runs l i resting hi in
      let s_wait = sum_become waits l i resting hi in
      let e_run : runs (at i l) ≡ 1 = ap runs_of e in
      let e_wait : waits (at i l) ≡ 0 = ap waits_of e in
      let e_proc : proc (at i l) ≡ p = ap proc_of e in
      let e_on : on p (at i l) ≡ 1 = ap (on_of_lem p) e ∙ on_self p (eqb p p) (eqb_says p p) in
      let same : sum_of awake_share (become i resting l) ≡ sum_of awake_share l =
      let e_share : awake_share (at i l) ≡ (at i l).share = ap (λ x. if is_awake x then (at i l).share else 0) e in
      omega (arith, sum_become awake_share l i resting hi) in
      let same_a : sum_of amount (become i resting l) ≡ sum_of amount l =
      let e_amt : amount (at i l) ≡ 0 = ap amount_of e in
      omega (arith, sum_become amount l i resting hi) in (
        record {
          small = all_become (λ t. amount t ≤ R) l i resting hi (omega arith) F.small;
          left = all_become (λ t. waits t ≤ amount t) l i resting hi (omega arith) F.left;
          low = all_become (λ t. runs t ≤ proc t) l i resting hi (omega arith) F.low;
          high = all_become (λ t. proc t ≤ m) l i resting hi (omega arith) F.high;
          apart = λ p'. omega (arith, F.apart p', sum_become (on p') l i resting hi);
          most = omega (arith, F.most);
          busy = λ w. omega (arith, F.busy (omega arith));
          total = rw (same, same_a) F.total;
          admit = omega (arith, F.admit);
        },
        omega (arith, F.apart p, sum_become (on p) l i resting hi),
        omega (arith, F.low i),
        omega (arith, F.high i),
      )

-- what holds between the B events and the C events, and after them
abbrev pub Alive : List Task → Type 0
Alive l = (i : ℕ) → runs (at i l) ≤ amount (at i l)

module _ {m scale R : ℕ} (h_r : 0 < R) (hs : 0 < scale) where
  -- a waiting task that must run to the end leaves no room for m running ones that must too
  pub crowded : (i : ℕ) (l : List Task) → i < length l → (at i l).cond ≡ waiting (amount (at i l)) → Fits 0 m scale R l → R ≤ amount (at i l)
      → ((j : ℕ) → runs (at j l) * R ≤ amount (at j l)) → ⊥
  crowded i l hi e F h all =
      let l' = become i resting l in
      let e_run : runs (at i l) ≡ 0 = ap runs_of e in
      let e_wait : waits (at i l) ≡ 1 = ap waits_of e in
      let k : sum_of runs l ≡ m = omega (arith, F.busy (omega (arith, sum_of_at waits l i nobody hi))) in
      let k' : sum_of runs l' ≡ m = omega (arith, sum_become runs l i resting hi) in
      let a : sum_of amount l' + R ≤ sum_of amount l = omega (arith, sum_become amount l i resting hi) in
      let full : m * R ≤ sum_of amount l' = rw k' at (rw (sum_of_scale runs R l') at
      (sum_of_mono (λ t. runs t * R) amount nobody l' (λ j hj. all_become (λ t. runs t * R ≤ amount t) l i resting hi (omega arith) all j))) in
      let over : m * R + R ≤ sum_of amount l = omega arith in
      omega (arith, mul-le-mul_right scale over, mul-le-mul_right R F.admit, F.total, mul-le-mul h_r hs)

  -- the running task with the least key has less than the rest of the plane
  pub victim : (now i j k : ℕ) (l : List Task) → i < length l → (at i l).cond ≡ waiting (amount (at i l)) → R ≤ amount (at i l) → Fits 0 m scale R l
      → IsLeast (run_key now) l (best j k) → amount (at j l) < R
  victim now i j k l hi e h F L = go (dec_lt (amount (at j l)) R)
    where
      each : R ≤ amount (at j l) → (x : ℕ) (c : Cond) → (at x l).cond ≡ c → runs_of c * R ≤ amount_of c
      each g x asleep q = omega arith
      each g x resting q = omega arith
      each g x (running p a) q = omega (arith, L.2 x (now + a) (ap (run_key_of now) q), (is_running now (at j l).cond k L.1).1)
      each g x (waiting a) q = omega arith

      go : Dec (amount (at j l) < R) → amount (at j l) < R
      go (yes g) = g
      go (no g) = absurd (crowded i l hi e F h (λ x. each (omega arith) x (at x l).cond refl))

  -- task i, which must run to the end, takes the processor of the running task with the least key
  pub seize_ok : (now i : ℕ) (l : List Task) → i < length l → (at i l).cond ≡ waiting (amount (at i l)) → R ≤ amount (at i l) → Fits 0 m scale R l → Alive l
      → (b : Best) → IsLeast (run_key now) l b
      → Fits 0 m scale R (take_from i l b) × Alive (take_from i l b) × (waits (at i (take_from i l b)) ≡ 0)
      × ((j : ℕ) → amount (at j l) + waits (at j l) ≤ R → amount (at j (take_from i l b)) + waits (at j (take_from i l b)) ≤ R)
  seize_ok now i l hi e h F A nope L =
      absurd (crowded i l hi e F h (λ j. let z : runs (at j l) ≡ 0 = not_running now (at j l).cond (L j) in rw z (omega arith)))
  seize_ok now i l hi e h F A (best j k) L =
      let hj = L.0 in
      let pj = proc (at j l) in
      let aj = amount (at j l) in
      let n = running pj (amount (at i l)) in
      let d = waiting aj in
      let f : (at j l).cond ≡ running pj aj = (is_running now (at j l).cond k L.1).0 in
      let v : aj < R = victim now i j k l hi e h F L in
      let i_run : runs (at i l) ≡ 0 = ap runs_of e in
      let i_wait : waits (at i l) ≡ 1 = ap waits_of e in
      let j_run : runs (at j l) ≡ 1 = ap runs_of f in
      let j_wait : waits (at j l) ≡ 0 = ap waits_of f in
      let ne : i ≢ j = λ q. omega (arith, ap (λ x. runs (at x l)) q) in
      let i_share : awake_share (at i l) ≡ (at i l).share = ap (λ x. if is_awake x then (at i l).share else 0) e in
      let j_share : awake_share (at j l) ≡ (at j l).share = ap (λ x. if is_awake x then (at j l).share else 0) f in
      let same : sum_of awake_share (become i n (become j d l)) ≡ sum_of awake_share l = omega (arith, sum_two awake_share l i j n d hi hj ne) in
      let same_a : sum_of amount (become i n (become j d l)) ≡ sum_of amount l = omega (arith, sum_two amount l i j n d hi hj ne) in
      let s_run = sum_two runs l i j n d hi hj ne in
      let s_wait = sum_two waits l i j n d hi hj ne in
      let j_alive = A j in
      let j_low = F.low j in (
        record {
          small = λ x. one_two (λ t. amount t ≤ R) l i j n d hi hj ne (F.small i) (F.small j) x (F.small x);
          left = λ x. one_two (λ t. waits t ≤ amount t) l i j n d hi hj ne (omega arith) (omega arith) x (F.left x);
          low = λ x. one_two (λ t. runs t ≤ proc t) l i j n d hi hj ne (omega arith) (omega arith) x (F.low x);
          high = λ x. one_two (λ t. proc t ≤ m) l i j n d hi hj ne (F.high j) (omega arith) x (F.high x);
          apart = λ p.
              let i_on : on p (at i l) ≡ 0 = ap (on_of_lem p) e in
              let j_on : on p (at j l) ≡ on_of_lem p (running pj aj) = ap (on_of_lem p) f in
              omega (arith, F.apart p, sum_two (on p) l i j n d hi hj ne);
          most = omega (arith, F.most);
          busy = λ w. omega (arith, F.busy (omega arith));
          total = rw (same, same_a) F.total;
          admit = omega (arith, F.admit);
        },
        (λ x. one_two (λ t. runs t ≤ amount t) l i j n d hi hj ne (omega arith) (omega arith) x (A x)),
        rw (at_same (become j d l) i n (rw length_become hi)),
        (λ x. one_two (λ t. amount t + waits t ≤ R) l i j n d hi hj ne (omega (arith, F.small i)) (omega arith) x),
      )
