-- All B events, then all C events: what a plane keeps through them
use Rattle.std.specs.Prelude.{if◌then◌else◌}
use mathlib.Core.Path.{◌≡◌, refl, sym, ◌∙◌, ap}
use mathlib.Core.Bool.{Bool, true, false}
use mathlib.Core.Option.{Option, none, some}
use mathlib.Core.Logic.{◌≢◌}
use mathlib.Core.List.{List}
use Prim.Native.Nat.{ℕ, zero, suc, ◌+◌, ◌-◌, ◌≤◌, ◌<◌}
use native.Mathlib.Decide.{ℕ_discrete}
use native.Mathlib.Omega.{arith}
use lib.Dec.{leb, eqb}
use lib.ListN.{length}
use Rattle.ground.specs.Sums.{sum_of}
use Rattle.ground.specs.Tests.{Says}
use Rattle.ground.proofs.Sums.{sum_of_mono, sum_of_at, sum_of_none}
use Rattle.ground.proofs.Tests.{leb_says, eqb_says, if_by}
use Rattle.rules.specs.Events.{give, seize, b_event, b_events, c_events_in, c_events, events}
use Rattle.rules.specs.Keys.{run_key, wait_key, Best, nope, best, least}
use Rattle.rules.specs.State.{Cond, asleep, resting, running, waiting, Task, nobody, at, become, is_awake, amount, proc, runs, waits}
use Rattle.rules.specs.Table.{Row}
use Rattle.rules.proofs.Cases.{amount_of, runs_of, waits_of, wait_key_of, give_to, take_from, b_case}
use Rattle.rules.proofs.Places.{at_same, at_other, length_become, one_become, keeps, anywhere, sum_two, IsLeast, least_is, by_places}
use Rattle.rules.proofs.Plane.{Fits, is_waiting, not_running, is_running, give_ok, rest_ok, Alive, crowded, victim, seize_ok}

-- an open plane with R sub-ticks left, between steps
pub record Stands (m scale R : ℕ) (l : List Task) : Type 0 where
  pub fits : Fits 0 m scale R l
  pub alive : (i : ℕ) → runs (at i l) ≤ amount (at i l)
  pub below : (i : ℕ) → amount (at i l) + waits (at i l) ≤ R

-- what an event leaves alone: the job, and what it has left
pub record Core : Type 0 where
  pub row : Row
  pub share : ℕ
  pub last : Option ℕ
  pub awake : Bool
  pub left : ℕ

abbrev pub core_in : Task → Cond → Core
core_in t c = record { row = t.row; share = t.share; last = t.last; awake = is_awake c; left = amount_of c }

abbrev pub core : Task → Core
core t = core_in t t.cond

pub record Kept (l k : List Task) : Type 0 where
  pub size : length k ≡ length l
  pub same : (j : ℕ) → core (at j k) ≡ core (at j l)

pub kept_refl : (l : List Task) → Kept l l
kept_refl l = record { size = refl; same = λ j. refl }

pub kept_trans : {l k n : List Task} → Kept l k → Kept k n → Kept l n
kept_trans a b = record { size = b.size ∙ a.size; same = λ j. b.same j ∙ a.same j }

pub kept_become : (l : List Task) (i : ℕ) (c d : Cond) → i < length l → (at i l).cond ≡ c → core_in (at i l) d ≡ core_in (at i l) c → Kept l (become i d l)
kept_become l i c d hi e f = record { size = length_become l i d; same = keeps core l i d hi (f ∙ ap (core_in (at i l)) (sym e)) }

pub kept_give : (end p : ℕ) (l : List Task) (b : Best) → IsLeast (wait_key end) l b → Kept l (give_to p l b)
kept_give end p l nope h = kept_refl l
kept_give end p l (best i k) h = kept_become l i _ _ h.0 (is_waiting end (at i l).cond k h.1).0 refl

pub kept_take : (now i : ℕ) (l : List Task) → i < length l → (at i l).cond ≡ waiting (amount (at i l)) → (b : Best) → IsLeast (run_key now) l b → Kept l (take_from i l b)
kept_take now i l hi e nope h = kept_refl l
kept_take now i l hi e (best j k) h =
    let f = (is_running now (at j l).cond k h.1).0 in
    let ne : i ≢ j = λ q. omega (arith, ap runs_of e, ap runs_of f, ap (λ x. runs (at x l)) q) in
    let d = waiting (amount (at j l)) in
    kept_trans (kept_become l j _ d h.0 f refl)
    (kept_become (become j d l) i (waiting (amount (at i l))) _ (rw length_become hi) (rw (at_other l j i d ne) e) refl)

-- B EVENTS
pub give_alive : (end p : ℕ) (l : List Task) → ((i : ℕ) → waits (at i l) ≤ amount (at i l)) → (b : Best) → IsLeast (wait_key end) l b
    → (j : ℕ) → runs (at j l) ≤ amount (at j l) → runs (at j (give_to p l b)) ≤ amount (at j (give_to p l b))
give_alive end p l w nope h j a = a
give_alive end p l w (best i k) h j a =
    one_become (λ t. runs t ≤ amount t) l i (running p (amount (at i l))) h.0 (omega (arith, w i, ap waits_of (is_waiting end (at i l).cond k h.1).0)) j a

module _ (m scale R : ℕ) where
  pub record BDone (l : List Task) (i : ℕ) (k : List Task) : Type 0 where
    pub fits : Fits 0 m scale R k
    pub this : runs (at i k) ≤ amount (at i k)
    pub others : (j : ℕ) → runs (at j l) ≤ amount (at j l) → runs (at j k) ≤ amount (at j k)
    pub kept : Kept l k

  b_still : (l : List Task) (i : ℕ) → Fits 0 m scale R l → runs (at i l) ≤ amount (at i l) → BDone l i l
  b_still l i F h = record { fits = F; this = h; others = λ j a. a; kept = kept_refl l }

  b_due : (end p : ℕ) (l : List Task) (i : ℕ) → i < length l → Fits 0 m scale R l → (at i l).cond ≡ running p 0 → BDone l i (give end p (become i resting l))
  unfolding give
  b_due end p l i hi F e =
      let l' = become i resting l in
      let r = rest_ok i p l hi e F in
      let L = least_is (wait_key end) refl l' in
      let still = give_alive end p l' r.0.left (least (wait_key end) l') L in
      record {
        fits = give_ok end p l' r.0 r.2 r.3 r.1 (least (wait_key end) l') L;
        this = still i (rw (at_same l i resting hi) (omega arith));
        others = λ j a. still j (one_become (λ t. runs t ≤ amount t) l i resting hi (omega arith) j a);
        kept = kept_trans (kept_become l i (running p 0) resting hi e refl) (kept_give end p l' (least (wait_key end) l') L);
      }

  pub b_ok : (end : ℕ) (l : List Task) (i : ℕ) → i < length l → Fits 0 m scale R l → (c : Cond) → (at i l).cond ≡ c → BDone l i (b_case end l i c)
  b_ok end l i hi F asleep e = b_still l i F (omega (arith, ap runs_of e))
  b_ok end l i hi F resting e = b_still l i F (omega (arith, ap runs_of e))
  b_ok end l i hi F (waiting a) e = b_still l i F (omega (arith, ap runs_of e))
  b_ok end l i hi F (running p a) e =
      if_by (BDone l i) (eqb a 0) (eqb_says a 0) (λ z. b_due end p l i hi F (rw z at e)) (λ z. b_still l i F (omega (arith, ap runs_of e, ap amount_of e)))

  abbrev pub AfterB : List Task → ℕ → List Task → Type 0
  AfterB l₀ n l = Fits 0 m scale R l × ((j : ℕ) → j < n → runs (at j l) ≤ amount (at j l)) × Kept l₀ l

  pub b_all_lem : (end : ℕ) (l : List Task) → Fits 0 m scale R l → AfterB l (length l) (b_events end l)
  unfolding b_events b_event
  b_all_lem end l F = by_places (b_event end) (length l) (AfterB l)
      (λ i k hi q.
      let d = b_ok end k i (omega (arith, q.2.size)) q.0 (at i k).cond refl in (
        d.fits,
        (λ j hj. next i k d j hj q.1 (ℕ_discrete j i)),
        kept_trans q.2 d.kept,
      ))
      l (F, (λ j hj. omega arith), kept_refl l)
    where
      next : (i : ℕ) (k : List Task) → BDone k i (b_case end k i (at i k).cond) → (j : ℕ) → j < suc i → ((j : ℕ) → j < i → runs (at j k) ≤ amount (at j k)) → Dec (j ≡ i)
          → runs (at j (b_case end k i (at i k).cond)) ≤ amount (at j (b_case end k i (at i k).cond))
      next i k d j hj old (yes e) = rw e d.this
      next i k d j hj old (no n) = d.others j (old j (omega arith))

  -- C EVENTS
  -- 1 if it waits and must run from now to the end
  abbrev late_of : Cond → ℕ
  late_of asleep = 0
  late_of resting = 0
  late_of (running p a) = 0
  late_of (waiting a) = if leb R a then 1 else 0

  abbrev late : Task → ℕ
  late t = late_of t.cond

  late_waits : (c : Cond) → late_of c ≤ waits_of c
  late_waits asleep = omega arith
  late_waits resting = omega arith
  late_waits (running p a) = omega arith
  late_waits (waiting a) = if_by (λ x. x ≤ 1) (leb R a) (leb_says R a) (λ _. omega arith) (λ _. omega arith)

  not_late : (a : ℕ) → a < R → late_of (waiting a) ≡ 0
  not_late a h = if_by (λ x. x ≡ 0) (leb R a) (leb_says R a) (λ z. absurd (omega arith)) (λ z. refl)

  is_late : (a : ℕ) → R ≤ a → late_of (waiting a) ≡ 1
  is_late a h = if_by (λ x. x ≡ 1) (leb R a) (leb_says R a) (λ z. refl) (λ z. absurd (z h))

  -- who is not late has room to wait
  in_time : (c : Cond) → 0 < R → amount_of c ≤ R → late_of c ≡ 0 → amount_of c + waits_of c ≤ R
  in_time asleep h s z = omega arith
  in_time resting h s z = omega arith
  in_time (running p a) h s z = omega arith
  in_time (waiting a) h s z = if_by (λ x. x ≡ 0 → a + 1 ≤ R) (leb R a) (leb_says R a) (λ _ e. absurd (omega arith)) (λ n e. omega arith) z

  module _ (h_r : 0 < R) (hs : 0 < scale) (end now : ℕ) (he : now + R ≡ end) where
    pub record CDone (l k : List Task) : Type 0 where
      pub stands : Stands m scale R k
      pub kept : Kept l k

    nobody_late : (l : List Task) → Fits 0 m scale R l → Alive l → sum_of late l ≡ 0 → CDone l l
    nobody_late l F A h = record {
      stands = record {
        fits = F;
        alive = A;
        below = anywhere (λ t. amount t + waits t ≤ R) l (omega arith) (λ j hj. in_time (at j l).cond h_r (F.small j) (omega (arith, sum_of_at late l j nobody hj)));
      };
      kept = kept_refl l;
    }

    -- a critical task takes a processor: one less is late
    fewer_late : (i : ℕ) (l : List Task) → i < length l → (at i l).cond ≡ waiting (amount (at i l)) → R ≤ amount (at i l) → Fits 0 m scale R l
        → (b : Best) → IsLeast (run_key now) l b → sum_of late (take_from i l b) + 1 ≡ sum_of late l
    fewer_late i l hi e h F nope L =
        absurd (crowded h_r hs i l hi e F h (λ j. let z : runs (at j l) ≡ 0 = not_running now (at j l).cond (L j) in rw z (omega arith)))
    fewer_late i l hi e h F (best j k) L =
        let f : (at j l).cond ≡ running (proc (at j l)) (amount (at j l)) = (is_running now (at j l).cond k L.1).0 in
        let ne : i ≢ j = λ q. omega (arith, ap runs_of e, ap runs_of f, ap (λ x. runs (at x l)) q) in
        let i_late : late (at i l) ≡ 1 = ap late_of e ∙ is_late (amount (at i l)) h in
        let j_late : late (at j l) ≡ 0 = ap late_of f in
        let d = waiting (amount (at j l)) in
        let n = running (proc (at j l)) (amount (at i l)) in
        omega (arith, sum_two late l i j n d hi L.0 ne, not_late (amount (at j l)) (victim h_r hs now i j k l hi e h F L))

    -- the events that n more turns do
    abbrev Turns : ℕ → Type 0
    Turns n = (k : List Task) → Fits 0 m scale R k → Alive k → sum_of late k ≤ n → CDone k (c_events_in n end now k)

    c_all : (n : ℕ) (l : List Task) → Fits 0 m scale R l → Alive l → sum_of late l ≤ n → CDone l (c_events_in n end now l)
    unfolding c_events_in seize
    c_all zero l F A h = nobody_late l F A (omega arith)
    c_all (suc n) l F A h = go (λ k. c_all n k) (least (wait_key end) l) (least_is (wait_key end) refl l)
      where
        quiet : (j : ℕ) (c : Cond) → (at j l).cond ≡ c → ((k : ℕ) → wait_key_of end c ≡ some k → now < k) → late_of c ≡ 0
        quiet j asleep q f = refl
        quiet j resting q f = refl
        quiet j (running p a) q f = refl
        quiet j (waiting a) q f = not_late a (omega (arith, f (end - a) refl))

        still : ((j k : ℕ) → wait_key end (at j l) ≡ some k → now < k) → CDone l l
        still f = nobody_late l F A (sum_of_none late nobody l (λ j hj. quiet j (at j l).cond refl (f j)))

        turn : Turns n → (i k : ℕ) → IsLeast (wait_key end) l (best i k) → k ≤ now → CDone l (c_events_in n end now (take_from i l (least (run_key now) l)))
        turn rest i k L due =
            let w = is_waiting end (at i l).cond k L.1 in
            let a : R ≤ amount (at i l) = omega (arith, w.1) in
            let b = least (run_key now) l in
            let B = least_is (run_key now) refl l in
            let s = seize_ok h_r hs now i l L.0 w.0 a F A b B in
            let d = rest (take_from i l b) s.0 s.1 (omega (arith, fewer_late i l L.0 w.0 a F b B)) in
            record { stands = d.stands; kept = kept_trans (kept_take now i l L.0 w.0 b B) d.kept }

        go : Turns n → (b : Best) → IsLeast (wait_key end) l b
            → CDone l (elim b [ nope ↦ l | best i k ↦ elim (leb k now) [ true ↦ c_events_in n end now (take_from i l (least (run_key now) l)) | false ↦ l ] ])
        go rest nope L = still (λ j k e. none_some (wait_key end (at j l)) k (L j) e)
          where
            none_some : (o : Option ℕ) (k : ℕ) → o ≡ none → o ≡ some k → now < k
            none_some o k p q = let z : ◌≡◌ {A = ℕ} 0 1 = cc in absurd (omega arith)
        go rest (best i k) L = by (leb k now) (leb_says k now)
          where
            by : (b : Bool) → Says (k ≤ now) b → CDone l (elim b [ true ↦ c_events_in n end now (take_from i l (least (run_key now) l)) | false ↦ l ])
            by true q = turn rest i k L q
            by false q = still (λ j k' e. omega (arith, L.2 j k' e))

    pub events_ok : (l : List Task) → Fits 0 m scale R l → Stands m scale R (events end now l) × Kept l (events end now l)
    unfolding events c_events
    events_ok l F =
        let b = b_all_lem end l F in
        let k = b_events end l in
        let A = anywhere (λ t. runs t ≤ amount t) k (omega arith) (λ j hj. b.1 j (omega (arith, b.2.size))) in
        let c = c_all (sum_of waits k) k b.0 A (sum_of_mono late waits nobody k (λ j hj. late_waits (at j k).cond)) in
        (c.stands, kept_trans b.2 c.kept)
