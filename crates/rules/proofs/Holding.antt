-- The test `holds` says that a state holds together, clause by clause
use Rattle.std.specs.Prelude.{if◌then◌else◌}
use mathlib.Core.Path.{◌≡◌, refl, sym, ◌∙◌, subst, ap}
use mathlib.Core.Bool.{Bool, true, false, not, ◌&&◌}
use mathlib.Core.Option.{Option, none, some, some-injective}
use mathlib.Core.Logic.{◌⊎◌, inl, inr}
use mathlib.Core.List.{List, map}
use Prim.Native.Nat.{ℕ, ◌+◌, ◌*◌, ◌-◌, ◌/◌, ◌%◌, ◌≤◌, ◌<◌, max}
use native.Mathlib.Nat.{div-add-mod', mod-lt, mul-le-mul_right, le_of_mul-le-mul_right, lt_of_mul-lt-mul_right}
use native.Mathlib.Decide.{dec_lt}
use native.Mathlib.Omega.{arith}
use lib.Dec.{leb, ltb, eqb}
use lib.ListN.{length, length-map}
use Rattle.ground.specs.Sums.{sum_of}
use Rattle.ground.specs.Tests.{Says, every}
use Rattle.ground.proofs.Sums.{sum_of_cong, sum_of_none, sum_of_map}
use Rattle.ground.proofs.Tests.{leb_says, ltb_says, eqb_says, and_says, or_says, says_as, if_by, every_says, every_up_says, of_true, is_true}
use Rattle.ground.proofs.Times.{same_no}
use Rattle.rules.specs.Bounds.{clock}
use Rattle.rules.specs.Admission.{processors_ok, rows_verdict}
use Rattle.rules.specs.Answers.{is_done}
use Rattle.rules.specs.Holds.{rows_in, table_holds, clock_holds, seated, conditions_hold, last_holds, lasts_hold, rests_at, closed_holds, amount_fits, idle_holds, sum_holds, ceil_tick, limit_holds, open_holds, plane_holds, holds}
use Rattle.rules.specs.Scale.{scale_of, share_of}
use Rattle.rules.specs.State.{Cond, asleep, resting, running, waiting, Task, State, nobody, blank, at, period, short, is_awake, amount, proc, runs, waits, on, awake_share, tick_of, on_tick, due, soonest}
use Rattle.rules.proofs.Together.{Awake, Table, Seats, Lasts, Shut, Going, Plane, Together}
use Rattle.rules.proofs.Cases.{amount_of, proc_of, runs_of, waits_of, on_of_lem}
use Rattle.rules.proofs.Admitting.{RowsPass, rows_says}
use Rattle.rules.proofs.Keeping.{not_both}
use Rattle.rules.proofs.Places.{anywhere}
use Rattle.rules.proofs.Standing.{row_at_lem, facts, awake_inside}
use Rattle.rules.proofs.Lasts.{never}

-- TABLE
pub processors_says : (m : ℕ) → Says ((1 ≤ m) × (m ≤ 16)) (processors_ok m)
processors_says m = and_says (1 ≤ m) (m ≤ 16) (leb 1 m) (leb m 16) (leb_says 1 m) (leb_says m 16)

-- the shares are the rows' shares
shares_sum : (scale : ℕ) (l : List Task) → ((j : ℕ) → j < length l → (at j l).share ≡ share_of scale (at j l).row) → sum_of (λ (t : Task). t.share) l ≡ sum_of (share_of scale) (map (λ (t : Task). t.row) l)
shares_sum scale l h = sum_of_cong (λ (t : Task). t.share) (λ (t : Task). share_of scale (t.row)) nobody l h ∙ sym (sum_of_map (share_of scale) (λ (t : Task). t.row) l)

table_of : (s : State) → (1 ≤ s.m) × (s.m ≤ 16) → 1 ≤ length s.tasks → length s.tasks ≤ 128 → RowsPass s.m (rows_in s) → s.scale ≡ scale_of (rows_in s)
    → ((j : ℕ) → j < length s.tasks → (at j s.tasks).share ≡ share_of s.scale (at j s.tasks).row) → Table s.m s.scale s.tasks
table_of s a b c R e f =
    let n : length (rows_in s) ≡ length s.tasks = length-map s.tasks (λ (t : Task). t.row) in
    record {
      processors = a;
      size = (b, c);
      ranges = λ j h. rw (row_at_lem s.tasks j) at (R.rows j (omega arith)).0;
      exec = λ j h. rw (row_at_lem s.tasks j) at (R.rows j (omega arith)).1;
      scale_is = e;
      scale_most = omega (arith, R.scale_most);
      share_is = f;
      sum = rw (shares_sum s.scale s.tasks f, e) R.sum;
    }

rows_of : (s : State) → Table s.m s.scale s.tasks → RowsPass s.m (rows_in s)
rows_of s T =
    let n : length (rows_in s) ≡ length s.tasks = length-map s.tasks (λ (t : Task). t.row) in
    record {
      rows = λ j h. rw (row_at_lem s.tasks j) (T.ranges j (omega arith), T.exec j (omega arith));
      scale_most = omega (arith, T.scale_most, T.scale_is);
      sum = rw (← T.scale_is) (omega (arith, T.sum, shares_sum s.scale s.tasks T.share_is));
    }

pub table_says : (s : State) → Says (Table s.m s.scale s.tasks) (table_holds s)
unfolding table_holds
table_says s =
    let l = s.tasks in
    says_as (table_holds s) (λ h. table_of s h.0 h.1.0 h.1.1.0 h.1.1.1.0 h.1.1.1.1.0 h.1.1.1.1.1)
    (λ T. (T.processors, (T.size.0, (T.size.1, (rows_of s T, (T.scale_is, T.share_is))))))
    (and_says _ _ (processors_ok s.m) _ (processors_says s.m)
    (and_says _ _ (leb 1 (length l)) _ (leb_says 1 (length l))
    (and_says _ _ (leb (length l) 128) _ (leb_says (length l) 128)
    (and_says _ _ (is_done (rows_verdict s.m (rows_in s)).answer) _ (rows_says s.m (rows_in s))
    (and_says _ _ (eqb s.scale (scale_of (rows_in s))) (every (λ (t : Task). eqb t.share (share_of s.scale t.row)) l) (eqb_says s.scale (scale_of (rows_in s)))
    (every_says (λ (t : Task). t.share ≡ share_of s.scale t.row) (λ (t : Task). eqb t.share (share_of s.scale t.row)) nobody (λ t. eqb_says t.share (share_of s.scale t.row)) l))))))

-- CONDITIONS
seated_says : (m : ℕ) (c : Cond) → Says ((runs_of c ≤ proc_of c) × (proc_of c ≤ m)) (seated m c)
seated_says m asleep = (omega arith, omega arith)
seated_says m resting = (omega arith, omega arith)
seated_says m (running p a) = and_says (1 ≤ p) (p ≤ m) (leb 1 p) (leb p m) (leb_says 1 p) (leb_says p m)
seated_says m (waiting a) = (omega arith, omega arith)

-- no one runs on a processor that there is not
off : (p m : ℕ) (c : Cond) → runs_of c ≤ proc_of c → proc_of c ≤ m → (p < 1) ⊎ (m < p) → on_of_lem p c ≡ 0
off p m asleep a b h = refl
off p m resting a b h = refl
off p m (running p' x) a b (inl h) = same_no p' p (λ e. omega arith)
off p m (running p' x) a b (inr h) = same_no p' p (λ e. omega arith)
off p m (waiting x) a b h = refl

seats_of : (m : ℕ) (l : List Task) → ((j : ℕ) → j < length l → (runs (at j l) ≤ proc (at j l)) × (proc (at j l) ≤ m)) → ((p : ℕ) → 1 ≤ p → p < 1 + m → sum_of (on p) l ≤ 1) → Seats m l
seats_of m l h f = record {
  low = λ j. (all j).0;
  high = λ j. (all j).1;
  apart = λ p. by p (dec_lt p 1) (dec_lt m p);
}
  where
    all : (j : ℕ) → (runs (at j l) ≤ proc (at j l)) × (proc (at j l) ≤ m)
    all = anywhere (λ t. (runs t ≤ proc t) × (proc t ≤ m)) l (omega arith, omega arith) h

    by : (p : ℕ) → Dec (p < 1) → Dec (m < p) → sum_of (on p) l ≤ 1
    by p (yes z) d = omega (arith, sum_of_none (on p) nobody l (λ j hj. off p m (at j l).cond (all j).0 (all j).1 (inl z)))
    by p (no z) (yes y) = omega (arith, sum_of_none (on p) nobody l (λ j hj. off p m (at j l).cond (all j).0 (all j).1 (inr y)))
    by p (no z) (no y) = f p (omega arith) (omega arith)

pub seats_says : (s : State) → Says (Seats s.m s.tasks) (conditions_hold s)
unfolding conditions_hold
seats_says s =
    says_as (conditions_hold s) (λ h. seats_of s.m s.tasks h.0 h.1) (λ S. ((λ j _. (S.low j, S.high j)), λ p _ _. S.apart p))
    (and_says _ _ (every (λ (t : Task). seated s.m t.cond) s.tasks) _
    (every_says (λ (t : Task). (runs t ≤ proc t) × (proc t ≤ s.m)) (λ (t : Task). seated s.m t.cond) nobody (λ t. seated_says s.m t.cond) s.tasks)
    (every_up_says (λ p. sum_of (on p) s.tasks ≤ 1) (λ p. leb (sum_of (on p) s.tasks) 1) (λ p. leb_says (sum_of (on p) s.tasks) 1) 1 s.m))

-- LAST ARRIVALS
abbrev LastOk : ℕ → ℕ → Task → Type 0
LastOk scale now t = (Awake t → (a : ℕ) × (t.last ≡ some a)) × ((a : ℕ) → t.last ≡ some a → a * scale ≤ now)

last_says : (s : State) (t : Task) → Says (LastOk s.scale s.now t) (last_holds s t)
last_says s t = go t.last (is_awake t.cond)
  where
    go : (o : Option ℕ) (w : Bool) → Says ((w ≡ true → (a : ℕ) × (o ≡ some a)) × ((a : ℕ) → o ≡ some a → a * s.scale ≤ s.now)) (elim o [ none ↦ not w | some a ↦ leb (a * s.scale) s.now ])
    go (some b) w =
        says_as (leb (b * s.scale) s.now) (λ h. ((λ _. (b, refl)), λ a e. subst (λ x. x * s.scale ≤ s.now) (some-injective b a e) h)) (λ h. h.1 b refl) (leb_says (b * s.scale) s.now)
    go none true = λ h. never (h.0 refl).1
    go none false = ((λ e. not_both _ e), λ a e. never e)

pub lasts_says : (s : State) → Says (Lasts s.scale s.now s.tasks) (lasts_hold s)
unfolding lasts_hold
lasts_says s =
    says_as (lasts_hold s) of (λ L j _. (L.known j, L.came j))
    (every_says (LastOk s.scale s.now) (last_holds s) nobody (last_says s) s.tasks)
  where
    of : ((j : ℕ) → j < length s.tasks → LastOk s.scale s.now (at j s.tasks)) → Lasts s.scale s.now s.tasks
    of h =
        let all = anywhere (LastOk s.scale s.now) s.tasks ((λ e. not_both _ e), λ a e. never e) h in
        record { known = λ j. (all j).0; came = λ j. (all j).1 }

-- A CLOSED PLANE
tick_says : (s : State) → Says (s.now / s.scale * s.scale ≡ s.now) (on_tick s)
tick_says s =
    let d = div-add-mod' s.now s.scale in
    says_as (on_tick s) (λ h. omega arith) (λ h. omega arith) (eqb_says (s.now % s.scale) 0)

abbrev RestOk : ℕ → Task → Type 0
RestOk tick t = (runs t + waits t ≡ 0) × (Awake t → tick < due t)

rest_says : (tick : ℕ) (t : Task) → Says (RestOk tick t) (rests_at tick t)
rest_says tick t =
    and_says (runs t + waits t ≡ 0) (Awake t → tick < due t) (eqb (runs t + waits t) 0) (if is_awake t.cond then ltb tick (due t) else true)
    (eqb_says (runs t + waits t) 0) (go (is_awake t.cond))
  where
    go : (w : Bool) → Says (w ≡ true → tick < due t) (if w then ltb tick (due t) else true)
    go true = says_as (ltb tick (due t)) (λ h _. h) (λ h. h refl) (ltb_says tick (due t))
    go false = λ e. not_both _ e

pub shut_says : (s : State) → Says (Shut s.scale s.now s.tasks) (closed_holds s)
unfolding closed_holds
shut_says s =
    says_as (closed_holds s) of (λ S. (S.whole, λ j _. (S.idle j, S.due j)))
    (and_says _ _ (on_tick s) (every (rests_at (tick_of s)) s.tasks) (tick_says s) (every_says (RestOk (tick_of s)) (rests_at (tick_of s)) nobody (rest_says (tick_of s)) s.tasks))
  where
    of : (s.now / s.scale * s.scale ≡ s.now) × ((j : ℕ) → j < length s.tasks → RestOk (tick_of s) (at j s.tasks)) → Shut s.scale s.now s.tasks
    of h =
        let all = anywhere (RestOk (tick_of s)) s.tasks (refl, λ e. not_both _ e) h.1 in
        record { whole = h.0; idle = λ j. (all j).0; due = λ j. (all j).1 }

-- AN OPEN PLANE
abbrev AmountOk : ℕ → Cond → Type 0
AmountOk left c = (runs_of c ≤ amount_of c) × (waits_of c ≤ amount_of c) × (amount_of c + waits_of c ≤ left)

amount_says : (left : ℕ) (c : Cond) → Says (AmountOk left c) (amount_fits left c)
amount_says left asleep = (omega arith, omega arith, omega arith)
amount_says left resting = (omega arith, omega arith, omega arith)
amount_says left (running p a) =
    says_as (amount_fits left (running p a)) (λ h. (h.0, omega arith, omega (arith, h.1))) (λ h. (h.0, omega (arith, h.2)))
    (and_says (1 ≤ a) (a ≤ left) (leb 1 a) (leb a left) (leb_says 1 a) (leb_says a left))
amount_says left (waiting a) =
    says_as (amount_fits left (waiting a)) (λ h. (omega arith, h.0, omega (arith, h.1))) (λ h. (h.1, omega (arith, h.2)))
    (and_says (1 ≤ a) (a < left) (leb 1 a) (ltb a left) (leb_says 1 a) (ltb_says a left))

idle_says : (m : ℕ) (l : List Task) → Says (0 < sum_of waits l → sum_of runs l ≡ m) (idle_holds m l)
idle_says m l =
    says_as (idle_holds m l) to from (or_says (sum_of waits l ≡ 0) (sum_of runs l ≡ m) (eqb (sum_of waits l) 0) (eqb (sum_of runs l) m) (eqb_says (sum_of waits l) 0) (eqb_says (sum_of runs l) m))
  where
    to : (sum_of waits l ≡ 0) ⊎ (sum_of runs l ≡ m) → 0 < sum_of waits l → sum_of runs l ≡ m
    to (inl z) h = absurd (omega arith)
    to (inr z) h = z

    from : (0 < sum_of waits l → sum_of runs l ≡ m) → (sum_of waits l ≡ 0) ⊎ (sum_of runs l ≡ m)
    from f = by (dec_lt 0 (sum_of waits l))
      where
        by : Dec (0 < sum_of waits l) → (sum_of waits l ≡ 0) ⊎ (sum_of runs l ≡ m)
        by (yes h) = inr (f h)
        by (no h) = inl (omega arith)

-- "the present rounded up to a tick" is the first tick that is not before it
pub record Ceil (scale now tick : ℕ) : Type 0 where
  pub reached : now ≤ tick * scale
  pub first : (t : ℕ) → now ≤ t * scale → tick ≤ t

pub ceil_is : (s : State) → 0 < s.scale → Ceil s.scale s.now (ceil_tick s)
ceil_is s pos = if_by (Ceil s.scale s.now) (on_tick s) (tick_says s)
    (λ h. record { reached = omega arith; first = λ t ht. le_of_mul-le-mul_right (omega arith) pos })
    (λ n. record {
      reached = omega (arith, div-add-mod' s.now s.scale, mod-lt s.now pos);
      first = λ t ht. let below : s.now / s.scale * s.scale < t * s.scale = strict t ht n in omega (arith, lt_of_mul-lt-mul_right s.scale below);
    })
  where
    strict : (t : ℕ) → s.now ≤ t * s.scale → ¬ (s.now / s.scale * s.scale ≡ s.now) → s.now / s.scale * s.scale < t * s.scale
    strict t ht n = go (dec_lt (s.now / s.scale * s.scale) (t * s.scale))
      where
        go : Dec (s.now / s.scale * s.scale < t * s.scale) → s.now / s.scale * s.scale < t * s.scale
        go (yes h) = h
        go (no h) = absurd (n (omega (arith, div-add-mod' s.now s.scale)))

abbrev LimitOk : ℕ → ℕ → ℕ → Task → Type 0
LimitOk scale now e t =
    (Awake t → e ≤ due t)
    × (¬ Awake t → (x : ℕ) → now ≤ x * scale → ((a : ℕ) → t.last ≡ some a → a + period t ≤ x) → e ≤ x + short t)

limit_says : (scale now tick e : ℕ) → Ceil scale now tick → (t : Task) → Says (LimitOk scale now e t) (limit_holds tick e t)
limit_says scale now tick e C t = go (is_awake t.cond)
  where
    by : (o : Option ℕ) → Says ((x : ℕ) → now ≤ x * scale → ((a : ℕ) → o ≡ some a → a + period t ≤ x) → e ≤ x + short t) (leb e ((elim o [ none ↦ tick | some a ↦ max tick (a + period t) ]) + short t))
    by (some b) =
        says_as (leb e (max tick (b + period t) + short t))
        (λ h x hx f. omega (arith, C.first x hx, f b refl))
        (λ h. h (max tick (b + period t)) (let le : tick ≤ max tick (b + period t) = omega arith in omega (arith, C.reached, mul-le-mul_right scale le))
        (λ a q. let z = some-injective b a q in omega arith))
        (leb_says e (max tick (b + period t) + short t))
    by none =
        says_as (leb e (tick + short t)) (λ h x hx f. omega (arith, C.first x hx)) (λ h. h tick C.reached (λ a q. never q)) (leb_says e (tick + short t))

    go : (w : Bool) → Says ((w ≡ true → e ≤ due t) × (¬ (w ≡ true) → (x : ℕ) → now ≤ x * scale → ((a : ℕ) → t.last ≡ some a → a + period t ≤ x) → e ≤ x + short t))
        (if w then leb e (due t) else leb e (soonest tick t + short t))
    go true = says_as (leb e (due t)) (λ h. ((λ _. h), λ n. absurd (n refl))) (λ h. h.0 refl) (leb_says e (due t))
    go false = says_as (leb e (soonest tick t + short t)) (λ h. ((λ q. not_both _ q), λ _. h)) (λ h. h.1 (λ q. not_both ⊥ q)) (by t.last)

pub going_says : (s : State) (e : ℕ) → 0 < s.scale → Says (Going s.m s.scale s.now e s.tasks) (open_holds s e)
unfolding open_holds
going_says s e pos =
    let l = s.tasks in
    let R = e * s.scale - s.now in
    says_as (open_holds s e) of
    (λ G. (G.later, ((λ j _. (G.alive j, G.left j, G.below j)), (G.busy, (G.total, λ j hj. (G.due j, G.free j hj))))))
    (and_says _ _ (ltb s.now (e * s.scale)) _ (ltb_says s.now (e * s.scale))
    (and_says _ _ (every (λ (t : Task). amount_fits R t.cond) l) _ (every_says (λ (t : Task). AmountOk R t.cond) (λ (t : Task). amount_fits R t.cond) nobody (λ t. amount_says R t.cond) l)
    (and_says _ _ (idle_holds s.m l) _ (idle_says s.m l)
    (and_says _ _ (sum_holds s.scale R l) (every (limit_holds (ceil_tick s) e) l) (leb_says (sum_of amount l * s.scale) (sum_of awake_share l * R))
    (every_says (LimitOk s.scale s.now e) (limit_holds (ceil_tick s) e) nobody (limit_says s.scale s.now (ceil_tick s) e (ceil_is s pos)) l)))))
  where
    of : (s.now < e * s.scale) × (((j : ℕ) → j < length s.tasks → AmountOk (e * s.scale - s.now) (at j s.tasks).cond) × ((0 < sum_of waits s.tasks → sum_of runs s.tasks ≡ s.m)
        × ((sum_of amount s.tasks * s.scale ≤ sum_of awake_share s.tasks * (e * s.scale - s.now)) × ((j : ℕ) → j < length s.tasks → LimitOk s.scale s.now e (at j s.tasks)))))
        → Going s.m s.scale s.now e s.tasks
    of h =
        let all = anywhere (λ t. AmountOk (e * s.scale - s.now) (t.cond)) s.tasks (omega arith, omega arith, omega arith) h.1.0 in
        record {
          later = h.0;
          alive = λ j. (all j).0;
          left = λ j. (all j).1;
          below = λ j. (all j).2;
          busy = h.1.1.0;
          total = h.1.1.1.0;
          due = λ j w. (h.1.1.1.1 j (awake_inside s.tasks j w)).0 w;
          free = λ j hj. (h.1.1.1.1 j hj).1;
        }

plane_says : (s : State) (p : Option ℕ) → 0 < s.scale → Says (Plane s p) (plane_holds s p)
plane_says s none pos = shut_says s
plane_says s (some e) pos = going_says s e pos

-- "Exactly this"
pub holds_says : (s : State) → Says (Together s) (holds s)
unfolding holds
holds_says s = go (table_holds s) (table_says s)
  where
    go : (b : Bool) → Says (Table s.m s.scale s.tasks) b → Says (Together s) (b && (clock_holds s && (conditions_hold s && (lasts_hold s && plane_holds s s.plane))))
    go true T =
        says_as (clock_holds s && (conditions_hold s && (lasts_hold s && plane_holds s s.plane)))
        (λ h. record { table = T; clock = h.0; seats = h.1.0; lasts = h.1.1.0; plane = h.1.1.1 })
        (λ H. (H.clock, (H.seats, (H.lasts, H.plane))))
        (and_says _ _ (clock_holds s) _ (leb_says s.now (clock * s.scale))
        (and_says _ _ (conditions_hold s) _ (seats_says s)
        (and_says _ _ (lasts_hold s) (plane_holds s s.plane) (lasts_says s) (plane_says s s.plane (facts s.tasks T).scale_pos))))
    go false n = λ H. n H.table

-- "a blank state, which never holds together"
pub blank_never : holds blank ≡ false
unfolding holds table_holds
blank_never = refl

pub together_is : (s : State) → holds s ≡ true → Together s
together_is s = of_true (holds s) (holds_says s)

pub holds_is : (s : State) → Together s → holds s ≡ true
holds_is s = is_true (holds s) (holds_says s)

pub holds_as : {k r : State} → k ≡ r → Together r → holds k ≡ true
holds_as {k} {r} e T = ap holds e ∙ holds_is r T
