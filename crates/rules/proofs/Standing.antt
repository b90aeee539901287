-- From what holding together says to what the events need
use Rattle.std.specs.Prelude.{if◌then◌else◌}
use mathlib.Core.Path.{◌≡◌, refl, ◌∙◌, ap}
use mathlib.Core.Bool.{Bool, true, false}
use mathlib.Core.List.{List, [], ◌∷◌, map}
use Prim.Native.Nat.{ℕ, suc, ◌*◌, ◌-◌, ◌≤◌, ◌<◌, ◌∣◌}
use native.Mathlib.Decide.{dec_lt}
use native.Mathlib.Omega.{arith}
use lib.ListN.{length, get_or, length-map, get_or-map, get_or-eq_default}
use Rattle.ground.specs.Sums.{sum_of, up_from}
use Rattle.ground.proofs.Sums.{sum_of_mono, sum_of_const, sum_of_add, sum_of_none}
use Rattle.ground.proofs.Times.{up_length}
use Rattle.rules.specs.State.{Task, no_row, nobody, at, short, is_awake, proc, runs, on, awake_share}
use Rattle.rules.specs.Table.{Row}
use Rattle.rules.proofs.Together.{Awake, Table, Seats, Shut, Going}
use Rattle.rules.proofs.Events.{Stands}
use Rattle.rules.proofs.Opening.{Closed}
use Rattle.rules.proofs.Places.{inside}
use Rattle.rules.proofs.Scale.{scale_positive, scale_multiple, share_exact, share_at_most, share_positive}
use Rattle.rules.proofs.Slots.{on_all}

-- what the events use of an admitted table
pub record Facts (m scale : ℕ) (l : List Task) : Type 0 where
  pub scale_pos : 0 < scale
  pub size : 0 < length l
  pub most : (j : ℕ) → (at j l).share ≤ scale
  pub some_share : (j : ℕ) → j < length l → 0 < (at j l).share
  pub some_q : (j : ℕ) → j < length l → 0 < short (at j l)
  -- a share of q ticks is e ticks
  pub exact : (j : ℕ) → j < length l → (at j l).share * short (at j l) ≡ (at j l).row.exec * scale
  pub admit : sum_of (λ (t : Task). t.share) l ≤ m * scale

pub row_at_lem : (l : List Task) (j : ℕ) → get_or (map (λ (t : Task). t.row) l) j no_row ≡ (at j l).row
row_at_lem l j = get_or-map (λ (t : Task). t.row) l j nobody

pub facts : {m scale : ℕ} (l : List Task) → Table m scale l → Facts m scale l
facts {m} {scale} l T = record {
  scale_pos = pos;
  size = omega (arith, T.size);
  most = λ j. most j (dec_lt j (length l));
  some_share = λ j hj. rw (T.share_is j hj) (share_positive scale (at j l).row pos (divides j hj) (omega (arith, T.ranges j hj)));
  some_q = some_q;
  exact = λ j hj. ap (λ x. x * short (at j l)) (T.share_is j hj) ∙ share_exact scale (at j l).row (divides j hj);
  admit = T.sum;
}
  where
    some_q : (j : ℕ) → j < length l → 0 < short (at j l)
    some_q j hj = let r = T.ranges j hj in let a = r.0.0 in let b = r.2.0 in omega arith

    rows : List Row
    rows = map (λ (t : Task). t.row) l

    n : length (map (λ (t : Task). t.row) l) ≡ length l
    n = length-map l (λ (t : Task). t.row)

    pos : 0 < scale
    pos = rw T.scale_is (scale_positive rows (λ i hi. rw (row_at_lem l i) (some_q i (omega (arith, n)))))

    divides : (j : ℕ) → j < length l → short (at j l) ∣ scale
    divides j hj = rw T.scale_is (rw (row_at_lem l j) at (scale_multiple rows j (omega (arith, n))))

    most : (j : ℕ) → Dec (j < length l) → (at j l).share ≤ scale
    most j (yes h) = rw (T.share_is j h) (share_at_most scale (at j l).row (T.exec j h))
    most j (no h) = let past : length l ≤ j = omega arith in rw (get_or-eq_default l nobody) (omega arith)

-- an awake task is in the list
one_if : Bool → ℕ
one_if true = 1
one_if false = 0

pub awake_inside : (l : List Task) (j : ℕ) → Awake (at j l) → j < length l
unfolding one_if
awake_inside l j w = inside (λ t. one_if (is_awake t.cond)) l j refl (omega (arith, ap one_if w))

part_share : (t : Task) → awake_share t ≤ t.share
part_share t = go (is_awake t.cond)
  where
    go : (b : Bool) → (if b then t.share else 0) ≤ t.share
    go true = omega arith
    go false = omega arith

pub awake_fits : {m scale : ℕ} (l : List Task) → Facts m scale l → sum_of awake_share l ≤ m * scale
awake_fits l T = omega (arith, T.admit, sum_of_mono awake_share (λ t. t.share) nobody l (λ i hi. part_share (at i l)))

-- as many run as processors are taken
pub seats_count : (m : ℕ) (l : List Task) → ((j : ℕ) → runs (at j l) ≤ proc (at j l)) → ((j : ℕ) → proc (at j l) ≤ m) → sum_of (λ p. sum_of (on p) l) (up_from 1 m) ≡ sum_of runs l
unfolding sum_of
seats_count m [] lo hi = sum_of_none (λ p. 0) 0 (up_from 1 m) (λ i h. refl)
seats_count m (t ∷ l) lo hi =
    sum_of_add (λ p. on p t) (λ p. sum_of (on p) l) (up_from 1 m)
    ∙ (let a = on_all m t.cond (lo 0) (hi 0) in let b = seats_count m l (λ j. lo (suc j)) (λ j. hi (suc j)) in omega (arith, a, b))

-- at most m run
pub few_run : (m : ℕ) (l : List Task) → Seats m l → sum_of runs l ≤ m
few_run m l S =
    omega (arith, seats_count m l S.low S.high, sum_of_mono (λ p. sum_of (on p) l) (λ _. 1) 0 (up_from 1 m) (λ i hi. S.apart _), sum_of_const 1 (up_from 1 m), up_length 1 m)

pub going_stands : {m scale now e : ℕ} (l : List Task) → Facts m scale l → Seats m l → Going m scale now e l → Stands m scale (e * scale - now) l
going_stands {m} {scale} {now} {e} l T S G = record {
  fits = record {
    small = λ i. omega (arith, G.below i);
    left = G.left;
    low = S.low;
    high = S.high;
    apart = S.apart;
    most = omega (arith, few_run m l S);
    busy = λ w. omega (arith, G.busy w);
    total = G.total;
    admit = awake_fits l T;
  };
  alive = G.alive;
  below = G.below;
}

pub shut_closed : {m scale now : ℕ} (l : List Task) → Facts m scale l → Shut scale now l → Closed m scale l
shut_closed l T S = record { idle = S.idle; most = T.most; some_share = λ j w. T.some_share j (awake_inside l j w); admit = awake_fits l T }
