-- Opening, running on and closing keep a state together
use Rattle.std.specs.Prelude.{if◌then◌else◌}
use mathlib.Core.Path.{◌≡◌, refl, sym, ◌∙◌, ap}
use mathlib.Core.Bool.{Bool, true, false}
use mathlib.Core.Logic.{◌≢◌}
use mathlib.Core.List.{List, [], ◌∷◌, map}
use Prim.Native.Nat.{ℕ, zero, suc, ◌+◌, ◌*◌, ◌-◌, ◌/◌, ◌≤◌, ◌<◌}
use native.Mathlib.Nat.{mul-le-mul, le_of_mul-le-mul_right, mul-div_cancel, not-suc-le-zero, le_of_suc-le-suc}
use native.Mathlib.Omega.{arith}
use lib.Dec.{eqb}
use lib.ListN.{length, length-map, get_or-map}
use Rattle.ground.specs.Tests.{Says}
use Rattle.ground.proofs.Sums.{sum_of_none, sum_of_places}
use Rattle.ground.proofs.Tests.{eqb_says, is_false}
use Rattle.rules.specs.Events.{spend, advance, events}
use Rattle.rules.specs.Planes.{limit, end_of, open_tasks, close_task, closed}
use Rattle.rules.specs.Scale.{scale_of}
use Rattle.rules.specs.State.{running, Cond, asleep, resting, waiting, Task, nobody, at, short, be, due, is_awake, runs, waits, on}
use Rattle.rules.specs.Table.{Row}
use Rattle.rules.proofs.Together.{Awake, Table, Seats, Lasts, Shut, Going}
use Rattle.rules.proofs.Cases.{idle_proc, idle_on}
use Rattle.rules.proofs.Events.{Stands, Core, core, Kept, events_ok}
use Rattle.rules.proofs.Opening.{ready, opens}
use Rattle.rules.proofs.Standing.{facts, awake_inside, going_stands, shut_closed}
use Rattle.rules.proofs.Time.{at_advance, length_advance, still_awake, Room, advance_ok}

-- what no call but an arrival changes of a task
pub record Alike (l k : List Task) : Type 0 where
  pub size : length k ≡ length l
  pub row : (j : ℕ) → (at j k).row ≡ (at j l).row
  pub share : (j : ℕ) → (at j k).share ≡ (at j l).share
  pub last : (j : ℕ) → (at j k).last ≡ (at j l).last
  pub awake : (j : ℕ) → Awake (at j k) → Awake (at j l)

pub kept_alike : {l k : List Task} → Kept l k → Alike l k
kept_alike {l} {k} K = record {
  size = K.size;
  row = λ j. ap (λ (c : Core). c.row) (K.same j);
  share = λ j. ap (λ (c : Core). c.share) (K.same j);
  last = λ j. ap (λ (c : Core). c.last) (K.same j);
  awake = λ j w. sym (ap (λ (c : Core). c.awake) (K.same j)) ∙ w;
}

pub alike_trans : {l k n : List Task} → Alike l k → Alike k n → Alike l n
alike_trans a b = record {
  size = b.size ∙ a.size;
  row = λ j. b.row j ∙ a.row j;
  share = λ j. b.share j ∙ a.share j;
  last = λ j. b.last j ∙ a.last j;
  awake = λ j w. a.awake j (b.awake j w);
}

pub rows_same : (l k : List Task) → length k ≡ length l → ((j : ℕ) → (at j k).row ≡ (at j l).row) → map (λ (t : Task). t.row) k ≡ map (λ (t : Task). t.row) l
rows_same [] [] e h = refl
rows_same [] (y ∷ k) e h = absurd (omega arith)
rows_same (x ∷ l) [] e h = absurd (omega arith)
rows_same (x ∷ l) (y ∷ k) e h = rw (h 0, rows_same l k (omega arith) (λ j. h (suc j)))

pub table_kept : {m scale : ℕ} {l k : List Task} → length k ≡ length l → ((j : ℕ) → (at j k).row ≡ (at j l).row) → ((j : ℕ) → (at j k).share ≡ (at j l).share)
    → Table m scale l → Table m scale k
table_kept {m} {scale} {l} {k} n r s T = record {
  processors = T.processors;
  size = (omega (arith, T.size), omega (arith, T.size));
  ranges = λ j h. rw (r j) (T.ranges j (omega arith));
  exec = λ j h. rw (r j) (T.exec j (omega arith));
  scale_is = T.scale_is ∙ ap scale_of (sym (rows_same l k n r));
  scale_most = T.scale_most;
  share_is = λ j h. rw (r j, s j) (T.share_is j (omega arith));
  sum = omega (arith, T.sum, sum_of_places (λ (t : Task). t.share) (λ (t : Task). t.share) nobody l k n s);
}

pub lasts_kept : {scale now now' : ℕ} {l k : List Task} → Alike l k → now ≤ now' → Lasts scale now l → Lasts scale now' k
lasts_kept {scale} A h L = record {
  known = λ j w. let k = L.known j (A.awake j w) in (k.0, A.last j ∙ k.1);
  came = λ j a e. omega (arith, L.came j a (sym (A.last j) ∙ e));
}

-- everything that holds in an open plane
pub record Running (m scale now e : ℕ) (l : List Task) : Type 0 where
  pub table : Table m scale l
  pub seats : Seats m l
  pub lasts : Lasts scale now l
  pub going : Going m scale now e l

pub running_stands : {m scale now e : ℕ} (l : List Task) → Running m scale now e l → Stands m scale (e * scale - now) l
running_stands l P = going_stands l (facts l P.table) P.seats P.going

pub stands_seats : {m scale R : ℕ} {l : List Task} → Stands m scale R l → Seats m l
stands_seats S = record { low = S.fits.low; high = S.fits.high; apart = S.fits.apart }

-- TIME AND EVENTS
module _ {m scale now e : ℕ} (l : List Task) (P : Running m scale now e l) (to : ℕ) (later : now < to) (room : Room (to - now) (e * scale - now) l) where
  abbrev d : ℕ
  d = to - now

  advance_alike : Alike l (advance d l)
  advance_alike = record {
    size = length_advance d l;
    row = λ j. ap (λ (t : Task). t.row) (at_advance d j l);
    share = λ j. ap (λ (t : Task). t.share) (at_advance d j l);
    last = λ j. ap (λ (t : Task). t.last) (at_advance d j l);
    awake = λ j w. sym (ap (λ (t : Task). is_awake t.cond) (at_advance d j l) ∙ still_awake d (at j l).cond) ∙ w;
  }

  -- to an instant before the end
  pub record RunsOn (k : List Task) : Type 0 where
    pub running : Running m scale to e k
    pub alike : Alike l k
    pub same : (j : ℕ) → core (at j k) ≡ core (be (spend d (at j l).cond) (at j l))

  pub runs_on : to < e * scale → RunsOn (events (e * scale) to (advance d l))
  runs_on h =
      let F = facts l P.table in
      let A = advance_ok l (running_stands l P).fits d room in
      let e_r : e * scale - now - d ≡ e * scale - to = omega arith in
      let ev = events_ok m scale (e * scale - to) (omega arith) F.scale_pos (e * scale) to (omega arith) (advance d l) (rw e_r at A) in
      let k = events (e * scale) to (advance d l) in
      let same : (j : ℕ) → core (at j k) ≡ core (be (spend d (at j l).cond) (at j l)) = λ j. ev.1.same j ∙ ap core (at_advance d j l) in
      let K = alike_trans advance_alike (kept_alike ev.1) in
      let still : (j : ℕ) → Awake (at j l) → Awake (at j k) = λ j w. ap (λ (c : Core). c.awake) (same j) ∙ still_awake d (at j l).cond ∙ w in
      let S = ev.0 in
      record {
        running = record {
          table = table_kept K.size K.row K.share P.table;
          seats = stands_seats S;
          lasts = lasts_kept K (omega arith) P.lasts;
          going = record {
            later = h;
            alive = S.alive;
            left = S.fits.left;
            below = S.below;
            busy = λ w. omega (arith, S.fits.busy w);
            total = S.fits.total;
            due = λ j w. rw (K.last j, K.row j) (P.going.due j (K.awake j w));
            free = λ j hj w t ht a. rw (K.row j)
                (P.going.free j (omega (arith, K.size)) (λ v. w (still j v)) t (omega arith) (λ b q. omega (arith, a b (K.last j ∙ q), ap (λ (r : Row). r.period) (K.row j))));
          };
        };
        alike = K;
        same = same;
      }

-- CLOSING
pub close_by : (e : ℕ) (P : Task → Type 0) (t : Task) → P (be asleep t) → (Awake t → due t ≢ e → P (be resting t)) → P (close_task e t)
close_by e P t p q = go t.cond q
  where
    each : (b : Bool) → Says (due t ≡ e) b → (due t ≢ e → P (be resting t)) → P (be (if b then asleep else resting) t)
    each true h q = p
    each false h q = q h

    go : (c : Cond) → (is_awake c ≡ true → due t ≢ e → P (be resting t)) → P (if is_awake c then be (if eqb (due t) e then asleep else resting) t else be c t)
    go asleep q = p
    go resting q = each (eqb (due t) e) (eqb_says (due t) e) (q refl)
    go (running p a) q = each (eqb (due t) e) (eqb_says (due t) e) (q refl)
    go (waiting a) q = each (eqb (due t) e) (eqb_says (due t) e) (q refl)

pub at_closed : (d e j : ℕ) (l : List Task) → at j (closed e (advance d l)) ≡ close_task e (be (spend d (at j l).cond) (at j l))
unfolding closed
at_closed d e j l = get_or-map (close_task e) (advance d l) j nobody ∙ ap (close_task e) (at_advance d j l)

pub not_both : (A : Type 0) → ◌≡◌ {A = Bool} false true → A
not_both A e = let z : ◌≡◌ {A = ℕ} 0 1 = cc in absurd (omega arith)

-- everything that holds between planes
pub record Resting (m scale now : ℕ) (l : List Task) : Type 0 where
  pub table : Table m scale l
  pub seats : Seats m l
  pub lasts : Lasts scale now l
  pub shut : Shut scale now l

-- nobody runs: no processor is taken
pub idle_seats : (m : ℕ) (l : List Task) → ((j : ℕ) → runs (at j l) + waits (at j l) ≡ 0) → Seats m l
idle_seats m l h = record {
  low = λ j. omega (arith, h j);
  high = λ j. omega (arith, idle_proc (at j l).cond (h j));
  apart = λ p. omega (arith, sum_of_none (on p) nobody l (λ j hj. idle_on p (at j l).cond (h j)));
}

pub closes_alike : (d e : ℕ) (l : List Task) → Alike l (closed e (advance d l))
unfolding closed
closes_alike d e l =
    let t : ℕ → Task = λ j. be (spend d (at j l).cond) (at j l) in
    record {
      size = length-map (advance d l) (close_task e) ∙ length_advance d l;
      row = λ j. rw (at_closed d e j l) (close_by e (λ u. u.row ≡ (at j l).row) (t j) refl (λ _ _. refl));
      share = λ j. rw (at_closed d e j l) (close_by e (λ u. u.share ≡ (at j l).share) (t j) refl (λ _ _. refl));
      last = λ j. rw (at_closed d e j l) (close_by e (λ u. u.last ≡ (at j l).last) (t j) refl (λ _ _. refl));
      awake = λ j. rw (at_closed d e j l) (close_by e (λ u. Awake u → Awake (at j l)) (t j) (not_both _) (λ w _ _. sym (still_awake d (at j l).cond) ∙ w));
    }

-- a task that is awake and not due stays awake
pub close_stays : (e : ℕ) (t : Task) → Awake t → due t ≢ e → Awake (close_task e t)
close_stays e t w n = rw (w, is_false (eqb (due t) e) (eqb_says (due t) e) n) refl

pub closes : {m scale now e : ℕ} (l : List Task) → Running m scale now e l → Resting m scale (e * scale) (closed e (advance (e * scale - now) l))
unfolding closed
closes {m} {scale} {now} {e} l P =
    let d = e * scale - now in
    let k = closed e (advance d l) in
    let t : ℕ → Task = λ j. be (spend d (at j l).cond) (at j l) in
    let K = closes_alike d e l in
    let pos = (facts l P.table).scale_pos in
    let tick : e * scale / scale ≡ e = mul-div_cancel e pos in
    let idle : (j : ℕ) → runs (at j k) + waits (at j k) ≡ 0 = λ j. rw (at_closed d e j l) (close_by e (λ u. runs u + waits u ≡ 0) (t j) refl (λ _ _. refl)) in
    record {
      table = table_kept K.size K.row K.share P.table;
      seats = idle_seats m k idle;
      lasts = lasts_kept K (omega (arith, P.going.later)) P.lasts;
      shut = record {
        whole = rw tick;
        idle = idle;
        due = λ j. rw (tick, at_closed d e j l)
            (close_by e (λ u. Awake u → e < due u) (t j) (not_both _) (λ w n _. omega (arith, P.going.due j (sym (still_awake d (at j l).cond) ∙ w))));
      };
    }

-- OPENING
end_le : (tick : ℕ) (l : List Task) (j : ℕ) → j < length l → end_of tick l ≤ limit tick (at j l)
unfolding end_of
end_le tick [] j h = absurd (not-suc-le-zero h)
end_le tick (t ∷ []) zero h = omega arith
end_le tick (t ∷ []) (suc j) h = absurd (omega arith)
end_le tick (t ∷ u ∷ l) zero h = omega arith
end_le tick (t ∷ u ∷ l) (suc j) h = omega (arith, end_le tick (u ∷ l) j (le_of_suc-le-suc h))

end_above : (tick : ℕ) (l : List Task) (x : ℕ) → 0 < length l → ((j : ℕ) → j < length l → x < limit tick (at j l)) → x < end_of tick l
unfolding end_of
end_above tick [] x h f = absurd (not-suc-le-zero h)
end_above tick (t ∷ []) x h f = f 0 (omega arith)
end_above tick (t ∷ u ∷ l) x h f = omega (arith, f 0 (omega arith), end_above tick (u ∷ l) x (omega arith) (λ j hj. f (suc j) (omega arith)))

-- a task's limit, by whether it is awake
limit_by : (P : ℕ → Type 0) (tick : ℕ) (t : Task) → (Awake t → P (due t)) → (¬ Awake t → P (tick + short t)) → P (limit tick t)
limit_by P tick t f g = go (is_awake t.cond) f g
  where
    go : (b : Bool) → (b ≡ true → P (due t)) → (¬ (b ≡ true) → P (tick + short t)) → P (if b then due t else tick + short t)
    go true f g = f refl
    go false f g = g (λ e. not_both ⊥ e)

pub ready_by : (len : ℕ) (P : Task → Type 0) (t : Task) → P t → P (be (waiting (t.share * len)) t) → P (ready len t)
ready_by len P t p q = go (is_awake t.cond)
  where
    go : (b : Bool) → P (if b then be (waiting (t.share * len)) t else t)
    go true = q
    go false = p

pub ready_awake : (len : ℕ) (t : Task) → is_awake (ready len t).cond ≡ is_awake t.cond
ready_awake len t = go t.cond
  where
    go : (c : Cond) → is_awake (if is_awake c then be (waiting (t.share * len)) t else be c t).cond ≡ is_awake c
    go asleep = refl
    go resting = refl
    go (running p a) = refl
    go (waiting a) = refl

module _ {m scale now : ℕ} (l : List Task) (P : Resting m scale now l) where
  abbrev tick : ℕ
  tick = now / scale

  abbrev end : ℕ
  end = end_of (now / scale) l

  pub end_later : now / scale < end_of (now / scale) l
  end_later =
      let F = facts l P.table in
      end_above tick l tick F.size (λ j hj. limit_by (λ n. tick < n) tick (at j l) (λ w. P.shut.due j w) (λ w. omega (arith, F.some_q j hj)))

  pub record Opens (k : List Task) : Type 0 where
    pub running : Running m scale now (end_of (now / scale) l) k
    pub alike : Alike l k
    pub awake : (j : ℕ) → is_awake (at j k).cond ≡ is_awake (at j l).cond
    pub same : (j : ℕ) → core (at j k) ≡ core (ready (end_of (now / scale) l - now / scale) (at j l))

  pub opens_plane : Opens (open_tasks m (end_of (now / scale) l - now / scale) l)
  opens_plane =
      let F = facts l P.table in
      let lt = end_later in
      let len = end - tick in
      let hl : 0 < len = omega arith in
      let O = opens m len scale hl F.scale_pos l (shut_closed l F P.shut) in
      let k = open_tasks m len l in
      let split : end * scale ≡ tick * scale + len * scale = let p : end ≡ tick + len = omega arith in omega (arith, ap (λ x. x * scale) p) in
      let whole = P.shut.whole in
      let e_r : end * scale - now ≡ len * scale = omega arith in
      let pos : 0 < len * scale = mul-le-mul hl F.scale_pos in
      let S : Stands m scale (end * scale - now) k = rw e_r O.stands in
      let row : (j : ℕ) → (at j k).row ≡ (at j l).row = λ j. ap (λ (c : Core). c.row) (O.same j) ∙ ready_by len (λ u. u.row ≡ (at j l).row) (at j l) refl refl in
      let share : (j : ℕ) → (at j k).share ≡ (at j l).share = λ j. ap (λ (c : Core). c.share) (O.same j) ∙ ready_by len (λ u. u.share ≡ (at j l).share) (at j l) refl refl in
      let awake : (j : ℕ) → is_awake (at j k).cond ≡ is_awake (at j l).cond = λ j. ap (λ (c : Core). c.awake) (O.same j) ∙ ready_awake len (at j l) in
      let K : Alike l k = record {
        size = O.size;
        row = row;
        share = share;
        last = λ j. ap (λ (c : Core). c.last) (O.same j) ∙ ready_by len (λ u. u.last ≡ (at j l).last) (at j l) refl refl;
        awake = λ j w. sym (awake j) ∙ w;
      } in
      record {
        running = record {
          table = table_kept K.size row share P.table;
          seats = stands_seats S;
          lasts = lasts_kept K (omega arith) P.lasts;
          going = record {
            later = omega arith;
            alive = S.alive;
            left = S.fits.left;
            below = S.below;
            busy = λ w. omega (arith, S.fits.busy w);
            total = S.fits.total;
            due = λ j w. rw (K.last j, K.row j)
                (let v = K.awake j w in omega (arith, end_le tick l j (awake_inside l j v), limit_by (λ n. n ≡ due (at j l)) tick (at j l) (λ _. refl) (λ n. absurd (n v))));
            free = λ j hj w t ht a. rw (K.row j)
                (let le : tick ≤ t = le_of_mul-le-mul_right (omega arith) F.scale_pos in
                omega (arith, end_le tick l j (omega (arith, K.size)), limit_by (λ n. n ≡ tick + short (at j l)) tick (at j l) (λ v. absurd (w (awake j ∙ v))) (λ _. refl)));
          };
        };
        alike = K;
        awake = awake;
        same = O.same;
      }
