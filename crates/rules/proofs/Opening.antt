-- Opening a plane: the awake tasks enter in an order that falls by share, the first m run, and the plane stands
use Rattle.std.specs.Prelude.{if◌then◌else◌}
use mathlib.Core.Path.{◌≡◌, refl, sym, ◌∙◌, ap}
use mathlib.Core.Bool.{Bool, true, false}
use mathlib.Core.Logic.{◌≢◌, inl, inr}
use mathlib.Core.List.{List, [], ◌∷◌, foldl}
use Prim.Native.Nat.{ℕ, suc, ◌+◌, ◌*◌, ◌≤◌, ◌<◌}
use native.Mathlib.Nat.{mul-le-mul_right, mul-le-mul}
use native.Mathlib.Decide.{dec_lt, ℕ_discrete}
use native.Mathlib.Omega.{arith}
use lib.Dec.{ltb}
use lib.ListN.{length, get_or, length-map, get_or-map, get_or-eq_default}
use Rattle.ground.specs.Sums.{sum_of, times}
use Rattle.ground.proofs.Sums.{sum_of_at, sum_of_scale, sum_of_none, sum_of_places}
use Rattle.ground.proofs.Tests.{ltb_says, if_by}
use Rattle.ground.proofs.Times.{same_yes, same_no, times_place, by_same, times_cons}
use Rattle.rules.specs.Planes.{falling, shares_of, enter_as, enter, open_tasks}
use Rattle.rules.specs.State.{Cond, asleep, resting, running, waiting, Task, nobody, at, be, become, is_awake, amount, proc, runs, waits, on, awake_share}
use Rattle.rules.proofs.Cases.{amount_of, runs_of, waits_of, idle_amount, idle_proc, idle_on}
use Rattle.rules.proofs.Events.{Stands, Core, core_in, core}
use Rattle.rules.proofs.Falling.{Ahead, Below, Falls, ahead_asym, falling_below, falling_falls, falling_once}
use Rattle.rules.proofs.Places.{at_same, at_other, length_become, sum_become, all_become, inside}
use Rattle.rules.proofs.Plane.{Fits, crowded}

-- nobody runs or waits; an awake task has a share, and no share is above the scale
pub record Closed (m scale : ℕ) (l : List Task) : Type 0 where
  pub idle : (j : ℕ) → runs (at j l) + waits (at j l) ≡ 0
  pub most : (j : ℕ) → (at j l).share ≤ scale
  pub some_share : (j : ℕ) → is_awake (at j l).cond ≡ true → 0 < (at j l).share
  pub admit : sum_of awake_share l ≤ m * scale

-- a task as the plane takes it up: what it has to run is its share of the length
abbrev pub ready : ℕ → Task → Task
ready len t = if is_awake t.cond then be (waiting (t.share * len)) t else t

-- places of l, each once, none with a greater share than one before it
abbrev Lined : List Task → List ℕ → Type 0
Lined l [] = Unit {0}
Lined l (i ∷ js) = (i < length l) × (times i js ≡ 0) × ((x : ℕ) → 0 < times x js → (at x l).share ≤ (at i l).share) × Lined l js

share_at : (l : List Task) (j : ℕ) → get_or (shares_of l) j 0 ≡ (at j l).share
share_at l j = get_or-map (λ (t : Task). t.share) l j nobody

lined : (l : List Task) (order : List ℕ) → Below (length l) order → Falls (shares_of l) order → Lined l order
lined l [] b f = tt
lined l (i ∷ js) b f = (b 0 (omega arith), once (dec_lt 0 (times i js)), less, lined l js (λ k q. b (suc k) (omega arith)) (λ j k p q. f (suc j) (suc k) (omega arith) (omega arith)))
  where
    ahead : (x : ℕ) → 0 < times x js → Ahead (shares_of l) i x
    ahead x h = let p = times_place x js h in rw p.2 at (f 0 (suc p.0) (omega arith) (omega arith))

    once : Dec (0 < times i js) → times i js ≡ 0
    once (yes h) = absurd (ahead_asym (shares_of l) i i (ahead i h) (ahead i h))
    once (no h) = omega arith

    less : (x : ℕ) → 0 < times x js → (at x l).share ≤ (at i l).share
    less x h = go (ahead x h)
      where
        go : Ahead (shares_of l) i x → (at x l).share ≤ (at i l).share
        go (inl p) = omega (arith, share_at l x, share_at l i)
        go (inr p) = omega (arith, share_at l x, share_at l i)

module _ (m len scale : ℕ) (hl : 0 < len) (hs : 0 < scale) (l : List Task) (C : Closed m scale l) where
  abbrev R : ℕ
  R = len * scale

  -- what holds while the places of `todo` have yet to enter
  record Entering (todo : List ℕ) (k : List Task) : Type 0 where
    size : length k ≡ length l
    rest : (j : ℕ) → 0 < times j todo → at j k ≡ at j l
    gone : (j : ℕ) → times j todo ≡ 0 → core (at j k) ≡ core (ready len (at j l))
    small : (j : ℕ) → amount (at j k) ≤ len * scale
    left : (j : ℕ) → waits (at j k) ≤ amount (at j k)
    alive : (j : ℕ) → runs (at j k) ≤ amount (at j k)
    low : (j : ℕ) → runs (at j k) ≤ proc (at j k)
    high : (j : ℕ) → proc (at j k) ≤ m
    apart : (p : ℕ) → sum_of (on p) k ≤ 1
    free : (p : ℕ) → sum_of runs k < p → sum_of (on p) k ≡ 0
    most : sum_of runs k ≤ m
    busy : 0 < sum_of waits k → sum_of runs k ≡ m
    heavy : (x y : ℕ) → waits (at x k) ≡ 1 → runs (at y k) ≡ 1 → (at x l).share ≤ (at y l).share
    front : (x y : ℕ) → 0 < times x todo → runs (at y k) ≡ 1 → (at x l).share ≤ (at y l).share

  idle_cond : (c : Cond) → runs_of c + waits_of c ≡ 0 → is_awake c ≡ true → c ≡ resting
  idle_cond asleep h e = cc
  idle_cond resting h e = refl
  idle_cond (running p a) h e = absurd (omega arith)
  idle_cond (waiting a) h e = absurd (omega arith)

  -- the first of the places still to come
  module _ (i : ℕ) (js : List ℕ) (k : List Task) (hi : i < length l) (once : times i js ≡ 0) (falls : (x : ℕ) → 0 < times x js → (at x l).share ≤ (at i l).share) (E : Entering (i ∷ js) k) where
    to_come : 0 < times i (i ∷ js)
    to_come = omega (arith, times_cons i i js, same_yes i i refl)

    here : at i k ≡ at i l
    here = E.rest i to_come

    inside_k : i < length k
    inside_k = omega (arith, E.size)

    still_todo : (j : ℕ) → 0 < times j js → 0 < times j (i ∷ js)
    still_todo j h = omega (arith, times_cons j i js)

    not_i : (j : ℕ) → 0 < times j js → j ≢ i
    not_i j h e = omega (arith, rw e at h)

    was_gone : (j : ℕ) → j ≢ i → times j js ≡ 0 → times j (i ∷ js) ≡ 0
    was_gone j n h = omega (arith, times_cons j i js, same_no j i n)

    -- an asleep task stays as it is
    skip : is_awake (at i l).cond ≡ false → Entering js k
    skip e = record {
      size = E.size;
      rest = λ j h. E.rest j (still_todo j h);
      gone = λ j h. go j h (ℕ_discrete j i);
      small = E.small;
      left = E.left;
      alive = E.alive;
      low = E.low;
      high = E.high;
      apart = E.apart;
      free = E.free;
      most = E.most;
      busy = E.busy;
      heavy = E.heavy;
      front = λ x y h. E.front x y (still_todo x h);
    }
      where
        asleep_still : (b : Bool) (t u : Task) → b ≡ false → core t ≡ core (if b then u else t)
        asleep_still true t u q = cc
        asleep_still false t u q = refl

        go : (j : ℕ) → times j js ≡ 0 → Dec (j ≡ i) → core (at j k) ≡ core (ready len (at j l))
        go j h (yes q) = rw (q, here) (asleep_still (is_awake (at i l).cond) (at i l) _ e)
        go j h (no q) = E.gone j (was_gone j q h)

    -- an awake task takes a condition with its whole amount
    module _ (e : is_awake (at i l).cond ≡ true) where
      abbrev a : ℕ
      a = (at i k).share * len

      a_is : a ≡ (at i l).share * len
      a_is = ap (λ (t : Task). t.share * len) here

      a_pos : 0 < a
      a_pos = omega (arith, a_is, mul-le-mul (C.some_share i e) hl)

      a_small : a ≤ len * scale
      a_small = omega (arith, a_is, mul-le-mul_right len (C.most i))

      was : (at i k).cond ≡ resting
      was = ap (λ (t : Task). t.cond) here ∙ idle_cond (at i l).cond (C.idle i) e

      no_run : runs (at i k) ≡ 0
      no_run = ap runs_of was

      no_wait : waits (at i k) ≡ 0
      no_wait = ap waits_of was

      -- what is the same for either condition
      rest_after : (c : Cond) (j : ℕ) → 0 < times j js → at j (become i c k) ≡ at j l
      rest_after c j h = at_other k i j c (not_i j h) ∙ E.rest j (still_todo j h)

      gone_after : (c : Cond) → core_in (at i l) c ≡ core_in (at i l) (waiting ((at i l).share * len)) → (j : ℕ) → times j js ≡ 0 → core (at j (become i c k)) ≡ core (ready len (at j l))
      gone_after c q j h = go (ℕ_discrete j i)
        where
          awake_ready : (b : Bool) (t u : Task) → b ≡ true → core u ≡ core (if b then u else t)
          awake_ready true t u q = refl
          awake_ready false t u q = cc

          go : Dec (j ≡ i) → core (at j (become i c k)) ≡ core (ready len (at j l))
          go (yes z) = rw (z, at_same k i c inside_k, here) (q ∙ awake_ready (is_awake (at i l).cond) (at i l) (be (waiting ((at i l).share * len)) (at i l)) e)
          go (no z) = ap core (at_other k i j c z) ∙ E.gone j (was_gone j z h)

      core_run : (p : ℕ) → core_in (at i l) (running p a) ≡ core_in (at i l) (waiting ((at i l).share * len))
      core_run p = rw a_is

      core_wait : core_in (at i l) (waiting a) ≡ core_in (at i l) (waiting ((at i l).share * len))
      core_wait = rw a_is

      run_enters : sum_of runs k < m → Entering js (become i (running (suc (sum_of runs k)) a) k)
      run_enters h = record {
        size = length_become k i c ∙ E.size;
        rest = rest_after c;
        gone = gone_after c (core_run (suc K));
        small = all_become (λ t. amount t ≤ len * scale) k i c inside_k a_small E.small;
        left = all_become (λ t. waits t ≤ amount t) k i c inside_k (omega arith) E.left;
        alive = all_become (λ t. runs t ≤ amount t) k i c inside_k a_pos E.alive;
        low = all_become (λ t. runs t ≤ proc t) k i c inside_k (omega arith) E.low;
        high = all_become (λ t. proc t ≤ m) k i c inside_k (omega arith) E.high;
        apart = λ p. by_same (λ x. sum_of (on p) k' + on p (at i k) ≡ sum_of (on p) k + x → sum_of (on p) k' ≤ 1) (suc K) p
            (λ z s. omega (arith, E.free p (omega arith))) (λ z s. omega (arith, E.apart p)) (sum_become (on p) k i c inside_k);
        free = λ p hp. by_same (λ x. sum_of (on p) k' + on p (at i k) ≡ sum_of (on p) k + x → sum_of (on p) k' ≡ 0) (suc K) p
            (λ z s. absurd (omega (arith, s_run))) (λ z s. omega (arith, E.free p (omega (arith, s_run)))) (sum_become (on p) k i c inside_k);
        most = omega (arith, s_run);
        busy = λ w. absurd (omega (arith, E.busy (omega (arith, s_wait))));
        heavy = λ x y w r. absurd (nobody_waits x w);
        front = λ x y t r. first x y t r (ℕ_discrete y i);
      }
        where
          K : ℕ
          K = sum_of runs k

          c : Cond
          c = running (suc (sum_of runs k)) a

          k' : List Task
          k' = become i (running (suc (sum_of runs k)) a) k

          s_run : sum_of runs (become i (running (suc (sum_of runs k)) a) k) ≡ suc (sum_of runs k)
          s_run = omega (arith, sum_become runs k i c inside_k, no_run)

          s_wait : sum_of waits (become i (running (suc (sum_of runs k)) a) k) ≡ sum_of waits k
          s_wait = omega (arith, sum_become waits k i c inside_k, no_wait)

          nobody_waits : (x : ℕ) → waits (at x (become i (running (suc (sum_of runs k)) a) k)) ≡ 1 → ⊥
          nobody_waits x w =
              let hx = inside waits k' x refl (omega arith) in
              omega (arith, E.busy (omega (arith, s_wait, sum_of_at waits k' x nobody hx)))

          first : (x y : ℕ) → 0 < times x js → runs (at y (become i (running (suc (sum_of runs k)) a) k)) ≡ 1 → Dec (y ≡ i) → (at x l).share ≤ (at y l).share
          first x y t r (yes z) = rw z (falls x t)
          first x y t r (no z) = E.front x y (still_todo x t) (rw (at_other k i y c z) at r)

      wait_enters : m ≤ sum_of runs k → Entering js (become i (waiting a) k)
      wait_enters h = record {
        size = length_become k i c ∙ E.size;
        rest = rest_after c;
        gone = gone_after c core_wait;
        small = all_become (λ t. amount t ≤ len * scale) k i c inside_k a_small E.small;
        left = all_become (λ t. waits t ≤ amount t) k i c inside_k a_pos E.left;
        alive = all_become (λ t. runs t ≤ amount t) k i c inside_k (omega arith) E.alive;
        low = all_become (λ t. runs t ≤ proc t) k i c inside_k (omega arith) E.low;
        high = all_become (λ t. proc t ≤ m) k i c inside_k (omega arith) E.high;
        apart = λ p. omega (arith, E.apart p, sum_become (on p) k i c inside_k);
        free = λ p hp. omega (arith, E.free p (omega (arith, s_run)), sum_become (on p) k i c inside_k);
        most = omega (arith, E.most, s_run);
        busy = λ w. omega (arith, E.most, s_run);
        heavy = λ x y w r. heavier x y w r (ℕ_discrete x i) (ℕ_discrete y i);
        front = λ x y t r. E.front x y (still_todo x t) (was_running y r (ℕ_discrete y i));
      }
        where
          c : Cond
          c = waiting a

          s_run : sum_of runs (become i (waiting a) k) ≡ sum_of runs k
          s_run = omega (arith, sum_become runs k i c inside_k, no_run)

          was_running : (y : ℕ) → runs (at y (become i (waiting a) k)) ≡ 1 → Dec (y ≡ i) → runs (at y k) ≡ 1
          was_running y r (yes z) = absurd (omega (arith, rw (z, at_same k i c inside_k) at r))
          was_running y r (no z) = rw (at_other k i y c z) at r

          heavier : (x y : ℕ) → waits (at x (become i (waiting a) k)) ≡ 1 → runs (at y (become i (waiting a) k)) ≡ 1 → Dec (x ≡ i) → Dec (y ≡ i) → (at x l).share ≤ (at y l).share
          heavier x y w r (yes z) d = rw z (E.front i y to_come (was_running y r d))
          heavier x y w r (no z) d = E.heavy x y (rw (at_other k i x c z) at w) (was_running y r d)

    one_enters : Entering js (enter m len k i)
    unfolding enter
    one_enters = go (is_awake (at i k).cond) refl
      where
        was_so : (b : Bool) → is_awake (at i k).cond ≡ b → is_awake (at i l).cond ≡ b
        was_so b q = sym (ap (λ (t : Task). is_awake t.cond) here) ∙ q

        go : (b : Bool) → is_awake (at i k).cond ≡ b → Entering js (if b then become i (enter_as m (sum_of runs k) ((at i k).share * len)) k else k)
        go true q =
            if_by (λ (c : Cond). Entering js (become i c k)) (ltb (sum_of runs k) m) (ltb_says (sum_of runs k) m)
            (λ h. run_enters (was_so true q) h) (λ h. wait_enters (was_so true q) (omega arith))
        go false q = skip (was_so false q)

  all_enter : (order : List ℕ) → Lined l order → (k : List Task) → Entering order k → Entering [] (foldl (enter m len) k order)
  all_enter [] F k E = E
  all_enter (i ∷ js) F k E = all_enter js F.3 (enter m len k i) (one_enters i js k F.0 F.1 F.2 E)

  -- before the first enters
  nobody_yet : (order : List ℕ) → ((j : ℕ) → j < length l → times j order ≡ 1) → Entering order l
  nobody_yet order whole = record {
    size = refl;
    rest = λ j h. refl;
    gone = λ j h. past j h (dec_lt j (length l));
    small = λ j. omega (arith, idle_amount (at j l).cond (C.idle j));
    left = λ j. omega (arith, C.idle j);
    alive = λ j. omega (arith, C.idle j);
    low = λ j. omega (arith, C.idle j);
    high = λ j. omega (arith, idle_proc (at j l).cond (C.idle j));
    apart = λ p. omega (arith, none_on p);
    free = λ p h. none_on p;
    most = omega (arith, none_run);
    busy = λ w. absurd (omega (arith, sum_of_none waits nobody l (λ j hj. omega (arith, C.idle j))));
    heavy = λ x y w r. absurd (omega (arith, C.idle y));
    front = λ x y t r. absurd (omega (arith, C.idle y));
  }
    where
      none_on : (p : ℕ) → sum_of (on p) l ≡ 0
      none_on p = sum_of_none (on p) nobody l (λ j hj. idle_on p (at j l).cond (C.idle j))

      none_run : sum_of runs l ≡ 0
      none_run = sum_of_none runs nobody l (λ j hj. omega (arith, C.idle j))

      past : (j : ℕ) → times j order ≡ 0 → Dec (j < length l) → core (at j l) ≡ core (ready len (at j l))
      past j h (yes q) = absurd (omega (arith, whole j q))
      past j h (no q) = let z : length l ≤ j = omega arith in rw (get_or-eq_default l nobody)

  -- a task made ready
  ready_share : (t : Task) → awake_share (ready len t) ≡ awake_share t
  ready_share t = go t.cond
    where
      go : (c : Cond) → awake_share (if is_awake c then be (waiting (t.share * len)) t else be c t) ≡ (if is_awake c then t.share else 0)
      go asleep = refl
      go resting = refl
      go (running p a) = refl
      go (waiting a) = refl

  pub record Opened (k : List Task) : Type 0 where
    pub stands : Stands m scale (len * scale) k
    pub size : length k ≡ length l
    pub same : (j : ℕ) → core (at j k) ≡ core (ready len (at j l))

  opens_in : (order : List ℕ) → Lined l order → ((j : ℕ) → j < length l → times j order ≡ 1) → Opened (foldl (enter m len) l order)
  opens_in order F whole = record { stands = record { fits = fits; alive = E.alive; below = λ x. below x (at x k).cond refl }; size = E.size; same = same_core }
    where
      k : List Task
      k = foldl (enter m len) l order

      E : Entering [] (foldl (enter m len) l order)
      E = all_enter order F l (nobody_yet order whole)

      same_core : (j : ℕ) → core (at j (foldl (enter m len) l order)) ≡ core (ready len (at j l))
      same_core j = E.gone j (unfold sum_of in refl)

      share_kept : (j : ℕ) → awake_share (at j (foldl (enter m len) l order)) ≡ awake_share (at j l)
      share_kept j = ap (λ (c : Core). if c.awake then c.share else 0) (same_core j) ∙ ready_share (at j l)

      -- what a task has left is its share of the length, if it is awake
      ready_left : (t : Task) → runs t + waits t ≡ 0 → amount (ready len t) ≡ awake_share t * len
      ready_left t h = go t.cond h
        where
          go : (c : Cond) → runs_of c + waits_of c ≡ 0 → amount (if is_awake c then be (waiting (t.share * len)) t else be c t) ≡ (if is_awake c then t.share else 0) * len
          go asleep h = omega arith
          go resting h = refl
          go (running p a) h = refl
          go (waiting a) h = refl

      left_is : (j : ℕ) → amount (at j (foldl (enter m len) l order)) ≡ awake_share (at j l) * len
      left_is j = ap (λ (c : Core). c.left) (same_core j) ∙ ready_left (at j l) (C.idle j)

      fits : Fits 0 m scale (len * scale) (foldl (enter m len) l order)
      fits =
          let S : sum_of awake_share k ≡ sum_of awake_share l = sum_of_places awake_share awake_share nobody l k E.size share_kept in
          let A : sum_of amount k ≡ sum_of awake_share l * len = sum_of_places amount (λ t. awake_share t * len) nobody l k E.size left_is ∙ sum_of_scale awake_share len l in
          record {
            small = E.small;
            left = E.left;
            low = E.low;
            high = E.high;
            apart = E.apart;
            most = omega (arith, E.most);
            busy = λ w. omega (arith, E.busy w);
            total = rw (S, A) (omega arith);
            admit = omega (arith, C.admit);
          }

      whole_share : (t : Task) → runs t + waits t ≡ 1 → awake_share t ≡ t.share
      whole_share t h = go t.cond h
        where
          go : (c : Cond) → runs_of c + waits_of c ≡ 1 → (if is_awake c then t.share else 0) ≡ t.share
          go asleep h = absurd (omega arith)
          go resting h = absurd (omega arith)
          go (running p a) h = refl
          go (waiting a) h = refl

      share_is : (j : ℕ) → (at j (foldl (enter m len) l order)).share ≡ (at j l).share
      share_is j = ap (λ (c : Core). c.share) (same_core j) ∙ go (is_awake (at j l).cond)
        where
          go : (b : Bool) → (if b then be (waiting ((at j l).share * len)) (at j l) else at j l).share ≡ (at j l).share
          go true = refl
          go false = refl

      -- who runs has at least what anyone who waits has
      heavier : (x : ℕ) → waits (at x (foldl (enter m len) l order)) ≡ 1 → len * scale ≤ amount (at x (foldl (enter m len) l order)) → (y : ℕ) (c : Cond) → (at y (foldl (enter m len) l order)).cond ≡ c → runs_of c * (len * scale) ≤ amount_of c
      heavier x w h y asleep e = omega arith
      heavier x w h y resting e = omega arith
      heavier x w h y (waiting a) e = omega arith
      heavier x w h y (running p a) e =
          let r : runs (at y k) ≡ 1 = ap runs_of e in
          let x_left : amount (at x k) ≡ (at x l).share * len = left_is x ∙ ap (λ n. n * len) (sym (share_kept x) ∙ whole_share (at x k) (omega (arith, exclusive (at x k).cond)) ∙ share_is x) in
          let y_left : amount (at y k) ≡ (at y l).share * len = left_is y ∙ ap (λ n. n * len) (sym (share_kept y) ∙ whole_share (at y k) (omega (arith, exclusive (at y k).cond)) ∙ share_is y) in
          omega (arith, x_left, y_left, ap amount_of e, mul-le-mul_right len (E.heavy x y w r))
        where
          exclusive : (c : Cond) → runs_of c + waits_of c ≤ 1
          exclusive asleep = omega arith
          exclusive resting = omega arith
          exclusive (running p a) = omega arith
          exclusive (waiting a) = omega arith

      below : (x : ℕ) (c : Cond) → (at x (foldl (enter m len) l order)).cond ≡ c → amount_of c + waits_of c ≤ len * scale
      below x asleep e = omega (arith, mul-le-mul hl hs)
      below x resting e = omega (arith, mul-le-mul hl hs)
      below x (running p a) e = omega (arith, E.small x, ap amount_of e)
      below x (waiting a) e = go (dec_lt a (len * scale))
        where
          ea : amount (at x (foldl (enter m len) l order)) ≡ a
          ea = ap amount_of e

          go : Dec (a < len * scale) → a + 1 ≤ len * scale
          go (yes h) = omega arith
          go (no h) = absurd (crowded (mul-le-mul hl hs) hs x k (inside waits k x refl (omega (arith, ap waits_of e))) (rw ea e) fits (omega (arith, ea))
              (λ y. heavier x (ap waits_of e) (omega (arith, ea)) y (at y k).cond refl))

  -- in falling order of share the first m run and the rest wait: the plane stands
  pub opens : Opened (open_tasks m len l)
  unfolding open_tasks
  opens =
      let n : length (shares_of l) ≡ length l = length-map l (λ (t : Task). t.share) in
      opens_in (falling (shares_of l)) (lined l (falling (shares_of l)) (λ k q. omega (arith, falling_below (shares_of l) k q)) (falling_falls (shares_of l)))
      (λ j h. falling_once (shares_of l) j (omega arith))
