-- What the clauses over jobs and queues say of the tasks that a sound state shows: they are the rules' tests
use Rattle.std.specs.Prelude.{if◌then◌else◌}
use mathlib.Core.Path.{◌≡◌, refl, sym, ◌∙◌, ap}
use mathlib.Core.Bool.{Bool, true, false, not, ◌&&◌, ◌||◌}
use mathlib.Core.Option.{Option, none, some}
use mathlib.Core.List.{List}
use Prim.Native.Nat.{ℕ, suc, ◌+◌, ◌*◌, ◌-◌, ◌/◌, ◌%◌, ◌≤◌, ◌<◌, min}
use native.Mathlib.Nat.{div-add-mod', le-div_iff_mul-le, mul-add-div_right}
use native.Mathlib.Omega.{arith}
use borrow.Author.Tests.{le-leb, lt-ltb}
use lib.Dec.{leb, ltb, eqb}
use lib.ListN.{length, get_or}
use Rattle.state.specs.declared.State.{State}
use Rattle.ground.specs.Sums.{sum_of, up_from}
use Rattle.ground.specs.Tests.{Says, every}
use Rattle.ground.proofs.Sums.{sum_of_map, sum_of_at, sum_of_none}
use Rattle.ground.proofs.Tests.{leb_says, ltb_says, eqb_says, and_says, says_as, is_true, is_false, of_true, every_says}
use Rattle.rules.specs.Holds.{last_holds, lasts_hold, rests_at, closed_holds, amount_fits, idle_holds, sum_holds, ceil_tick, limit_holds, open_holds, plane_holds}
use Rattle.rules.specs.State.{Cond, asleep, resting, running, waiting, Task, nobody, at, short, due, soonest, is_awake, runs, waits, awake_share, amount}
use Rattle.rules.proofs.Cases.{runs_of, waits_of}
use Rattle.rules.proofs.Plane.{not_waiting, not_running}
use Rattle.queue.specs.Queues.{key_in}
use Rattle.queue.specs.Below.{all_below}
use Rattle.queue.proofs.Places.{by_places, at_places}
use Rattle.state.specs.Machine.{end_at, tick_at, work_of, shorter_at}
use Rattle.state.specs.View.{task_at, tasks_at, view, Sound}
use Rattle.state.proofs.Counts.{waits_len, runs_len}
use Rattle.state.proofs.Lasts.{Known, due_kept, soonest_kept}
use Rattle.state.proofs.Marks.{is_says}
use Rattle.state.proofs.Passing.{awake_at}
use Rattle.state.proofs.Shows.{in_list, run_cond, wait_cond, run_key_at, wait_key_at}
use Rattle.state.proofs.Views.{IsState, sound_is}
use Rattle.together_rows.specs.Jobs.{last_ok, lasts_ok, rest_ok, rests_ok, ceil_of, soonest_of, limit_ok, limits_ok, awake_sum}
use Rattle.together_queues.specs.Amounts.{run_amounts_ok, wait_amounts_ok, idle_ok, run_sum, wait_sum, sum_ok, amounts_ok}
use Rattle.together.specs.Clauses.{closed_by, open_by}
use Rattle.together.specs.Holds.{closed_ok, open_ok, plane_ok, arrivals_ok}
use Rattle.together_rows.proofs.Folds.{below_says, sum_same}
use Rattle.together.proofs.Amounts.{amounts_are}

-- two tests that say the same are the same
pub same_test : (P : Type 0) (a b : Bool) → Says P a → Says P b → a ≡ b
same_test P true b s r = sym (is_true b r s)
same_test P false b s r = sym (is_false b r s)

-- a test of every task is a test of every place
every_below : (f : Task → Bool) (g : ℕ → Bool) (l : List Task) (n : ℕ) → length l ≡ n → ((i : ℕ) → i < n → f (at i l) ≡ g i) → every f l ≡ all_below n g
every_below f g l n e h =
    same_test ((i : ℕ) → i < n → g i ≡ true) (every f l) (all_below n g)
    (says_as (every f l) (λ r i k. sym (h i k) ∙ r i (omega arith)) (λ r i k. let b : i < n = omega arith in h i b ∙ r i b)
    (every_says (λ t. f t ≡ true) f nobody (λ t. is_says (f t)) l))
    (below_says (λ i. g i ≡ true) g n (λ i k. is_says (g i)))

-- A ≤ S·(R/L) + S·(R%L)/L is A-as-L ≤ S-as-R, with no product above S-as-R
sum_exact : (A S R L : ℕ) → 0 < L → leb (A * L) (S * R) ≡ sum_ok L R A S
sum_exact A S R L p =
    let d = div-add-mod' R L in
    let e : S * R ≡ S * (R / L) * L + S * (R % L) = omega (arith, ap (λ z. S * z) d) in
    let q : (S * (R / L) * L + S * (R % L)) / L ≡ S * (R / L) + S * (R % L) / L = mul-add-div_right p (S * (R / L)) (S * (R % L)) in
    let f : S * R / L ≡ S * (R / L) + S * (R % L) / L = ap (λ (z : ℕ). z / L) e ∙ q in
    same_test (A * L ≤ S * R) (leb (A * L) (S * R)) (sum_ok L R A S) (leb_says (A * L) (S * R))
    (says_as (sum_ok L R A S) (λ h. (le-div_iff_mul-le p).0 (omega arith)) (λ h. omega (arith, (le-div_iff_mul-le {x = A} {y = S * R} p).1 h))
    (leb_says A (S * (R / L) + S * (R % L) / L)))

last_exact : (x L now : ℕ) → 0 < L → leb (x * L) now ≡ leb x (now / L)
last_exact x L now p =
    same_test (x * L ≤ now) (leb (x * L) now) (leb x (now / L)) (leb_says (x * L) now)
    (says_as (leb x (now / L)) (λ h. (le-div_iff_mul-le p).0 h) (λ h. (le-div_iff_mul-le p).1 h) (leb_says x (now / L)))

module _ (s : State) (S : Sound s) where
  I : IsState s (tasks_at s)
  I = sound_is s S

  size : length (tasks_at s) ≡ s.table.count
  size = I.shows.size

  awake : (i : ℕ) → i < s.table.count → is_awake (at i (tasks_at s)).cond ≡ get_or s.jobs.awake i false
  awake = awake_at I

  task : (i : ℕ) → i < s.table.count → at i (tasks_at s) ≡ task_at s i
  task = I.shows.each

  -- LAST ARRIVALS
  pub lasts_same : 0 < s.table.scale → lasts_hold (view s) ≡ arrivals_ok s
  unfolding lasts_hold lasts_ok
  lasts_same p = every_below (last_holds (view s)) _ (tasks_at s) s.table.count size each
    where
      each : (i : ℕ) → i < s.table.count → last_holds (view s) (at i (tasks_at s)) ≡ last_ok (get_or s.jobs.arrived i false) (get_or s.jobs.awake i false) (get_or s.jobs.last i 0) (tick_at s)
      each i h =
          ap (λ (w : Bool). shown_ok (at i (tasks_at s)).last w) (awake i h) ∙ ap (λ (t : Task). shown_ok t.last (get_or s.jobs.awake i false)) (task i h) ∙ by (get_or s.jobs.arrived i false)
        where
          shown_ok : Option ℕ → Bool → Bool
          shown_ok o w = elim o [ none ↦ not w | some a ↦ leb (a * s.table.scale) s.now.0 ]

          by : (b : Bool) → shown_ok (if b then some (get_or s.jobs.last i 0) else none) (get_or s.jobs.awake i false) ≡ last_ok b (get_or s.jobs.awake i false) (get_or s.jobs.last i 0) (tick_at s)
          by true = last_exact (get_or s.jobs.last i 0) s.table.scale s.now.0 p
          by false = refl

  -- A CLOSED PLANE
  -- nobody runs or waits
  idle : s.running.len ≡ 0 → s.waiting.len ≡ 0 → (j : ℕ) → j < length (tasks_at s) → runs (at j (tasks_at s)) + waits (at j (tasks_at s)) ≡ 0
  idle a b j h =
      omega (arith, sum_of_at runs (tasks_at s) j nobody h, sum_of_at waits (tasks_at s) j nobody h, runs_len 0 (work_of s) (tasks_at s) I a, waits_len 0 (work_of s) (tasks_at s) I b)

  rest_same : Known (tasks_at s) → (i : ℕ) → i < s.table.count
      → (if is_awake (at i (tasks_at s)).cond then ltb (tick_at s) (due (at i (tasks_at s))) else true)
      ≡ rest_ok (get_or s.jobs.awake i false) (get_or s.jobs.last i 0) (min (get_or s.table.period i 0) (get_or s.table.deadline i 0)) (tick_at s)
  rest_same K i h = ap (λ (w : Bool). if w then ltb (tick_at s) (due (at i (tasks_at s))) else true) (awake i h) ∙ by (get_or s.jobs.awake i false) refl
    where
      by : (b : Bool) → get_or s.jobs.awake i false ≡ b → (if b then ltb (tick_at s) (due (at i (tasks_at s))) else true) ≡ rest_ok b (get_or s.jobs.last i 0) (shorter_at s.table i) (tick_at s)
      by true w = let k = K i (awake i h ∙ w) in ap (ltb (tick_at s)) (due_kept s (tasks_at s) I i h k.0 k.1)
      by false w = refl

  pub closed_same : Known (tasks_at s) → closed_holds (view s) ≡ closed_ok s
  unfolding closed_holds closed_by rests_ok
  closed_same K =
      ap (λ (b : Bool). eqb (s.now.0 % s.table.scale) 0 && b)
      (same_test ((s.running.len ≡ 0) × ((s.waiting.len ≡ 0) × ((i : ℕ) → i < s.table.count → rest i ≡ true)))
      (every (rests_at (tick_at s)) (tasks_at s)) (eqb s.running.len 0 && (eqb s.waiting.len 0 && all_below s.table.count rest))
      (says_as (every (rests_at (tick_at s)) (tasks_at s)) to from
      (every_says (λ t. (runs t + waits t ≡ 0) × (later t ≡ true)) (rests_at (tick_at s)) nobody
      (λ t. and_says _ _ (eqb (runs t + waits t) 0) (later t) (eqb_says (runs t + waits t) 0) (is_says (later t))) (tasks_at s)))
      (and_says _ _ (eqb s.running.len 0) _ (eqb_says s.running.len 0)
      (and_says _ _ (eqb s.waiting.len 0) _ (eqb_says s.waiting.len 0) (below_says (λ i. rest i ≡ true) rest s.table.count (λ i k. is_says (rest i))))))
    where
      rest : ℕ → Bool
      rest i = rest_ok (get_or s.jobs.awake i false) (get_or s.jobs.last i 0) (min (get_or s.table.period i 0) (get_or s.table.deadline i 0)) (tick_at s)

      later : Task → Bool
      later t = if is_awake t.cond then ltb (tick_at s) (due t) else true

      to : ((j : ℕ) → j < length (tasks_at s) → (runs (at j (tasks_at s)) + waits (at j (tasks_at s)) ≡ 0) × (later (at j (tasks_at s)) ≡ true))
          → (s.running.len ≡ 0) × ((s.waiting.len ≡ 0) × ((i : ℕ) → i < s.table.count → rest i ≡ true))
      to r = (
        sym (runs_len s.running.len (work_of s) (tasks_at s) I refl) ∙ sum_of_none runs nobody (tasks_at s) (λ j h. omega (arith, (r j h).0)),
        (
          sym (waits_len s.waiting.len (work_of s) (tasks_at s) I refl) ∙ sum_of_none waits nobody (tasks_at s) (λ j h. omega (arith, (r j h).0)),
          λ i h. sym (rest_same K i h) ∙ (r i (omega (arith, size))).1,
        ),
      )

      from : (s.running.len ≡ 0) × ((s.waiting.len ≡ 0) × ((i : ℕ) → i < s.table.count → rest i ≡ true))
          → (j : ℕ) → j < length (tasks_at s) → (runs (at j (tasks_at s)) + waits (at j (tasks_at s)) ≡ 0) × (later (at j (tasks_at s)) ≡ true)
      from r j h = let b : j < s.table.count = omega (arith, size) in (idle r.0 r.1.0 j h, rest_same K j b ∙ r.1.1 j b)

  -- AN OPEN PLANE
  -- the keys of a plane whose amounts fit
  abbrev KeysOk : Type 0
  KeysOk =
      ((t k : ℕ) → key_in s.running t ≡ some k → (s.now.0 < k) × (k ≤ end_at s)) × ((t k : ℕ) → key_in s.waiting t ≡ some k → (k < end_at s) × (s.now.0 < k))

  keys_says : Says KeysOk (run_amounts_ok s.now.0 (end_at s) s.running.keys s.running.len && wait_amounts_ok s.now.0 (end_at s) s.waiting.keys s.waiting.len)
  unfolding run_amounts_ok wait_amounts_ok
  keys_says =
      says_as (run_amounts_ok s.now.0 (end_at s) s.running.keys s.running.len && wait_amounts_ok s.now.0 (end_at s) s.waiting.keys s.waiting.len)
      (λ r. (by_places s.running S.running _ r.0, by_places s.waiting S.waiting _ r.1))
      (λ r. (at_places s.running S.running _ r.0, at_places s.waiting S.waiting _ r.1))
      (and_says _ _ (run_amounts_ok s.now.0 (end_at s) s.running.keys s.running.len) _
      (below_says (λ j. (s.now.0 < get_or s.running.keys j 0) × (get_or s.running.keys j 0 ≤ end_at s)) _ s.running.len
      (λ j h. let k = get_or s.running.keys j 0 in and_says _ _ (ltb s.now.0 k) _ (ltb_says s.now.0 k) (leb_says k (end_at s))))
      (below_says (λ j. (get_or s.waiting.keys j 0 < end_at s) × (s.now.0 < get_or s.waiting.keys j 0)) _ s.waiting.len
      (λ j h. let k = get_or s.waiting.keys j 0 in and_says _ _ (ltb k (end_at s)) _ (ltb_says k (end_at s)) (ltb_says s.now.0 k))))

  -- each task's amount fits, from the keys, and the keys' bounds from the amounts
  fit_of : s.now.0 < end_at s → KeysOk → (j : ℕ) → j < length (tasks_at s) → amount_fits (end_at s - s.now.0) (at j (tasks_at s)).cond ≡ true
  fit_of p r j h = go (key_in s.running (suc j)) refl (key_in s.waiting (suc j)) refl
    where
      b : j < s.table.count
      b = omega (arith, size)

      none_fits : (c : Cond) → runs_of c ≡ 0 → waits_of c ≡ 0 → amount_fits (end_at s - s.now.0) c ≡ true
      none_fits asleep x y = refl
      none_fits resting x y = refl
      none_fits (running q a) x y = absurd (omega arith)
      none_fits (waiting a) x y = absurd (omega arith)

      go : (o : Option ℕ) → key_in s.running (suc j) ≡ o → (w : Option ℕ) → key_in s.waiting (suc j) ≡ w → amount_fits (end_at s - s.now.0) (at j (tasks_at s)).cond ≡ true
      go (some k) e w f =
          let x = r.0 (suc j) k e in
          rw (run_cond I j k b e, le-leb 1 (k - s.now.0) (omega arith), le-leb (k - s.now.0) (end_at s - s.now.0) (omega arith))
      go none e (some k) f =
          let x = r.1 (suc j) k f in
          rw (wait_cond I j k b e f, le-leb 1 (end_at s - k) (omega arith), lt-ltb (end_at s - k) (end_at s - s.now.0) (omega arith))
      go none e none f =
          none_fits (at j (tasks_at s)).cond (not_running s.now.0 (at j (tasks_at s)).cond (run_key_at I j b ∙ e)) (not_waiting (end_at s) (at j (tasks_at s)).cond (wait_key_at I j b ∙ f))

  of_fit : s.now.0 < end_at s → ((j : ℕ) → j < length (tasks_at s) → amount_fits (end_at s - s.now.0) (at j (tasks_at s)).cond ≡ true) → KeysOk
  of_fit p r = (runs_by, waits_by)
    where
      named : (t : ℕ) → 0 < t → t ≡ suc (t - 1)
      named t h = omega arith

      run_by : (i k : ℕ) → key_in s.running (suc i) ≡ some k → (s.now.0 < k) × (k ≤ end_at s)
      run_by i k e =
          let b = S.run_in (suc i) k e in
          let f : leb 1 (k - s.now.0) && leb (k - s.now.0) (end_at s - s.now.0) ≡ true = rw (run_cond I i k b.1 e) at (r i (in_list I i b.1)) in
          let x = of_true (leb 1 (k - s.now.0) && leb (k - s.now.0) (end_at s - s.now.0))
          (and_says _ _ (leb 1 (k - s.now.0)) _ (leb_says 1 (k - s.now.0)) (leb_says (k - s.now.0) (end_at s - s.now.0))) f in
          (omega (arith, x.0), omega (arith, x.0, x.1))

      wait_by : (i k : ℕ) → key_in s.waiting (suc i) ≡ some k → (k < end_at s) × (s.now.0 < k)
      wait_by i k e =
          let b = S.wait_in (suc i) k e in
          let f : leb 1 (end_at s - k) && ltb (end_at s - k) (end_at s - s.now.0) ≡ true = rw (wait_cond I i k b.1 b.4 e) at (r i (in_list I i b.1)) in
          let x = of_true (leb 1 (end_at s - k) && ltb (end_at s - k) (end_at s - s.now.0))
          (and_says _ _ (leb 1 (end_at s - k)) _ (leb_says 1 (end_at s - k)) (ltb_says (end_at s - k) (end_at s - s.now.0))) f in
          (omega (arith, x.0), omega (arith, x.0, x.1))

      runs_by : (t k : ℕ) → key_in s.running t ≡ some k → (s.now.0 < k) × (k ≤ end_at s)
      runs_by t k e = let z = named t (S.run_in t k e).0 in run_by (t - 1) k (rw z at e)

      waits_by : (t k : ℕ) → key_in s.waiting t ≡ some k → (k < end_at s) × (s.now.0 < k)
      waits_by t k e = let z = named t (S.wait_in t k e).0 in wait_by (t - 1) k (rw z at e)

  amounts_same : s.now.0 < end_at s
      → every (λ (t : Task). amount_fits (end_at s - s.now.0) t.cond) (tasks_at s) ≡ run_amounts_ok s.now.0 (end_at s) s.running.keys s.running.len && wait_amounts_ok s.now.0 (end_at s) s.waiting.keys s.waiting.len
  amounts_same p =
      same_test KeysOk _ _
      (says_as (every (λ (t : Task). amount_fits (end_at s - s.now.0) t.cond) (tasks_at s)) (of_fit p) (fit_of p)
      (every_says (λ t. amount_fits (end_at s - s.now.0) t.cond ≡ true) _ nobody (λ t. is_says (amount_fits (end_at s - s.now.0) t.cond)) (tasks_at s)))
      keys_says

  idle_same : idle_holds s.table.m (tasks_at s) ≡ idle_ok s.table.m s.running.len s.waiting.len
  idle_same =
      ap (λ (x : ℕ). eqb x 0 || eqb (sum_of runs (tasks_at s)) s.table.m) (waits_len s.waiting.len (work_of s) (tasks_at s) I refl)
      ∙ ap (λ (x : ℕ). eqb s.waiting.len 0 || eqb x s.table.m) (runs_len s.running.len (work_of s) (tasks_at s) I refl)

  shares_same : sum_of awake_share (tasks_at s) ≡ awake_sum s.jobs.awake s.table.share s.table.count
  shares_same =
      sum_of_map awake_share (task_at s) (up_from 0 s.table.count)
      ∙ sum_same (λ i. awake_share (task_at s i)) (λ i. if get_or s.jobs.awake i false then get_or s.table.share i 0 else 0) s.table.count
      (λ i h. ap (λ (b : Bool). if b then get_or s.table.share i 0 else 0) (ap (λ (t : Task). is_awake t.cond) (sym (task i h)) ∙ awake i h))

  total_same : 0 < s.table.scale
      → sum_holds s.table.scale (end_at s - s.now.0) (tasks_at s)
      ≡ sum_ok s.table.scale (end_at s - s.now.0) (run_sum s.now.0 s.running.keys s.running.len + wait_sum (end_at s) s.waiting.keys s.waiting.len) (awake_sum s.jobs.awake s.table.share s.table.count)
  total_same p =
      sum_exact (sum_of amount (tasks_at s)) (sum_of awake_share (tasks_at s)) (end_at s - s.now.0) s.table.scale p
      ∙ ap (λ (x : ℕ). sum_ok s.table.scale (end_at s - s.now.0) x (sum_of awake_share (tasks_at s))) (amounts_are I)
      ∙ ap (λ (x : ℕ). sum_ok s.table.scale (end_at s - s.now.0) (run_sum s.now.0 s.running.keys s.running.len + wait_sum (end_at s) s.waiting.keys s.waiting.len) x) shares_same

  limits_same : Known (tasks_at s) → every (limit_holds (ceil_tick (view s)) s.end) (tasks_at s)
      ≡ limits_ok s.table.period s.table.deadline s.jobs.awake s.jobs.arrived s.jobs.last (ceil_of s.now.0 s.table.scale) s.end s.table.count
  unfolding limits_ok
  limits_same K = every_below (limit_holds (ceil_tick (view s)) s.end) _ (tasks_at s) s.table.count size each
    where
      c : ℕ
      c = ceil_of s.now.0 s.table.scale

      each : (i : ℕ) → i < s.table.count → limit_holds (ceil_tick (view s)) s.end (at i (tasks_at s))
          ≡ limit_ok (get_or s.jobs.awake i false) (get_or s.jobs.arrived i false) (get_or s.jobs.last i 0) (get_or s.table.period i 0) (get_or s.table.deadline i 0) (ceil_of s.now.0 s.table.scale) s.end
      each i h =
          ap (λ (w : Bool). if w then leb s.end (due (at i (tasks_at s))) else leb s.end (soonest c (at i (tasks_at s)) + short (at i (tasks_at s)))) (awake i h)
          ∙ by (get_or s.jobs.awake i false) refl
        where
          by : (b : Bool) → get_or s.jobs.awake i false ≡ b
              → (if b then leb s.end (due (at i (tasks_at s))) else leb s.end (soonest (ceil_of s.now.0 s.table.scale) (at i (tasks_at s)) + short (at i (tasks_at s))))
              ≡ limit_ok b (get_or s.jobs.arrived i false) (get_or s.jobs.last i 0) (get_or s.table.period i 0) (get_or s.table.deadline i 0) (ceil_of s.now.0 s.table.scale) s.end
          by true w = let k = K i (awake i h ∙ w) in ap (leb s.end) (due_kept s (tasks_at s) I i h k.0 k.1)
          by false w =
              ap (λ (x : ℕ). leb s.end (x + short (at i (tasks_at s)))) (soonest_kept s (tasks_at s) I i h (ceil_of s.now.0 s.table.scale))
              ∙ ap (λ (t : Task). leb s.end (soonest_of (get_or s.jobs.arrived i false) (get_or s.jobs.last i 0) (get_or s.table.period i 0) (ceil_of s.now.0 s.table.scale) + short t)) (task i h)

  pub open_same : Known (tasks_at s) → 0 < s.table.scale → open_holds (view s) s.end ≡ open_ok s
  unfolding open_holds open_by amounts_ok
  open_same K p = go (ltb s.now.0 (end_at s)) (ltb_says s.now.0 (end_at s))
    where
      A : Bool
      A = every (λ (t : Task). amount_fits (end_at s - s.now.0) t.cond) (tasks_at s)

      B : Bool
      B = run_amounts_ok s.now.0 (end_at s) s.running.keys s.running.len

      C : Bool
      C = wait_amounts_ok s.now.0 (end_at s) s.waiting.keys s.waiting.len

      X : Bool
      X = idle_holds s.table.m (tasks_at s) && (sum_holds s.table.scale (end_at s - s.now.0) (tasks_at s) && every (limit_holds (ceil_tick (view s)) s.end) (tasks_at s))

      D : Bool
      D = idle_ok s.table.m s.running.len s.waiting.len

      E : Bool
      E = sum_ok s.table.scale (end_at s - s.now.0) (run_sum s.now.0 s.running.keys s.running.len + wait_sum (end_at s) s.waiting.keys s.waiting.len) (awake_sum s.jobs.awake s.table.share s.table.count)

      F : Bool
      F = limits_ok s.table.period s.table.deadline s.jobs.awake s.jobs.arrived s.jobs.last (ceil_of s.now.0 s.table.scale) s.end s.table.count

      Y : Bool
      Y =
          idle_ok s.table.m s.running.len s.waiting.len
          && (sum_ok s.table.scale (end_at s - s.now.0) (run_sum s.now.0 s.running.keys s.running.len + wait_sum (end_at s) s.waiting.keys s.waiting.len) (awake_sum s.jobs.awake s.table.share s.table.count)
          && limits_ok s.table.period s.table.deadline s.jobs.awake s.jobs.arrived s.jobs.last (ceil_of s.now.0 s.table.scale) s.end s.table.count)

      rest : X ≡ Y
      rest =
          ap (λ (b : Bool). b && (sum_holds s.table.scale (end_at s - s.now.0) (tasks_at s) && every (limit_holds (ceil_tick (view s)) s.end) (tasks_at s))) idle_same
          ∙ ap (λ (b : Bool). idle_ok s.table.m s.running.len s.waiting.len && (b && every (limit_holds (ceil_tick (view s)) s.end) (tasks_at s))) (total_same p)
          ∙ ap (λ (b : Bool). idle_ok s.table.m s.running.len s.waiting.len
          && (sum_ok s.table.scale (end_at s - s.now.0) (run_sum s.now.0 s.running.keys s.running.len + wait_sum (end_at s) s.waiting.keys s.waiting.len) (awake_sum s.jobs.awake s.table.share s.table.count) && b)) (limits_same K)

      regroup : (b c d e f : Bool) → (b && c) && (d && (e && f)) ≡ (b && (c && (d && e))) && f
      regroup true true true e f = refl
      regroup true true false e f = refl
      regroup true false d e f = refl
      regroup false c d e f = refl

      go : (t : Bool) → Says (s.now.0 < end_at s) t → t && (A && X) ≡ t && ((B && (C && (D && E))) && F)
      go false n = refl
      go true h = ap (λ (b : Bool). b && X) (amounts_same h) ∙ ap (λ (b : Bool). (B && C) && b) rest ∙ regroup B C D E F

  pub plane_same : Known (tasks_at s) → 0 < s.table.scale → plane_holds (view s) (view s).plane ≡ plane_ok s
  plane_same K p = go s.going
    where
      go : (b : Bool) → plane_holds (view s) (if b then some s.end else none) ≡ (if b then open_ok s else closed_ok s)
      go true = open_same K p
      go false = closed_same K
