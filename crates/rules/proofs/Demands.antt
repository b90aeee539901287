-- Demand 3 holds of the rules: whatever table, whatever calls
use Rattle.std.specs.Prelude.{if◌then◌else◌}
use mathlib.Core.Path.{◌≡◌, refl, sym, ◌∙◌, ap, subst}
use mathlib.Core.Bool.{Bool, true, false}
use mathlib.Core.Option
use mathlib.Core.Option.{Option, none, some}
use mathlib.Core.Logic.{inl, ◌↔◌}
use mathlib.Core.List.{List, [], ◌∷◌, ◌++◌, map}
use Prim.Native.Nat.{ℕ, zero, suc, ◌+◌, ◌*◌, ◌-◌, ◌≤◌, ◌<◌}
use native.Mathlib.Nat.{mul-le-mul_right}
use native.Mathlib.Omega.{arith}
use native.Mathlib.Decide.{dec_lt}
use lib.ListN.{length, get_or, length-map}
use Rattle.rules.specs.Bounds.{clock, record_size}
use Rattle.rules.specs.Answers.{Done, is_done}
use Rattle.rules.specs.Admission.{admit}
use lib.ListN.{replicate}
use lib.Seq.{get_or-append-add}
use lib.Dec.{eqb}
use Rattle.ground.specs.Sums.{up_from}
use Rattle.ground.proofs.Times.{up_length}
use Rattle.rules.specs.Events.{next_at}
use Rattle.rules.specs.Planes.{end_of, opened}
use Rattle.rules.specs.Record.{Record, on_proc, slots_of}
use Rattle.rules.specs.Calls.{arrive_answer, arriving, arrive, Moved, after, moving, step_answer, step}
use Rattle.rules.specs.Demands.{Job, Course, NextOf, Demand3, OthersStay}
use Rattle.rules.specs.History.{In, Within, came_by, plane_end}
use Rattle.rules.specs.Reasons.{ArriveReason}
use Rattle.rules.specs.Run.{Arrival, Call, arrive_call, step_call, Run, perform, starting, perform_all, run_of}
use Rattle.rules.specs.Scale.{scale_of}
use Rattle.rules.specs.State.{Task, State, no_row, at, short, is_awake, tick_of, fresh, admitted}
use Rattle.rules.specs.Table.{Row, rows_of}
use Rattle.rules.proofs.Together.{Together}
use Rattle.rules.proofs.Cases.{open_at, open_case, move_in}
use Rattle.rules.proofs.Ends.{end_rises}
use Rattle.rules.proofs.Events.{Core}
use Rattle.rules.proofs.Calls.{tick_of_lem, moving_moves, arriving_takes, after_now}
use Rattle.rules.proofs.Keeping.{not_both}
use Rattle.rules.proofs.Refusing.{arrive_answers, arrive_exact, step_exact}
use Rattle.rules.proofs.Standing.{facts}
use Rattle.rules.proofs.Starting.{at_fresh, rows_back, all_asleep, admitted_together, admit_passes}
use Rattle.rules.proofs.Holding.{together_is, holds_is}
use Rattle.rules.proofs.Jobs.{F, scale_is, size_is, row_is, step_is, step_refused, by_answer, perform_good, Good, run_good, all_split, all_in, done_comes}

pub start_good : (bytes : List ℕ) (m : ℕ) → (admit bytes m).answer ≡ Done → Good (rows_of bytes) (starting (admit bytes m).state)
unfolding admit plane_end came_by
start_good bytes m d =
    let rows = rows_of bytes in
    let H = admitted_together m rows (admit_passes bytes m d) in
    let N = all_asleep (scale_of rows) rows in
    rw d (record {
      together = H;
      rows_are = rows_back (scale_of rows) rows;
      books = λ j w. not_both _ (sym (ap is_awake (N j).0) ∙ w);
      once = tt;
      follows = refl;
      working = tt;
      latest = λ j hj t le. rw (N j).1 refl;
      plane = (0, omega arith);
      seams = λ k t R. absurd (later rows H k t R.0 R.1);
      jobs = λ x i. absurd i;
    })
  where
    -- no plane has ended at instant 0
    later : (rows : List Row) → Together (admitted m rows) → (k t : ℕ) → plane_end rows [] (suc k) ≡ t → t * scale_of rows ≤ 0 → ⊥
    later rows H k t e le =
        let F = facts (map (fresh (scale_of rows)) rows) H.table in
        let n : length (map (fresh (scale_of rows)) rows) ≡ length rows = length-map rows (fresh (scale_of rows)) in
        let up = end_rises rows (omega (arith, F.size)) (λ j hj. subst (λ (t : Task). 0 < short t) (at_fresh (scale_of rows) rows j hj) (F.some_q j (omega (arith, n)))) [] k in
        let some_t : 1 ≤ t = omega (arith, up) in
        omega (arith, mul-le-mul_right (scale_of rows) some_t, F.scale_pos)

pub run_of_good : (bytes : List ℕ) (m : ℕ) → (admit bytes m).answer ≡ Done → (cs : List Call) → Good (rows_of bytes) (run_of bytes m cs)
unfolding run_of
run_of_good bytes m d cs = run_good (rows_of bytes) cs (starting (admit bytes m).state) (start_good bytes m d)

-- the job of an arrival that was taken, whatever came later
pub job_of : (rows : List Row) (r : Run) → Good rows r → (x : Arrival) → In x r.arrivals → Job rows r x.task x.tick
job_of rows r G x i = (G.jobs x i).2

-- NO MORE THAN m PROCESSORS
past_m : (m : ℕ) (l : List Task) (p : ℕ) → m ≤ p → get_or (slots_of m l) p 0 ≡ 0
unfolding slots_of
past_m m l p h =
    let first = map (λ p. on_proc p 1 l) (up_from 1 m) in
    let n : length first ≡ m = length-map (up_from 1 m) (λ p. on_proc p 1 l) ∙ up_length 1 m in
    let e : p ≡ length first + (p - m) = omega (arith, n) in
    rw (e, get_or-append-add first (replicate (16 - m) 0) (p - m) 0) (zeros (16 - m) (p - m))
  where
    zeros : (k i : ℕ) → get_or (replicate {A = ℕ} k 0) i 0 ≡ 0
    zeros zero i = refl
    zeros (suc k) zero = refl
    zeros (suc k) (suc i) = zeros k i

-- a step's state and record
abbrev Past : ℕ → Moved → Type 0
Past m x = (x.state.m ≡ m) × ((p : ℕ) → m ≤ p → get_or x.rec.slots p 0 ≡ 0)

move_past : (s : State) (h : ℕ) (o : Option ℕ) → Past s.m (move_in s o h)
move_past s h o = (kept (Option.get_or o 0), λ p le. past_m s.m s.tasks p le)
  where
    kept : (e : ℕ) → (after s e (next_at (e * s.scale) s.now s.tasks (h * s.scale)) (eqb (next_at (e * s.scale) s.now s.tasks (h * s.scale)) (e * s.scale))).m ≡ s.m
    kept e = (after_now s e _ _).1

moving_past : (s : State) (h : ℕ) → Past s.m (moving s h)
unfolding moving opened
moving_past s h = go s.plane
  where
    go : (o : Option ℕ) → Past s.m (move_in (open_case s o) (open_case s o).plane h)
    go none = move_past (open_at s (tick_of s) (end_of (tick_of s) s.tasks)) h (some (end_of (tick_of s) s.tasks))
    go (some e) = move_past s h s.plane

within_more : (m : ℕ) (rs : List Record) (r : Record) → Within m rs → ((p : ℕ) → m ≤ p → get_or r.slots p 0 ≡ 0) → Within m (rs ++ (r ∷ []))
within_more m [] r o h = (h, tt)
within_more m (x ∷ rs) r o h = (o.0, within_more m rs r o.1 h)

abbrev pub Manned : ℕ → Run → Type 0
Manned m r = (r.state.m ≡ m) × Within m r.records

arrive_m : (s : State) (task : ℕ) → (arrive s task).state.m ≡ s.m
unfolding arrive
arrive_m s task = go (is_done (arrive_answer s task))
  where
    go : (b : Bool) → (if b then arriving s (task - 1) else s).m ≡ s.m
    go true = unfold arriving in refl
    go false = refl

pub manned_on : (rows : List Row) (m : ℕ) (r : Run) (c : Call) → Good rows r → Manned m r → Manned m (perform r c)
manned_on rows m r (arrive_call task) G M = unfold perform in (arrive_m r.state task ∙ M.0, M.1)
manned_on rows m r (step_call h room) G M =
    by_answer _ (step_answer r.state h (length room))
    (λ d. let S = step_is rows r G h room d in let P = moving_past r.state h in
    (state_m S.state P.0, subst (Within m) (sym S.records) (within_more m r.records (moving r.state h).rec M.1 (λ p le. P.1 p (omega (arith, M.0))))))
    (λ e. subst (Manned m) (sym (step_refused r h room e)) M)
  where
    state_m : (step r.state h room).state ≡ (moving r.state h).state → (moving r.state h).state.m ≡ r.state.m → (perform r (step_call h room)).state.m ≡ m
    state_m a b = unfold perform in (ap (λ (x : State). x.m) a ∙ b ∙ M.0)

manned_all : (rows : List Row) (m : ℕ) (cs : List Call) (r : Run) → Good rows r → Manned m r → Manned m (perform_all r cs)
unfolding perform_all
manned_all rows m [] r G M = M
manned_all rows m (c ∷ cs) r G M = manned_all rows m cs (perform r c) (perform_good rows r c G) (manned_on rows m r c G M)

pub start_manned : (bytes : List ℕ) (m : ℕ) → (admit bytes m).answer ≡ Done → Manned m (starting (admit bytes m).state)
unfolding admit
start_manned bytes m d = rw d (refl, tt)

pub run_of_within : (bytes : List ℕ) (m : ℕ) → (admit bytes m).answer ≡ Done → (cs : List Call) → Within m (run_of bytes m cs).records
unfolding run_of
run_of_within bytes m d cs = (manned_all (rows_of bytes) m cs (starting (admit bytes m).state) (start_good bytes m d) (start_manned bytes m d)).1

pub course_of : (rows : List Row) (m : ℕ) (r : Run) → Good rows r → Within m r.records → Course rows m r
course_of rows m r G W = record { once = G.once; follows = G.follows; within = W; working = G.working; seams = G.seams }

-- the next call
pub next_of : (rows : List Row) (r : Run) → Good rows r → NextOf rows r
next_of rows r G = record { takes = takes; moves = moves }
  where
    s : State
    s = r.state

    sc : r.state.scale ≡ scale_of rows
    sc = scale_is rows r G

    takes : (task tick : ℕ) → 1 ≤ task → task ≤ length rows → r.state.now ≡ tick * scale_of rows
        → ((arrive r.state task).answer ≡ Done) ↔ ((a : ℕ) → came_by task tick r.arrivals ≡ some a → a + (get_or rows (task - 1) no_row).period ≤ tick)
    takes task tick lo hi e = unfold arrive in (
      (λ d. let R = subst (ArriveReason r.state task) d (arrive_answers r.state task) in λ a c. seen a (λ lt. R.3 (a, sym latest ∙ c, rw tk (omega (arith, lt, per))))),
      (λ f. arrive_exact r.state task Done (
        holds_is s G.together,
        (lo, omega (arith, size_is rows r G)),
        e ∙ ap (λ x. tick * x) (sym sc) ∙ ap (λ x. x * r.state.scale) (sym tk),
        λ S. let z = f S.0 (latest ∙ S.1) in omega (arith, z, S.2, tk, per),
      )),
    )
      where
        tk : tick_of r.state ≡ tick
        tk = tick_of_lem r.state.now r.state.scale tick (F rows r G).scale_pos (e ∙ ap (λ x. tick * x) (sym sc))

        latest : came_by task tick r.arrivals ≡ (at (task - 1) r.state.tasks).last
        latest = let i : suc (task - 1) ≡ task = omega arith in rw i at (G.latest (task - 1) (omega arith) tick (omega arith))

        per : (at (task - 1) r.state.tasks).row.period ≡ (get_or rows (task - 1) no_row).period
        per = ap (λ (x : Row). x.period) (row_is rows r G (task - 1))

        seen : (a : ℕ) → ¬ (tick < a + (get_or rows (task - 1) no_row).period) → a + (get_or rows (task - 1) no_row).period ≤ tick
        seen a n = go (dec_lt tick (a + (get_or rows (task - 1) no_row).period))
          where
            go : Dec (tick < a + (get_or rows (task - 1) no_row).period) → a + (get_or rows (task - 1) no_row).period ≤ tick
            go (yes q) = absurd (n q)
            go (no q) = omega arith

    answered : (h : ℕ) (room : List ℕ) → step_answer r.state h (length room) ≡ Done → (step r.state h room).answer ≡ Done
    answered h room d = unfold step in d

    moves : (horizon : ℕ) (room : List ℕ) → record_size ≤ length room → horizon ≤ clock → r.state.now < horizon * scale_of rows
        → ((step r.state horizon room).answer ≡ Done) × (r.state.now < (step r.state horizon room).state.now) × ((step r.state horizon room).state.now ≤ horizon * scale_of rows)
    moves h room a b c =
        let lt : r.state.now < h * r.state.scale = omega (arith, c, ap (λ x. h * x) sc) in
        let d = step_exact r.state h (length room) Done (holds_is s G.together, a, b, lt) in
        let M = moving_moves r.state h G.together lt in
        let S = (step_is rows r G h room d).state in
        (answered h room d, rw S (omega (arith, M.arrives, M.from_now, M.later)), rw S (omega (arith, M.arrives, M.by_horizon, ap (λ x. h * x) sc)))

-- DEMAND 3
pub demand_3 : Demand3
demand_3 = record {
  jobs = λ bytes m d before task a later.
      let r = run_of bytes m before in
      let x : Arrival = record { task = task; tick = tick_of r.state } in
      job_of (rows_of bytes) (run_of bytes m (before ++ arrive_call task ∷ later)) (run_of_good bytes m d (before ++ arrive_call task ∷ later)) x (found bytes m before task a later);
  courses = λ bytes m d calls. course_of (rows_of bytes) m (run_of bytes m calls) (run_of_good bytes m d calls) (run_of_within bytes m d calls);
  nexts = λ bytes m d calls. next_of (rows_of bytes) (run_of bytes m calls) (run_of_good bytes m d calls);
}
  where
    found : (bytes : List ℕ) (m : ℕ) (before : List Call) (task : ℕ) → (arrive (run_of bytes m before).state task).answer ≡ Done → (later : List Call)
        → In (record { task = task; tick = tick_of (run_of bytes m before).state }) (run_of bytes m (before ++ arrive_call task ∷ later)).arrivals
    found bytes m before task a later = unfold run_of perform_all in (subst (λ (r : Run). In x r.arrivals) (sym (all_split perform start before (arrive_call task ∷ later))) (all_in x later (perform r (arrive_call task)) here))
      where
        start : Run
        start = starting (admit bytes m).state

        r : Run
        r = perform_all (starting (admit bytes m).state) before

        x : Arrival
        x = record { task = task; tick = tick_of (run_of bytes m before).state }

        here : In x (perform r (arrive_call task)).arrivals
        here = unfold run_of perform in (rw a (inl refl))

-- NOTHING ELSE MOVES
pub others_stay : OthersStay
unfolding arrive
others_stay s task d j n =
    let R = subst (ArriveReason s task) d (arrive_answers s task) in
    let c = (arriving_takes s (task - 1) (together_is s R.0) (done_comes s task R)).others j (λ q. n (omega (arith, R.1))) in
    rw d (record {
      row = ap (λ (x : Core). x.row) c;
      share = ap (λ (x : Core). x.share) c;
      last = ap (λ (x : Core). x.last) c;
      awake = ap (λ (x : Core). x.awake) c;
      left = ap (λ (x : Core). x.left) c;
    })
