-- What is true of every job, after any calls
use Rattle.std.specs.Prelude.{Err, if◌then◌else◌}
use mathlib.Core.Path.{◌≡◌, refl, sym, ◌∙◌, ap, subst}
use mathlib.Core.Bool.{Bool, true, false, ◌&&◌}
use mathlib.Core.Option
use mathlib.Core.Option.{Option, none, some, some-injective}
use mathlib.Core.Logic.{◌≢◌, ◌⊎◌, inl, inr}
use mathlib.Core.List.{List, [], ◌∷◌, ◌++◌, foldl, map}
use Prim.Native.Nat.{ℕ, suc, ◌+◌, ◌*◌, ◌-◌, ◌/◌, ◌≤◌, ◌<◌}
use native.Mathlib.Nat.{mul-le-mul_right, lt_of_mul-lt-mul_right, le_of_mul-le-mul_right}
use native.Mathlib.Decide.{dec_le, ℕ_discrete}
use native.Mathlib.Omega.{arith}
use lib.Dec.{leb, ltb, eqb}
use lib.ListN.{length, get_or, drop, length-map}
use Rattle.rules.specs.Answers.{Answer, Done, is_done}
use Rattle.ground.specs.Sums.{times}
use Rattle.ground.specs.Tests.{Says}
use Rattle.ground.proofs.Tests.{leb_says, ltb_says, eqb_says, is_true, is_false}
use Rattle.rules.specs.Calls.{lowest_idle, arrive_in, arriving, arrive_answer, arrive, moving, step_answer, step}
use Rattle.rules.specs.Demands.{Reached, Job}
use Rattle.rules.specs.History.{earliest, limits_by, ran, Once, In, Working, Follows, EndsAt, came_by, limit_by, plane_end}
use Rattle.rules.specs.Planes.{limit, end_of}
use Rattle.rules.specs.Reasons.{ArriveReason, StepReason, Comes}
use Rattle.rules.specs.Record.{Record}
use Rattle.rules.specs.Run.{Arrival, Call, arrive_call, step_call, Run, perform, perform_all}
use Rattle.rules.specs.Scale.{scale_of}
use Rattle.rules.specs.State.{Task, State, no_row, at, short, is_awake, tick_of, due, last_of}
use Rattle.rules.specs.Table.{Row, shorter}
use Rattle.rules.proofs.Together.{Awake, Shut, Together}
use Rattle.rules.proofs.Arriving.{idle_is, arrives}
use Rattle.rules.proofs.Books.{ran_past, ran_none, Books, wakes_books, arrives_books}
use Rattle.rules.proofs.Ends.{end_next, ends_more, ends_last, end_kept, ends_kept, ends_kept_from, no_end_between, end_is}
use Rattle.rules.proofs.Events.{Core}
use Rattle.rules.proofs.Calls.{tick_of_lem, open_parts, shut_parts, moving_keeps, Moves, moving_moves, comes_asleep, arriving_keeps, Takes, arriving_takes}
use Rattle.rules.proofs.Keeping.{rows_same, not_both}
use Rattle.rules.proofs.Places.{inside}
use Rattle.rules.proofs.Reading.{record_read}
use Rattle.rules.proofs.Refusing.{arrive_answers, step_answers}
use Rattle.rules.proofs.Standing.{Facts, facts, row_at_lem}
use Rattle.rules.proofs.Serving.{end_in, Does, moving_does}
use Rattle.rules.proofs.Lasts.{never, last_is, awake_last, awake_came}

-- RUNS
-- the state's plane is the one that the arrivals give: its k-th end lies behind it
abbrev pub InPlane : List Row → Run → ℕ → Option ℕ → Type 0
InPlane rows r k none = plane_end rows r.arrivals k * scale_of rows ≡ r.state.now
InPlane rows r k (some e) = (plane_end rows r.arrivals k * scale_of rows < r.state.now) × (plane_end rows r.arrivals (suc k) ≡ e)

abbrev pub Jobs : List Row → Run → Arrival → Type 0
Jobs rows r x = (0 < x.task) × (x.task ≤ length rows) × Job rows r x.task x.tick

pub record Good (rows : List Row) (r : Run) : Type 0 where
  pub together : Together r.state
  pub rows_are : map (λ (t : Task). t.row) r.state.tasks ≡ rows
  pub books : Books r.state r.state.plane r.records
  pub once : Once r.records
  pub follows : Follows 0 r.records r.state.now
  pub working : Working (scale_of rows) rows r.arrivals r.records
  pub latest : (j : ℕ) → j < length rows → (t : ℕ) → r.state.now ≤ t * scale_of rows → came_by (suc j) t r.arrivals ≡ (at j r.state.tasks).last
  pub plane : (k : ℕ) × InPlane rows r k r.state.plane
  pub seams : (k t : ℕ) → Reached rows r (suc k) t → EndsAt (t * scale_of rows) r.records
  pub jobs : (x : Arrival) → In x r.arrivals → Jobs rows r x

came_in : (n t a : ℕ) (xs : List Arrival) → came_by n t xs ≡ some a → In (record { task = n; tick = a }) xs
unfolding came_by
came_in n t a [] e = never e
came_in n t a (x ∷ xs) e = go (eqb x.task n) (eqb_says x.task n) (leb x.tick t) e (came_in n t a xs)
  where
    go : (b : Bool) → Says (x.task ≡ n) b → (c : Bool) → (if b && c then some x.tick else came_by n t xs) ≡ some a → (came_by n t xs ≡ some a → In (record { task = n; tick = a }) xs)
        → In (record { task = n; tick = a }) (x ∷ xs)
    go true q true z f = inl (sym (arrival_is q (some-injective x.tick a z)))
      where
        arrival_is : {n n' a a' : ℕ} → n ≡ n' → a ≡ a' → ◌≡◌ {A = Arrival} (record { task = n; tick = a }) (record { task = n'; tick = a' })
        arrival_is p q = rw (p, q)
    go true q false z f = inr (f z)
    go false q c z f = inr (f z)

-- the limit that an arrival gives is the one that the task has
limit_case : (q t : ℕ) (o : Option ℕ) (awake : Bool) → (awake ≡ true → (a : ℕ) × (o ≡ some a)) → (awake ≡ true → t < Option.get_or o 0 + q)
    → ((a : ℕ) → o ≡ some a → t < a + q → awake ≡ true) → limit_by q t o ≡ (if awake then Option.get_or o 0 + q else t + q)
limit_case q t (some a) true known due early = ap (λ b. if b then a + q else t + q) (is_true (ltb t (a + q)) (ltb_says t (a + q)) (due refl))
limit_case q t (some a) false known due early = ap (λ b. if b then a + q else t + q) (is_false (ltb t (a + q)) (ltb_says t (a + q)) (λ lt. not_both ⊥ (early a refl lt)))
limit_case q t none true known due early = never (known refl).1
limit_case q t none false known due early = refl

-- what the table of a good run gives
module _ (rows : List Row) (r : Run) (G : Good rows r) where
  pub F : Facts r.state.m r.state.scale r.state.tasks
  F = facts r.state.tasks G.together.table

  pub scale_is : r.state.scale ≡ scale_of rows
  scale_is = G.together.table.scale_is ∙ ap scale_of G.rows_are

  pos : 0 < scale_of rows
  pos = subst (λ l. 0 < l) scale_is F.scale_pos

  pub size_is : length rows ≡ length r.state.tasks
  size_is = ap length (sym G.rows_are) ∙ length-map r.state.tasks (λ (t : Task). t.row)

  pub row_is : (j : ℕ) → (at j r.state.tasks).row ≡ get_or rows j no_row
  row_is j = sym (row_at_lem r.state.tasks j) ∙ ap (λ (x : List Row). get_or x j no_row) G.rows_are

  some_row : 0 < length rows
  some_row = omega (arith, F.size, size_is)

  some_q : (j : ℕ) → j < length rows → 0 < shorter (get_or rows j no_row)
  some_q j hj = subst (λ (x : Row). 0 < shorter x) (row_is j) (F.some_q j (omega (arith, size_is)))

  exact_share : (j : ℕ) → j < length rows → (at j r.state.tasks).share * shorter (get_or rows j no_row) ≡ (get_or rows j no_row).exec * scale_of rows
  exact_share j hj = subst (λ l. (at j r.state.tasks).share * shorter (get_or rows j no_row) ≡ (get_or rows j no_row).exec * l) scale_is
      (subst (λ (x : Row). (at j r.state.tasks).share * shorter x ≡ x.exec * r.state.scale) (row_is j) (F.exact j (omega (arith, size_is))))

  -- in a closed plane the limits of the rules are those that the arrivals give
  limit_is : (t : ℕ) → r.state.now ≡ t * scale_of rows → r.state.plane ≡ none → (j : ℕ) → j < length rows
      → limit_by (short (at j r.state.tasks)) t (came_by (suc j) t r.arrivals) ≡ limit t (at j r.state.tasks)
  limit_is t whole shut j hj =
      rw (G.latest j hj t (omega arith)) (limit_case (short u) t u.last (is_awake u.cond) (G.together.lasts.known j) due' early)
    where
      u : Task
      u = at j r.state.tasks

      S : Shut r.state.scale r.state.now r.state.tasks
      S = (shut_parts r.state G.together shut).shut

      tick_is : r.state.now / r.state.scale ≡ t
      tick_is = tick_of_lem r.state.now r.state.scale t F.scale_pos (whole ∙ ap (λ l. t * l) (sym scale_is))

      due' : Awake (at j r.state.tasks) → t < due (at j r.state.tasks)
      due' w = omega (arith, S.due j w, tick_is)

      early : (a : ℕ) → (at j r.state.tasks).last ≡ some a → t < a + short (at j r.state.tasks) → Awake (at j r.state.tasks)
      early a q lt =
          let here = came_in (suc j) t a r.arrivals (G.latest j hj t (omega arith) ∙ q) in
          let J = (G.jobs (record { task = suc j; tick = a }) here).2 in
          let k : suc j - 1 ≡ j = omega arith in
          let lt' : t < a + shorter (get_or rows (suc j - 1) no_row) = rw (k, ← row_is j) lt in
          let lt'' : suc t ≤ a + shorter (get_or rows (suc j - 1) no_row) = lt' in
          subst (λ i. Awake (at i r.state.tasks)) k (J.awake (omega (arith, mul-le-mul_right (scale_of rows) lt'', pos))).0

  -- the plane in which the next step runs
  next_end : (k : ℕ) × (plane_end rows r.arrivals k * scale_of rows ≤ r.state.now) × (plane_end rows r.arrivals (suc k) ≡ end_in r.state r.state.plane)
  next_end = go r.state.plane refl G.plane
    where
      go : (p : Option ℕ) → r.state.plane ≡ p → ((k : ℕ) × InPlane rows r k p)
          → (k : ℕ) × (plane_end rows r.arrivals k * scale_of rows ≤ r.state.now) × (plane_end rows r.arrivals (suc k) ≡ end_in r.state p)
      go (some e) q K = (K.0, omega (arith, K.1.0), K.1.1)
      go none q K =
          let t = plane_end rows r.arrivals K.0 in
          let tick_is : tick_of r.state ≡ t = tick_of_lem r.state.now r.state.scale t F.scale_pos (sym K.1 ∙ ap (λ l. t * l) (sym scale_is)) in
          let end : end_of t r.state.tasks ≡ earliest (limits_by 1 rows r.arrivals t) =
          end_is t r.state.tasks r.arrivals F.size (λ j hj. limit_is t (sym K.1) q j (omega (arith, size_is))) rows size_is (λ j. sym (row_is j)) in
          (K.0, omega (arith, K.1), end_next rows r.arrivals K.0 ∙ sym end ∙ ap (λ x. end_of x r.state.tasks) (sym tick_is))

  -- no end of a plane lies between the present and what a step may reach, but the next
  reached_by : (k t to : ℕ) → plane_end rows r.arrivals k ≡ t → t * scale_of rows ≤ to → to ≤ end_in r.state r.state.plane * scale_of rows
      → (t * scale_of rows ≤ r.state.now) ⊎ (t ≡ end_in r.state r.state.plane)
  reached_by k t to q h le =
      let N = next_end in
      let b : t ≤ end_in r.state r.state.plane = le_of_mul-le-mul_right (omega arith) pos in
      subst (λ x. (x * scale_of rows ≤ r.state.now) ⊎ (x ≡ end_in r.state r.state.plane)) q
      (no_end_between rows some_row some_q r.arrivals (scale_of rows) r.state.now N.0 k _ pos N.1 N.2 (rw q b))

follows_more : (from now : ℕ) (rs : List Record) (r : Record) → Follows from rs now → r.from ≡ now → r.from < r.to → Follows from (rs ++ (r ∷ [])) (r.to)
follows_more from now [] r F e h = (e ∙ sym F, h, refl)
follows_more from now (x ∷ rs) r F e h = (F.0, F.1, follows_more x.to now rs r F.2 e h)

once_more : (rs : List Record) (r : Record) → Once rs → ((j : ℕ) → times (suc j) r.slots ≤ 1) → Once (rs ++ (r ∷ []))
once_more [] r o h = (h, tt)
once_more (x ∷ rs) r o h = (o.0, once_more rs r o.1 h)

abbrev Has : ℕ → List Row → List Arrival → Record → Type 0
Has L rows xs r = (j : ℕ) → 0 < times (suc j) r.slots → (a : ℕ) × In (record { task = suc j; tick = a }) xs × (a * L ≤ r.from) × (r.to ≤ (a + shorter (get_or rows j no_row)) * L)

working_more : (L : ℕ) (rows : List Row) (xs : List Arrival) (rs : List Record) (r : Record) → Working L rows xs rs → Has L rows xs r → Working L rows xs (rs ++ (r ∷ []))
working_more L rows xs [] r o h = (h, tt)
working_more L rows xs (x ∷ rs) r o h = (o.0, working_more L rows xs rs r o.1 h)

working_arrival : (L : ℕ) (rows : List Row) (y : Arrival) (xs : List Arrival) (rs : List Record) → Working L rows xs rs → Working L rows (y ∷ xs) rs
working_arrival L rows y xs [] o = tt
working_arrival L rows y xs (r ∷ rs) o = ((λ j h. let W = o.0 j h in (W.0, inr W.1, W.2, W.3)), working_arrival L rows y xs rs o.1)

-- A STEP THAT IS NOT REFUSED
-- and what its record reads back as
pub record Steps (r : Run) (h : ℕ) (room : List ℕ) : Type 0 where
  pub state : (step r.state h room).state ≡ (moving r.state h).state
  pub records : (perform r (step_call h room)).records ≡ r.records ++ ((moving r.state h).rec ∷ [])

module _ (rows : List Row) (r : Run) (G : Good rows r) (h : ℕ) (room : List ℕ) (d : step_answer r.state h (length room) ≡ Done) where
  reason : StepReason r.state h (length room) Done
  reason = subst (StepReason r.state h (length room)) d (step_answers r.state h (length room))

  abbrev L : ℕ
  L = scale_of rows

  abbrev e : ℕ
  e = end_in r.state r.state.plane

  abbrev to : ℕ
  to = (moving r.state h).rec.to

  D : Does L r.state e r.records (moving r.state h)
  D = subst (λ l. Does l r.state e r.records (moving r.state h)) (scale_is rows r G)
      (moving_does r.state r.records h G.together G.follows reason.3 reason.2 G.books)

  M : Moves r.state h (moving r.state h)
  M = moving_moves r.state h G.together reason.3

  pub step_is : Steps r h room
  unfolding step perform
  step_is =
      let w = record_read (moving r.state h).rec (drop 48 room) D.written in
      record { state = rw d; records = rw (d, w) }

  abbrev made : Run
  made = record { state = (moving r.state h).state; records = r.records ++ ((moving r.state h).rec ∷ []); arrivals = r.arrivals }

  up_to_end : to ≤ e * L
  up_to_end = elim D.by_end [ inl a ↦ omega (arith, a.0) | inr b ↦ omega (arith, b.0) ]

  -- an instant that was not reached before: the plane's end
  new_end : (t : ℕ) → t ≡ e → t * L ≤ (moving r.state h).state.now → to ≡ t * L
  new_end t q le = omega (arith, up_to_end, M.arrives, ap (λ x. x * L) q)

  job_after : (n a : ℕ) → 0 < n → n ≤ length rows → Job rows r n a → Job rows made n a
  job_after n a low high J = record { awake = awake; exact = exact; whole = whole }
    where
      q : ℕ
      q = shorter (get_or rows (n - 1) no_row)

      u : Task
      u = at (n - 1) r.state.tasks

      Up : Type 0
      Up = Awake (at (n - 1) r.state.tasks) × ((at (n - 1) r.state.tasks).last ≡ some a)

      limit_same : Up → due u ≡ a + q
      limit_same W = let x : short u ≡ q = ap shorter (row_is rows r G (n - 1)) in omega (arith, last_is u W.1)

      kept : (t : ℕ) → t * L ≤ r.state.now → ran n (a * L) (t * L) made.records ≡ ran n (a * L) (t * L) r.records
      kept t le = ran_past n (a * L) (t * L) r.records (moving r.state h).rec (omega (arith, M.from_now))

      ran_as : {n n' f f' t t' : ℕ} (rs : List Record) → n ≡ n' → f ≡ f' → t ≡ t' → ran n f t rs ≡ ran n' f' t' rs
      ran_as rs p q r = rw (p, q, r)

      length_is : {t e b a : ℕ} → t ≡ e → b ≡ a → e - b ≡ t - a
      length_is p q = rw (p, q)

      -- what the job ran up to the plane's end
      served : Up → (t : ℕ) → t ≡ e → to ≡ t * L → ran n (a * L) (t * L) made.records ≡ (at (n - 1) r.state.tasks).share * (t - a)
      served W t te z =
          let i : suc (n - 1) ≡ n = omega arith in
          let x = D.exact (z ∙ ap (λ y. y * L) te) (n - 1) W.0 in
          ran_as made.records (sym i) (ap (λ y. y * L) (sym (last_is u W.1))) (sym z) ∙ x ∙ ap (λ y. (at (n - 1) r.state.tasks).share * y) (length_is te (last_is u W.1))

      awake : (moving r.state h).state.now < (a + q) * L → Awake (at (n - 1) (moving r.state h).state.tasks) × ((at (n - 1) (moving r.state h).state.tasks).last ≡ some a)
      awake lt =
          let W = J.awake (omega (arith, M.from_now, M.later, M.arrives)) in
          (D.stays (n - 1) W.0 (omega (arith, M.arrives, ap (λ x. x * L) (limit_same W))), D.alike.last (n - 1) ∙ W.1)

      exact : (k t : ℕ) → Reached rows made k t → a ≤ t → t ≤ a + q → ran n (a * L) (t * L) made.records * q ≡ (get_or rows (n - 1) no_row).exec * L * (t - a)
      exact k t R ha hq = go (reached_by rows r G k t to R.0 (omega (arith, R.1, M.arrives)) up_to_end)
        where
          go : ((t * L ≤ r.state.now) ⊎ (t ≡ e)) → ran n (a * L) (t * L) made.records * q ≡ (get_or rows (n - 1) no_row).exec * L * (t - a)
          go (inl le) = rw (kept t le) (J.exact k t (R.0, le) ha hq)
          go (inr te) =
              let z = new_end t te R.1 in
              let W = J.awake (omega (arith, D.ahead, mul-le-mul_right L hq, ap (λ x. x * L) te)) in
              rw (served W t te z) (omega (arith, ap (λ y. y * (t - a)) (exact_share rows r G (n - 1) (omega arith))))

      whole : (a + q) * L ≤ (moving r.state h).state.now → (ran n (a * L) ((a + q) * L) made.records ≡ (get_or rows (n - 1) no_row).exec * L) × EndsAt ((a + q) * L) made.records
      whole le = go (dec_le ((a + q) * L) r.state.now)
        where
          go : Dec ((a + q) * L ≤ r.state.now) → (ran n (a * L) ((a + q) * L) made.records ≡ (get_or rows (n - 1) no_row).exec * L) × EndsAt ((a + q) * L) made.records
          go (yes k) = (kept (a + q) k ∙ (J.whole k).0, ends_more ((a + q) * L) r.records (moving r.state h).rec (J.whole k).1)
          go (no k) =
              let W = J.awake (omega arith) in
              let due : e ≤ a + q = omega (arith, D.due (n - 1) W.0, limit_same W) in
              let far : a + q ≤ e = le_of_mul-le-mul_right (omega (arith, up_to_end, M.arrives)) (pos rows r G) in
              let te : a + q ≡ e = omega arith in
              let z = new_end (a + q) te le in
              let len : a + q - a ≡ q = omega arith in
              (served W (a + q) te z ∙ rw len (exact_share rows r G (n - 1) (omega arith)), ends_last ((a + q) * L) r.records (moving r.state h).rec z)

  has_after : Has (scale_of rows) rows r.arrivals (moving r.state h).rec
  has_after j w =
      let aw = D.works j w in
      let u = at j r.state.tasks in
      let a = last_of u in
      let came : a * scale_of rows ≤ r.state.now = omega (arith, awake_came G.together.lasts j aw, ap (λ x. a * x) (scale_is rows r G)) in
      let hj : j < length rows = omega (arith, size_is rows r G, inside (λ (t : Task). if is_awake t.cond then 1 else 0) r.state.tasks j refl (rw aw (omega arith))) in
      let t = suc r.state.now in
      let here = came_in (suc j) t a r.arrivals (G.latest j hj t (far r.state.now (pos rows r G)) ∙ awake_last G.together.lasts j aw) in
      let due : e ≤ a + shorter (get_or rows j no_row) = omega (arith, D.due j aw, ap shorter (row_is rows r G j)) in
      (a, here, omega (arith, came, M.from_now), omega (arith, up_to_end, mul-le-mul_right L due))
    where
      far : (n : ℕ) → 0 < scale_of rows → n ≤ suc n * scale_of rows
      far n p = let p' : 1 ≤ scale_of rows = p in omega (arith, native.Mathlib.Nat.mul-le-mul_left (suc n) p')

  seams_after : (k t : ℕ) → Reached rows made (suc k) t → EndsAt (t * L) made.records
  seams_after k t R = go (reached_by rows r G (suc k) t to R.0 (omega (arith, R.1, M.arrives)) up_to_end)
    where
      go : ((t * L ≤ r.state.now) ⊎ (t ≡ e)) → EndsAt (t * L) made.records
      go (inl le) = ends_more (t * L) r.records (moving r.state h).rec (G.seams k t (R.0, le))
      go (inr te) = ends_last (t * L) r.records (moving r.state h).rec (new_end t te R.1)

  plane_after : (k : ℕ) × InPlane rows made k (moving r.state h).state.plane
  plane_after =
      let N = next_end rows r G in
      elim D.by_end [
        | inl a ↦ (N.0, subst (λ p. InPlane rows made N.0 p) (sym a.1) (omega (arith, N.1, M.from_now, M.later, M.arrives), N.2))
        | inr b ↦ (suc N.0, subst (λ p. InPlane rows made (suc N.0) p) (sym b.1) (ap (λ x. x * L) N.2 ∙ sym b.0 ∙ sym M.arrives))
      ]

  step_good : Good rows (perform r (step_call h room))
  unfolding perform
  step_good =
      let s = r.state in
      let x = moving s h in
      let A = D.alike in
      let good : Good rows made = record {
        together = moving_keeps s h G.together reason.3 reason.2;
        rows_are = rows_same s.tasks x.state.tasks A.size A.row ∙ G.rows_are;
        books = D.books;
        once = once_more r.records x.rec G.once D.once;
        follows = rw M.arrives (follows_more 0 s.now r.records x.rec G.follows M.from_now M.later);
        working = working_more (scale_of rows) rows r.arrivals r.records x.rec G.working has_after;
        latest = λ j hj t le. G.latest j hj t (omega (arith, M.from_now, M.later, M.arrives)) ∙ sym (A.last j);
        plane = plane_after;
        seams = seams_after;
        jobs = λ y i. let J = G.jobs y i in (J.0, J.1, job_after y.task y.tick J.0 J.1 J.2);
      } in
      subst (Good rows) (sym (run_is step_is.state step_is.records)) good
    where
      run_is : {a b : State} {x y : List Record} {xs : List Arrival} → a ≡ b → x ≡ y
          → ◌≡◌ {A = Run} (record { state = a; records = x; arrivals = xs }) (record { state = b; records = y; arrivals = xs })
      run_is p q = rw (p, q)

-- refused, a call changes nothing
pub step_refused : (r : Run) (h : ℕ) (room : List ℕ) → is_done (step_answer r.state h (length room)) ≡ false → perform r (step_call h room) ≡ r
unfolding perform step
step_refused r h room e = rw e

arrive_refused : (r : Run) (task : ℕ) → is_done (arrive_answer r.state task) ≡ false → perform r (arrive_call task) ≡ r
unfolding perform arrive
arrive_refused r task e = rw e

-- AN ARRIVAL THAT IS NOT REFUSED
arrive_books : (s : State) (rs : List Record) (i : ℕ) → Together s → Comes s i → (p : Option ℕ) → s.plane ≡ p → Books s p rs
    → Books (record { m = s.m; scale = s.scale; now = s.now; plane = p; tasks = arrive_in s (tick_of s) i p }) p rs
unfolding arrive_in
arrive_books s rs i H C none q B = wakes_books i s.tasks rs C.known (shut_parts s H q) B
arrive_books s rs i H C (some e) q B =
    let P = open_parts s e H q in
    let sl = comes_asleep s i H C in
    arrives_books i (tick_of s) s.tasks rs C.known P C.whole sl C.late _
    (arrives i (tick_of s) s.tasks C.known P C.whole sl C.late s refl refl refl (lowest_idle s.tasks 1 s.m) (idle_is s.tasks 1 s.m)) B

not_soon : {a b : ℕ} → ¬ (a < b) → b ≤ a
not_soon n = omega arith

pub done_comes : (s : State) (task : ℕ) → ArriveReason s task Done → Comes s (task - 1)
done_comes s task R = record { known = omega (arith, R.1); whole = R.2; late = λ a e. not_soon (λ c. R.3 (a, e, c)) }

-- the latest arrival, with one more at the present
came_now : (n t : ℕ) (x : Arrival) (xs : List Arrival) → x.task ≡ n → x.tick ≤ t → came_by n t (x ∷ xs) ≡ some x.tick
unfolding came_by
came_now n t x xs e le = rw (is_true (eqb x.task n) (eqb_says x.task n) e, is_true (leb x.tick t) (leb_says x.tick t) le) refl

came_other : (n t : ℕ) (x : Arrival) (xs : List Arrival) → x.task ≢ n → came_by n t (x ∷ xs) ≡ came_by n t xs
unfolding came_by
came_other n t x xs e = rw (is_false (eqb x.task n) (eqb_says x.task n) e) refl

module _ (rows : List Row) (r : Run) (G : Good rows r) (task : ℕ) (R : ArriveReason r.state task Done) where
  abbrev tick : ℕ
  tick = tick_of r.state

  abbrev this : Arrival
  this = record { task = task; tick = tick_of r.state }

  abbrev came : Run
  came = record { state = arriving r.state (task - 1); records = r.records; arrivals = this ∷ r.arrivals }

  C : Comes r.state (task - 1)
  C = done_comes r.state task R

  T : Takes (task - 1) (tick_of r.state) r.state.tasks (arriving r.state (task - 1)).tasks
  T = arriving_takes r.state (task - 1) G.together C

  whole_tick : r.state.now ≡ tick_of r.state * scale_of rows
  whole_tick = C.whole ∙ ap (λ l. tick_of r.state * l) (scale_is rows r G)

  same_now : came.state.now ≡ r.state.now
  same_now = unfold arriving in refl

  within : (t : ℕ) → t * scale_of rows ≤ r.state.now → t ≤ tick_of r.state
  within t le = le_of_mul-le-mul_right (omega (arith, whole_tick)) (pos rows r G)

  -- plane ends reached before stay the plane ends
  reached_before : (k t : ℕ) → Reached rows came k t → Reached rows r k t
  reached_before k t W =
      let le : t * scale_of rows ≤ r.state.now = omega (arith, W.1, same_now) in
      (sym (ends_kept rows (some_row rows r G) (some_q rows r G) this r.arrivals k (omega (arith, W.0, within t le))) ∙ W.0, le)

  old_job : (n a : ℕ) → Job rows r n a → Job rows came n a
  old_job n a J = record {
    awake = λ lt. let W = J.awake (omega (arith, lt, same_now)) in awake_still W;
    exact = λ k t W ha hq. J.exact k t (reached_before k t W) ha hq;
    whole = λ le. J.whole (omega (arith, le, same_now));
  }
    where
      awake_still : Awake (at (n - 1) r.state.tasks) × ((at (n - 1) r.state.tasks).last ≡ some a)
          → Awake (at (n - 1) came.state.tasks) × ((at (n - 1) came.state.tasks).last ≡ some a)
      awake_still W =
          let other : n - 1 ≢ task - 1 = λ q. not_both ⊥ (sym (ap is_awake (comes_asleep r.state (task - 1) G.together C)) ∙ subst (λ i. Awake (at i r.state.tasks)) q W.0) in
          let c = T.others (n - 1) other in
          (ap (λ (x : Core). x.awake) c ∙ W.0, ap (λ (x : Core). x.last) c ∙ W.1)

  new_job : Job rows came task tick
  new_job = record {
    awake = λ lt. (T.awake, T.last);
    exact = λ k t W ha hq.
        let e : t ≡ tick_of r.state = omega (arith, within t (omega (arith, W.1, same_now))) in
        let z : tick_of r.state - tick_of r.state ≡ 0 = omega arith in
        rw (e, ran_none task (tick_of r.state * scale_of rows) r.records, z) (omega arith);
    whole = λ le.
        let far = within (tick_of r.state + shorter (get_or rows (task - 1) no_row)) (omega (arith, le, same_now)) in
        absurd (omega (arith, some_q rows r G (task - 1) (omega (arith, C.known, size_is rows r G))));
  }

  latest_now : (j : ℕ) → j < length rows → (t : ℕ) → r.state.now ≤ t * scale_of rows → came_by (suc j) t (this ∷ r.arrivals) ≡ (at j came.state.tasks).last
  latest_now j hj t le = go (ℕ_discrete j (task - 1))
    where
      go : Dec (j ≡ task - 1) → came_by (suc j) t (this ∷ r.arrivals) ≡ (at j came.state.tasks).last
      go (yes q) =
          came_now (suc j) t this r.arrivals (omega (arith, R.1, q)) (le_of_mul-le-mul_right (omega (arith, whole_tick)) (pos rows r G))
          ∙ sym (subst (λ i. (at i came.state.tasks).last ≡ some (tick_of r.state)) (sym q) T.last)
      go (no n) =
          let c = T.others j n in
          came_other (suc j) t this r.arrivals (λ q. n (omega arith)) ∙ G.latest j hj t le
          ∙ sym (ap (λ (x : Core). x.last) c)

  plane_now : (k : ℕ) × InPlane rows came k r.state.plane
  plane_now = go r.state.plane G.plane
    where
      go : (p : Option ℕ) → ((k : ℕ) × InPlane rows r k p) → (k : ℕ) × InPlane rows came k p
      go none K =
          let e = ends_kept_from rows (some_row rows r G) (some_q rows r G) this r.arrivals K.0 (within _ (omega (arith, K.1))) in
          (K.0, ap (λ x. x * scale_of rows) e ∙ K.1 ∙ sym same_now)
      go (some e) K =
          let p = plane_end rows r.arrivals K.0 in
          let before : p < tick_of r.state = lt_of_mul-lt-mul_right (scale_of rows) (omega (arith, K.1.0, whole_tick)) in
          let k = ends_kept_from rows (some_row rows r G) (some_q rows r G) this r.arrivals K.0 (omega arith) in
          (K.0, (omega (arith, ap (λ x. x * scale_of rows) k, K.1.0, same_now), end_kept rows (some_row rows r G) (some_q rows r G) this r.arrivals K.0 k before ∙ K.1.1))

  came_good : Good rows came
  came_good = record {
    together = arriving_keeps r.state (task - 1) G.together C;
    rows_are = rows_same r.state.tasks came.state.tasks T.size T.row ∙ G.rows_are;
    books = unfold arriving in (arrive_books r.state r.records (task - 1) G.together C r.state.plane refl G.books);
    once = G.once;
    follows = unfold arriving in G.follows;
    working = working_arrival (scale_of rows) rows this r.arrivals r.records G.working;
    latest = λ j hj t le. latest_now j hj t (omega (arith, le, same_now));
    plane = unfold arriving in plane_now;
    seams = λ k t W. G.seams k t (reached_before (suc k) t W);
    jobs = λ x i. elim i [ inl e ↦ subst (Jobs rows came) (sym e) new_all | inr o ↦ let J = G.jobs x o in (J.0, J.1, old_job x.task x.tick J.2) ];
  }
    where
      new_all : Jobs rows came this
      new_all = (omega (arith, R.1), omega (arith, R.1, size_is rows r G), new_job)

arrive_good : (rows : List Row) (r : Run) → Good rows r → (task : ℕ) → arrive_answer r.state task ≡ Done → Good rows (perform r (arrive_call task))
unfolding perform arrive
arrive_good rows r G task d = rw d (came_good rows r G task (subst (ArriveReason r.state task) d (arrive_answers r.state task)))

-- done, or refused
pub by_answer : (P : Type 0) (a : Answer) → (a ≡ Done → P) → (is_done a ≡ false → P) → P
by_answer P Done f g = f refl
by_answer P (Err r) f g = g refl

-- the answer 0
pub done_is : (a : Answer) → is_done a ≡ true → a ≡ Done
done_is a d = by_answer _ a (λ e. e) (λ f. not_both _ (sym f ∙ d))

pub perform_good : (rows : List Row) (r : Run) (c : Call) → Good rows r → Good rows (perform r c)
perform_good rows r (arrive_call task) G =
    by_answer _ (arrive_answer r.state task) (λ d. arrive_good rows r G task d) (λ e. subst (Good rows) (sym (arrive_refused r task e)) G)
perform_good rows r (step_call h room) G =
    by_answer _ (step_answer r.state h (length room)) (λ d. step_good rows r G h room d) (λ e. subst (Good rows) (sym (step_refused r h room e)) G)

pub run_good : (rows : List Row) (cs : List Call) (r : Run) → Good rows r → Good rows (perform_all r cs)
unfolding perform_all
run_good rows [] r G = G
run_good rows (c ∷ cs) r G = run_good rows cs (perform r c) (perform_good rows r c G)

pub all_split : {A B : Type 0} (f : A → B → A) (r : A) (cs ds : List B) → foldl f r (cs ++ ds) ≡ foldl f (foldl f r cs) ds
all_split f r [] ds = refl
all_split f r (c ∷ cs) ds = all_split f (f r c) cs ds

-- an arrival once taken stays among the arrivals
pub still_in : (x : Arrival) (r : Run) (c : Call) → In x r.arrivals → In x (perform r c).arrivals
unfolding perform
still_in x r (step_call h room) i = i
still_in x r (arrive_call task) i = go (is_done (arrive r.state task).answer)
  where
    go : (b : Bool) → In x (if b then record { task = task; tick = tick_of r.state } ∷ r.arrivals else r.arrivals)
    go true = inr i
    go false = i

pub all_in : (x : Arrival) (cs : List Call) (r : Run) → In x r.arrivals → In x (perform_all r cs).arrivals
unfolding perform_all
all_in x [] r i = i
all_in x (c ∷ cs) r i = all_in x cs (perform r c) (still_in x r c i)
