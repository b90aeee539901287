-- What a step does for the jobs that are awake in its plane
use mathlib.Core.Path.{◌≡◌, refl, sym, ◌∙◌, ap, subst}
use mathlib.Core.Bool.{Bool, true, false}
use mathlib.Core.Option.{Option, none, some}
use mathlib.Core.Logic.{◌⊎◌, inl, inr}
use mathlib.Core.List.{List, [], ◌∷◌, ◌++◌, map}
use Prim.Native.Nat.{ℕ, zero, suc, ◌+◌, ◌*◌, ◌-◌, ◌≤◌, ◌<◌, ◌^◌}
use native.Mathlib.Nat.{mul-le-mul_right}
use native.Mathlib.Decide.{dec_lt}
use native.Mathlib.Omega.{arith}
use lib.Dec.{eqb, lit<}
use lib.ListN.{length, get_or, replicate, length-append, length-map, length-replicate, get_or-append}
use lib.Seq.{get_or-append-add}
use Rattle.ground.specs.Sums.{up_from, times}
use Rattle.ground.specs.Tests.{Says}
use Rattle.ground.proofs.Tests.{eqb_says, if_by}
use Rattle.ground.proofs.Times.{up_length}
use Rattle.rules.specs.Bounds.{clock, most_scale}
use Rattle.rules.specs.Calls.{Moved, after, moving}
use Rattle.rules.specs.History.{ran, Follows}
use Rattle.rules.specs.Events.{spend, next_at}
use Rattle.rules.specs.Planes.{end_of, open_tasks, opened}
use Rattle.rules.specs.Record.{Record, on_proc, slots_of}
use Rattle.rules.specs.State.{resting, waiting, Cond, asleep, running, Task, State, at, is_awake, be, proc, tick_of, due, last_of}
use Rattle.rules.proofs.Together.{Awake, Together}
use Rattle.rules.proofs.Cases.{runs_of, open_at, open_case, move_in}
use Rattle.rules.proofs.Books.{RunningBooks, Books, opens_books, runs_on_books, ends_exact, closes_books}
use Rattle.rules.proofs.Events.{Core}
use Rattle.rules.proofs.Calls.{open_parts, shut_parts, next_is}
use Rattle.rules.proofs.Keeping.{Alike, alike_trans, Running, running_stands, runs_on, closes_alike, close_stays, at_closed, opens_plane}
use Rattle.rules.proofs.Reading.{Written}
use Rattle.rules.proofs.Slots.{slots_ok}
use Rattle.rules.proofs.Time.{Next, still_awake}

-- BYTES: a record of a state that holds together fits its 48 bytes
on_most : (p i : ℕ) (l : List Task) → on_proc p i l ≤ i + length l
unfolding on_proc
on_most p i [] = omega arith
on_most p i (t ∷ l) = if_by {A = ℕ} (λ x. x ≤ i + length (t ∷ l)) (eqb (proc t) p) {x = i} {y = on_proc p (suc i) l} (eqb_says (proc t) p) (λ _. omega arith) (λ _. omega (arith, on_most p (suc i) l))

slot_most : (m : ℕ) (l : List Task) → length l ≤ 128 → m ≤ 16 → (length (slots_of m l) ≡ 16) × ((i : ℕ) → i < length (slots_of m l) → get_or (slots_of m l) i 0 < 256 ^ 2)
unfolding slots_of
slot_most m l h hm =
    (whole, λ i hi. by i (dec_lt i m))
  where
    first : List ℕ
    first = map (λ p. on_proc p 1 l) (up_from 1 m)

    n : length (map (λ p. on_proc p 1 l) (up_from 1 m)) ≡ m
    n = length-map (up_from 1 m) (λ p. on_proc p 1 l) ∙ up_length 1 m

    whole : length (map (λ p. on_proc p 1 l) (up_from 1 m) ++ replicate (16 - m) 0) ≡ 16
    whole = length-append first (replicate (16 - m) 0) ∙ (let r : length (replicate {A = ℕ} (16 - m) 0) ≡ 16 - m = length-replicate (16 - m) 0 in omega (arith, n, r))

    small : (x : ℕ) → x ≤ 129 → x < 256 ^ 2
    small x q = let b : 129 < 256 ^ 2 = lit< tt in omega arith

    by : (i : ℕ) → Dec (i < m) → get_or (map (λ p. on_proc p 1 l) (up_from 1 m) ++ replicate (16 - m) 0) i 0 < 256 ^ 2
    by i (yes q) =
        let a : get_or (first ++ replicate (16 - m) 0) i 0 ≡ get_or first i 0 = get_or-append first (replicate (16 - m) 0) 0 i (omega (arith, n)) in
        small _ (rw a (mapped (up_from 1 m) i))
      where
        mapped : (ps : List ℕ) (i : ℕ) → get_or (map (λ p. on_proc p 1 l) ps) i 0 ≤ 129
        mapped [] i = omega arith
        mapped (p ∷ ps) zero = omega (arith, on_most p 1 l)
        mapped (p ∷ ps) (suc i) = mapped ps i
    by i (no q) =
        let e : i ≡ length first + (i - m) = omega (arith, n) in
        small _ (rw (e, get_or-append-add first (replicate (16 - m) 0) (i - m) 0) (zeros (16 - m) (i - m)))
      where
        zeros : (k i : ℕ) → get_or (replicate {A = ℕ} k 0) i 0 ≤ 129
        zeros zero i = omega arith
        zeros (suc k) zero = omega arith
        zeros (suc k) (suc i) = zeros k i

fits_clock : (now scale : ℕ) → now ≤ clock * scale → scale ≤ most_scale → now < 256 ^ 8
fits_clock now scale h k =
    let b : clock * most_scale < 256 ^ 8 = lit< tt in
    let c : clock * scale ≤ clock * most_scale = native.Mathlib.Nat.mul-le-mul_left clock k in
    omega arith

-- A STEP
-- the end of the plane in which a step runs: of the open one, or of the one that it opens
abbrev pub end_in : State → Option ℕ → ℕ
end_in s none = end_of (tick_of s) s.tasks
end_in s (some e) = e

-- what a step that is not refused does for the jobs, in a plane that ends at the tick e; L is the scale
pub record Does (L : ℕ) (s : State) (e : ℕ) (rs : List Record) (x : Moved) : Type 0 where
  pub written : Written x.rec
  pub once : (j : ℕ) → times (suc j) x.rec.slots ≤ 1
  -- who is in a slot is awake
  pub works : (j : ℕ) → 0 < times (suc j) x.rec.slots → Awake (at j s.tasks)
  pub books : Books x.state x.state.plane (rs ++ (x.rec ∷ []))
  pub alike : Alike s.tasks x.state.tasks
  pub ahead : s.now < e * L
  -- it stays in the plane, or closes it at its end
  pub by_end : ((x.rec.to < e * L) × (x.state.plane ≡ some e)) ⊎ ((x.rec.to ≡ e * L) × (x.state.plane ≡ none))
  pub stays : (j : ℕ) → Awake (at j s.tasks) → x.rec.to < due (at j s.tasks) * L → Awake (at j x.state.tasks)
  pub due : (j : ℕ) → Awake (at j s.tasks) → e ≤ due (at j s.tasks)
  pub exact : x.rec.to ≡ e * L → (j : ℕ) → Awake (at j s.tasks)
      → ran (suc j) (last_of (at j s.tasks) * L) x.rec.to (rs ++ (x.rec ∷ [])) ≡ (at j s.tasks).share * (e - last_of (at j s.tasks))

-- IN AN OPEN PLANE
module _ (s : State) (rs : List Record) (h e : ℕ) (P : Running s.m s.scale s.now e s.tasks) (B : RunningBooks s.scale s.now e s.tasks rs) (f : Follows 0 rs s.now) (lt : s.now < h * s.scale) where
  abbrev to : ℕ
  to = next_at (e * s.scale) s.now s.tasks (h * s.scale)

  N : Next (e * s.scale) s.now (h * s.scale) (e * s.scale - s.now) (next_at (e * s.scale) s.now s.tasks (h * s.scale)) s.tasks
  N = next_is s.tasks (h * s.scale) P lt

  abbrev this : Record
  this = record { from = s.now; to = to; slots = slots_of s.m s.tasks }

  after_books : (b : Bool) → Says (to ≡ e * s.scale) b → Books (after s e to b) (after s e to b).plane (rs ++ (this ∷ []))
  unfolding after
  after_books true q = rw q (rw q at (closes_books s.tasks rs P B f to N.moves N.room q))
  after_books false q = runs_on_books s.tasks rs P B f to N.moves N.room (omega (arith, N.by_end))

  after_alike : (b : Bool) → Says (to ≡ e * s.scale) b → Alike s.tasks (after s e to b).tasks
  unfolding after
  after_alike true q = closes_alike (to - s.now) e s.tasks
  after_alike false q = (runs_on s.tasks P to N.moves N.room (omega (arith, N.by_end))).alike

  after_by_end : (b : Bool) → Says (to ≡ e * s.scale) b → ((to < e * s.scale) × ((after s e to b).plane ≡ some e)) ⊎ ((to ≡ e * s.scale) × ((after s e to b).plane ≡ none))
  unfolding after
  after_by_end true q = inr (q, refl)
  after_by_end false q = inl (omega (arith, N.by_end), refl)

  after_stays : (b : Bool) → Says (to ≡ e * s.scale) b → (j : ℕ) → Awake (at j s.tasks) → to < (due (at j s.tasks)) * s.scale → Awake (at j (after s e to b).tasks)
  unfolding after
  after_stays true q j w early = rw (at_closed (to - s.now) e j s.tasks) (close_stays e (be (spend (to - s.now) (at j s.tasks).cond) (at j s.tasks))
      (still_awake (to - s.now) (at j s.tasks).cond ∙ w) (λ z. let y : to ≡ (due (at j s.tasks)) * s.scale = q ∙ ap (λ x. x * s.scale) (sym z) in omega arith))
  after_stays false q j w early = ap (λ (c : Core). c.awake) ((runs_on s.tasks P to N.moves N.room (omega (arith, N.by_end))).same j) ∙ still_awake (to - s.now) (at j s.tasks).cond ∙ w

  once_this : (j : ℕ) → times (suc j) (slots_of s.m s.tasks) ≤ 1
  once_this j = rw (slots_ok s.tasks (running_stands s.tasks P).fits j) (run_one (at j s.tasks).cond)
    where
      run_one : (c : Cond) → runs_of c ≤ 1
      run_one asleep = omega arith
      run_one resting = omega arith
      run_one (running p a) = omega arith
      run_one (waiting a) = omega arith

  works_this : (j : ℕ) → 0 < times (suc j) (slots_of s.m s.tasks) → Awake (at j s.tasks)
  works_this j h = run_awake (at j s.tasks).cond (omega (arith, h, slots_ok s.tasks (running_stands s.tasks P).fits j))
    where
      run_awake : (c : Cond) → 0 < runs_of c → is_awake c ≡ true
      run_awake asleep h = absurd (omega arith)
      run_awake resting h = refl
      run_awake (running p a) h = refl
      run_awake (waiting a) h = refl

  written_this : h ≤ clock → Written (record { from = s.now; to = next_at (e * s.scale) s.now s.tasks (h * s.scale); slots = slots_of s.m s.tasks })
  written_this hc =
      let c : to ≤ clock * s.scale = omega (arith, N.by_stop, mul-le-mul_right s.scale hc) in
      let sl = slot_most s.m s.tasks P.table.size.1 P.table.processors.1 in
      record {
        from = fits_clock s.now s.scale (omega (arith, N.moves)) P.table.scale_most;
        to = fits_clock to s.scale c P.table.scale_most;
        sixteen = sl.0;
        each = sl.1;
      }

  move_does : h ≤ clock → Does s.scale s e rs (move_in s (some e) h)
  move_does hc =
      let b = eqb to (e * s.scale) in
      let says = eqb_says to (e * s.scale) in
      record {
        written = written_this hc;
        once = once_this;
        works = works_this;
        books = after_books b says;
        alike = after_alike b says;
        ahead = P.going.later;
        by_end = after_by_end b says;
        due = P.going.due;
        stays = after_stays b says;
        exact = λ q j w. ends_exact s.tasks rs P B f to N.moves N.room q j w;
      }

-- OR IN A NEW ONE
case_does : (s : State) (rs : List Record) (h : ℕ) → Together s → Follows 0 rs s.now → s.now < h * s.scale → h ≤ clock → (p : Option ℕ) → s.plane ≡ p → Books s p rs
    → Does s.scale s (end_in s p) rs (move_in (open_case s p) (open_case s p).plane h)
case_does s rs h H f lt hc none q B =
    let R = shut_parts s H q in
    let O = opens_plane s.tasks R in
    let A = O.alike in
    let D = move_does (open_at s (tick_of s) (end_of (tick_of s) s.tasks)) rs h (end_of (tick_of s) s.tasks) O.running (opens_books s.tasks rs R B) f lt hc in
    let up : (j : ℕ) → Awake (at j s.tasks) → Awake (at j (open_tasks s.m (end_of (tick_of s) s.tasks - tick_of s) s.tasks)) = λ j w. O.awake j ∙ w in
    record {
      written = D.written;
      once = D.once;
      works = λ j h. sym (O.awake j) ∙ D.works j h;
      books = D.books;
      alike = alike_trans A D.alike;
      ahead = D.ahead;
      by_end = D.by_end;
      due = λ j w. rw (← A.last j, ← A.row j) (D.due j (up j w));
      stays = λ j w early. D.stays j (up j w) (rw (A.last j, A.row j) early);
      exact = λ z j w. rw (← A.last j, ← A.share j) (D.exact z j (up j w));
    }
case_does s rs h H f lt hc (some e) q B =
    subst (λ p. Does s.scale s e rs (move_in s p h)) (sym q) (move_does s rs h e (open_parts s e H q) B f lt hc)

pub moving_does : (s : State) (rs : List Record) (h : ℕ) → Together s → Follows 0 rs s.now → s.now < h * s.scale → h ≤ clock → Books s s.plane rs → Does s.scale s (end_in s s.plane) rs (moving s h)
unfolding moving opened
moving_does s rs h H f lt hc B = case_does s rs h H f lt hc s.plane refl B
