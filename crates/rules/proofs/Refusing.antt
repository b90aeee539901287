-- Each call gives each answer exactly when document 01 says so
use Rattle.std.specs.Prelude.{if◌then◌else◌}
use mathlib.Core.Path.{◌≡◌, refl, ◌∙◌, ap}
use mathlib.Core.Bool.{Bool, true, false, not}
use mathlib.Core.List.{List, [], ◌∷◌}
use Prim.Native.Nat.{ℕ, zero, suc, ◌+◌, ◌*◌, ◌-◌, ◌%◌, ◌≤◌, ◌<◌}
use native.Mathlib.Nat.{div-add-mod'}
use native.Mathlib.Omega.{arith}
use lib.Dec.{leb, ltb, eqb}
use lib.ListN.{length, get_or}
use Rattle.rules.specs.Bounds.{clock, most_scale}
use Rattle.rules.specs.Answers.{Answer, Done, Processors, TableLength, RowRange, RowExecution, Scale, Shares, TaskNumber, BetweenTicks, TooSoon, HorizonPastClock, HorizonNotLater, RoomTooShort, NotTogether, is_done}
use Rattle.ground.specs.Sums.{sum_of}
use Rattle.ground.specs.Tests.{Says}
use Rattle.ground.proofs.Tests.{leb_says, ltb_says, eqb_says, and_says, says_as, is_true, is_false}
use Rattle.rules.specs.Admission.{processors_ok, length_ok, fault_of, Verdict, plain, fault_from, size_verdict, or_else, rows_verdict, admit_verdict}
use Rattle.rules.specs.Calls.{task_known, too_soon, arrive_answer, step_answer}
use Rattle.rules.specs.Holds.{holds}
use Rattle.rules.specs.Reasons.{ProcessorsOk, LengthOk, RowInRange, RowOk, RowsOk, AdmitReason, TaskKnown, OnTick, Soon, ArriveReason, StepReason}
use Rattle.rules.specs.Scale.{scale_of, share_of, fits}
use Rattle.rules.specs.State.{Task, State, no_row, at, period, tick_of, on_tick}
use Rattle.rules.specs.Table.{Row, rows_of, shorter, row_in_range}
use Rattle.rules.proofs.Admitting.{row_says}
use Rattle.rules.proofs.Holding.{processors_says}
use Rattle.rules.proofs.Lasts.{never}
use mathlib.Core.Option.{Option, none, some, some-injective}

-- ARRIVE
known_says : (s : State) (task : ℕ) → Says (TaskKnown s task) (task_known s task)
known_says s task = and_says (1 ≤ task) (task ≤ length s.tasks) (leb 1 task) (leb task (length s.tasks)) (leb_says 1 task) (leb_says task (length s.tasks))

on_tick_says : (s : State) → Says (OnTick s) (on_tick s)
on_tick_says s = says_as (on_tick s) (λ h. omega (arith, div-add-mod' s.now s.scale)) (λ h. omega (arith, div-add-mod' s.now s.scale)) (eqb_says (s.now % s.scale) 0)

soon_says : (s : State) (t : Task) → Says (Soon s t) (too_soon (tick_of s) t)
soon_says s t = go t.last
  where
    go : (o : Option ℕ) → Says ((a : ℕ) × (o ≡ some a) × (tick_of s < a + period t)) (elim o [ none ↦ false | some a ↦ ltb (tick_of s) (a + period t) ])
    go (some b) =
        says_as (ltb (tick_of s) (b + period t)) (λ h. (b, refl, h)) (λ h. let z = some-injective b h.0 h.1 in omega (arith, h.2)) (ltb_says (tick_of s) (b + period t))
    go none = λ h. never h.1

pub arrive_answers : (s : State) (task : ℕ) → ArriveReason s task (arrive_answer s task)
unfolding arrive_answer
arrive_answers s task =
    let t = at (task - 1) s.tasks in
    go (holds s) refl (task_known s task) (known_says s task) (on_tick s) (on_tick_says s) (too_soon (tick_of s) t) (soon_says s t)
  where
    go : (a : Bool) → holds s ≡ a → (b : Bool) → Says (TaskKnown s task) b → (c : Bool) → Says (OnTick s) c → (d : Bool) → Says (Soon s (at (task - 1) s.tasks)) d
        → ArriveReason s task (if not a then NotTogether else (if not b then TaskNumber else (if not c then BetweenTicks else (if d then TooSoon else Done))))
    go false p b q c r d u = p
    go true p false q c r d u = (p, q)
    go true p true q false r d u = (p, q, r)
    go true p true q true r true u = (p, q, r, u)
    go true p true q true r false u = (p, q, r, u)

-- STEP
pub step_answers : (s : State) (horizon room : ℕ) → StepReason s horizon room (step_answer s horizon room)
unfolding step_answer
step_answers s h n =
    go (holds s) refl (ltb n 48) (ltb_says n 48) (ltb clock h) (ltb_says clock h) (leb (h * s.scale) s.now) (leb_says (h * s.scale) s.now)
  where
    go : (a : Bool) → holds s ≡ a → (b : Bool) → Says (n < 48) b → (c : Bool) → Says (clock < h) c → (d : Bool) → Says (h * s.scale ≤ s.now) d
        → StepReason s h n (if not a then NotTogether else (if b then RoomTooShort else (if c then HorizonPastClock else (if d then HorizonNotLater else Done))))
    go false p b q c r d u = p
    go true p true q c r d u = (p, q)
    go true p false q true r d u = (p, omega arith, r)
    go true p false q false r true u = (p, omega arith, omega arith, u)
    go true p false q false r false u = (p, omega arith, omega arith, omega arith)

-- ADMIT
-- what is the matter with a row
abbrev RowFault : Row → Answer → Type 0
RowFault r Done = RowOk r
RowFault r RowRange = ¬ RowInRange r
RowFault r RowExecution = RowInRange r × (shorter r < r.exec)
RowFault r other = ⊥

row_answers : (r : Row) → RowFault r (fault_of r)
row_answers r = go (row_in_range r) (row_says r) (ltb (shorter r) r.exec) (ltb_says (shorter r) r.exec)
  where
    go : (a : Bool) → Says (RowInRange r) a → (b : Bool) → Says (shorter r < r.exec) b → RowFault r (if not a then RowRange else (if b then RowExecution else Done))
    go true p true q = (p, q)
    go true p false q = (p, omega arith)
    go false p b q = p

-- what the search for the first faulty row found among the rows from number n + 1 on
abbrev Fault : ℕ → List Row → Answer → ℕ → Type 0
Fault n rs RowRange i = (n < i) × (i ≤ n + length rs) × ((j : ℕ) → n + j + 1 < i → RowOk (get_or rs j no_row)) × ¬ RowInRange (get_or rs (i - n - 1) no_row)
Fault n rs RowExecution i =
    (n < i) × (i ≤ n + length rs) × ((j : ℕ) → n + j + 1 < i → RowOk (get_or rs j no_row)) × RowInRange (get_or rs (i - n - 1) no_row)
    × (shorter (get_or rs (i - n - 1) no_row) < (get_or rs (i - n - 1) no_row).exec)
Fault n rs Done i = (i ≡ 0) × RowsOk rs
Fault n rs other i = ⊥

-- a row in order in front
fault_later : (n : ℕ) (r : Row) (rs : List Row) → RowOk r → (a : Answer) (i : ℕ) → Fault (suc n) rs a i → Fault n (r ∷ rs) a i
fault_later n r rs ok a i f = by a f
  where
    before : ((j : ℕ) → suc n + j + 1 < i → RowOk (get_or rs j no_row)) → (j : ℕ) → n + j + 1 < i → RowOk (get_or (r ∷ rs) j no_row)
    before h zero q = ok
    before h (suc j) q = h j (omega arith)

    there : suc n < i → get_or (r ∷ rs) (i - n - 1) no_row ≡ get_or rs (i - suc n - 1) no_row
    there h = let e : i - n - 1 ≡ suc (i - suc n - 1) = omega arith in rw e

    by : (a : Answer) → Fault (suc n) rs a i → Fault n (r ∷ rs) a i
    by RowRange f = (omega (arith, f.0), omega (arith, f.1), before f.2, rw (there f.0) f.3)
    by RowExecution f = (omega (arith, f.0), omega (arith, f.1), before f.2, rw (there f.0) f.3, rw (there f.0) f.4)
    by Done f = (f.0, elim [ zero ↦ λ _. ok | suc j ↦ λ h. f.1 j (omega arith) ])
    by other f = f

-- the verdict on the rows from number n on, if the first has the fault a
abbrev found_by : Bool → ℕ → List Row → Answer → Verdict
found_by done n rs a = elim done [ true ↦ fault_from (suc n) rs | false ↦ record { answer = a; row = n } ]

abbrev found : ℕ → List Row → Answer → Verdict
found n rs a = found_by (is_done a) n rs a

faults_answers : (n : ℕ) (rs : List Row) → Fault n rs (fault_from (suc n) rs).answer (fault_from (suc n) rs).row
unfolding fault_from
faults_answers n [] = (refl, λ j h. absurd (omega arith))
faults_answers n (r ∷ rs) = go (fault_of r) (row_answers r) (faults_answers (suc n) rs)
  where
    here : get_or (r ∷ rs) (suc n - n - 1) no_row ≡ r
    here = let e : suc n - n - 1 ≡ 0 = omega arith in rw e

    go : (a : Answer) → RowFault r a → Fault (suc n) rs (fault_from (suc (suc n)) rs).answer (fault_from (suc (suc n)) rs).row
        → Fault n (r ∷ rs) (found (suc n) rs a).answer (found (suc n) rs a).row
    go Done p ih = fault_later n r rs p (fault_from (suc (suc n)) rs).answer (fault_from (suc (suc n)) rs).row ih
    go RowRange p ih = (omega arith, omega arith, (λ j h. absurd (omega arith)), rw here p)
    go RowExecution p ih = (omega arith, omega arith, (λ j h. absurd (omega arith)), rw here p.0, rw here p.1)
    go other p ih = absurd p

length_says : (n : ℕ) → Says (LengthOk n) (length_ok n)
length_says n =
    says_as (length_ok n) (λ h. (h.0, h.1.0, h.1.1)) (λ h. (h.0, (h.1, h.2)))
    (and_says _ _ (leb 1 n) _ (leb_says 1 n) (and_says _ _ (leb n 1536) (eqb (n % 12) 0) (leb_says n 1536) (eqb_says (n % 12) 0)))

pub admit_answers : (bytes : List ℕ) (m : ℕ) → AdmitReason bytes m (admit_verdict bytes m).answer (admit_verdict bytes m).row
unfolding admit_verdict rows_verdict
admit_answers bytes m = go (processors_ok m) (processors_says m) (length_ok (length bytes)) (length_says (length bytes))
  where
    rs : List Row
    rs = rows_of bytes

    size : ProcessorsOk m → LengthOk (length bytes) → RowsOk (rows_of bytes) → AdmitReason bytes m (size_verdict m (rows_of bytes)).answer (size_verdict m (rows_of bytes)).row
    size p q r = unfold size_verdict fits in (by (ltb most_scale (scale_of rs)) (ltb_says most_scale (scale_of rs)) (leb (sum_of (share_of (scale_of rs)) rs) (m * scale_of rs)) (leb_says (sum_of (share_of (scale_of rs)) rs) (m * scale_of rs)))
      where
        by : (a : Bool) → Says (most_scale < scale_of (rows_of bytes)) a → (b : Bool) → Says (sum_of (share_of (scale_of (rows_of bytes))) (rows_of bytes) ≤ m * scale_of (rows_of bytes)) b
            → AdmitReason bytes m (if a then plain Scale else (if b then plain Done else plain Shares)).answer (if a then plain Scale else (if b then plain Done else plain Shares)).row
        by true u b v = (refl, p, q, r, u)
        by false u true v = (refl, p, q, r, omega arith, v)
        by false u false v = (refl, p, q, r, omega arith, omega arith)

    rows : ProcessorsOk m → LengthOk (length bytes) → (a : Answer) (i : ℕ) → Fault 0 (rows_of bytes) a i
        → AdmitReason bytes m (if is_done a then size_verdict m (rows_of bytes) else record { answer = a; row = i }).answer (if is_done a then size_verdict m (rows_of bytes) else record { answer = a; row = i }).row
    rows p q Done i f = size p q f.1
    rows p q RowRange i f =
        let e : i - 0 - 1 ≡ i - 1 = omega arith in
        (f.0, omega (arith, f.1), p, q, (λ j h. f.2 j (omega arith)), rw e at f.3)
    rows p q RowExecution i f =
        let e : i - 0 - 1 ≡ i - 1 = omega arith in
        (f.0, omega (arith, f.1), p, q, (λ j h. f.2 j (omega arith)), rw e at f.3, rw e at f.4)
    rows p q other i f = absurd f

    go : (a : Bool) → Says (ProcessorsOk m) a → (b : Bool) → Says (LengthOk (length bytes)) b
        → AdmitReason bytes m (if a then (if b then or_else (fault_from 1 (rows_of bytes)) (size_verdict m (rows_of bytes)) else plain TableLength) else plain Processors).answer
        (if a then (if b then or_else (fault_from 1 (rows_of bytes)) (size_verdict m (rows_of bytes)) else plain TableLength) else plain Processors).row
    go false p b q = (refl, p)
    go true p false q = (refl, p, q)
    go true p true q = rows p q (fault_from 1 (rows_of bytes)).answer (fault_from 1 (rows_of bytes)).row (faults_answers 0 (rows_of bytes))

-- THE OTHER WAY ROUND: where the reason holds, the answer is given
row_ok : (r : Row) → RowOk r → fault_of r ≡ Done
row_ok r h = rw (is_true (row_in_range r) (row_says r) h.0, is_false (ltb (shorter r) r.exec) (ltb_says (shorter r) r.exec) (λ q. omega (arith, h.1)))

row_out : (r : Row) → ¬ RowInRange r → fault_of r ≡ RowRange
row_out r h = rw (is_false (row_in_range r) (row_says r) h)

row_over : (r : Row) → RowInRange r → shorter r < r.exec → fault_of r ≡ RowExecution
row_over r h q = rw (is_true (row_in_range r) (row_says r) h, is_true (ltb (shorter r) r.exec) (ltb_says (shorter r) r.exec) q)

fault_turn : (n : ℕ) (r : Row) (rs : List Row) (a : Answer) → fault_of r ≡ a → fault_from n (r ∷ rs) ≡ found n rs a
unfolding fault_from
fault_turn n r rs a e = ap (found n rs) e

-- the first faulty row is found: the rows before the place k are in order, and the one there has the fault a
first_fault : (n : ℕ) (rs : List Row) (k : ℕ) (a : Answer) → k < length rs → ((j : ℕ) → j < k → RowOk (get_or rs j no_row)) → fault_of (get_or rs k no_row) ≡ a → is_done a ≡ false
    → fault_from n rs ≡ record { answer = a; row = n + k }
first_fault n [] k a hk ok e d = absurd (omega arith)
first_fault n (r ∷ rs) zero a hk ok e d = let z : n + 0 ≡ n = omega arith in fault_turn n r rs a e ∙ ap (λ b. found_by b n rs a) d ∙ rw z
first_fault n (r ∷ rs) (suc k) a hk ok e d =
    let z : n + suc k ≡ suc n + k = omega arith in
    fault_turn n r rs Done (row_ok r (ok 0 (omega arith))) ∙ rw z (first_fault (suc n) rs k a (omega arith) (λ j h. ok (suc j) (omega arith)) e d)

no_fault : (n : ℕ) (rs : List Row) → RowsOk rs → fault_from n rs ≡ plain Done
no_fault n [] h = unfold fault_from in refl
no_fault n (r ∷ rs) h = fault_turn n r rs Done (row_ok r (h 0 (omega arith))) ∙ no_fault (suc n) rs (λ j hj. h (suc j) (omega arith))

pub admit_exact : (bytes : List ℕ) (m : ℕ) (a : Answer) (i : ℕ) → AdmitReason bytes m a i → admit_verdict bytes m ≡ record { answer = a; row = i }
unfolding admit_verdict rows_verdict size_verdict fits
admit_exact bytes m Processors i h = rw (is_false (processors_ok m) (processors_says m) h.1, h.0)
admit_exact bytes m TableLength i h =
    rw (is_true (processors_ok m) (processors_says m) h.1, is_false (length_ok (length bytes)) (length_says (length bytes)) h.2, h.0)
admit_exact bytes m RowRange i h =
    let e : 1 + (i - 1) ≡ i = omega (arith, h.0) in
    let f = first_fault 1 (rows_of bytes) (i - 1) RowRange (omega (arith, h.0, h.1)) (λ j hj. h.4 j (omega arith)) (row_out _ h.5) refl in
    rw (is_true (processors_ok m) (processors_says m) h.2, is_true (length_ok (length bytes)) (length_says (length bytes)) h.3, f, e)
admit_exact bytes m RowExecution i h =
    let e : 1 + (i - 1) ≡ i = omega (arith, h.0) in
    let f = first_fault 1 (rows_of bytes) (i - 1) RowExecution (omega (arith, h.0, h.1)) (λ j hj. h.4 j (omega arith)) (row_over _ h.5 h.6) refl in
    rw (is_true (processors_ok m) (processors_says m) h.2, is_true (length_ok (length bytes)) (length_says (length bytes)) h.3, f, e)
admit_exact bytes m Scale i h =
    rw (
      is_true (processors_ok m) (processors_says m) h.1,
      is_true (length_ok (length bytes)) (length_says (length bytes)) h.2,
      no_fault 1 (rows_of bytes) h.3,
      is_true (ltb most_scale (scale_of (rows_of bytes))) (ltb_says most_scale (scale_of (rows_of bytes))) h.4,
      h.0,
    )
admit_exact bytes m Shares i h =
    let rs = rows_of bytes in
    rw (
      is_true (processors_ok m) (processors_says m) h.1,
      is_true (length_ok (length bytes)) (length_says (length bytes)) h.2,
      no_fault 1 rs h.3,
      is_false (ltb most_scale (scale_of rs)) (ltb_says most_scale (scale_of rs)) (λ q. omega (arith, h.4)),
      is_false (leb (sum_of (share_of (scale_of rs)) rs) (m * scale_of rs)) (leb_says (sum_of (share_of (scale_of rs)) rs) (m * scale_of rs)) (λ q. omega (arith, h.5)),
      h.0,
    )
admit_exact bytes m Done i h =
    let rs = rows_of bytes in
    rw (
      is_true (processors_ok m) (processors_says m) h.1,
      is_true (length_ok (length bytes)) (length_says (length bytes)) h.2,
      no_fault 1 rs h.3,
      is_false (ltb most_scale (scale_of rs)) (ltb_says most_scale (scale_of rs)) (λ q. omega (arith, h.4)),
      is_true (leb (sum_of (share_of (scale_of rs)) rs) (m * scale_of rs)) (leb_says (sum_of (share_of (scale_of rs)) rs) (m * scale_of rs)) h.5,
      h.0,
    )
admit_exact bytes m other i h = absurd h

pub arrive_exact : (s : State) (task : ℕ) (a : Answer) → ArriveReason s task a → arrive_answer s task ≡ a
unfolding arrive_answer
arrive_exact s task NotTogether h = rw h
arrive_exact s task TaskNumber h = rw (h.0, is_false (task_known s task) (known_says s task) h.1)
arrive_exact s task BetweenTicks h =
    rw (h.0, is_true (task_known s task) (known_says s task) h.1, is_false (on_tick s) (on_tick_says s) h.2)
arrive_exact s task TooSoon h =
    let t = at (task - 1) s.tasks in
    rw (h.0, is_true (task_known s task) (known_says s task) h.1, is_true (on_tick s) (on_tick_says s) h.2, is_true (too_soon (tick_of s) t) (soon_says s t) h.3)
arrive_exact s task Done h =
    let t = at (task - 1) s.tasks in
    rw (h.0, is_true (task_known s task) (known_says s task) h.1, is_true (on_tick s) (on_tick_says s) h.2, is_false (too_soon (tick_of s) t) (soon_says s t) h.3)
arrive_exact s task other h = absurd h

pub step_exact : (s : State) (horizon room : ℕ) (a : Answer) → StepReason s horizon room a → step_answer s horizon room ≡ a
unfolding step_answer
step_exact s h n NotTogether p = rw p
step_exact s h n RoomTooShort p = rw (p.0, is_true (ltb n 48) (ltb_says n 48) p.1)
step_exact s h n HorizonPastClock p =
    rw (p.0, is_false (ltb n 48) (ltb_says n 48) (λ q. omega (arith, p.1)), is_true (ltb clock h) (ltb_says clock h) p.2)
step_exact s h n HorizonNotLater p =
    rw (p.0, is_false (ltb n 48) (ltb_says n 48) (λ q. omega (arith, p.1)), is_false (ltb clock h) (ltb_says clock h) (λ q. omega (arith, p.2)), is_true (leb (h * s.scale) s.now) (leb_says (h * s.scale) s.now) p.3)
step_exact s h n Done p =
    rw (p.0, is_false (ltb n 48) (ltb_says n 48) (λ q. omega (arith, p.1)), is_false (ltb clock h) (ltb_says clock h) (λ q. omega (arith, p.2)), is_false (leb (h * s.scale) s.now) (leb_says (h * s.scale) s.now) (λ q. omega (arith, p.3)))
step_exact s h n other p = absurd p
