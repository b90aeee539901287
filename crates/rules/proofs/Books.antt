-- The books: what each job has run, read off the records, and what it has left
use Rattle.std.specs.Prelude.{if◌then◌else◌}
use mathlib.Core.Path.{◌≡◌, refl, sym, ◌∙◌, ap, subst}
use mathlib.Core.Option.{Option, none, some}
use mathlib.Core.List.{List, [], ◌∷◌, ◌++◌}
use Prim.Native.Nat.{ℕ, suc, ◌+◌, ◌*◌, ◌-◌, ◌/◌, ◌≤◌, ◌<◌, min, max}
use native.Mathlib.Omega.{arith}
use lib.ListN.{length}
use Rattle.std.proofs.lemmas.Nat.{le-div}
use Rattle.ground.specs.Sums.{sum_of, times}
use Rattle.ground.proofs.Sums.{sum_of_append}
use Rattle.rules.specs.Calls.{wake}
use Rattle.rules.specs.History.{ran_in, ran, Follows}
use Rattle.rules.specs.Events.{spend, advance, events}
use Rattle.rules.specs.Planes.{end_of, open_tasks, closed}
use Rattle.rules.specs.Record.{Record, slots_of}
use Rattle.rules.specs.State.{asleep, resting, waiting, Task, State, at, period, be, amount, last_of}
use Rattle.rules.proofs.Together.{Awake}
use Rattle.rules.proofs.Cases.{amount_of}
use Rattle.rules.proofs.Arriving.{wake_by, Arrives}
use Rattle.rules.proofs.Calls.{tick_of_lem}
use Rattle.rules.proofs.Events.{Core}
use Rattle.rules.proofs.Keeping.{Running, running_stands, runs_on, close_by, at_closed, not_both, Resting, ready_by, ready_awake, end_later, opens_plane}
use Rattle.rules.proofs.Opening.{ready}
use Rattle.rules.proofs.Slots.{slots_ok}
use Rattle.rules.proofs.Standing.{facts}
use Rattle.rules.proofs.Time.{at_advance, still_awake, left_after, Room, advance_ok}
use Rattle.rules.proofs.Lasts.{awake_came}
use native.Mathlib.Nat.{lt_of_mul-lt-mul_right}

-- ONE MORE RECORD
-- it lies whole between two instants
ran_more : (n from to : ℕ) (rs : List Record) (r : Record) → from ≤ r.from → r.to ≤ to → ran n from to (rs ++ (r ∷ [])) ≡ ran n from to rs + times n r.slots * (r.to - r.from)
unfolding ran sum_of
ran_more n from to rs r h k =
    let whole : min to r.to - max from r.from ≡ r.to - r.from = omega arith in
    omega (arith, sum_of_append (ran_in n from to) rs (r ∷ []), ap (λ d. times n r.slots * d) whole)

-- it lies after them
pub ran_past : (n from to : ℕ) (rs : List Record) (r : Record) → to ≤ r.from → ran n from to (rs ++ (r ∷ [])) ≡ ran n from to rs
unfolding ran sum_of
ran_past n from to rs r h =
    let out : min to r.to - max from r.from ≡ 0 = omega arith in
    omega (arith, sum_of_append (ran_in n from to) rs (r ∷ []), ap (λ d. times n r.slots * d) out)

-- between an instant and itself nothing runs
pub ran_none : (n at : ℕ) (rs : List Record) → ran n at at rs ≡ 0
unfolding ran sum_of
ran_none n at [] = refl
ran_none n at (r ∷ rs) =
    let out : min at r.to - max at r.from ≡ 0 = omega arith in
    omega (arith, ran_none n at rs, ap (λ d. times n r.slots * d) out)

-- records up to the present: what ran until any later instant ran until the present
pub follows_on : (from now : ℕ) (rs : List Record) → Follows from rs now → from ≤ now
follows_on from now [] F = omega (arith, F)
follows_on from now (r ∷ rs) F = omega (arith, F.0, F.1, follows_on r.to now rs F.2)

ran_by_now : (n from to start now : ℕ) (rs : List Record) → Follows start rs now → now ≤ to → ran n from to rs ≡ ran n from now rs
unfolding ran sum_of
ran_by_now n from to start now [] F h = refl
ran_by_now n from to start now (r ∷ rs) F h =
    let le = follows_on r.to now rs F.2 in
    let same : min to r.to - max from r.from ≡ min now r.to - max from r.from = omega arith in
    omega (arith, ran_by_now n from to r.to now rs F.2 h, ap (λ d. times n r.slots * d) same)

-- THE BOOKS
-- plane closed: what it ran is its share of every tick since it came
abbrev pub Closing : ℕ → ℕ → List Task → List Record → Type 0
Closing scale now l rs = (j : ℕ) → Awake (at j l) → ran (suc j) (last_of (at j l) * scale) now rs ≡ (at j l).share * (now / scale - last_of (at j l))

-- plane open: what it ran and what it has left are its share of every tick to the end
abbrev pub RunningBooks : ℕ → ℕ → ℕ → List Task → List Record → Type 0
RunningBooks scale now e l rs = (j : ℕ) → Awake (at j l) → ran (suc j) (last_of (at j l) * scale) now rs + amount (at j l) ≡ (at j l).share * (e - last_of (at j l))

abbrev pub Books : State → Option ℕ → List Record → Type 0
Books s none rs = Closing s.scale s.now s.tasks rs
Books s (some e) rs = RunningBooks s.scale s.now e s.tasks rs

-- an arrival is before the plane's end
pub came_before : {m scale now e : ℕ} (l : List Task) → Running m scale now e l → (j : ℕ) → Awake (at j l) → last_of (at j l) < e
came_before {scale = scale} {e = e} l P j w = lt_of_mul-lt-mul_right scale (omega (arith, awake_came P.lasts j w, P.going.later))

-- OPENING
ready_left : (len : ℕ) (t : Task) → Awake t → amount (ready len t) ≡ t.share * len
ready_left len t w = ap (λ b. amount (if b then be (waiting (t.share * len)) t else t)) w

pub opens_books : {m scale now : ℕ} (l : List Task) (rs : List Record) (P : Resting m scale now l) → Closing scale now l rs
    → RunningBooks scale now (end_of (now / scale) l) (open_tasks m (end_of (now / scale) l - now / scale) l) rs
opens_books {m} {scale} {now} l rs P B j w =
    let O = opens_plane l P in
    let k = open_tasks m (end_of (now / scale) l - now / scale) l in
    let len = end_of (now / scale) l - now / scale in
    let aw : Awake (at j l) = sym (ap (λ (c : Core). c.awake) (O.same j) ∙ ready_awake len (at j l)) ∙ w in
    let last : (at j k).last ≡ (at j l).last = ap (λ (c : Core). c.last) (O.same j) ∙ ready_by len (λ u. u.last ≡ (at j l).last) (at j l) refl refl in
    let share : (at j k).share ≡ (at j l).share = ap (λ (c : Core). c.share) (O.same j) ∙ ready_by len (λ u. u.share ≡ (at j l).share) (at j l) refl refl in
    let left : amount (at j k) ≡ (at j l).share * len = ap (λ (c : Core). c.left) (O.same j) ∙ ready_left len (at j l) aw in
    let lt = end_later l P in
    let pos = (facts l P.table).scale_pos in
    let came : last_of (at j l) ≤ now / scale = le-div (last_of (at j l)) now scale pos (awake_came P.lasts j aw) in
    let p : end_of (now / scale) l - last_of (at j l) ≡ (now / scale - last_of (at j l)) + len = omega arith in
    rw (last, share, left) (omega (arith, B j aw, ap (λ x. (at j l).share * x) p))

-- RUNNING ON AND CLOSING: the record of what runs until the instant `to`
module _ {m scale now e : ℕ} (l : List Task) (rs : List Record) (P : Running m scale now e l) (B : RunningBooks scale now e l rs) (F : Follows 0 rs now) (to : ℕ) (later : now < to)
    (room : Room (to - now) (e * scale - now) l) where
  abbrev this : Record
  this = record { from = now; to = to; slots = slots_of m l }

  -- what a job ran and has left, after the record
  spent : (j : ℕ) → Awake (at j l) → ran (suc j) (last_of (at j l) * scale) to (rs ++ (this ∷ [])) + amount_of (spend (to - now) (at j l).cond) ≡ (at j l).share * (e - last_of (at j l))
  spent j w =
      omega (
        arith,
        B j w,
        left_after (to - now) (at j l).cond (room.run j),
        ran_more (suc j) (last_of (at j l) * scale) to rs this (awake_came P.lasts j w) (omega arith),
        ran_by_now (suc j) (last_of (at j l) * scale) to 0 now rs F (omega arith),
        ap (λ x. x * (to - now)) (slots_ok l (running_stands l P).fits j),
      )

  pub runs_on_books : to < e * scale → RunningBooks scale to e (events (e * scale) to (advance (to - now) l)) (rs ++ (this ∷ []))
  runs_on_books h j w =
      let same = (runs_on l P to later room h).same j in
      let k = events (e * scale) to (advance (to - now) l) in
      let aw : Awake (at j l) = sym (still_awake (to - now) (at j l).cond) ∙ sym (ap (λ (c : Core). c.awake) same) ∙ w in
      let last : (at j k).last ≡ (at j l).last = ap (λ (c : Core). c.last) same in
      let share : (at j k).share ≡ (at j l).share = ap (λ (c : Core). c.share) same in
      let left : amount (at j k) ≡ amount_of (spend (to - now) (at j l).cond) = ap (λ (c : Core). c.left) same in
      rw (last, share, left) (spent j aw)

  -- PLANE END: each job awake in the plane has run its share of every tick since it came
  pub ends_exact : to ≡ e * scale → (j : ℕ) → Awake (at j l) → ran (suc j) (last_of (at j l) * scale) to (rs ++ (this ∷ [])) ≡ (at j l).share * (e - last_of (at j l))
  ends_exact q j w =
      let z = rw (at_advance (to - now) j l) at ((advance_ok l (running_stands l P).fits (to - now) room).small j) in
      omega (arith, z, spent j w)

  pub closes_books : to ≡ e * scale → Closing scale (e * scale) (closed e (advance (to - now) l)) (rs ++ (this ∷ []))
  closes_books q j =
      let pos = (facts l P.table).scale_pos in
      let tick : e * scale / scale ≡ e = tick_of_lem (e * scale) scale e pos refl in
      rw (tick, at_closed (to - now) e j l)
      (close_by e (λ u. Awake u → ran (suc j) (last_of u * scale) (e * scale) (rs ++ (this ∷ [])) ≡ u.share * (e - last_of u)) (be (spend (to - now) (at j l).cond) (at j l)) (not_both _)
      (λ w n _. subst (λ z. ran (suc j) (last_of (at j l) * scale) z (rs ++ (this ∷ [])) ≡ (at j l).share * (e - last_of (at j l))) q (ends_exact q j (sym (still_awake (to - now) (at j l).cond) ∙ w))))

-- ARRIVING: a new job has run nothing and has its whole amount left
pub wakes_books : {m scale now : ℕ} (i : ℕ) (l : List Task) (rs : List Record) → i < length l → Resting m scale now l → Closing scale now l rs → Closing scale now (wake i (now / scale) resting l) rs
wakes_books {m} {scale} {now} i l rs hi P B j =
    wake_by i (now / scale) resting l hi j (λ t. Awake t → ran (suc j) (last_of t * scale) now rs ≡ t.share * (now / scale - last_of t))
    (λ _ w. let z : now / scale - now / scale ≡ 0 = omega arith in rw (P.shut.whole, ran_none (suc j) now rs, z) (omega arith)) (λ _. B j)

pub arrives_books : {m scale now e : ℕ} (i tick : ℕ) (l : List Task) (rs : List Record) (hi : i < length l) (P : Running m scale now e l) (whole : now ≡ tick * scale) (sl : (at i l).cond ≡ asleep)
    (late : (b : ℕ) → (at i l).last ≡ some b → b + period (at i l) ≤ tick) (k : List Task) → Arrives i tick l hi P whole sl late k → RunningBooks scale now e l rs → RunningBooks scale now e k rs
arrives_books {scale = scale} {now = now} {e = e} i tick l rs hi P whole sl late k A B j w =
    let v = wake i tick A.cond l in
    let same = A.kept.same j in
    let aw : Awake (at j v) = sym (ap (λ (c : Core). c.awake) same) ∙ w in
    let last : (at j k).last ≡ (at j v).last = ap (λ (c : Core). c.last) same in
    let share : (at j k).share ≡ (at j v).share = ap (λ (c : Core). c.share) same in
    let left : amount (at j k) ≡ amount (at j v) = ap (λ (c : Core). c.left) same in
    rw (last, share, left) (wake_by i tick A.cond l hi j (λ t. Awake t → ran (suc j) (last_of t * scale) now rs + amount t ≡ t.share * (e - last_of t))
    (λ _ _. rw (← whole, ran_none (suc j) now rs) (omega (arith, A.whole_amount))) (λ _. B j) aw)
