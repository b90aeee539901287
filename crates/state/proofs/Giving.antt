-- B events: an idle processor goes to the top of the waiting, the top of the running rests, and so by turns
use Rattle.std.specs.Prelude.{if◌then◌else◌}
use mathlib.Core.Path.{◌≡◌, refl, ◌∙◌, ap, subst}
use mathlib.Core.Bool.{Bool, true, false, false≢true}
use mathlib.Core.Option.{Option, none, some}
use mathlib.Core.List.{List, foldl}
use Prim.Native.Nat.{ℕ, zero, suc, ◌+◌, ◌-◌, ◌≤◌, ◌<◌}
use native.Mathlib.Decide.{dec_lt, ℕ_discrete}
use native.Mathlib.Omega.{arith}
use borrow.Author.Tests.{eq-eqb, ne_eqb, lt-ltb, ltb-true, ltb-false, le-leb, leb-true}
use lib.Dec.{leb, ltb}
use lib.ListN.{length, get_or}
use lib.Seq.{get_or-set_same}
use Rattle.ground.specs.Sums.{up_from}
use Rattle.rules.specs.Events.{give, b_event, b_events}
use Rattle.rules.specs.Keys.{wait_key, least}
use Rattle.rules.specs.State.{resting, running, Task, at, become, amount, runs}
use Rattle.rules.proofs.Cases.{amount_of, runs_of, give_to, b_case}
use Rattle.rules.proofs.Events.{BDone, b_ok}
use Rattle.rules.proofs.Plane.{Fits}
use Rattle.queue.specs.Queues.{pop_of, top_key, top_task, key_in}
use Rattle.queue.proofs.Keys.{some_held, top_least, push_len, pop_len, pop_removes}
use Rattle.state.specs.View.{cond_of, cond_in, Tidy}
use Rattle.state.specs.Work.{Work, seat, top_place, rest_top, unqueue, place, give_top, b_one, due, b_due, size, b_turns, b_all}
use Rattle.state.proofs.Frame.{Frame, frame_self, frame_then, frame_if}
use Rattle.state.proofs.Moves.{Top, become_twice, runner, waiter, rest_is, unqueue_is, place_is}
use Rattle.state.proofs.Seats.{sits_in}
use Rattle.state.proofs.Shows.{Crew, Is, in_list, cond_at, run_cond, wait_cond, least_wait, least_no_wait, clash, wait_awake}

-- AN IDLE PROCESSOR GOES TO THE TOP OF THE WAITING
pub give_is : {c : Crew} {w : Work} {l : List Task} → Is c w l → (p : ℕ) → p < w.m → get_or w.slots p 0 ≡ 0 → Is c (give_top p w) (give w.end (suc p) l)
unfolding give_top give unqueue
give_is {c} {w} {l} I p hp idle = go (ltb 0 w.waiting.len) refl
  where
    S : Tidy c.count c.awake w
    S = I.tidy

    some_case : 0 < w.waiting.len → (t : Top w.waiting) → Is c (place p (top_task w.waiting) (w.end - top_key w.waiting) (unqueue w)) (give_to (suc p) l (least (wait_key w.end) l))
    some_case n t =
        let b = S.wait_in (suc t.task) (top_key w.waiting) t.held in
        let a : amount (at t.task l) ≡ w.end - top_key w.waiting = ap amount_of (wait_cond I t.task (top_key w.waiting) b.1 b.4 t.held) in
        let gone : key_in (pop_of w.waiting) (suc t.task) ≡ none = rw t.is at (pop_removes w.waiting S.waiting n).this in
        let J = place_is (unqueue_is I n t) p t.task (w.end - top_key w.waiting) hp idle b.1 b.4 gone (wait_awake S t.task (top_key w.waiting) t.held) in
        rw (least_wait I t.task t.is n, t.is, a)
        (rw (become_twice l t.task (running (suc p) (w.end - top_key w.waiting)) resting (in_list I t.task b.1)) at J)

    go : (b : Bool) → ltb 0 w.waiting.len ≡ b → Is c (if b then place p (top_task w.waiting) (w.end - top_key w.waiting) (unqueue w) else w) (give_to (suc p) l (least (wait_key w.end) l))
    go true e = let n = ltb-true 0 w.waiting.len e in some_case n (waiter I n)
    go false e = rw (least_no_wait I (omega (arith, ltb-false 0 w.waiting.len e))) I

-- B, for the top of the running
pub b_is : {c : Crew} {w : Work} {l : List Task} → Is c w l → 0 < w.running.len → (t : Top w.running) → Is c (b_one w) (give w.end (seat (suc t.task) w.slots) (become t.task resting l))
unfolding b_one rest_top
b_is {c} {w} {l} I n t =
    let S = I.tidy in
    let o = sits_in S.seats t.task (top_key w.running) t.held in
    let e : top_place w ≡ o.place = rw (t.is, o.is) (omega arith) in
    rw (e, o.is) (give_is (rest_is I n t o) o.place o.low
    (get_or-set_same w.slots o.place 0 0 (omega (arith, o.low, S.seats.room, S.seats.most))))

pub frame_give : (p : ℕ) (w : Work) → Frame w (give_top p w)
unfolding give_top place unqueue
frame_give p w = frame_if (ltb 0 w.waiting.len) (record { m = refl; now = refl; end = refl }) (frame_self w)

pub frame_b : (w : Work) → Frame w (b_one w)
unfolding b_one rest_top
frame_b w = let f = frame_give (top_place w) (rest_top (top_place w) w) in record { m = f.m; now = f.now; end = f.end }

-- TURNS
-- due only where there is a key, which has come
pub due_some : (keys : List ℕ) (n now : ℕ) → due keys n now ≡ true → (0 < n) × (get_or keys 0 0 ≤ now)
due_some keys n now e = go (ltb 0 n) refl e
  where
    go : (b : Bool) → ltb 0 n ≡ b → (if b then leb (get_or keys 0 0) now else false) ≡ true → (0 < n) × (get_or keys 0 0 ≤ now)
    go true h e = (ltb-true 0 n h, leb-true (get_or keys 0 0) now e)
    go false h e = let z : ◌≡◌ {A = Bool} false true = e in absurd (false≢true z)

pub is_due : (keys : List ℕ) (n now : ℕ) → 0 < n → get_or keys 0 0 ≤ now → due keys n now ≡ true
is_due keys n now h k = rw (lt-ltb 0 n h, le-leb (get_or keys 0 0) now k)

pub not_due : (keys : List ℕ) (n now : ℕ) → (0 < n → get_or keys 0 0 ≤ now → ⊥) → due keys n now ≡ false
not_due keys n now h = go (due keys n now) refl
  where
    go : (b : Bool) → due keys n now ≡ b → b ≡ false
    go true e = let s = due_some keys n now e in absurd (h s.0 s.1)
    go false e = refl

-- one who runs or waits leaves the plane
pub size_b : (w : Work) → 0 < w.running.len → size (b_one w) + 1 ≡ size w
unfolding b_one give_top place unqueue rest_top
size_b w n = go (ltb 0 w.waiting.len) refl
  where
    r : ℕ
    r = top_place w

    go : (b : Bool) → ltb 0 w.waiting.len ≡ b
        → size (if b then place r (top_task w.waiting) (w.end - top_key w.waiting) (unqueue (rest_top r w)) else rest_top r w) + 1 ≡ size w
    go true e =
        omega (
          arith,
          pop_len w.running n,
          pop_len w.waiting (ltb-true 0 w.waiting.len e),
          push_len (pop_of w.running) (w.now + (w.end - top_key w.waiting)) (top_task w.waiting),
        )
    go false e = omega (arith, pop_len w.running n)

pub turns_end : (n : ℕ) (w : Work) → b_due w ≡ false → b_turns n w ≡ w
unfolding b_turns
turns_end zero w e = refl
turns_end (suc n) w e = ap (λ (b : Bool). elim b [ true ↦ b_turns n (b_one w) | false ↦ w ]) e

pub turns_on : (n : ℕ) (w : Work) → size w ≤ n → b_due w ≡ true → (k : ℕ) × (size (b_one w) ≤ k) × (b_turns n w ≡ b_turns k (b_one w))
unfolding b_turns
turns_on zero w h e = let s = due_some w.running.keys w.running.len w.now e in absurd (omega arith)
turns_on (suc n) w h e =
    let s = size_b w (due_some w.running.keys w.running.len w.now e).0 in
    (n, omega arith, ap (λ (b : Bool). elim b [ true ↦ b_turns n (b_one w) | false ↦ w ]) e)

pub frame_turns : (n : ℕ) (w : Work) → Frame w (b_turns n w)
unfolding b_turns
frame_turns zero w = frame_self w
frame_turns (suc n) w = go (b_due w) (frame_turns n (b_one w))
  where
    go : (b : Bool) → Frame (b_one w) (b_turns n (b_one w)) → Frame w (elim b [ true ↦ b_turns n (b_one w) | false ↦ w ])
    go true f = frame_then (frame_b w) f
    go false f = frame_self w

-- ALL B EVENTS
b_idle : (now end i : ℕ) (l : List Task) (o w : Option ℕ) (p : ℕ) (a : Bool) → ((k : ℕ) → o ≡ some k → now < k) → b_case end l i (cond_of now end o w p a) ≡ l
b_idle now end i l (some k) w p a h = rw (ne_eqb (k - now) 0 (λ z. omega (arith, h k refl)))
b_idle now end i l none (some k) p a h = refl
b_idle now end i l none none p true h = refl
b_idle now end i l none none p false h = refl

-- is the task in the queue, and is it due
data Due (now : ℕ) (o : Option ℕ) : Type 0 where
  comes : (k : ℕ) → o ≡ some k → k ≤ now → Due now o
  stays : ((k : ℕ) → o ≡ some k → now < k) → Due now o

due? : (now : ℕ) (o : Option ℕ) → Due now o
due? now none = stays (λ k e. clash none k e refl)
due? now (some k) = go (dec_lt now k)
  where
    go : Dec (now < k) → Due now (some k)
    go (yes h) = stays (λ j e. let z : k ≡ j = cc in omega arith)
    go (no h) = comes k refl (omega arith)

not_less : {a b : ℕ} → (a < b → ⊥) → b ≤ a
not_less {a} {b} h = go (dec_lt a b)
  where
    go : Dec (a < b) → b ≤ a
    go (yes x) = absurd (h x)
    go (no x) = omega arith

-- the first i tasks have something left, if they run
abbrev Left : ℕ → List Task → Type 0
Left i l = (j : ℕ) → j < i → runs (at j l) ≤ amount (at j l)

-- a task that is due, with none before it, is the top of the running
b_turn : {c : Crew} {w : Work} {l : List Task} → Is c w l → (i k : ℕ) → i < c.count → key_in w.running (suc i) ≡ some k → k ≤ w.now → Left i l
    → (b_due w ≡ true) × Is c (b_one w) (b_case w.end l i (at i l).cond)
b_turn {c} {w} {l} I i k hi q h A =
    let S = I.tidy in
    let a = some_held w.running S.running (suc i) k q in
    let t = runner I a in
    let r = S.run_in (suc t.task) (top_key w.running) t.held in
    let b = top_least w.running S.running (suc i) k q in
    let d = run_cond I t.task (top_key w.running) r.1 t.held in
    let le : t.task ≤ i = omega (arith, b.1 (omega arith), t.is) in
    let ge : i ≤ t.task = not_less (λ x. omega (arith, A t.task x, ap runs_of d, ap amount_of d)) in
    let e : t.task ≡ i = omega arith in (
      is_due w.running.keys w.running.len w.now a (omega (arith, b.0)),
      rw (run_cond I i k hi q, eq-eqb (k - w.now) 0 (omega arith)) (rw e at (b_is I a t)),
    )

-- all have something left: no B event is due
quiet : {c : Crew} {w : Work} {l : List Task} → Is c w l → Left c.count l → b_due w ≡ false
quiet {c} {w} {l} I A =
    not_due w.running.keys w.running.len w.now
    (λ n k.
    let t = runner I n in
    let r = I.tidy.run_in (suc t.task) (top_key w.running) t.held in
    let d = run_cond I t.task (top_key w.running) r.1 t.held in
    omega (arith, A t.task r.1, ap runs_of d, ap amount_of d))

module _ (c : Crew) (m scale R end : ℕ) where
  -- from task i on, k of them: the rules by number, the turns by the running queue's top
  abbrev FromPlace : ℕ → ℕ → Type 0
  FromPlace k i = (fuel : ℕ) (w : Work) (l : List Task) → size w ≤ fuel → w.end ≡ end → Is c w l → Fits 0 m scale R l → Left i l
      → Is c (b_turns fuel w) (foldl (b_event end) l (up_from i k))

  b_from : (k i : ℕ) → i + k ≡ c.count → FromPlace k i
  unfolding up_from b_event
  b_from zero i e fuel w l hf he I F A = rw (turns_end fuel w (quiet I (λ j hj. A j (omega arith)))) I
  b_from (suc k) i e fuel w l hf he I F A = go (due? w.now (key_in w.running (suc i))) (b_from k (suc i) (omega arith))
    where
      hi : i < c.count
      hi = omega arith

      D : BDone m scale R l i (b_case end l i (at i l).cond)
      D = b_ok m scale R end l i (in_list I i hi) F (at i l).cond refl

      A' : Left (suc i) (b_case end l i (at i l).cond)
      A' j hj = at_j (ℕ_discrete j i)
        where
          at_j : Dec (j ≡ i) → runs (at j (b_case end l i (at i l).cond)) ≤ amount (at j (b_case end l i (at i l).cond))
          at_j (yes z) = rw z D.this
          at_j (no z) = D.others j (A j (omega arith))

      still : ((k : ℕ) → key_in w.running (suc i) ≡ some k → w.now < k) → Is c w (b_case end l i (at i l).cond)
      still h = let z : b_case end l i (at i l).cond ≡ l = ap (b_case end l i) (cond_at I i hi) ∙ idle in rw z I
        where
          idle : b_case end l i (cond_in c.awake w i) ≡ l
          idle = unfold cond_in in (rw (← he) (b_idle w.now w.end i l (key_in w.running (suc i)) (key_in w.waiting (suc i)) (seat (suc i) w.slots) (get_or c.awake i false) h))

      go : Due w.now (key_in w.running (suc i)) → FromPlace k (suc i) → Is c (b_turns fuel w) (foldl (b_event end) (b_case end l i (at i l).cond) (up_from (suc i) k))
      go (comes j q h) ih =
          let t = b_turn I i j hi q h A in
          let o = turns_on fuel w hf t.0 in
          rw o.2 (ih o.0 (b_one w) _ o.1 ((frame_b w).end ∙ he) (subst (λ (x : ℕ). Is c (b_one w) (b_case x l i (at i l).cond)) he t.1) D.fits A')
      go (stays h) ih = ih fuel w _ hf he (still h) D.fits A'

-- all B events of the queues are those of the rules
pub b_all_is : {c : Crew} {w : Work} {l : List Task} {m scale R : ℕ} → Is c w l → Fits 0 m scale R l → Is c (b_all w) (b_events w.end l)
unfolding b_all b_events
b_all_is {c} {w} {l} {m} {scale} {R} I F =
    let z : length l ≡ c.count = I.shows.size in
    rw z (b_from c m scale R w.end c.count 0 (omega arith) (size w) w l (omega arith) refl I F (λ j hj. absurd (omega arith)))

pub frame_b_all : (w : Work) → Frame w (b_all w)
unfolding b_all
frame_b_all w = frame_turns (size w) w
