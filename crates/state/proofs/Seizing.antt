-- C events: a task takes the processor of the top of the running, and so by turns
use mathlib.Core.Path.{◌≡◌, refl, sym, ◌∙◌, ap, subst}
use mathlib.Core.Bool.{Bool, true, false}
use mathlib.Core.Option.{none}
use mathlib.Core.Logic.{◌≢◌}
use mathlib.Core.List.{List}
use Prim.Native.Nat.{ℕ, zero, suc, ◌+◌, ◌-◌, ◌≤◌, ◌<◌}
use native.Mathlib.Decide.{dec_lt}
use native.Mathlib.Omega.{arith}
use borrow.Author.Tests.{le-leb, lt-leb}
use lib.Dec.{leb}
use lib.ListN.{length, get_or, set}
use lib.Seq.{get_or-set_same}
use Rattle.rules.specs.Events.{seize, b_events, c_events_in, c_events, events}
use Rattle.rules.specs.Keys.{run_key, wait_key, Best, nope, best, least}
use Rattle.rules.specs.State.{resting, running, waiting, Task, at, become, amount, proc, runs}
use Rattle.rules.proofs.Cases.{amount_of, proc_of, runs_of, take_from}
use Rattle.rules.proofs.Events.{AfterB, b_all_lem}
use Rattle.rules.proofs.Places.{at_same, at_other, inside, IsLeast, least_is}
use Rattle.rules.proofs.Plane.{Fits, not_running, Alive, crowded, seize_ok}
use Rattle.queue.specs.Queues.{pop_of, top_key, key_in}
use Rattle.queue.proofs.Keys.{pop_removes}
use Rattle.state.specs.Fit.{Yields}
use Rattle.state.specs.View.{Tidy}
use Rattle.state.specs.Work.{Work, seat, top_place, rest_top, unqueue, park, place, seize_top, c_one, c_due, b_all, c_turns, c_all, events_of}
use Rattle.state.proofs.Counts.{waits_len}
use Rattle.state.proofs.Frame.{Frame, frame_self, frame_then}
use Rattle.state.proofs.Giving.{due_some, is_due, b_all_is, frame_b_all}
use Rattle.state.proofs.Moves.{Top, become_twice, become_again, runner, waiter, rest_is, unqueue_is, park_is, place_is}
use Rattle.state.proofs.Seats.{Sits, sits_in}
use Rattle.state.proofs.Shows.{Crew, Is, in_list, run_cond, wait_cond, run_key_at, wait_key_at, least_run, least_no_run, least_wait, least_no_wait, clash, run_not_wait, run_awake, wait_awake}

-- A TASK IN NO QUEUE TAKES THE PROCESSOR OF THE TOP OF THE RUNNING: that one rests and waits, and its place goes to the task
pub seize_top_lem : {c : Crew} {w : Work} {l : List Task} → Is c w l → 0 < w.running.len → (t : Top w.running) → (u a : ℕ) → u < c.count → key_in w.running (suc u) ≡ none → key_in w.waiting (suc u) ≡ none
    → get_or c.awake u false ≡ true → w.now < top_key w.running → top_key w.running - w.now ≤ w.end
    → Is c (seize_top (suc u) a w) (become u (running (seat (suc t.task) w.slots) a) (become t.task (waiting (top_key w.running - w.now)) l))
unfolding seize_top rest_top park
seize_top_lem {c} {w} {l} I n t u a hu out_r out_w up live small =
    rw (here, o.is, t.is)
    (place_is P o.place u a o.low idle hu
    (sym (run_key_at P u hu) ∙ ap (run_key w.now) (at_other l t.task u (waiting x) ne) ∙ run_key_at I u hu ∙ out_r)
    (sym (wait_key_at P u hu) ∙ ap (wait_key w.end) (at_other l t.task u (waiting x) ne) ∙ wait_key_at I u hu ∙ out_w)
    up)
  where
    S : Tidy c.count c.awake w
    S = I.tidy

    x : ℕ
    x = top_key w.running - w.now

    o : Sits w.m w.slots (suc t.task)
    o = sits_in S.seats t.task (top_key w.running) t.held

    here : top_place w ≡ o.place
    here = rw (t.is, o.is) (omega arith)

    idle : get_or (set w.slots o.place 0) o.place 0 ≡ 0
    idle = get_or-set_same w.slots o.place 0 0 (omega (arith, o.low, S.seats.room, S.seats.most))

    ne : u ≢ t.task
    ne z = clash (key_in w.running (suc u)) (top_key w.running) (rw z t.held) out_r

    ht : t.task < c.count
    ht = (S.run_in (suc t.task) (top_key w.running) t.held).1

    P : Is c (park (suc t.task) x (rest_top o.place w)) (become t.task (waiting x) l)
    P = rw (become_twice l t.task (waiting x) resting (in_list I t.task ht)) at
        (park_is (rest_is I n t o) t.task x ht (rw t.is at (pop_removes w.running S.running n).this)
        (run_not_wait S (suc t.task) (top_key w.running) t.held) (run_awake S t.task (top_key w.running) t.held) (omega arith) small)

-- in the rules the task waits while it seizes; in the code it is in no queue
pub seize_is : {c : Crew} {w : Work} {l : List Task} → Is c w l → (u a : ℕ) → u < c.count → key_in w.running (suc u) ≡ none → key_in w.waiting (suc u) ≡ none → get_or c.awake u false ≡ true
    → 0 < a → a ≤ w.end → 0 < w.running.len → w.now < top_key w.running → top_key w.running - w.now ≤ w.end
    → Is c (seize_top (suc u) a w) (seize w.now u (become u (waiting a) l))
unfolding seize park
seize_is {c} {w} {l} I u a hu out_r out_w up pos small n live less = go (runner I n)
  where
    P : Is c (park (suc u) a w) (become u (waiting a) l)
    P = park_is I u a hu out_r out_w up pos small

    go : Top w.running → Is c (seize_top (suc u) a w) (take_from u (become u (waiting a) l) (least (run_key w.now) (become u (waiting a) l)))
    go t =
        let k = become u (waiting a) l in
        let in_t = I.tidy.run_in (suc t.task) (top_key w.running) t.held in
        let d = run_cond P t.task (top_key w.running) in_t.1 t.held in
        let e_p : proc (at t.task k) ≡ seat (suc t.task) w.slots = ap proc_of d in
        let e_t : amount (at t.task k) ≡ top_key w.running - w.now = ap amount_of d in
        let e_u : amount (at u k) ≡ a = ap amount (at_same l u (waiting a) (in_list I u hu)) in
        let ne : u ≢ t.task = λ z. clash (key_in w.running (suc u)) (top_key w.running) (rw z t.held) out_r in
        rw (least_run P t.task t.is n, e_p, e_t, e_u, become_again l u t.task _ _ (waiting a) (in_list I u hu) ne)
        (seize_top_lem I n t u a hu out_r out_w up live less)

-- C, for the tops of the waiting and of the running
pub c_is : {c : Crew} {w : Work} {l : List Task} → Is c w l → 0 < w.running.len → (r : Top w.running) → 0 < w.waiting.len → (t : Top w.waiting)
    → w.now < top_key w.running → top_key w.running - w.now ≤ w.end → Is c (c_one w) (seize w.now t.task l)
unfolding c_one seize unqueue
c_is {c} {w} {l} I nr r nw t live small =
    let S = I.tidy in
    let in_t = S.wait_in (suc t.task) (top_key w.waiting) t.held in
    let in_r = S.run_in (suc r.task) (top_key w.running) r.held in
    let ct = wait_cond I t.task (top_key w.waiting) in_t.1 in_t.4 t.held in
    let cr = run_cond I r.task (top_key w.running) in_r.1 r.held in
    let e_p : proc (at r.task l) ≡ seat (suc r.task) w.slots = ap proc_of cr in
    let e_r : amount (at r.task l) ≡ top_key w.running - w.now = ap amount_of cr in
    let e_t : amount (at t.task l) ≡ w.end - top_key w.waiting = ap amount_of ct in
    let ne : t.task ≢ r.task = λ z. clash (key_in w.running (suc t.task)) (top_key w.running) (rw z r.held) in_t.4 in
    let gone : key_in (pop_of w.waiting) (suc t.task) ≡ none = rw t.is at (pop_removes w.waiting S.waiting nw).this in
    let J = seize_top_lem (unqueue_is I nw t) nr r t.task (w.end - top_key w.waiting)
    in_t.1 in_t.4 gone (wait_awake S t.task (top_key w.waiting) t.held) live small in
    let taken : Is c (c_one w) (take_from t.task l (least (run_key w.now) l)) =
    rw (least_run I r.task r.is nr, e_p, e_r, e_t, t.is) (rw (become_again l t.task r.task _ _ resting (in_list I t.task in_t.1) ne) at J) in
    taken

pub frame_c : (w : Work) → Frame w (c_one w)
unfolding c_one seize_top place park rest_top unqueue
frame_c w = record { m = refl; now = refl; end = refl }

-- TURNS
pub c_stays : (n : ℕ) (w : Work) → c_due w ≡ false → c_turns n w ≡ w
unfolding c_turns
c_stays zero w e = refl
c_stays (suc n) w e = ap (λ (b : Bool). elim b [ true ↦ c_turns n (c_one w) | false ↦ w ]) e

pub c_goes : (n : ℕ) (w : Work) → c_due w ≡ true → c_turns (suc n) w ≡ c_turns n (c_one w)
unfolding c_turns
c_goes n w e = ap (λ (b : Bool). elim b [ true ↦ c_turns n (c_one w) | false ↦ w ]) e

pub frame_c_turns : (n : ℕ) (w : Work) → Frame w (c_turns n w)
unfolding c_turns
frame_c_turns zero w = frame_self w
frame_c_turns (suc n) w = go (c_due w) (frame_c_turns n (c_one w))
  where
    go : (b : Bool) → Frame (c_one w) (c_turns n (c_one w)) → Frame w (elim b [ true ↦ c_turns n (c_one w) | false ↦ w ])
    go true f = frame_then (frame_c w) f
    go false f = frame_self w

-- the same of the rules
rule_stays : (n end now : ℕ) (l : List Task) (b : Best) → least (wait_key end) l ≡ b → ((i k : ℕ) → b ≡ best i k → now < k) → c_events_in n end now l ≡ l
unfolding c_events_in
rule_stays zero end now l b e h = refl
rule_stays (suc n) end now l b e h = ap after e ∙ go b h
  where
    after : Best → List Task
    after b = elim b [ nope ↦ l | best i k ↦ elim (leb k now) [ true ↦ c_events_in n end now (seize now i l) | false ↦ l ] ]

    go : (b : Best) → ((i k : ℕ) → b ≡ best i k → now < k) → after b ≡ l
    go nope h = refl
    go (best i k) h = ap (λ (t : Bool). elim t [ true ↦ c_events_in n end now (seize now i l) | false ↦ l ]) (lt-leb k now (h i k refl))

rule_goes : (n end now : ℕ) (l : List Task) (i k : ℕ) → least (wait_key end) l ≡ best i k → k ≤ now → c_events_in (suc n) end now l ≡ c_events_in n end now (seize now i l)
unfolding c_events_in
rule_goes n end now l i k e h =
    ap (λ (b : Best). elim b [ nope ↦ l | best i k ↦ elim (leb k now) [ true ↦ c_events_in n end now (seize now i l) | false ↦ l ] ]) e
    ∙ ap (λ (t : Bool). elim t [ true ↦ c_events_in n end now (seize now i l) | false ↦ l ]) (le-leb k now h)

-- after the B events, who runs has something left
pub b_alive : {m scale R : ℕ} (w : Work) (l : List Task) → Fits 0 m scale R l → Alive (b_events w.end l)
b_alive {m} {scale} {R} w l F = λ j. go j (b_all_lem m scale R w.end l F) (dec_lt 0 (runs (at j (b_events w.end l))))
  where
    go : (j : ℕ) → AfterB m scale R l (length l) (b_events w.end l) → Dec (0 < runs (at j (b_events w.end l))) → runs (at j (b_events w.end l)) ≤ amount (at j (b_events w.end l))
    go j b (yes h) = b.1 j (omega (arith, inside runs (b_events w.end l) j refl h, b.2.size))
    go j b (no h) = omega arith

-- IN A PLANE THAT FITS
module _ (c : Crew) (m scale R : ℕ) (h_r : 0 < R) (hs : 0 < scale) where
  -- somebody runs, if somebody must run to the end
  some_runs : (w : Work) (l : List Task) → Is c w l → Fits 0 m scale R l → (i : ℕ) → i < length l → (at i l).cond ≡ waiting (amount (at i l)) → R ≤ amount (at i l) → 0 < w.running.len
  some_runs w l I F i hi e h = go (dec_lt 0 w.running.len)
    where
      go : Dec (0 < w.running.len) → 0 < w.running.len
      go (yes n) = n
      go (no n) =
          let L : IsLeast (run_key w.now) l nope = rw (least_no_run I (omega arith)) at (least_is (run_key w.now) refl l) in
          absurd (crowded h_r hs i l hi e F h (λ j. let y : runs (at j l) ≡ 0 = not_running w.now (at j l).cond (L j) in rw y (omega arith)))

  -- the top of the waiting is due: somebody runs who can be displaced, and the plane still fits
  pub record CTop (w : Work) (l : List Task) : Type 0 where
    pub yields : Yields w
    pub by_end : top_key w.running ≤ w.end
    pub task : ℕ
    pub least : least (wait_key w.end) l ≡ best task (top_key w.waiting)
    pub is : Is c (c_one w) (seize w.now task l)
    pub fits : Fits 0 m scale R (seize w.now task l)
    pub alive : Alive (seize w.now task l)

  pub c_top : (w : Work) (l : List Task) → w.now + R ≡ w.end → Is c w l → Fits 0 m scale R l → Alive l → c_due w ≡ true → CTop w l
  unfolding seize
  c_top w l he I F A e =
      let S = I.tidy in
      let d = due_some w.waiting.keys w.waiting.len w.now e in
      let t = waiter I d.0 in
      let in_t = S.wait_in (suc t.task) (top_key w.waiting) t.held in
      let ct = wait_cond I t.task (top_key w.waiting) in_t.1 in_t.4 t.held in
      let ew : (at t.task l).cond ≡ waiting (amount (at t.task l)) = ct ∙ ap waiting (sym (ap amount_of ct)) in
      let hi = in_list I t.task in_t.1 in
      let full : R ≤ amount (at t.task l) = omega (arith, ap amount_of ct, d.1) in
      let nr = some_runs w l I F t.task hi ew full in
      let r = runner I nr in
      let in_r = S.run_in (suc r.task) (top_key w.running) r.held in
      let cr = run_cond I r.task (top_key w.running) in_r.1 r.held in
      let live : w.now < top_key w.running = omega (arith, A r.task, ap runs_of cr, ap amount_of cr) in
      let top : top_key w.running ≤ w.end = omega (arith, F.small r.task, ap amount_of cr) in
      let k = seize_ok h_r hs w.now t.task l hi ew full F A (least (run_key w.now) l) (least_is (run_key w.now) refl l) in
      record {
        yields = record { runs = nr; live = live };
        by_end = top;
        task = t.task;
        least = least_wait I t.task t.is d.0;
        is = c_is I nr r d.0 t live (omega arith);
        fits = k.0;
        alive = k.1;
      }

  pub c_turns_is : (n end now : ℕ) (w : Work) (l : List Task) → now + R ≡ end → w.now ≡ now → w.end ≡ end → Is c w l → Fits 0 m scale R l → Alive l
      → Is c (c_turns n w) (c_events_in n end now l)
  c_turns_is zero end now w l he hn hw I F A = unfold c_turns in unfold c_events_in in I
  c_turns_is (suc n) end now w l he hn hw I F A = go (c_due w) refl (c_turns_is n end now)
    where
      go : (b : Bool) → c_due w ≡ b → ((v : Work) (k : List Task) → now + R ≡ end → v.now ≡ now → v.end ≡ end → Is c v k → Fits 0 m scale R k → Alive k → Is c (c_turns n v) (c_events_in n end now k))
          → Is c (c_turns (suc n) w) (c_events_in (suc n) end now l)
      go true e ih =
          let T = c_top w l (omega arith) I F A e in
          let f = frame_c w in
          let d = due_some w.waiting.keys w.waiting.len w.now e in
          rw (c_goes n w e, rule_goes n end now l T.task (top_key w.waiting) (ap (λ (x : ℕ). least (wait_key x) l) (sym hw) ∙ T.least) (omega (arith, d.1)))
          (ih (c_one w) (seize now T.task l) he (f.now ∙ hn) (f.end ∙ hw) (subst (λ (x : ℕ). Is c (c_one w) (seize x T.task l)) hn T.is)
          (subst (λ (x : ℕ). Fits 0 m scale R (seize x T.task l)) hn T.fits) (subst (λ (x : ℕ). Alive (seize x T.task l)) hn T.alive))
      go false e ih = rw (c_stays (suc n) w e, rule_stays (suc n) end now l (least (wait_key end) l) refl late) I
        where
          late : (i k : ℕ) → least (wait_key end) l ≡ best i k → now < k
          late i k q = by (dec_lt 0 w.waiting.len)
            where
              by : Dec (0 < w.waiting.len) → now < k
              by (yes p) =
                  let t = waiter I p in
                  let z : best t.task (top_key w.waiting) ≡ best i k = sym (ap (λ (x : ℕ). least (wait_key x) l) (sym hw) ∙ least_wait I t.task t.is p) ∙ q in
                  let y : top_key w.waiting ≡ k = cc in
                  after (dec_lt w.now (top_key w.waiting)) y
                where
                  after : Dec (w.now < top_key w.waiting) → top_key w.waiting ≡ k → now < k
                  after (yes g) y = omega arith
                  after (no g) y = let a : c_due w ≡ true = is_due w.waiting.keys w.waiting.len w.now p (omega arith) in let z : ◌≡◌ {A = ℕ} 0 1 = cc in absurd (omega arith)
              by (no p) = let z : nope ≡ best i k = sym (ap (λ (x : ℕ). least (wait_key x) l) (sym hw) ∙ least_no_wait I (omega arith)) ∙ q in let y : ◌≡◌ {A = ℕ} 0 1 = cc in absurd (omega arith)

  -- all C events of the queues are those of the rules
  pub c_all_is : (w : Work) (l : List Task) → w.now + R ≡ w.end → Is c w l → Fits 0 m scale R l → Alive l → Is c (c_all w) (c_events w.end w.now l)
  unfolding c_all c_events
  c_all_is w l he I F A = rw (waits_len w.waiting.len w l I refl) (c_turns_is w.waiting.len w.end w.now w l he refl refl I F A)

  -- all B events, then all C events
  pub events_is : (w : Work) (l : List Task) → w.now + R ≡ w.end → Is c w l → Fits 0 m scale R l → Is c (events_of w) (events w.end w.now l)
  unfolding events_of events
  events_is w l he I F =
      let f = frame_b_all w in
      let k = b_events w.end l in
      subst (λ (x : ℕ). Is c (c_all (b_all w)) (c_events x w.now k)) f.end
      (subst (λ (x : ℕ). Is c (c_all (b_all w)) (c_events (b_all w).end x k)) f.now
      (c_all_is (b_all w) k (omega (arith, f.now, f.end)) (b_all_is I F) (b_all_lem m scale R w.end l F).0 (b_alive w l F)))

pub frame_events : (w : Work) → Frame w (events_of w)
unfolding events_of c_all
frame_events w = frame_then (frame_b_all w) (frame_c_turns (b_all w).waiting.len (b_all w))
