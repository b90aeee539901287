-- The four moves: each changes one queue and one task's condition, and keeps a work sound
use mathlib.Core.Path.{◌≡◌, refl, sym, ◌∙◌, ap}
use mathlib.Core.Bool.{true, false}
use mathlib.Core.Option.{none, some}
use mathlib.Core.Logic.{◌≢◌, ◌⊎◌, inl, inr}
use mathlib.Core.List.{List}
use Prim.Native.Nat.{ℕ, zero, suc, ◌+◌, ◌-◌, ◌≤◌, ◌<◌}
use native.Mathlib.Omega.{arith}
use lib.ListN.{length, get_or, set}
use lib.Seq.{get_or-set_same, get_or-set_other, set-set, set_comm}
use Rattle.queue.specs.declared.Queue.{Queue}
use Rattle.rules.specs.State.{Cond, resting, running, waiting, Task, nobody, at, be, become}
use Rattle.rules.proofs.Places.{length_become, inside}
use Rattle.queue.specs.Queues.{push_of, pop_of, top_key, top_task, key_in, Good}
use Rattle.queue.proofs.Keys.{top_key_lem, Added, Removed, push_adds, pop_removes}
use Rattle.queue.proofs.Room.{has_room}
use Rattle.state.specs.View.{cond_in, Tidy}
use Rattle.state.specs.Work.{Work, moved, seat, rest_top, unqueue, park, place}
use Rattle.state.proofs.Seats.{Sits, reseat, seat_new, seat_same}
use Rattle.state.proofs.Shows.{Crew, shows_one, Is, run_inside, wait_inside, same_cond, clash, removed_some, added_some, removed_none, run_not_wait, run_awake, wait_awake, run_zero}

-- the top of a queue, with its task's place in the table
pub record Top (q : Queue) : Type 0 where
  pub task : ℕ
  pub is : top_task q ≡ suc task
  pub held : key_in q (suc task) ≡ some (top_key q)

pub top_of : (q : Queue) (n : ℕ) → Good q → ((t k : ℕ) → key_in q t ≡ some k → (0 < t) × (t ≤ n)) → 0 < q.len → Top q
top_of q n g inside h = go (top_task q) refl
  where
    go : (t : ℕ) → top_task q ≡ t → Top q
    go zero e = absurd (omega (arith, inside (top_task q) (top_key q) (top_key_lem q g h)))
    go (suc t) e = record { task = t; is = e; held = rw e at (top_key_lem q g h) }

-- a task changed twice is as the last change leaves it
pub become_twice : (l : List Task) (i : ℕ) (c d : Cond) → i < length l → become i c (become i d l) ≡ become i c l
unfolding become
become_twice l i c d h = ap (λ (t : Task). set (set l i (be d (at i l))) i (be c t)) (get_or-set_same l i (be d (at i l)) nobody h) ∙ set-set l i (be d (at i l)) (be c (at i l))

become_swap : (l : List Task) (i j : ℕ) (c d : Cond) → i ≢ j → become j d (become i c l) ≡ become i c (become j d l)
unfolding become
become_swap l i j c d ne =
    ap (λ (t : Task). set (set l i (be c (at i l))) j (be d t)) (get_or-set_other l i j (be c (at i l)) nobody (λ z. ne (sym z)))
    ∙ set_comm l i j (be c (at i l)) (be d (at j l)) ne
    ∙ sym (ap (λ (t : Task). set (set l j (be d (at j l))) i (be c t)) (get_or-set_other l j i (be d (at j l)) nobody ne))

pub become_again : (l : List Task) (i j : ℕ) (c d e : Cond) → i < length l → i ≢ j → become i c (become j d (become i e l)) ≡ become i c (become j d l)
become_again l i j c d e h ne = ap (become i c) (become_swap l i j e d ne) ∙ become_twice (become j d l) i c e (rw length_become h)

module _ {c : Crew} {w : Work} {l : List Task} (I : Is c w l) where
  S : Tidy c.count c.awake w
  S = I.tidy

  -- who is on top
  pub runner : 0 < w.running.len → Top w.running
  runner n = top_of w.running c.count S.running (run_inside I) n

  pub waiter : 0 < w.waiting.len → Top w.waiting
  waiter n = top_of w.waiting c.count S.waiting (wait_inside I) n

  -- THE TOP OF THE RUNNING RESTS
  pub rest_is : 0 < w.running.len → (t : Top w.running) (o : Sits w.m w.slots (suc t.task)) → Is c (rest_top o.place w) (become t.task resting l)
  unfolding rest_top cond_in
  rest_is n t o = record { tidy = tidy; shows = shows_one c w v l I.shows t.task resting in_t.1 this others }
    where
      q : Queue
      q = pop_of w.running

      v : Work
      v = moved w (pop_of w.running) w.waiting (set w.slots o.place 0)

      R : Removed w.running (pop_of w.running) (suc t.task)
      R = rw t.is at (pop_removes w.running S.running n)

      in_t : (0 < suc t.task) × (suc t.task ≤ c.count) × (w.now ≤ top_key w.running) × (get_or c.awake (suc t.task - 1) false ≡ true)
      in_t = S.run_in (suc t.task) (top_key w.running) t.held

      joins : (x : ℕ) → 0 ≡ suc x → key_in (pop_of w.running) (suc x) ≡ none → ⊥
      joins x e f = omega arith

      same : (x : ℕ) → x ≢ suc t.task → x ≢ 0 → key_in (pop_of w.running) x ≡ key_in w.running x
      same x a b = R.others x a

      tidy : Tidy c.count c.awake (moved w (pop_of w.running) w.waiting (set w.slots o.place 0))
      tidy =
          record {
            few = S.few;
            running = R.good;
            waiting = S.waiting;
            run_in = λ x k e. S.run_in x k (removed_some w.running q (suc t.task) x k R e).1;
            wait_in = λ x k e. let y = S.wait_in x k e in (y.0, y.1, y.2, y.3, removed_none w.running q (suc t.task) x R y.4);
            seats = reseat S.seats (key_in q) o.place (suc t.task) 0 o.low o.holds R.this (run_zero S) joins same;
          }

      this : cond_in c.awake (moved w (pop_of w.running) w.waiting (set w.slots o.place 0)) t.task ≡ resting
      this = rw (R.this, run_not_wait S (suc t.task) (top_key w.running) t.held, run_awake S t.task (top_key w.running) t.held)

      others : (j : ℕ) → j < c.count → j ≢ t.task → cond_in c.awake (moved w (pop_of w.running) w.waiting (set w.slots o.place 0)) j ≡ cond_in c.awake w j
      others j hj ne =
          let nj : suc j ≢ suc t.task = λ z. ne (omega arith) in
          same_cond w.now w.end _ _ _ _ _ _ (get_or c.awake j false) (R.others (suc j) nj) refl
          (λ k e. seat_same S.seats (key_in q) o.place (suc t.task) 0 o.low o.holds R.this (run_zero S) joins same j k e nj)

  -- THE TOP OF THE WAITING LEAVES ITS QUEUE
  pub unqueue_is : 0 < w.waiting.len → (t : Top w.waiting) → Is c (unqueue w) (become t.task resting l)
  unfolding unqueue cond_in
  unqueue_is n t =
      record {
        tidy =
            record {
              few = S.few;
              running = S.running;
              waiting = R.good;
              run_in = S.run_in;
              wait_in = λ x k e. S.wait_in x k (removed_some w.waiting (pop_of w.waiting) (suc t.task) x k R e).1;
              seats = S.seats;
            };
        shows =
            shows_one c w (moved w w.running (pop_of w.waiting) w.slots) l I.shows t.task resting in_t.1
            (rw (in_t.4, R.this, wait_awake S t.task (top_key w.waiting) t.held))
            (λ j hj ne. same_cond w.now w.end (key_in w.running (suc j)) _ _ _ (seat (suc j) w.slots) _ (get_or c.awake j false) refl (R.others (suc j) (λ z. ne (omega arith))) (λ k e. refl));
      }
    where
      in_t : (0 < suc t.task) × (suc t.task ≤ c.count) × (top_key w.waiting < w.end) × (get_or c.awake (suc t.task - 1) false ≡ true) × (key_in w.running (suc t.task) ≡ none)
      in_t = S.wait_in (suc t.task) (top_key w.waiting) t.held

      R : Removed w.waiting (pop_of w.waiting) (suc t.task)
      R = rw t.is at (pop_removes w.waiting S.waiting n)

  -- room for one more
  pub wait_room : (u : ℕ) → u < c.count → key_in w.waiting (suc u) ≡ none → w.waiting.len < 128
  wait_room u hu out = omega (arith, S.few, has_room w.waiting c.count S.waiting (wait_inside I) (suc u) (omega arith) hu out)

  pub run_room : (u : ℕ) → u < c.count → key_in w.running (suc u) ≡ none → w.running.len < 128
  run_room u hu out = omega (arith, S.few, has_room w.running c.count S.running (run_inside I) (suc u) (omega arith) hu out)

  -- A TASK IN NO QUEUE WAITS
  pub park_is : (u a : ℕ) → u < c.count → key_in w.running (suc u) ≡ none → key_in w.waiting (suc u) ≡ none → get_or c.awake u false ≡ true
      → 0 < a → a ≤ w.end → Is c (park (suc u) a w) (become u (waiting a) l)
  unfolding park cond_in
  park_is u a hu out_r out_w up pos small =
      record {
        tidy =
            record {
              few = S.few;
              running = S.running;
              waiting = W.good;
              run_in = S.run_in;
              wait_in = λ x k e. wait_in x k (added_some w.waiting q (w.end - a) (suc u) x k W e);
              seats = S.seats;
            };
        shows =
            shows_one c w (moved w w.running q w.slots) l I.shows u (waiting a) hu
            (let z : w.end - (w.end - a) ≡ a = omega arith in rw (out_r, W.this, z))
            (λ j hj ne. same_cond w.now w.end (key_in w.running (suc j)) _ _ _ (seat (suc j) w.slots) _ (get_or c.awake j false) refl (W.others (suc j) (λ z. ne (omega arith))) (λ k e. refl));
      }
    where
      q : Queue
      q = push_of w.waiting (w.end - a) (suc u)

      W : Added w.waiting q (w.end - a) (suc u)
      W = push_adds w.waiting (w.end - a) (suc u) S.waiting (wait_room u hu out_w) out_w

      wait_in : (x k : ℕ) → ((x ≡ suc u) × (k ≡ w.end - a)) ⊎ ((x ≢ suc u) × (key_in w.waiting x ≡ some k))
          → (0 < x) × (x ≤ c.count) × (k < w.end) × (get_or c.awake (x - 1) false ≡ true) × (key_in w.running x ≡ none)
      wait_in x k (inl z) = (omega arith, omega arith, omega arith, (let y : x - 1 ≡ u = omega arith in rw y up), rw z.0 out_r)
      wait_in x k (inr z) = S.wait_in x k z.1

  -- A TASK IN NO QUEUE TAKES AN IDLE PROCESSOR
  pub place_is : (r u a : ℕ) → r < w.m → get_or w.slots r 0 ≡ 0 → u < c.count → key_in w.running (suc u) ≡ none → key_in w.waiting (suc u) ≡ none
      → get_or c.awake u false ≡ true → Is c (place r (suc u) a w) (become u (running (suc r) a) l)
  unfolding place cond_in
  place_is r u a hr idle hu out_r out_w up = record { tidy = tidy; shows = shows_one c w (moved w q w.waiting sl) l I.shows u _ hu this others }
    where
      k : ℕ
      k = w.now + a

      q : Queue
      q = push_of w.running (w.now + a) (suc u)

      sl : List ℕ
      sl = set w.slots r (suc u)

      A : Added w.running q k (suc u)
      A = push_adds w.running k (suc u) S.running (run_room u hu out_r) out_r

      leaves : key_in q 0 ≡ none
      leaves = A.others 0 (λ z. omega arith) ∙ run_zero S

      joining : (x : ℕ) → suc u ≡ suc x → key_in q (suc x) ≡ none → ⊥
      joining x e f = clash (key_in q (suc x)) k (ap (key_in q) (sym e) ∙ A.this) f

      same : (x : ℕ) → x ≢ 0 → x ≢ suc u → key_in q x ≡ key_in w.running x
      same x a b = A.others x b

      tidy : Tidy c.count c.awake (moved w q w.waiting sl)
      tidy =
          record {
            few = S.few;
            running = A.good;
            waiting = S.waiting;
            run_in = λ x k' e. run_in x k' (added_some w.running q k (suc u) x k' A e);
            wait_in = λ x k' e. let o = S.wait_in x k' e in (o.0, o.1, o.2, o.3, A.others x (λ y. clash (key_in w.waiting x) k' e (rw y out_w)) ∙ o.4);
            seats = reseat S.seats (key_in q) r 0 (suc u) hr idle leaves out_r joining same;
          }
        where
          run_in : (x k' : ℕ) → ((x ≡ suc u) × (k' ≡ k)) ⊎ ((x ≢ suc u) × (key_in w.running x ≡ some k')) → (0 < x) × (x ≤ c.count) × (w.now ≤ k') × (get_or c.awake (x - 1) false ≡ true)
          run_in x k' (inl z) = (omega arith, omega arith, omega arith, let y : x - 1 ≡ u = omega arith in rw y up)
          run_in x k' (inr z) = S.run_in x k' z.1

      this : cond_in c.awake (moved w q w.waiting sl) u ≡ running (suc r) a
      this =
          let z : w.now + a - w.now ≡ a = omega arith in
          rw (A.this, seat_new S.seats (key_in q) r 0 (suc u) hr idle leaves out_r joining same u refl, z)

      others : (j : ℕ) → j < c.count → j ≢ u → cond_in c.awake (moved w q w.waiting sl) j ≡ cond_in c.awake w j
      others j hj ne =
          let nj : suc j ≢ suc u = λ z. ne (omega arith) in
          same_cond w.now w.end _ _ (key_in w.waiting (suc j)) _ _ _ (get_or c.awake j false) (A.others (suc j) nj) refl
          (λ k e. seat_same S.seats (key_in q) r 0 (suc u) hr idle leaves out_r joining same j k e (λ z. omega arith))
