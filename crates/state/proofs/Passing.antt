-- Time passing and the record's slots: the queues' are the rules'
use Rattle.std.specs.Prelude.{if◌then◌else◌}
use mathlib.Core.Path.{◌≡◌, refl, sym, ◌∙◌, ap}
use mathlib.Core.Bool.{Bool, true, false}
use mathlib.Core.Option.{Option, none, some}
use mathlib.Core.Logic.{◌≢◌}
use mathlib.Core.List.{List, [], ◌∷◌, ◌++◌, map}
use Prim.Native.Nat.{ℕ, zero, suc, ◌+◌, ◌-◌, min, ◌≤◌, ◌<◌}
use native.Mathlib.Nat.{not-suc-le-zero, le_of_suc-le-suc}
use native.Mathlib.Decide.{dec_lt}
use native.Mathlib.Omega.{arith}
use borrow.Author.Tests.{eq-eqb, ne_eqb, ltb-false}
use lib.Dec.{ltb}
use lib.ListN.{length, get_or, replicate, length-append, length-replicate, get_or-append}
use lib.Seq.{ext_get_or, get_or-append-add}
use Rattle.ground.specs.Sums.{up_from}
use Rattle.rules.specs.Events.{spend, advance}
use Rattle.rules.specs.Record.{on_proc, slots_of}
use Rattle.rules.specs.State.{Cond, Task, at, be, is_awake, proc}
use Rattle.rules.proofs.Cases.{proc_of}
use Rattle.rules.proofs.Time.{at_advance, length_advance}
use Rattle.queue.specs.Queues.{top_key, key_in}
use Rattle.queue.proofs.Keys.{some_held, top_least}
use Rattle.state.specs.View.{cond_of, cond_in, Seats, Tidy}
use Rattle.state.specs.Work.{Work, at_time, seat, or_top, next_of}
use Rattle.ground.proofs.Ranges.{length_up, at_up, all_one}
use Rattle.state.proofs.Seats.{sits_in}
use Rattle.state.proofs.Shows.{Crew, Is, in_list, cond_at, run_cond, clash, run_awake, wait_awake}

-- TIME
spend_of : (now to end : ℕ) (o w : Option ℕ) (p : ℕ) (a : Bool) → now ≤ to → spend (to - now) (cond_of now end o w p a) ≡ cond_of to end o w p a
spend_of now to end (some k) w p a h = let z : k - now - (to - now) ≡ k - to = omega arith in rw z
spend_of now to end none (some k) p a h = refl
spend_of now to end none none p true h = refl
spend_of now to end none none p false h = refl

-- keys are instants: as time passes, no key changes
pub advance_is : {c : Crew} {w : Work} {l : List Task} → Is c w l → (to : ℕ) → w.now ≤ to → ((t k : ℕ) → key_in w.running t ≡ some k → to ≤ k)
    → Is c (at_time to w) (advance (to - w.now) l)
unfolding cond_in
advance_is {c} {w} {l} I to h late =
    record {
      tidy =
          record {
            few = S.few;
            running = S.running;
            waiting = S.waiting;
            run_in = λ t k e. let r = S.run_in t k e in (r.0, r.1, late t k e, r.3);
            wait_in = S.wait_in;
            seats = S.seats;
          };
      shows =
          record {
            size = length_advance (to - w.now) l ∙ I.shows.size;
            each = λ i hi.
                at_advance (to - w.now) i l
                ∙ ap (λ (t : Task). be (spend (to - w.now) t.cond) t) (I.shows.each i hi)
                ∙ ap (λ (d : Cond). be d (c.base i)) (spend_of w.now to w.end (key_in w.running (suc i)) (key_in w.waiting (suc i)) (seat (suc i) w.slots) (get_or c.awake i false) h);
          };
    }
  where
    S : Tidy c.count c.awake w
    S = I.tidy

-- the next instant is no later than any running key
pub next_late : {c : Crew} {w : Work} {l : List Task} → Is c w l → (stop t k : ℕ) → key_in w.running t ≡ some k → next_of w stop ≤ k
unfolding next_of
next_late {c} {w} I stop t k e = go (ltb 0 w.running.len) refl
  where
    n : ℕ
    n = or_top w.waiting.keys w.waiting.len (min w.end stop)

    go : (b : Bool) → ltb 0 w.running.len ≡ b → (if b then min (top_key w.running) n else n) ≤ k
    go true q = omega (arith, (top_least w.running I.tidy.running t k e).0)
    go false q = absurd (omega (arith, ltb-false 0 w.running.len q, some_held w.running I.tidy.running t k e))

-- THE SLOTS
on_none : (p i : ℕ) (l : List Task) → ((j : ℕ) → j < length l → proc (at j l) ≢ p) → on_proc p i l ≡ 0
unfolding on_proc
on_none p i [] h = refl
on_none p i (t ∷ l) h = rw (ne_eqb (proc t) p (h 0 (omega arith))) (on_none p (suc i) l (λ j hj. h (suc j) (omega arith)))

on_one : (p i : ℕ) (l : List Task) (j : ℕ) → j < length l → proc (at j l) ≡ p → ((x : ℕ) → x < length l → proc (at x l) ≡ p → x ≡ j) → on_proc p i l ≡ i + j
unfolding on_proc
on_one p i [] j h e u = absurd (not-suc-le-zero h)
on_one p i (t ∷ l) zero h e u = rw (eq-eqb (proc t) p e) (omega arith)
on_one p i (t ∷ l) (suc j) h e u =
    let n : proc t ≢ p = λ z. omega (arith, u 0 (omega arith) z) in
    rw (ne_eqb (proc t) p n) (on_one p (suc i) l j (le_of_suc-le-suc h) e (λ x hx q. let y = u (suc x) (omega arith) q in omega arith) ∙ omega arith)

proc_of_lem : (now end : ℕ) (o w : Option ℕ) (p : ℕ) (a : Bool) (r : ℕ) → proc_of (cond_of now end o w p a) ≡ suc r → (p ≡ suc r) × (o ≡ none → ⊥)
proc_of_lem now end (some k) w p a r e = (e, λ z. clash (some k) k refl z)
proc_of_lem now end none (some k) p a r e = absurd (omega arith)
proc_of_lem now end none none p true r e = absurd (omega arith)
proc_of_lem now end none none p false r e = absurd (omega arith)

module _ {c : Crew} {w : Work} {l : List Task} (I : Is c w l) where
  S : Tidy c.count c.awake w
  S = I.tidy

  -- who is on processor r + 1 stands in the slot r
  on_slot : (x r : ℕ) → x < c.count → proc (at x l) ≡ suc r → get_or w.slots r 0 ≡ suc x
  unfolding cond_in
  on_slot x r hx e =
      go (key_in w.running (suc x)) refl
      (proc_of_lem w.now w.end (key_in w.running (suc x)) (key_in w.waiting (suc x)) (seat (suc x) w.slots) (get_or c.awake x false) r (ap proc_of (sym (cond_at I x hx)) ∙ e))
    where
      go : (o : Option ℕ) → key_in w.running (suc x) ≡ o → (seat (suc x) w.slots ≡ suc r) × (key_in w.running (suc x) ≡ none → ⊥) → get_or w.slots r 0 ≡ suc x
      go none f q = absurd (q.1 f)
      go (some k) f q =
          let o = sits_in S.seats x k f in
          let z : r ≡ o.place = omega (arith, q.0, o.is) in
          rw z o.holds

  pub slot_is : (r : ℕ) → on_proc (suc r) 1 l ≡ get_or w.slots r 0
  slot_is r = go (get_or w.slots r 0) refl
    where
      go : (x : ℕ) → get_or w.slots r 0 ≡ x → on_proc (suc r) 1 l ≡ x
      go zero e = on_none (suc r) 1 l (λ j hj q. omega (arith, on_slot j r (omega (arith, I.shows.size)) q))
      go (suc x) e = held (key_in w.running (suc x)) refl
        where
          held : (o : Option ℕ) → key_in w.running (suc x) ≡ o → on_proc (suc r) 1 l ≡ suc x
          held none f = absurd (S.seats.runs r x e f)
          held (some k) f =
              let b = S.run_in (suc x) k f in
              let o = sits_in S.seats x k f in
              let z : o.place ≡ r = S.seats.apart o.place r x o.holds e in
              on_one (suc r) 1 l x (in_list I x b.1)
              (ap proc_of (run_cond I x k b.1 f) ∙ o.is ∙ ap suc z)
              (λ y hy q. let v = on_slot y r (omega (arith, I.shows.size)) q in omega arith)
              ∙ omega arith

  -- the record's slots are the array of slots
  pub slots_same : slots_of w.m l ≡ w.slots
  unfolding slots_of
  slots_same = ext_get_or 0 (slots_of w.m l) w.slots (size ∙ sym b.room) (λ i hi. each i (dec_lt i w.m))
    where
      b : Seats w.m (key_in w.running) w.slots
      b = S.seats

      f : ℕ → ℕ
      f p = on_proc p 1 l

      first : List ℕ
      first = map f (up_from 1 w.m)

      rest : List ℕ
      rest = replicate (16 - w.m) 0

      len : length first ≡ w.m
      len = length_up f 1 w.m

      size : length (first ++ rest) ≡ 16
      size = length-append first rest ∙ omega (arith, len, length-replicate {A = ℕ} (16 - w.m) 0, b.most)

      each : (i : ℕ) → Dec (i < w.m) → get_or (first ++ rest) i 0 ≡ get_or w.slots i 0
      each i (yes h) = get_or-append first rest 0 i (omega (arith, len)) ∙ at_up f 0 1 w.m i h ∙ (let z : 1 + i ≡ suc i = omega arith in rw z (slot_is i))
      each i (no h) =
          let z : i ≡ length first + (i - w.m) = omega (arith, len) in
          ap (λ (x : ℕ). get_or (first ++ rest) x 0) z ∙ get_or-append-add first rest (i - w.m) 0 ∙ all_one 0 (16 - w.m) (i - w.m) ∙ sym (b.past i (omega arith))

-- who is awake
awake_of : (now end : ℕ) (o w : Option ℕ) (p : ℕ) (a : Bool) → ((k : ℕ) → o ≡ some k → a ≡ true) → ((k : ℕ) → w ≡ some k → a ≡ true) → is_awake (cond_of now end o w p a) ≡ a
awake_of now end (some k) w p a h g = sym (h k refl)
awake_of now end none (some k) p a h g = sym (g k refl)
awake_of now end none none p true h g = refl
awake_of now end none none p false h g = refl

pub awake_at : {c : Crew} {w : Work} {l : List Task} → Is c w l → (i : ℕ) → i < c.count → is_awake (at i l).cond ≡ get_or c.awake i false
unfolding cond_in
awake_at {c} {w} I i hi =
    ap is_awake (cond_at I i hi)
    ∙ awake_of w.now w.end (key_in w.running (suc i)) (key_in w.waiting (suc i)) (seat (suc i) w.slots) (get_or c.awake i false) (run_awake I.tidy i) (wait_awake I.tidy i)
