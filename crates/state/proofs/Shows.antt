-- What a sound work shows: its tasks one by one, the least keys of its queues, its slots
use Rattle.std.specs.Prelude.{if◌then◌else◌}
use mathlib.Core.Path.{◌≡◌, refl, sym, ◌∙◌, ap}
use mathlib.Core.Bool.{Bool, true, false}
use mathlib.Core.Option.{Option, none, some}
use mathlib.Core.Logic.{◌≢◌, ◌⊎◌, inl, inr}
use mathlib.Core.List.{List, [], ◌∷◌, map}
use Prim.Native.Nat.{ℕ, zero, suc, ◌+◌, ◌-◌, min, ◌≤◌, ◌<◌}
use native.Mathlib.Nat.{not-suc-le-zero, le_of_suc-le-suc}
use native.Mathlib.Decide.{dec_lt, ℕ_discrete}
use native.Mathlib.Omega.{arith}
use borrow.Author.Tests.{ltb-true, ltb-false, le-leb, lt-leb}
use lib.Dec.{ltb}
use lib.ListN.{length, get_or}
use lib.Seq.{ext_get_or}
use Rattle.queue.specs.declared.Queue.{Queue}
use Rattle.ground.specs.Sums.{up_from}
use Rattle.rules.specs.Events.{or_key, next_at}
use Rattle.rules.specs.Keys.{run_key, wait_key, Best, nope, best, better, least}
use Rattle.rules.specs.State.{Cond, running, waiting, Task, nobody, at, be, become}
use Rattle.rules.proofs.Cases.{run_key_of, wait_key_of}
use Rattle.rules.proofs.Places.{at_same, at_other, length_become, IsLeast, least_is}
use Rattle.queue.specs.Queues.{top_key, top_task, key_in, Good}
use Rattle.queue.proofs.Keys.{none_empty, top_key_lem, top_least, Added, Removed}
use Rattle.state.specs.View.{cond_of, cond_in, Tidy}
use Rattle.state.specs.Work.{Work, seat, or_top, next_of}
use Rattle.ground.proofs.Ranges.{length_up, at_up}

-- THE VIEW, TASK BY TASK
-- what the events leave alone: how many tasks, who is awake, and each task but for its condition
pub record Crew : Type 0 where
  pub count : ℕ
  pub awake : List Bool
  pub base : ℕ → Task

abbrev pub seen : Crew → Work → ℕ → Task
seen c w i = be (cond_in c.awake w i) (c.base i)

-- the work w of the crew c shows the tasks l
pub record Shows (c : Crew) (w : Work) (l : List Task) : Type 0 where
  pub size : length l ≡ c.count
  pub each : (i : ℕ) → i < c.count → at i l ≡ seen c w i

pub shows_all : (c : Crew) (w : Work) → Shows c w (map (seen c w) (up_from 0 c.count))
shows_all c w =
    record {
      size = length_up (seen c w) 0 c.count;
      each = λ i h. at_up (seen c w) nobody 0 c.count i h ∙ (let z : 0 + i ≡ i = omega arith in ap (seen c w) z);
    }

-- it shows nothing else
pub shown : (c : Crew) (w : Work) (l : List Task) → Shows c w l → map (seen c w) (up_from 0 c.count) ≡ l
shown c w l h =
    let v = shows_all c w in
    ext_get_or nobody (map (seen c w) (up_from 0 c.count)) l (v.size ∙ sym h.size) (λ i hi. let b : i < c.count = omega (arith, v.size) in v.each i b ∙ sym (h.each i b))

-- a change of condition of one task
pub shows_one : (c : Crew) (w v : Work) (l : List Task) → Shows c w l → (i : ℕ) (d : Cond) → i < c.count → cond_in c.awake v i ≡ d
    → ((j : ℕ) → j < c.count → j ≢ i → cond_in c.awake v j ≡ cond_in c.awake w j) → Shows c v (become i d l)
shows_one c w v l h i d hi e f = record { size = length_become l i d ∙ h.size; each = λ j hj. go j hj (ℕ_discrete j i) }
  where
    go : (j : ℕ) → j < c.count → Dec (j ≡ i) → at j (become i d l) ≡ seen c v j
    go j hj (yes q) = rw q (at_same l i d (omega (arith, h.size)) ∙ ap (be d) (h.each i hi) ∙ ap (λ (x : Cond). be x (c.base i)) (sym e))
    go j hj (no q) = at_other l i j d q ∙ h.each j hj ∙ ap (λ (x : Cond). be x (c.base j)) (sym (f j hj q))

-- THE LEAST KEY
-- the least is the only one that nobody is before
module _ (key : Task → Option ℕ) (key_nobody : key nobody ≡ none) where
  pub least_nope : (l : List Task) → ((j : ℕ) → j < length l → key (at j l) ≡ none) → least key l ≡ nope
  unfolding least better
  least_nope [] h = refl
  least_nope (t ∷ l) h = rw (h 0 (omega arith), least_nope l (λ j hj. h (suc j) (omega arith)))

  pub least_only : (l : List Task) (i k : ℕ) → i < length l → key (at i l) ≡ some k → ((j k' : ℕ) → j < length l → key (at j l) ≡ some k' → (k ≤ k') × (k' ≤ k → i ≤ j)) → least key l ≡ best i k
  unfolding least better
  least_only [] i k h e f = absurd (not-suc-le-zero h)
  least_only (t ∷ l) zero k h e f = rw e (go (least key l) (least_is key key_nobody l))
    where
      go : (b : Best) → IsLeast key l b → better (some k) b ≡ best 0 k
      go nope q = refl
      go (best j k') q = rw (le-leb k k' (f (suc j) k' (omega (arith, q.0)) q.1).0)
  least_only (t ∷ l) (suc i) k h e f =
      let ih = least_only l i k (le_of_suc-le-suc h) e (λ j k' hj q. let n = f (suc j) k' (omega arith) q in (n.0, λ x. le_of_suc-le-suc (n.1 x))) in
      rw ih (go (key t) refl)
    where
      go : (o : Option ℕ) → key t ≡ o → better o (best i k) ≡ best (suc i) k
      go none q = refl
      go (some k') q = let n = f 0 k' (omega arith) q in rw (lt-leb k' k (late n (dec_lt k k')))
        where
          late : (k ≤ k') × (k' ≤ k → suc i ≤ 0) → Dec (k < k') → k < k'
          late n (yes y) = y
          late n (no y) = absurd (omega (arith, n.1 (omega arith)))

-- the keys that the view gives are the queues' keys
run_key_of_lem : (now end : ℕ) (o w : Option ℕ) (p : ℕ) (a : Bool) → ((k : ℕ) → o ≡ some k → now ≤ k) → run_key_of now (cond_of now end o w p a) ≡ o
run_key_of_lem now end (some k) w p a h = let z : now + (k - now) ≡ k = omega (arith, h k refl) in ap {B = Option ℕ} some z
run_key_of_lem now end none (some k) p a h = refl
run_key_of_lem now end none none p true h = refl
run_key_of_lem now end none none p false h = refl

wait_key_of_lem : (now end : ℕ) (o w : Option ℕ) (p : ℕ) (a : Bool) → ((k : ℕ) → w ≡ some k → (k < end) × (o ≡ none)) → wait_key_of end (cond_of now end o w p a) ≡ w
wait_key_of_lem now end (some j) (some k) p a h = let x = (h k refl).1 in cc
wait_key_of_lem now end (some j) none p a h = refl
wait_key_of_lem now end none (some k) p a h = let z : end - (end - k) ≡ k = omega (arith, (h k refl).0) in ap {B = Option ℕ} some z
wait_key_of_lem now end none none p true h = refl
wait_key_of_lem now end none none p false h = refl

-- a sound work that shows the list l
pub record Is (c : Crew) (w : Work) (l : List Task) : Type 0 where
  pub tidy : Tidy c.count c.awake w
  pub shows : Shows c w l

module _ {c : Crew} {w : Work} {l : List Task} (I : Is c w l) where
  S : Tidy c.count c.awake w
  S = I.tidy

  pub in_list : (i : ℕ) → i < c.count → i < length l
  in_list i h = omega (arith, I.shows.size)

  -- a task's condition, also by its key
  pub cond_at : (i : ℕ) → i < c.count → (at i l).cond ≡ cond_in c.awake w i
  cond_at i hi = ap (λ (t : Task). t.cond) (I.shows.each i hi)

  pub run_cond : (i k : ℕ) → i < c.count → key_in w.running (suc i) ≡ some k → (at i l).cond ≡ running (seat (suc i) w.slots) (k - w.now)
  unfolding cond_in
  run_cond i k hi e = cond_at i hi ∙ rw e

  pub wait_cond : (i k : ℕ) → i < c.count → key_in w.running (suc i) ≡ none → key_in w.waiting (suc i) ≡ some k → (at i l).cond ≡ waiting (w.end - k)
  unfolding cond_in
  wait_cond i k hi e f = cond_at i hi ∙ rw (e, f)

  pub run_key_at : (i : ℕ) → i < c.count → run_key w.now (at i l) ≡ key_in w.running (suc i)
  unfolding cond_in
  run_key_at i hi =
      ap (run_key_of w.now) (cond_at i hi)
      ∙ run_key_of_lem w.now w.end _ (key_in w.waiting (suc i)) (seat (suc i) w.slots) (get_or c.awake i false) (λ k e. (S.run_in (suc i) k e).2)

  pub wait_key_at : (i : ℕ) → i < c.count → wait_key w.end (at i l) ≡ key_in w.waiting (suc i)
  unfolding cond_in
  wait_key_at i hi =
      ap (wait_key_of w.end) (cond_at i hi)
      ∙ wait_key_of_lem w.now w.end (key_in w.running (suc i)) _ (seat (suc i) w.slots) (get_or c.awake i false) (λ k e. ((S.wait_in (suc i) k e).2, (S.wait_in (suc i) k e).4))

  -- one queue, by the key that the view gives for it
  module _ (q : Queue) (g : Good q) (key : Task → Option ℕ) (key_nobody : key nobody ≡ none) (inside : (t k : ℕ) → key_in q t ≡ some k → (0 < t) × (t ≤ c.count))
      (same : (i : ℕ) → i < c.count → key (at i l) ≡ key_in q (suc i)) where
    least_empty : q.len ≡ 0 → least key l ≡ nope
    least_empty e = least_nope key key_nobody l (λ j hj. same j (omega (arith, I.shows.size)) ∙ none_empty q e (suc j))

    least_top : (t : ℕ) → top_task q ≡ suc t → 0 < q.len → least key l ≡ best t (top_key q)
    least_top t e n =
        let a : key_in q (suc t) ≡ some (top_key q) = rw e at (top_key_lem q g n) in
        let b = inside (suc t) (top_key q) a in
        least_only key key_nobody l t (top_key q) (omega (arith, I.shows.size)) (same t (omega arith) ∙ a)
        (λ j k hj f.
        let z = top_least q g (suc j) k (sym (same j (omega (arith, I.shows.size))) ∙ f) in
        (z.0, λ x. let y = z.1 x in omega arith))

    or_key_lem : (n : ℕ) → or_key (least key l) n ≡ or_top q.keys q.len n
    unfolding or_key
    or_key_lem n = go (ltb 0 q.len) refl
      where
        named : (t : ℕ) → top_task q ≡ t → 0 < q.len → or_key (least key l) n ≡ min (top_key q) n
        named zero e p = absurd (omega (arith, inside (top_task q) (top_key q) (top_key_lem q g p)))
        named (suc t) e p = rw (least_top t e p)

        go : (b : Bool) → ltb 0 q.len ≡ b → or_key (least key l) n ≡ (if b then min (top_key q) n else n)
        go true e = named (top_task q) refl (ltb-true 0 q.len e)
        go false e = rw (least_empty (omega (arith, ltb-false 0 q.len e)))

  pub run_inside : (t k : ℕ) → key_in w.running t ≡ some k → (0 < t) × (t ≤ c.count)
  run_inside t k e = ((S.run_in t k e).0, (S.run_in t k e).1)

  pub wait_inside : (t k : ℕ) → key_in w.waiting t ≡ some k → (0 < t) × (t ≤ c.count)
  wait_inside t k e = ((S.wait_in t k e).0, (S.wait_in t k e).1)

  -- the running queue's top is the running task with the least key; the waiting queue's too
  pub least_run : (t : ℕ) → top_task w.running ≡ suc t → 0 < w.running.len → least (run_key w.now) l ≡ best t (top_key w.running)
  least_run = least_top w.running S.running (run_key w.now) refl run_inside run_key_at

  pub least_no_run : w.running.len ≡ 0 → least (run_key w.now) l ≡ nope
  least_no_run = least_empty w.running S.running (run_key w.now) refl run_inside run_key_at

  pub least_wait : (t : ℕ) → top_task w.waiting ≡ suc t → 0 < w.waiting.len → least (wait_key w.end) l ≡ best t (top_key w.waiting)
  least_wait = least_top w.waiting S.waiting (wait_key w.end) refl wait_inside wait_key_at

  pub least_no_wait : w.waiting.len ≡ 0 → least (wait_key w.end) l ≡ nope
  least_no_wait = least_empty w.waiting S.waiting (wait_key w.end) refl wait_inside wait_key_at

  -- the next instant
  pub next_same : (stop : ℕ) → next_at w.end w.now l stop ≡ next_of w stop
  unfolding next_at next_of
  next_same stop =
      or_key_lem w.running S.running (run_key w.now) refl run_inside run_key_at (or_key (least (wait_key w.end) l) (min w.end stop))
      ∙ ap (or_top w.running.keys w.running.len) (or_key_lem w.waiting S.waiting (wait_key w.end) refl wait_inside wait_key_at (min w.end stop))

-- a condition depends on the seat only if the task runs
pub same_cond : (now end : ℕ) (o o' w w' : Option ℕ) (p p' : ℕ) (a : Bool) → o' ≡ o → w' ≡ w → ((k : ℕ) → o ≡ some k → p' ≡ p) → cond_of now end o' w' p' a ≡ cond_of now end o w p a
same_cond now end (some k) o' w w' p p' a e f h = let z = h k refl in rw (e, z)
same_cond now end none o' (some k) w' p p' a e f h = rw (e, f)
same_cond now end none o' none w' p p' true e f h = rw (e, f)
same_cond now end none o' none w' p p' false e f h = rw (e, f)

-- WHO IS IN WHICH QUEUE
pub clash : {A : Type 0} (o : Option ℕ) (k : ℕ) → o ≡ some k → o ≡ none → A
clash o k e f = let z : ◌≡◌ {A = ℕ} 0 1 = cc in absurd (omega arith)

pub removed_some : (q r : Queue) (t x k : ℕ) → Removed q r t → key_in r x ≡ some k → (x ≢ t) × (key_in q x ≡ some k)
removed_some q r t x k R e =
    let n : x ≢ t = λ z. clash (key_in r x) k e (rw z R.this) in
    (n, sym (R.others x n) ∙ e)

pub added_some : (q r : Queue) (k t x k' : ℕ) → Added q r k t → key_in r x ≡ some k' → ((x ≡ t) × (k' ≡ k)) ⊎ ((x ≢ t) × (key_in q x ≡ some k'))
added_some q r k t x k' R e = go (ℕ_discrete x t)
  where
    go : Dec (x ≡ t) → ((x ≡ t) × (k' ≡ k)) ⊎ ((x ≢ t) × (key_in q x ≡ some k'))
    go (yes z) = inl (z, let a : key_in r t ≡ some k' = rw z at e in let b = R.this in cc)
    go (no z) = inr (z, sym (R.others x z) ∙ e)

pub removed_none : (q r : Queue) (t x : ℕ) → Removed q r t → key_in q x ≡ none → key_in r x ≡ none
removed_none q r t x R e = go (ℕ_discrete x t)
  where
    go : Dec (x ≡ t) → key_in r x ≡ none
    go (yes z) = rw z R.this
    go (no z) = R.others x z ∙ e

module _ {n : ℕ} {awake : List Bool} {w : Work} (S : Tidy n awake w) where
  -- who runs does not wait
  pub run_not_wait : (t k : ℕ) → key_in w.running t ≡ some k → key_in w.waiting t ≡ none
  run_not_wait t k e = go (key_in w.waiting t) refl
    where
      go : (o : Option ℕ) → key_in w.waiting t ≡ o → o ≡ none
      go none f = refl
      go (some j) f = clash (key_in w.running t) k e (S.wait_in t j f).4

  -- who runs or waits is awake
  pub run_awake : (i k : ℕ) → key_in w.running (suc i) ≡ some k → get_or awake i false ≡ true
  run_awake i k e = let z : suc i - 1 ≡ i = omega arith in rw z at (S.run_in (suc i) k e).3

  pub wait_awake : (i k : ℕ) → key_in w.waiting (suc i) ≡ some k → get_or awake i false ≡ true
  wait_awake i k e = let z : suc i - 1 ≡ i = omega arith in rw z at (S.wait_in (suc i) k e).3

  -- nobody has the number 0
  pub run_zero : key_in w.running 0 ≡ none
  run_zero = go (key_in w.running 0) refl
    where
      go : (o : Option ℕ) → key_in w.running 0 ≡ o → o ≡ none
      go none e = refl
      go (some k) e = absurd (omega (arith, (S.run_in 0 k e).0))
