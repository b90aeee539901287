-- The loop of an opening: what is left to enter is all there was to enter
use Rattle.std.specs.Prelude.{if◌then◌else◌}
use mathlib.Core.Path.{◌≡◌, refl, sym, ◌∙◌, ap, subst}
use mathlib.Core.Bool.{Bool, true, false}
use mathlib.Core.List.{List, foldl}
use Prim.Native.Nat.{ℕ, ◌+◌, ◌*◌, ◌-◌, ◌≤◌, ◌<◌}
use native.Mathlib.Numerals.{add-one}
use native.Mathlib.Omega.{arith}
use lib.Dec.{ltb}
use lib.ListN.{length, get_or, set, take, drop, length-set}
use lib.Seq.{drop-cons, drop-length, get_or-take, length-take-le}
use Rattle.queue.specs.declared.Queue.{Queue}
use Rattle.queue.specs.Heap.{rise}
use Rattle.queue.specs.Queues.{entry, blank, earlier, entries, push_of}
use Rattle.queue.proofs.Entries.{length_pairs, length_keys, length_tasks}
use Rattle.queue.proofs.Keys.{push_len}
use Rattle.queue.proofs.Walks.{rise_by}
use Rattle.state.specs.Fit.{Room, Opens, Enters}
use Rattle.state.specs.Work.{Work, park, place, enter, enter_row, enter_all}

-- THE ROOM STAYS
sized_push : (q : Queue) (k t : ℕ) → length q.keys ≡ 128 → length q.tasks ≡ 128 → (length (push_of q k t).keys ≡ 128) × (length (push_of q k t).tasks ≡ 128)
unfolding push_of
sized_push q k t a b =
    let l = rise blank earlier q.len (set (entries q) q.len (entry k t)) q.len in
    let e : length l ≡ 128 = rise_by blank earlier (λ i x. length x ≡ 128) (λ x. length x ≡ 128) (λ i x s p. p) (λ i x h s p. simp length-set p)
    q.len (set (entries q) q.len (entry k t)) q.len (omega arith) (simp length-set (length_pairs q.keys q.tasks (omega arith) ∙ a)) in
    (length_keys l ∙ e, length_tasks l ∙ e)

-- what stays and what grows as a task enters
record Entered (w v : Work) : Type 0 where
  room : Room v
  now : v.now ≡ w.now
  end : v.end ≡ w.end
  more : v.running.len + v.waiting.len ≤ w.running.len + w.waiting.len + 1

entered : (t a : ℕ) (w : Work) → Room w → Entered w (enter t a w)
unfolding enter place park
entered t a w r = go (ltb w.running.len w.m)
  where
    go : (b : Bool) → Entered w (if b then place w.running.len t a w else park t a w)
    go true =
        let s = sized_push w.running (w.now + a) t r.run_keys r.run_tasks in
        record {
          room = record { run_keys = s.0; run_tasks = s.1; wait_keys = r.wait_keys; wait_tasks = r.wait_tasks; slots = simp length-set r.slots; places = r.places };
          now = refl;
          end = refl;
          more = omega (arith, push_len w.running (w.now + a) t);
        }
    go false =
        let s = sized_push w.waiting (w.end - a) t r.wait_keys r.wait_tasks in
        record {
          room = record { run_keys = r.run_keys; run_tasks = r.run_tasks; wait_keys = s.0; wait_tasks = s.1; slots = r.slots; places = r.places };
          now = refl;
          end = refl;
          more = omega (arith, push_len w.waiting (w.end - a) t);
        }

entered_row : (awake : List Bool) (share : List ℕ) (len : ℕ) (w : Work) (i : ℕ) → Room w → Entered w (enter_row awake share len w i)
unfolding enter_row
entered_row awake share len w i r = go (get_or awake i false)
  where
    go : (b : Bool) → Entered w (if b then enter (i + 1) (get_or share i 0 * len) w else w)
    go true = entered (i + 1) (get_or share i 0 * len) w r
    go false = record { room = r; now = refl; end = refl; more = omega arith }

-- AFTER i ROWS
pub record Entering (awake : List Bool) (share : List ℕ) (len : ℕ) (order : List ℕ) (n : ℕ) (w₀ w : Work) (i : ℕ) : Type 0 where
  pub from : Opens w₀ order share n len
  pub far : i ≤ n
  pub room : Room w
  pub now : w.now ≡ w₀.now
  pub end : w.end ≡ w₀.end
  pub few : w.running.len + w.waiting.len ≤ i
  pub left : enter_all awake share len (drop i (take n order)) w ≡ enter_all awake share len (take n order) w₀

pub entering_from : {awake : List Bool} {share : List ℕ} {len : ℕ} {order : List ℕ} {n : ℕ} {w : Work} → Opens w order share n len → Entering awake share len order n w w 0
entering_from o = record { from = o; far = omega arith; room = o.room; now = refl; end = refl; few = omega (arith, o.idle); left = refl }

module _ {awake : List Bool} {share : List ℕ} {len : ℕ} {order : List ℕ} {n : ℕ} {w₀ w : Work} {i : ℕ} (e : Entering awake share len order n w₀ w i) where
  -- the next of the order is a row, which may enter
  pub entering_row : i < n → get_or order i 0 < 128
  entering_row h = omega (arith, e.from.inside i h, e.from.few)

  pub entering_may : i < n → Enters w (get_or share (get_or order i 0) 0 * len)
  entering_may h =
      let o = e.from in
      record {
        room = e.room;
        run_room = omega (arith, e.few, o.few);
        wait_room = omega (arith, e.few, o.few);
        amount = omega (arith, o.amounts (get_or order i 0) (o.inside i h), e.now, e.end);
        small = omega (arith, o.small, e.end);
      }

  all_there : length (take n order) ≡ n
  all_there = length-take-le n order (omega (arith, e.from.few, e.from.rows))

  turn : i < n → enter_all awake share len (drop i (take n order)) w ≡ enter_all awake share len (drop (i + 1) (take n order)) (enter_row awake share len w (get_or order i 0))
  unfolding enter_all
  turn h =
      let k = all_there in
      let g : i < length (take n order) = omega arith in
      rw (drop-cons (take n order) i 0, add-one i, get_or-take)

  one_on : i < n → Entering awake share len order n w₀ (enter_row awake share len w (get_or order i 0)) (i + 1)
  one_on h =
      let k = entered_row awake share len w (get_or order i 0) e.room in
      record { from = e.from; far = omega arith; room = k.room; now = k.now ∙ e.now; end = k.end ∙ e.end; few = omega (arith, k.more, e.few); left = sym (turn h) ∙ e.left }

  pub entering_on : {v : Work} → i < n → v ≡ enter_row awake share len w (get_or order i 0) → Entering awake share len order n w₀ v (i + 1)
  entering_on h v = subst (λ (x : Work). Entering awake share len order n w₀ x (i + 1)) (sym v) (one_on h)

  pub entering_end : n ≤ i → w ≡ enter_all awake share len (take n order) w₀
  unfolding enter_all
  entering_end h = let j : i ≡ length (take n order) = omega (arith, e.far, all_there) in sym (ap (λ (x : ℕ). foldl (enter_row awake share len) w (drop x (take n order))) j ∙ rw drop-length) ∙ e.left
