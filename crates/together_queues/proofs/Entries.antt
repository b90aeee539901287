-- One loop over a queue: every entry so far stands in order, is fresh, and has its key in range; the marks and the sum so far
use mathlib.Core.Path.{◌≡◌, refl, sym, ◌∙◌, ap}
use mathlib.Core.Bool.{Bool, true, false, not, ◌&&◌}
use mathlib.Core.List.{List}
use Prim.Native.Nat.{ℕ, ◌+◌, ◌*◌, ◌-◌, ◌≤◌, ◌<◌}
use native.Mathlib.Omega.{arith}
use borrow.Author.Tests.{ltb-true, leb-true}
use lib.Dec.{leb, ltb}
use lib.ListN.{length, get_or, take}
use Rattle.queue.specs.Below.{all_below}
use Rattle.queue.specs.Heap.{above, is_heap}
use Rattle.queue.specs.Lent.{at, sized, in_turn}
use Rattle.queue.specs.Queues.{stands_of}
use Rattle.queue.proofs.Entries.{comes_first_is}
use Rattle.queue.specs.declared.Queue.{Queue}
use Rattle.state.specs.Sound.{fresh, mark, all_fresh, all_marked}
use Rattle.together_queues.specs.declared.Roll.{Roll}
use Rattle.together_rows.proofs.Bounds.{sum_fits}
use Rattle.together_rows.proofs.Folds.{all_none, all_more, all_at, all_same, all_fails, all_whole, and_first, and_next, and_both, second_fails, sum_none, sum_more}
use Rattle.together_queues.specs.Amounts.{run_sum}
use Rattle.together_queues.specs.Entries.{key_ok, keys_ok, with_met, enters}
use Rattle.together_queues.proofs.Meeting.{Meets, meets_from, meets_on, meets_fails, meets_end}

-- the queue's order, place by place
stands_same : (keys tasks : List ℕ) (n : ℕ) → (0 < n → sized keys tasks) → n ≤ 128 → stands_of (at keys tasks n) ≡ all_below n (in_turn keys tasks)
unfolding is_heap
stands_same keys tasks n z h = all_same _ _ n (λ j k. ap not (comes_first_is keys tasks j (above j) (z (omega arith)) (omega arith) (omega arith) refl refl))

-- an entry in range
pub key_in : (now top : ℕ) (keys tasks : List ℕ) (n j : ℕ) → keys_ok now top keys tasks n ≡ true → j < n → (0 < get_or tasks j 0) × (now < get_or keys j 0) × (get_or keys j 0 ≤ top)
unfolding keys_ok
key_in now top keys tasks n j e h =
    let t = get_or tasks j 0 in
    let k = get_or keys j 0 in
    let a = and_both (ltb 0 t) _ (all_at (λ i. key_ok now top (get_or tasks i 0) (get_or keys i 0)) n j e h) in
    let b = and_both (ltb now k) (leb k top) a.1 in
    (ltb-true 0 t a.0, ltb-true now k b.0, leb-true k top b.1)

module _ (now top : ℕ) (q : Queue) (r₀ : Roll) where
  abbrev key_at : ℕ → Bool
  key_at j = key_ok now top (get_or q.tasks j 0) (get_or q.keys j 0)

  pub record Walked (i : ℕ) (r : Roll) (sum : ℕ) : Type 0 where
    pub met : Meets q.len q.tasks r₀ i r
    pub turns : all_below i (in_turn q.keys q.tasks) ≡ true
    pub in_range : keys_ok now top q.keys q.tasks i ≡ true
    pub total : sum ≡ run_sum now q.keys i

  pub walked_from : Walked 0 r₀ 0
  unfolding keys_ok
  walked_from = record { met = meets_from q.len q.tasks r₀; turns = all_none (in_turn q.keys q.tasks); in_range = all_none key_at; total = sym (sum_none (λ j. get_or q.keys j 0 - now)) }

  -- an entry fails
  pub key_fails : (i : ℕ) → i < q.len → key_at i ≡ false → enters r₀ now top q ≡ false
  unfolding keys_ok
  key_fails i h e = second_fails (stands_of q) _ (second_fails (all_fresh r₀.count r₀.ok.now (take q.len q.tasks) r₀.met) _ (all_fails key_at q.len i h e))

  pub turn_fails : (i : ℕ) → (0 < q.len → sized q.keys q.tasks) → q.len ≤ 128 → i < q.len → in_turn q.keys q.tasks i ≡ false → enters r₀ now top q ≡ false
  turn_fails i z b h e = and_first (stands_of q) _ (stands_same q.keys q.tasks q.len z b ∙ all_fails (in_turn q.keys q.tasks) q.len i h e)

  module _ {i : ℕ} {r : Roll} {sum : ℕ} (W : Walked i r sum) (z : 0 < q.len → sized q.keys q.tasks) (few : q.len ≤ 128) where
    room : q.len ≤ length q.tasks
    room = let y : 0 < q.len → length q.tasks ≡ 128 = λ h. (z h).1 in grind arith

    abbrev entry_at : Bool
    entry_at = (key_at i && fresh r.count r.ok.now r.met (get_or q.tasks i 0)) && in_turn q.keys q.tasks i

    pub fresh_fails : i < q.len → fresh r.count r.ok.now r.met (get_or q.tasks i 0) ≡ false → enters r₀ now top q ≡ false
    fresh_fails h e =
        second_fails (stands_of q) _ (and_first (all_fresh r₀.count r₀.ok.now (take q.len q.tasks) r₀.met) _ (sym (meets_fails W.met room h (sym e))))

    -- the entry that stops the loop
    pub entry_fails : i < q.len → false ≡ entry_at → enters r₀ now top q ≡ false
    entry_fails h e = go (key_at i) refl (fresh r.count r.ok.now r.met (get_or q.tasks i 0)) refl (in_turn q.keys q.tasks i) refl e
      where
        go : (a : Bool) → key_at i ≡ a → (b : Bool) → fresh r.count r.ok.now r.met (get_or q.tasks i 0) ≡ b → (c : Bool) → in_turn q.keys q.tasks i ≡ c → false ≡ (a && b) && c
            → enters r₀ now top q ≡ false
        go false x b y c w n = key_fails i h x
        go true x false y c w n = fresh_fails h y
        go true x true y false w n = turn_fails i z few h w
        go true x true y true w n = cc

    module _ (e : true ≡ entry_at) where
      all_three : (key_at i ≡ true) × (fresh r.count r.ok.now r.met (get_or q.tasks i 0) ≡ true) × (in_turn q.keys q.tasks i ≡ true)
      all_three =
          let a = and_both (key_at i && fresh r.count r.ok.now r.met (get_or q.tasks i 0)) (in_turn q.keys q.tasks i) (sym e) in
          let b = and_both (key_at i) (fresh r.count r.ok.now r.met (get_or q.tasks i 0)) a.0 in
          (b.0, b.1, a.1)

      -- one entry more
      more_keys : keys_ok now top q.keys q.tasks (i + 1) ≡ true
      unfolding keys_ok
      more_keys = all_more key_at i W.in_range all_three.0

      pub sum_small : (b : ℕ) → top ≤ now + b → i < 128 → (now < get_or q.keys i 0) × (sum + (get_or q.keys i 0 - now) ≤ 128 * b)
      sum_small b h k =
          let t = W.total in (
            (key_in now top q.keys q.tasks (i + 1) i more_keys (omega arith)).1,
            omega (arith, sum_fits (λ j. get_or q.keys j 0 - now) b i k (λ j l. let s = key_in now top q.keys q.tasks (i + 1) j more_keys l in omega arith)),
          )

      pub walked_on : i < q.len → Walked (i + 1) (with_met r (mark r.met (get_or q.tasks i 0))) (sum + (get_or q.keys i 0 - now))
      walked_on h =
          record {
            met = meets_on W.met room h (sym all_three.1);
            turns = all_more (in_turn q.keys q.tasks) i W.turns all_three.2;
            in_range = more_keys;
            total = let y = W.total in omega (arith, sum_more (λ j. get_or q.keys j 0 - now) i);
          }

    pub walked_end : q.len ≤ i → (enters r₀ now top q ≡ true) × (r ≡ with_met r₀ (all_marked (take q.len q.tasks) r₀.met)) × (sum ≡ run_sum now q.keys q.len)
    unfolding keys_ok
    walked_end h =
        let m = meets_end W.met room h in
        let e : i ≡ q.len = omega (arith, W.met.low) in (
          and_next (stands_of q) _ (stands_same q.keys q.tasks q.len z few ∙ all_whole (in_turn q.keys q.tasks) q.len i h W.turns)
              ∙ and_next (all_fresh r₀.count r₀.ok.now (take q.len q.tasks) r₀.met) _ (sym m.0) ∙ all_whole key_at q.len i h W.in_range,
          m.1,
          W.total ∙ ap (λ (x : ℕ). run_sum now q.keys x) e,
        )

  -- the same of an entry, where less is known
  module _ {i : ℕ} {r : Roll} {sum : ℕ} (W : Walked i r sum) where
    pub fresh_stops : q.len ≤ length q.tasks → i < q.len → fresh r.count r.ok.now r.met (get_or q.tasks i 0) ≡ false → enters r₀ now top q ≡ false
    fresh_stops room h e =
        second_fails (stands_of q) _ (and_first (all_fresh r₀.count r₀.ok.now (take q.len q.tasks) r₀.met) _ (sym (meets_fails W.met room h (sym e))))

    pub key_small : (b : ℕ) → top ≤ now + b → i < 128 → key_at i ≡ true → (now < get_or q.keys i 0) × (sum + (get_or q.keys i 0 - now) ≤ 128 * b)
    unfolding keys_ok
    key_small b h k e =
        let more : keys_ok now top q.keys q.tasks (i + 1) ≡ true = all_more key_at i W.in_range e in
        let t = W.total in (
          (key_in now top q.keys q.tasks (i + 1) i more (omega arith)).1,
          omega (arith, sum_fits (λ j. get_or q.keys j 0 - now) b i k (λ j l. let s = key_in now top q.keys q.tasks (i + 1) j more l in omega arith)),
        )

    pub walked_more : q.len ≤ length q.tasks → i < q.len → key_at i ≡ true → fresh r.count r.ok.now r.met (get_or q.tasks i 0) ≡ true → in_turn q.keys q.tasks i ≡ true
        → (total : ℕ) → total ≡ sum + (get_or q.keys i 0 - now) → Walked (i + 1) (with_met r (mark r.met (get_or q.tasks i 0))) total
    unfolding keys_ok
    walked_more room h k f t total e =
        record {
          met = meets_on W.met room h (sym f);
          turns = all_more (in_turn q.keys q.tasks) i W.turns t;
          in_range = all_more key_at i W.in_range k;
          total = let y = W.total in omega (arith, sum_more (λ j. get_or q.keys j 0 - now) i);
        }
