-- The amounts of the tasks that a sound work shows, summed over its queues' entries
use mathlib.Core.Path.{◌≡◌, refl, ◌∙◌, ap}
use mathlib.Core.List.{List}
use Prim.Native.Nat.{ℕ, zero, suc, ◌+◌, ◌-◌, ◌<◌}
use native.Mathlib.Omega.{arith}
use lib.ListN.{get_or}
use Rattle.queue.specs.declared.Queue.{Queue}
use Rattle.queue.specs.declared.Entry.{Entry}
use Rattle.ground.specs.Sums.{sum_of, up_from}
use Rattle.ground.proofs.Sums.{sum_of_none}
use Rattle.rules.specs.State.{Cond, asleep, resting, running, waiting, Task, nobody, at, become, amount}
use Rattle.rules.proofs.Cases.{amount_of, runs_of, waits_of}
use Rattle.rules.proofs.Places.{sum_become}
use Rattle.rules.proofs.Plane.{not_waiting, not_running}
use Rattle.queue.specs.Queues.{blank, held, top_key, Good}
use Rattle.queue.proofs.Keys.{length_held, none_empty, pop_sum, pop_len}
use Rattle.queue.proofs.Places.{entry_is}
use Rattle.state.specs.Work.{Work, rest_top, unqueue}
use Rattle.state.proofs.Moves.{runner, waiter, rest_is, unqueue_is}
use Rattle.state.proofs.Seats.{sits_in}
use Rattle.state.proofs.Shows.{Crew, Is, in_list, run_cond, wait_cond, run_key_at, wait_key_at}
use Rattle.together_queues.specs.Amounts.{run_sum, wait_sum}
use Rattle.together_rows.proofs.Folds.{sum_same, sum_by_places}

-- an entry's amount, if it runs and if it waits
abbrev ran_for : ℕ → Entry → ℕ
ran_for now e = e.key.0 - now

abbrev waits_for : ℕ → Entry → ℕ
waits_for end e = end - e.key.0

-- nobody runs, nobody waits: no amount
no_amount : (c : Cond) → runs_of c ≡ 0 → waits_of c ≡ 0 → amount_of c ≡ 0
no_amount asleep a b = refl
no_amount resting a b = refl
no_amount (running p x) a b = absurd (omega arith)
no_amount (waiting x) a b = absurd (omega arith)

nothing_held : (f : Entry → ℕ) (q : Queue) → q.len ≡ 0 → sum_of f (held q) ≡ 0
unfolding sum_of
nothing_held f q e = rw e

-- the waiting leave one by one, then the running
amounts_held : {c : Crew} (n k : ℕ) (w : Work) (l : List Task) → Is c w l → w.waiting.len ≡ n → w.running.len ≡ k
    → sum_of amount l ≡ sum_of (ran_for w.now) (held w.running) + sum_of (waits_for w.end) (held w.waiting)
unfolding unqueue rest_top
amounts_held zero zero w l I e f =
    let a = nothing_held (ran_for w.now) w.running f in
    let b = nothing_held (waits_for w.end) w.waiting e in
    sum_of_none amount nobody l
    (λ j hj. let b : j < _ = omega (arith, I.shows.size) in
    no_amount (at j l).cond
    (not_running w.now (at j l).cond (run_key_at I j b ∙ none_empty w.running f (suc j)))
    (not_waiting w.end (at j l).cond (wait_key_at I j b ∙ none_empty w.waiting e (suc j))))
    ∙ omega arith
amounts_held zero (suc k) w l I e f =
    let some : 0 < w.running.len = omega arith in
    let t = runner I some in
    let b = I.tidy.run_in (suc t.task) (top_key w.running) t.held in
    let o = sits_in I.tidy.seats t.task (top_key w.running) t.held in
    let a : amount (at t.task l) ≡ top_key w.running - w.now = ap amount_of (run_cond I t.task (top_key w.running) b.1 t.held) in
    let less : (rest_top o.place w).running.len ≡ k = omega (arith, pop_len w.running some) in
    let ih = amounts_held zero k (rest_top o.place w) (become t.task resting l) (rest_is I some t o) e less in
    omega (arith, sum_become amount l t.task resting (in_list I t.task b.1), pop_sum w.running I.tidy.running some (ran_for w.now))
amounts_held (suc n) k w l I e f =
    let some : 0 < w.waiting.len = omega arith in
    let t = waiter I some in
    let b = I.tidy.wait_in (suc t.task) (top_key w.waiting) t.held in
    let a : amount (at t.task l) ≡ w.end - top_key w.waiting = ap amount_of (wait_cond I t.task (top_key w.waiting) b.1 b.4 t.held) in
    let less : (unqueue w).waiting.len ≡ n = omega (arith, pop_len w.waiting some) in
    let ih = amounts_held n k (unqueue w) (become t.task resting l) (unqueue_is I some t) less f in
    omega (arith, sum_become amount l t.task resting (in_list I t.task b.1), pop_sum w.waiting I.tidy.waiting some (waits_for w.end))

-- over the places of a queue
held_places : (f : Entry → ℕ) (q : Queue) → Good q → sum_of f (held q) ≡ sum_of (λ j. f (get_or (held q) j blank)) (up_from 0 q.len)
held_places f q g = sum_by_places f blank (held q) ∙ ap (λ (n : ℕ). sum_of (λ j. f (get_or (held q) j blank)) (up_from 0 n)) (length_held q g)

run_sum_is : (now : ℕ) (q : Queue) → Good q → sum_of (ran_for now) (held q) ≡ run_sum now q.keys q.len
run_sum_is now q g =
    held_places (ran_for now) q g
    ∙ sum_same _ _ q.len (λ j h. ap (ran_for now) (entry_is q g j h))

wait_sum_is : (end : ℕ) (q : Queue) → Good q → sum_of (waits_for end) (held q) ≡ wait_sum end q.keys q.len
wait_sum_is end q g =
    held_places (waits_for end) q g
    ∙ sum_same _ _ q.len (λ j h. ap (waits_for end) (entry_is q g j h))

-- "running and waiting amounts", summed
pub amounts_are : {c : Crew} {w : Work} {l : List Task} → Is c w l → sum_of amount l ≡ run_sum w.now w.running.keys w.running.len + wait_sum w.end w.waiting.keys w.waiting.len
amounts_are {w = w} {l = l} I =
    omega (
      arith,
      amounts_held w.waiting.len w.running.len w l I refl refl,
      run_sum_is w.now w.running I.tidy.running,
      wait_sum_is w.end w.waiting I.tidy.waiting,
    )
