-- A queue is as long as its tasks are many
use mathlib.Core.Path.{◌≡◌, ◌∙◌, ap}
use mathlib.Core.List.{List}
use Prim.Native.Nat.{ℕ, zero, suc, ◌<◌}
use native.Mathlib.Omega.{arith}
use Rattle.ground.specs.Sums.{sum_of}
use Rattle.ground.proofs.Sums.{sum_of_none}
use Rattle.rules.specs.State.{resting, Task, nobody, at, become, runs, waits}
use Rattle.rules.proofs.Cases.{runs_of, waits_of}
use Rattle.rules.proofs.Places.{sum_become}
use Rattle.rules.proofs.Plane.{not_waiting, not_running}
use Rattle.queue.specs.Queues.{top_key}
use Rattle.queue.proofs.Keys.{none_empty, pop_len}
use Rattle.state.specs.Work.{Work, rest_top, unqueue}
use Rattle.state.proofs.Moves.{runner, waiter, rest_is, unqueue_is}
use Rattle.state.proofs.Seats.{sits_in}
use Rattle.state.proofs.Shows.{Crew, Is, in_list, run_cond, wait_cond, run_key_at, wait_key_at}

-- the waiting leave one by one
pub waits_len : {c : Crew} (n : ℕ) (w : Work) (l : List Task) → Is c w l → w.waiting.len ≡ n → sum_of waits l ≡ n
unfolding unqueue
waits_len zero w l I e =
    sum_of_none waits nobody l
    (λ j hj. let b : j < _ = omega (arith, I.shows.size) in not_waiting w.end (at j l).cond (wait_key_at I j b ∙ none_empty w.waiting e (suc j)))
waits_len (suc n) w l I e =
    let some : 0 < w.waiting.len = omega arith in
    let t = waiter I some in
    let b = I.tidy.wait_in (suc t.task) (top_key w.waiting) t.held in
    let f : waits (at t.task l) ≡ 1 = ap waits_of (wait_cond I t.task (top_key w.waiting) b.1 b.4 t.held) in
    let less : (unqueue w).waiting.len ≡ n = omega (arith, pop_len w.waiting some) in
    let ih = waits_len n (unqueue w) (become t.task resting l) (unqueue_is I some t) less in
    omega (arith, sum_become waits l t.task resting (in_list I t.task b.1))

-- the running leave one by one
pub runs_len : {c : Crew} (n : ℕ) (w : Work) (l : List Task) → Is c w l → w.running.len ≡ n → sum_of runs l ≡ n
unfolding rest_top
runs_len zero w l I e =
    sum_of_none runs nobody l
    (λ j hj. let b : j < _ = omega (arith, I.shows.size) in not_running w.now (at j l).cond (run_key_at I j b ∙ none_empty w.running e (suc j)))
runs_len (suc n) w l I e =
    let some : 0 < w.running.len = omega arith in
    let t = runner I some in
    let b = I.tidy.run_in (suc t.task) (top_key w.running) t.held in
    let o = sits_in I.tidy.seats t.task (top_key w.running) t.held in
    let f : runs (at t.task l) ≡ 1 = ap runs_of (run_cond I t.task (top_key w.running) b.1 t.held) in
    let less : (rest_top o.place w).running.len ≡ n = omega (arith, pop_len w.running some) in
    let ih = runs_len n (rest_top o.place w) (become t.task resting l) (rest_is I some t o) less in
    omega (arith, sum_become runs l t.task resting (in_list I t.task b.1))
