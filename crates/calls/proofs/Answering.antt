-- An answer put together
use mathlib.Core.Path.{◌≡◌}
use mathlib.Core.Bool.{Bool}
use mathlib.Core.List.{List}
use Prim.Native.Nat.{ℕ}
use Rattle.rules.specs.Answers.{Answer}
use Rattle.table.specs.declared.Table.{Table}
use Rattle.state.specs.declared.State.{State}
use Rattle.refusals.specs.Arrive.{arrive_answer_of}
use Rattle.refusals.specs.Step.{step_answer_of}
use Rattle.inplace.specs.Arrive.{arrive_state_of}
use Rattle.inplace.specs.Step.{step_state_of}
use Rattle.inplace.specs.Run.{run_state_of, run_records_of}
use Rattle.calls.specs.Arrive.{arrive_of}
use Rattle.calls.specs.Step.{step_of}
use Rattle.calls.specs.Run.{run_of}

-- the parts of a state that a call worked on, put together
pub joined_is : (k : State) (table : Table) (awake : List Bool) (rk rt wk wt slots : List ℕ) → table ≡ k.table → awake ≡ k.jobs.awake → rk ≡ k.running.keys → rt ≡ k.running.tasks → wk ≡ k.waiting.keys → wt ≡ k.waiting.tasks → slots ≡ k.slots
    → record {
      table = table;
      now = k.now;
      going = k.going;
      end = k.end;
      jobs = record { awake = awake; arrived = k.jobs.arrived; last = k.jobs.last };
      running = record { keys = rk; tasks = rt; len = k.running.len };
      waiting = record { keys = wk; tasks = wt; len = k.waiting.len };
      slots = slots;
    }
    ≡ k
joined_is k table awake rk rt wk wt slots e e1 e2 e3 e4 e5 e6 = rw (e, e1, e2, e3, e4, e5, e6)

pub arrived_is : (s : State) (task : ℕ) (a : Answer) (k : State) → a ≡ arrive_answer_of s task → k ≡ arrive_state_of s task → record { state = k; answer = a } ≡ arrive_of s task
unfolding arrive_of
arrived_is s task a k e f = rw (e, f)

pub stepped_is : (s : State) (horizon room : ℕ) (a : Answer) (k : State) → a ≡ step_answer_of s horizon room → k ≡ step_state_of s horizon room → record { state = k; answer = a } ≡ step_of s horizon room
unfolding step_of
stepped_is s horizon room a k e f = rw (e, f)

pub ran_is : (s : State) (horizon room : ℕ) (a : Answer) (k : State) (n : ℕ) → a ≡ step_answer_of s horizon room → k ≡ run_state_of s horizon room → n ≡ run_records_of s horizon room
    → record { state = k; answer = a; records = n } ≡ run_of s horizon room
unfolding run_of
ran_is s horizon room a k n e f g = rw (e, f, g)
