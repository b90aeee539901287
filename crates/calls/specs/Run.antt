-- RUN, as the code answers it; its records are in `run_room`
use Rattle.std.specs.Prelude.{true, false, [], ◌++◌, ℕ, zero, suc, replicate}
use Rattle.rules.specs.Answers.{is_done}
use Rattle.state.specs.declared.State.{State}
use Rattle.refusals.specs.Step.{step_answer_of}
use Rattle.inplace.specs.Step.{step_room}
use Rattle.inplace.specs.Run.{Went, run_state_of, run_records_of}
use Rattle.calls.specs.Step.{step_of}
use Rattle.calls.specs.declared.Ran.{Ran}

-- refusals as step's
unfoldable pub run_of : State → ℕ → ℕ → Ran
run_of s horizon room = record { answer = step_answer_of s horizon room; state = run_state_of s horizon room; records = run_records_of s horizon room }

-- the same as calls of step with room for one record, while the answer is 0
unfoldable pub steps : ℕ → ℕ → State → Went
steps zero horizon s = record { state = s; records = 0; bytes = [] }
steps (suc n) horizon s =
    elim (is_done (step_of s horizon 48).answer) [
      | true ↦
          let r = steps n horizon (step_of s horizon 48).state in
          record { state = r.state; records = suc r.records; bytes = step_room s horizon (replicate 48 0) ++ r.bytes }
      | false ↦ record { state = s; records = 0; bytes = [] }
    ]
