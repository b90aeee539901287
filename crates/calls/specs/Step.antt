-- STEP, as the code answers it; its record is `step_room`
use Rattle.std.specs.Prelude.{ℕ}
use Rattle.state.specs.declared.State.{State}
use Rattle.refusals.specs.Step.{step_answer_of}
use Rattle.inplace.specs.Step.{step_state_of}
use Rattle.calls.specs.declared.Stepped.{Stepped}

unfoldable pub step_of : State → ℕ → ℕ → Stepped
step_of s horizon room = record { answer = step_answer_of s horizon room; state = step_state_of s horizon room }
