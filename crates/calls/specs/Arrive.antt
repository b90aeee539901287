-- ARRIVE, as the code answers it
use Rattle.std.specs.Prelude.{ℕ}
use Rattle.state.specs.declared.State.{State}
use Rattle.refusals.specs.Arrive.{arrive_answer_of}
use Rattle.inplace.specs.Arrive.{arrive_state_of}
use Rattle.calls.specs.declared.Arrived.{Arrived}

unfoldable pub arrive_of : State → ℕ → Arrived
arrive_of s task = record { answer = arrive_answer_of s task; state = arrive_state_of s task }
