-- ARRIVE: the state handed back
use Rattle.std.specs.Prelude.{ℕ, ◌-◌, if◌then◌else◌}
use Rattle.rules.specs.Answers.{is_done}
use Rattle.state.specs.declared.State.{State}
use Rattle.state.specs.Machine.{arrived_of}
use Rattle.refusals.specs.Arrive.{arrive_answer_of}

-- "Other refusals return the given state unchanged"
abbrev pub arrive_state_of : State → ℕ → State
arrive_state_of s task = if is_done (arrive_answer_of s task) then arrived_of s (task - 1) else s
