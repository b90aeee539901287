-- STEP: the state handed back, and the room
use Rattle.std.specs.Prelude.{List, ◌++◌, ℕ, length, drop, if◌then◌else◌}
use Rattle.rules.specs.Answers.{is_done}
use Rattle.rules.specs.Record.{record_bytes}
use Rattle.state.specs.declared.State.{State}
use Rattle.state.specs.Machine.{moved_of}
use Rattle.refusals.specs.Step.{step_answer_of}

-- "Other refusals return the given state unchanged"
abbrev pub step_state_of : State → ℕ → ℕ → State
step_state_of s horizon room = if is_done (step_answer_of s horizon room) then (moved_of s horizon).state else s

-- the room afterwards: the record, and "Bytes of the room after the 48th are unchanged."; a refusal "write[s] nothing"
unfoldable pub step_room : State → ℕ → List ℕ → List ℕ
step_room s horizon room = if is_done (step_answer_of s horizon (length room)) then record_bytes (moved_of s horizon).rec ++ drop 48 room else room
