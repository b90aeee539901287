-- RUN: many steps with one horizon, as long as the horizon lies ahead and the room has 48 bytes left
use Rattle.std.specs.Prelude.{Bool, true, false, List, [], ◌++◌, ℕ, zero, suc, ◌*◌, ◌/◌, ltb, length, drop, if◌then◌else◌}
use Rattle.rules.specs.Answers.{is_done}
use Rattle.rules.specs.Record.{record_bytes}
use Rattle.state.specs.declared.State.{State}
use Rattle.state.specs.Machine.{moved_of}
use Rattle.refusals.specs.Step.{step_answer_of}

-- the state, the number of records, and their bytes
pub record Went : Type 0 where
  pub state : State
  pub records : ℕ
  pub bytes : List ℕ

-- at most n steps
unfoldable pub went : ℕ → ℕ → State → Went
went zero horizon s = record { state = s; records = 0; bytes = [] }
went (suc n) horizon s =
    elim (ltb s.now.0 (horizon * s.table.scale)) [
      | true ↦
          let x = moved_of s horizon in
          let r = went n horizon x.state in
          record { state = r.state; records = suc r.records; bytes = record_bytes x.rec ++ r.bytes }
      | false ↦ record { state = s; records = 0; bytes = [] }
    ]

-- is there another step?
unfoldable pub goes_on : ℕ → ℕ → ℕ → Bool
goes_on left now stop = if ltb 0 left then ltb now stop else false

-- refusals as step's
abbrev pub run_state_of : State → ℕ → ℕ → State
run_state_of s horizon room = if is_done (step_answer_of s horizon room) then (went (room / 48) horizon s).state else s

abbrev pub run_records_of : State → ℕ → ℕ → ℕ
run_records_of s horizon room = if is_done (step_answer_of s horizon room) then (went (room / 48) horizon s).records else 0

-- the room after the steps, with no refusal
abbrev pub filled_by : State → ℕ → List ℕ → List ℕ
filled_by s horizon room = let b = (went (length room / 48) horizon s).bytes in b ++ drop (length b) room

unfoldable pub run_room : State → ℕ → List ℕ → List ℕ
run_room s horizon room = if is_done (step_answer_of s horizon (length room)) then filled_by s horizon room else room
