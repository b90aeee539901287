-- THE REFUSALS OF STEP AND RUN, as the code gives them
use Rattle.std.specs.Prelude.{ℕ, ◌*◌, ◌<◌, ◌≤◌, leb, ltb, if◌then◌else◌}
use Rattle.rules.specs.Answers.{Answer, Done, HorizonPastClock, HorizonNotLater, RoomTooShort, NotTogether}
use Rattle.state.specs.declared.State.{State}
use Rattle.moves.specs.Whole.{Whole}
use Rattle.together.specs.Holds.{holds_of}
use Rattle.rules.specs.Bounds.{clock}

-- the refusals after 13: "12, 10, 11"
unfoldable pub moves_by : ℕ → ℕ → ℕ → ℕ → Answer
moves_by scale now horizon room =
    if ltb room 48 then RoomTooShort
    else (if ltb clock horizon then HorizonPastClock
    else (if leb (horizon * scale) now then HorizonNotLater else Done))

abbrev pub moves_answer : State → ℕ → ℕ → Answer
moves_answer s horizon room = moves_by s.table.scale s.now.0 horizon room

-- "In step: 13, 12, 10, 11."
unfoldable pub step_answer_of : State → ℕ → ℕ → Answer
step_answer_of s horizon room = if holds_of s then moves_answer s horizon room else NotTogether

-- a step can be taken
pub record Ahead (s : State) (horizon room : ℕ) : Type 0 where
  pub whole : Whole s
  pub ahead : s.now.0 < horizon * s.table.scale
  pub clock : horizon ≤ clock
  pub space : 48 ≤ room
