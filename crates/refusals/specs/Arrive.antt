-- THE REFUSALS OF ARRIVE, as the code gives them
use Rattle.std.specs.Prelude.{◌≡◌, Bool, true, false, not, ◌&&◌, List, ℕ, ◌+◌, ◌-◌, ◌/◌, ◌%◌, ◌≤◌, ◌<◌, leb, ltb, eqb, get_or, if◌then◌else◌}
use Rattle.rules.specs.Answers.{Answer, Done, TaskNumber, BetweenTicks, TooSoon, NotTogether}
use Rattle.state.specs.declared.State.{State}
use Rattle.rules.specs.Reasons.{Comes}
use Rattle.state.specs.View.{view}
use Rattle.together.specs.Holds.{holds_of}
use Rattle.rules.specs.Bounds.{clock}

-- 7: "task number 0 or above the row count"
abbrev pub task_in : ℕ → ℕ → Bool
task_in count task = leb 1 task && leb task count

-- 8: "the present instant is no whole tick"
abbrev pub whole_tick : ℕ → ℕ → Bool
whole_tick scale now = eqb (now % scale) 0

-- 9: "the task arrived before, less than p ticks ago"
abbrev pub soon_again : ℕ → List ℕ → List Bool → List ℕ → ℕ → Bool
soon_again tick period arrived last i = get_or arrived i false && ltb tick (get_or last i 0 + get_or period i 0)

-- the refusals after 13: "7, 8, 9"
abbrev pub comes_by : ℕ → ℕ → ℕ → List ℕ → List Bool → List ℕ → ℕ → Answer
comes_by count scale now period arrived last task =
    if not (task_in count task) then TaskNumber
    else (if not (whole_tick scale now) then BetweenTicks
    else (if soon_again (now / scale) period arrived last (task - 1) then TooSoon else Done))

abbrev pub comes_answer : State → ℕ → Answer
comes_answer s task = comes_by s.table.count s.table.scale s.now.0 s.table.period s.jobs.arrived s.jobs.last task

-- what the refusals ask of a state that holds together: rows that fit, and last arrivals within the clock
pub record Dated (count scale : ℕ) (arrived : List Bool) (last : List ℕ) : Type 0 where
  pub few : count ≤ 128
  pub scale_pos : 0 < scale
  pub dates : (i : ℕ) → i < count → get_or arrived i false ≡ true → get_or last i 0 ≤ clock

-- "In arrive: 13, 7, 8, 9."
unfoldable pub arrive_answer_of : State → ℕ → Answer
arrive_answer_of s task = if holds_of s then comes_answer s task else NotTogether

-- a task can arrive
pub record MayCome (s : State) (task : ℕ) : Type 0 where
  pub number : 1 ≤ task
  pub comes : Comes (view s) (task - 1)
