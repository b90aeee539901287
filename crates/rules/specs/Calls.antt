-- ARRIVE AND STEP, with their refusals
use Rattle.std.specs.Prelude.{Bool, true, false, not, ◌&&◌, List, ◌++◌, ℕ, zero, suc, ◌+◌, ◌*◌, ◌-◌, leb, ltb, eqb, length, set, drop, if◌then◌else◌}
use Rattle.std.proofs.Math.Option.{Option, none, some, get_or}
use Rattle.rules.specs.Bounds.{clock, record_size}
use Rattle.rules.specs.Answers.{Answer, Done, TaskNumber, BetweenTicks, TooSoon, HorizonPastClock, HorizonNotLater, RoomTooShort, NotTogether, is_done}
use Rattle.rules.specs.State.{Cond, resting, running, waiting, Task, State, at, period, tick_of, on_tick}
use Rattle.rules.specs.Holds.{holds}
use Rattle.rules.specs.Planes.{opened, closed}
use Rattle.rules.specs.Events.{advance, events, next_at, seize}
use Rattle.rules.specs.Record.{Record, on_proc, slots_of, record_bytes}

-- ARRIVE
-- the lowest idle processor of n, from p on
unfoldable pub lowest_idle : List Task → ℕ → ℕ → Option ℕ
lowest_idle l p zero = none
lowest_idle l p (suc n) = elim (on_proc p 1 l) [ zero ↦ some p | suc k ↦ lowest_idle l (suc p) n ]

-- the task in place i arrives at a tick, and takes the condition c
unfoldable pub wake : ℕ → ℕ → Cond → List Task → List Task
wake i tick c l = set l i (record { row = (at i l).row; share = (at i l).share; cond = c; last = some tick })

-- "If a processor is idle, take the lowest. Else, if the share is below L, wait.
-- Else take the processor of the running task with the least key, which waits."
unfoldable pub arrive_idle : State → ℕ → ℕ → ℕ → Option ℕ → List Task
arrive_idle s tick i a (some p) = wake i tick (running p a) s.tasks
arrive_idle s tick i a none =
    let w = wake i tick (waiting a) s.tasks in
    if ltb (at i s.tasks).share s.scale then w else seize s.now i w

-- "The amount is share times ticks to the end." "With no plane open, the task is simply awake."
unfoldable pub arrive_in : State → ℕ → ℕ → Option ℕ → List Task
arrive_in s tick i none = wake i tick resting s.tasks
arrive_in s tick i (some e) = arrive_idle s tick i ((at i s.tasks).share * (e - tick)) (lowest_idle s.tasks 1 s.m)

-- the task in place i arrives "at the present instant"
unfoldable pub arriving : State → ℕ → State
arriving s i = record { m = s.m; scale = s.scale; now = s.now; plane = s.plane; tasks = arrive_in s (tick_of s) i s.plane }

-- 7: "task number 0 or above the row count"
abbrev pub task_known : State → ℕ → Bool
task_known s task = leb 1 task && leb task (length s.tasks)

-- 9: "the task arrived before, less than p ticks ago"
abbrev pub too_soon : ℕ → Task → Bool
too_soon tick t = elim t.last [ none ↦ false | some a ↦ ltb tick (a + period t) ]

-- "In arrive: 13, 7, 8, 9."
unfoldable pub arrive_answer : State → ℕ → Answer
arrive_answer s task =
    if not (holds s) then NotTogether
    else (if not (task_known s task) then TaskNumber
    else (if not (on_tick s) then BetweenTicks
    else (if too_soon (tick_of s) (at (task - 1) s.tasks) then TooSoon else Done)))

pub record Arrived : Type 0 where
  pub answer : Answer
  pub state : State

-- "Other refusals return the given state unchanged"
unfoldable pub arrive : State → ℕ → Arrived
arrive s task =
    let a = arrive_answer s task in
    record { answer = a; state = if is_done a then arriving s (task - 1) else s }

-- STEP
-- a state, and the record that was written on the way
pub record Moved : Type 0 where
  pub state : State
  pub rec : Record

-- the state at the instant `to` of a plane that ends at the tick e: is it the end?
unfoldable pub after : State → ℕ → ℕ → Bool → State
after s e to true = record { m = s.m; scale = s.scale; now = to; plane = none; tasks = closed e (advance (to - s.now) s.tasks) }
after s e to false = record { m = s.m; scale = s.scale; now = to; plane = some e; tasks = events (e * s.scale) to (advance (to - s.now) s.tasks) }

-- "run to the next event or the horizon, whichever is first, and write one record"; the plane that is open ends at the tick e
unfoldable pub moving : State → ℕ → Moved
moving s horizon =
    let o = opened s in
    let e = get_or o.plane 0 in
    let to = next_at (e * o.scale) o.now o.tasks (horizon * o.scale) in
    record { state = after o e to (eqb to (e * o.scale)); rec = record { from = o.now; to = to; slots = slots_of o.m o.tasks } }

-- "In step: 13, 12, 10, 11."
unfoldable pub step_answer : State → ℕ → ℕ → Answer
step_answer s horizon room =
    if not (holds s) then NotTogether
    else (if ltb room record_size then RoomTooShort
    else (if ltb clock horizon then HorizonPastClock
    else (if leb (horizon * s.scale) s.now then HorizonNotLater else Done)))

pub record Stepped : Type 0 where
  pub answer : Answer
  pub state : State
  pub room : List ℕ

-- "Bytes of the room after the 48th are unchanged."; a refusal writes nothing
unfoldable pub step : State → ℕ → List ℕ → Stepped
step s horizon room =
    let a = step_answer s horizon (length room) in
    let x = moving s horizon in
    record {
      answer = a;
      state = if is_done a then x.state else s;
      room = if is_done a then record_bytes x.rec ++ drop record_size room else room;
    }
