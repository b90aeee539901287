-- A RUN: any list of calls, refused ones among them, each on the state that the last one handed back
use mathlib.Core.List.{List, [], ◌∷◌, ◌++◌, foldl}
use Rattle.std.specs.Prelude.{ℕ, if◌then◌else◌}
use Rattle.rules.specs.Answers.{is_done}
use Rattle.rules.specs.Admission.{admit}
use Rattle.rules.specs.State.{State, tick_of}
use Rattle.rules.specs.Record.{Record, read_record}
use Rattle.rules.specs.Calls.{arrive, step}

-- a call: an arrival of the task with this number; a step to this horizon, with this room lent
pub data Call : Type 0 where
  arrive_call : (task : ℕ) → Call
  step_call : (horizon : ℕ) (room : List ℕ) → Call

-- an arrival that was taken: the task, and the tick at which it came
pub record Arrival : Type 0 where
  pub task : ℕ
  pub tick : ℕ

-- the state now; the records handed out, oldest first, read off their bytes; the arrivals taken, latest first
pub record Run : Type 0 where
  pub state : State
  pub records : List Record
  pub arrivals : List Arrival

unfoldable pub perform : Run → Call → Run
perform r (arrive_call task) =
    let x = arrive r.state task in
    record { state = x.state; records = r.records; arrivals = if is_done x.answer then record { task = task; tick = tick_of r.state } ∷ r.arrivals else r.arrivals }
perform r (step_call horizon room) =
    let x = step r.state horizon room in
    record { state = x.state; records = if is_done x.answer then r.records ++ (read_record x.room ∷ []) else r.records; arrivals = r.arrivals }

abbrev pub starting : State → Run
starting s = record { state = s; records = []; arrivals = [] }

unfoldable pub perform_all : Run → List Call → Run
perform_all r cs = foldl perform r cs

-- from a table's bytes and m
unfoldable pub run_of : List ℕ → ℕ → List Call → Run
run_of bytes m cs = perform_all (starting (admit bytes m).state) cs
