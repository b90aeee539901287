-- THE DEMANDS, said of the calls
use Rattle.std.specs.Prelude.{◌≡◌, true, false, ◌≢◌, ◌⊎◌, ℕ, zero, suc, ◌/◌, length, take, drop, replicate, if◌then◌else◌}
use mathlib.Core.List.{List, [], ◌∷◌, ◌++◌, foldl, map}
use Rattle.ground.specs.Tests.{Says}
use Rattle.rules.specs.Table.{Row, rows_of, table_bytes}
use Rattle.rules.specs.State.{at}
use Rattle.rules.specs.Answers.{Done, NotTogether, is_done, number_of}
use Rattle.rules.specs.Admission.{admit}
use Rattle.rules.specs.Record.{Record, read_record}
use Rattle.rules.specs.Calls.{arrive, step}
use Rattle.rules.specs.Run.{Arrival, Run}
use Rattle.rules.specs.Demands.{Job, Course, Next, Untouched}
use Rattle.rules.specs.Listings.{table_p1, line}
use Rattle.state.specs.declared.State.{State}
use Rattle.state.specs.Machine.{tick_at}
use Rattle.state.specs.View.{tasks_at, view, Sized}
use Rattle.together.specs.Holds.{Holding, holds_of}
use Rattle.calls.specs.declared.Arrived.{Arrived}
use Rattle.calls.specs.declared.Stepped.{Stepped}
use Rattle.admission.specs.declared.Admitted.{Admitted}
use Rattle.calls.specs.declared.Ran.{Ran}
use Rattle.admission.specs.Admit.{blank_state, admit_of}
use Rattle.calls.specs.Arrive.{arrive_of}
use Rattle.calls.specs.Step.{step_of}
use Rattle.inplace.specs.Step.{step_room}
use Rattle.calls.specs.Run as Runs
use Rattle.calls.specs.Run.{run_of}
use Rattle.inplace.specs.Run.{run_room}

-- DEMAND 1: each call answers 0 or one of its numbers, and what a refusal hands back and leaves in the room
abbrev pub OneOf : ℕ → List ℕ → Type 0
OneOf n [] = ⊥
OneOf n (x ∷ l) = (n ≡ x) ⊎ OneOf n l

pub record AdmitAnswers (bytes : List ℕ) (m : ℕ) : Type 0 where
  pub listed : OneOf (number_of (admit_of bytes m).answer) (0 ∷ 1 ∷ 2 ∷ 3 ∷ 4 ∷ 5 ∷ 6 ∷ [])
  pub refused : ¬ ((admit_of bytes m).answer ≡ Done) → ((admit_of bytes m).state ≡ blank_state) × (holds_of (admit_of bytes m).state ≡ false)

pub record ArriveAnswers (s : State) (task : ℕ) : Type 0 where
  pub listed : OneOf (number_of (arrive_of s task).answer) (0 ∷ 7 ∷ 8 ∷ 9 ∷ 13 ∷ [])
  pub refused : ¬ ((arrive_of s task).answer ≡ Done) → (arrive_of s task).state ≡ s

pub record StepAnswers (s : State) (horizon : ℕ) (room : List ℕ) : Type 0 where
  pub listed : OneOf (number_of (step_of s horizon (length room)).answer) (0 ∷ 10 ∷ 11 ∷ 12 ∷ 13 ∷ [])
  pub refused : ¬ ((step_of s horizon (length room)).answer ≡ Done) → ((step_of s horizon (length room)).state ≡ s) × (step_room s horizon room ≡ room)

pub record RunAnswers (s : State) (horizon : ℕ) (room : List ℕ) : Type 0 where
  pub listed : OneOf (number_of (run_of s horizon (length room)).answer) (0 ∷ 10 ∷ 11 ∷ 12 ∷ 13 ∷ [])
  pub refused : ¬ ((run_of s horizon (length room)).answer ≡ Done) → ((run_of s horizon (length room)).state ≡ s) × ((run_of s horizon (length room)).records ≡ 0) × (run_room s horizon room ≡ room)

pub record Demand1 : Type 0 where
  pub admits : (bytes : List ℕ) (m : ℕ) → AdmitAnswers bytes m
  pub arrives : (s : State) (task : ℕ) → ArriveAnswers s task
  pub steps : (s : State) (horizon : ℕ) (room : List ℕ) → StepAnswers s horizon room
  pub runs : (s : State) (horizon : ℕ) (room : List ℕ) → RunAnswers s horizon room

-- DEMAND 2 of admit: number and row are the rules'; when admitted, so is the state, and it holds together
pub record Admits (bytes : List ℕ) (m : ℕ) : Type 0 where
  pub answer : (admit_of bytes m).answer ≡ (admit bytes m).answer
  pub row : (admit_of bytes m).row ≡ (admit bytes m).row
  pub state : (admit_of bytes m).answer ≡ Done → (view (admit_of bytes m).state ≡ (admit bytes m).state) × (holds_of (admit_of bytes m).state ≡ true)

-- DEMAND 2 of arrive: on a state that holds together, number and state are the rules', and the state handed back holds together
pub record Arrives (s : State) (task : ℕ) : Type 0 where
  pub answer : (arrive_of s task).answer ≡ (arrive (view s) task).answer
  pub state : view (arrive_of s task).state ≡ (arrive (view s) task).state
  pub holds : holds_of (arrive_of s task).state ≡ true

-- DEMAND 2 of step: number, state, record and rest of the room
pub record Steps (s : State) (horizon : ℕ) (room : List ℕ) : Type 0 where
  pub answer : (step_of s horizon (length room)).answer ≡ (step (view s) horizon room).answer
  pub state : view (step_of s horizon (length room)).state ≡ (step (view s) horizon room).state
  pub bytes : step_room s horizon room ≡ (step (view s) horizon room).room
  pub holds : holds_of (step_of s horizon (length room)).state ≡ true

-- DEMAND 2 of run: it is step after step, refused exactly when the first step is, and the state handed back holds together
pub record RunSteps (s : State) (horizon : ℕ) (room : List ℕ) : Type 0 where
  pub answer : (run_of s horizon (length room)).answer ≡ (step_of s horizon (length room)).answer
  pub done : (run_of s horizon (length room)).answer ≡ Done
      → ((run_of s horizon (length room)).state ≡ (Runs.steps (length room / 48) horizon s).state)
      × ((run_of s horizon (length room)).records ≡ (Runs.steps (length room / 48) horizon s).records)
      × (run_room s horizon room ≡ (Runs.steps (length room / 48) horizon s).bytes ++ drop (length (Runs.steps (length room / 48) horizon s).bytes) room)
      × (holds_of (run_of s horizon (length room)).state ≡ true)

-- A call: an arrival of the task with this number; a step or a run to this horizon, with this room lent
pub data Call : Type 0 where
  arrive_call : (task : ℕ) → Call
  step_call : (horizon : ℕ) (room : List ℕ) → Call
  run_call : (horizon : ℕ) (room : List ℕ) → Call

-- the first n records that the bytes spell
unfoldable pub read_records : ℕ → List ℕ → List Record
read_records zero bytes = []
read_records (suc n) bytes = read_record (take 48 bytes) ∷ read_records n (drop 48 bytes)

-- CALLS: each on the state that the last one handed back; the records, oldest first, are read off the bytes handed out; the arrivals are those taken, latest first
pub record Calls : Type 0 where
  pub state : State
  pub records : List Record
  pub arrivals : List Arrival

unfoldable pub calling : Calls → Call → Calls
calling r (arrive_call task) =
    record {
      state = (arrive_of r.state task).state;
      records = r.records;
      arrivals = if is_done (arrive_of r.state task).answer then record { task = task; tick = tick_at r.state } ∷ r.arrivals else r.arrivals;
    }
calling r (step_call horizon room) =
    record {
      state = (step_of r.state horizon (length room)).state;
      records = if is_done (step_of r.state horizon (length room)).answer then r.records ++ (read_record (step_room r.state horizon room) ∷ []) else r.records;
      arrivals = r.arrivals;
    }
calling r (run_call horizon room) =
    record {
      state = (run_of r.state horizon (length room)).state;
      records = r.records ++ read_records (run_of r.state horizon (length room)).records (run_room r.state horizon room);
      arrivals = r.arrivals;
    }

unfoldable pub calling_all : Calls → List Call → Calls
calling_all r cs = foldl calling r cs

-- from a table's bytes and m
abbrev pub starting : List ℕ → ℕ → Calls
starting bytes m = record { state = (admit_of bytes m).state; records = []; arrivals = [] }

-- the state, the records and the arrivals, as the rules see them
abbrev pub seen : Calls → Run
seen r = record { state = view r.state; records = r.records; arrivals = r.arrivals }

-- what the next call is answered, by these arrive and step
abbrev pub NextOf : List Row → Calls → Type 0
NextOf rows c = Next rows (seen c) (λ task. (arrive_of c.state task).answer) (λ horizon room. let x = step_of c.state horizon (length room) in (x.answer, x.state.now.0))

-- DEMAND 3: "Start from any admitted table and make any calls, refused ones among them, each on the state the last one handed back."
pub record Demand3 : Type 0 where
  -- any calls, then an arrival that is taken, then any calls: `Job` says what it is given
  pub jobs : (bytes : List ℕ) (m : ℕ) → (admit_of bytes m).answer ≡ Done → (before : List Call) (task : ℕ) → (arrive_of (calling_all (starting bytes m) before).state task).answer ≡ Done → (later : List Call)
      → Job (rows_of bytes) (seen (calling_all (starting bytes m) (before ++ arrive_call task ∷ later))) task (tick_at (calling_all (starting bytes m) before).state)
  -- one processor at an instant, records that follow one another, a record's end at every plane end
  pub courses : (bytes : List ℕ) (m : ℕ) → (admit_of bytes m).answer ≡ Done → (calls : List Call) → Course (rows_of bytes) m (seen (calling_all (starting bytes m) calls))
  -- what the next call is answered
  pub nexts : (bytes : List ℕ) (m : ℕ) → (admit_of bytes m).answer ≡ Done → (calls : List Call) → NextOf (rows_of bytes) (calling_all (starting bytes m) calls)
  -- an arrival that is taken leaves every other task as it was, but for who has a processor
  pub others : (s : State) (task : ℕ) → Sized s → (arrive_of s task).answer ≡ Done → (j : ℕ) → suc j ≢ task → Untouched (at j (tasks_at s)) (at j (tasks_at (arrive_of s task).state))

-- a step with room for one record
abbrev pub one_step : ℕ → Call
one_step horizon = step_call horizon (replicate 48 0)

abbrev pub calls_p1 : List Call
calls_p1 = arrive_call 1 ∷ arrive_call 2 ∷ arrive_call 3 ∷ arrive_call 4 ∷ one_step 3 ∷ one_step 3 ∷ one_step 3 ∷ one_step 3 ∷ []

-- and there are such calls: P1's table is admitted, and its calls hand out P1's records
abbrev pub run_p1 : Calls
run_p1 = calling_all (starting (table_bytes table_p1) 2) calls_p1

pub record Met : Type 0 where
  pub admitted : (admit_of (table_bytes table_p1) 2).answer ≡ Done
  pub records : map (λ (r : Record). line r.from r.to (take 2 r.slots)) run_p1.records ≡ line 0 24 (1 ∷ 2 ∷ []) ∷ line 24 27 (1 ∷ 3 ∷ []) ∷ line 27 36 (4 ∷ 3 ∷ []) ∷ []

-- DEMAND 2: a call on a state that does not hold together is refused by 13; on one that does, it is the rules' call
pub record Demand2 : Type 0 where
  -- the check is "A state that holds together", of any state whatever
  pub together : (s : State) → Sized s → Says (Holding s) (holds_of s)
  pub admits : (bytes : List ℕ) (m : ℕ) → Admits bytes m
  pub arrives : (s : State) (task : ℕ) → Sized s → (holds_of s ≡ true → Arrives s task) × (holds_of s ≡ false → (arrive_of s task).answer ≡ NotTogether)
  pub steps : (s : State) (horizon : ℕ) (room : List ℕ) → Sized s
      → (holds_of s ≡ true → Steps s horizon room) × (holds_of s ≡ false → (step_of s horizon (length room)).answer ≡ NotTogether)
  pub runs : (s : State) (horizon : ℕ) (room : List ℕ) → Sized s → RunSteps s horizon room

-- TIGHT: any two results that a promise allows are equal, and so are any two rooms
pub record Tight : Type 0 where
  pub admits : (bytes : List ℕ) (m : ℕ) (a b : Admitted) → a ≡ admit_of bytes m → b ≡ admit_of bytes m → a ≡ b
  pub arrives : (s : State) (task : ℕ) (a b : Arrived) → a ≡ arrive_of s task → b ≡ arrive_of s task → a ≡ b
  pub steps : (s : State) (horizon : ℕ) (room : List ℕ) (a b : Stepped) (u v : List ℕ)
      → (a ≡ step_of s horizon (length room)) × (u ≡ step_room s horizon room) → (b ≡ step_of s horizon (length room)) × (v ≡ step_room s horizon room) → (a ≡ b) × (u ≡ v)
  pub runs : (s : State) (horizon : ℕ) (room : List ℕ) (a b : Ran) (u v : List ℕ)
      → (a ≡ run_of s horizon (length room)) × (u ≡ run_room s horizon room) → (b ≡ run_of s horizon (length room)) × (v ≡ run_room s horizon room) → (a ≡ b) × (u ≡ v)
