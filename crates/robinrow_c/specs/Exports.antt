-- THE CALLS ON THE STRUCT: an answer is its number; a struct with a byte above 1 for a flag does not hold together
use Rattle.std.specs.Prelude.{◌≡◌, Bool, true, false, ◌&&◌, ◌≢◌, ◌↔◌, ℕ, suc, ◌+◌, ◌*◌, ◌-◌, ◌≤◌, ◌<◌, eqb, length, get_or, if◌then◌else◌}
use mathlib.Core.List.{List, [], ◌∷◌, ◌++◌, foldl}
use Rattle.std.proofs.Math.Option.{some}
use Rattle.rules.specs.Answers.{NotTogether, number_of}
use Rattle.rules.specs.Bounds.{clock, record_size}
use Rattle.rules.specs.Table.{Row, rows_of}
use Rattle.rules.specs.Scale.{scale_of}
use Rattle.rules.specs.Admission.{admit}
use Rattle.rules.specs.State.{no_row, at}
use Rattle.rules.specs.Calls.{arrive, step}
use Rattle.rules.specs.Record.{Record, read_record}
use Rattle.rules.specs.History.{came_by}
use Rattle.rules.specs.Demands.{Job, Course, Untouched}
use Rattle.rules.specs.Run.{Arrival, Run}
use Rattle.state.specs.Machine.{tick_at}
use Rattle.state.specs.View.{tasks_at, view, Sized}
use Rattle.together.specs.Holds.{holds_of}
use Rattle.admission.specs.Admit.{blank_state, admit_of}
use Rattle.inplace.specs.Step.{step_room}
use Rattle.inplace.specs.Run.{run_room}
use Rattle.calls.specs.Arrive.{arrive_of}
use Rattle.calls.specs.Step.{step_of}
use Rattle.calls.specs.Run.{run_of}
use Rattle.demands.specs.Demands.{OneOf, Call, read_records, starting, calling_all, seen}
use Rattle.demands.specs.Demands.Call.{arrive_call, step_call, run_call}
use Rattle.robinrow_c.specs.Struct.{Struct, flagged, state_of, struct_of}

-- ADMIT
abbrev pub admit_number : List ℕ → ℕ → ℕ
admit_number table m = number_of (admit_of table m).answer

abbrev pub admit_struct : List ℕ → ℕ → Struct
admit_struct table m = struct_of (admit_of table m).state

-- ARRIVE
unfoldable pub arrive_number : Struct → ℕ → ℕ
arrive_number c task = if flagged c then number_of (arrive_of (state_of c) task).answer else number_of NotTogether

unfoldable pub arrive_struct : Struct → ℕ → Struct
arrive_struct c task = if flagged c then struct_of (arrive_of (state_of c) task).state else c

-- STEP
unfoldable pub step_number : Struct → ℕ → List ℕ → ℕ
step_number c horizon room = if flagged c then number_of (step_of (state_of c) horizon (length room)).answer else number_of NotTogether

unfoldable pub step_struct : Struct → ℕ → List ℕ → Struct
step_struct c horizon room = if flagged c then struct_of (step_of (state_of c) horizon (length room)).state else c

unfoldable pub step_record : Struct → ℕ → List ℕ → List ℕ
step_record c horizon room = if flagged c then step_room (state_of c) horizon room else room

-- RUN
unfoldable pub run_number : Struct → ℕ → List ℕ → ℕ
run_number c horizon room = if flagged c then number_of (run_of (state_of c) horizon (length room)).answer else number_of NotTogether

unfoldable pub run_count : Struct → ℕ → List ℕ → ℕ
run_count c horizon room = if flagged c then (run_of (state_of c) horizon (length room)).records else 0

unfoldable pub run_struct : Struct → ℕ → List ℕ → Struct
run_struct c horizon room = if flagged c then struct_of (run_of (state_of c) horizon (length room)).state else c

unfoldable pub run_records : Struct → ℕ → List ℕ → List ℕ
run_records c horizon room = if flagged c then run_room (state_of c) horizon room else room

-- A REFUSAL CHANGES NO BYTE of a struct or a room; a refused table leaves the blank state, all zero
pub record Refusals : Type 0 where
  pub admit : (table : List ℕ) (m : ℕ) → ¬ (admit_number table m ≡ 0) → admit_struct table m ≡ struct_of blank_state
  pub arrive : (c : Struct) (task : ℕ) → ¬ (arrive_number c task ≡ 0) → arrive_struct c task ≡ c
  pub step : (c : Struct) (horizon : ℕ) (room : List ℕ) → ¬ (step_number c horizon room ≡ 0) → (step_struct c horizon room ≡ c) × (step_record c horizon room ≡ room)
  pub run : (c : Struct) (horizon : ℕ) (room : List ℕ) → ¬ (run_number c horizon room ≡ 0)
      → (run_struct c horizon room ≡ c) × (run_records c horizon room ≡ room) × (run_count c horizon room ≡ 0)

-- DEMAND 1 of what C calls: a listed number, for any struct whatever
pub record Numbers : Type 0 where
  pub admit : (table : List ℕ) (m : ℕ) → OneOf (admit_number table m) (0 ∷ 1 ∷ 2 ∷ 3 ∷ 4 ∷ 5 ∷ 6 ∷ [])
  pub arrive : (c : Struct) (task : ℕ) → OneOf (arrive_number c task) (0 ∷ 7 ∷ 8 ∷ 9 ∷ 13 ∷ [])
  pub step : (c : Struct) (horizon : ℕ) (room : List ℕ) → OneOf (step_number c horizon room) (0 ∷ 10 ∷ 11 ∷ 12 ∷ 13 ∷ [])
  pub run : (c : Struct) (horizon : ℕ) (room : List ℕ) → OneOf (run_number c horizon room) (0 ∷ 10 ∷ 11 ∷ 12 ∷ 13 ∷ [])

-- a struct holds together: its flags are 0 or 1, and its state does
unfoldable pub together : Struct → Bool
together c = flagged c && holds_of (state_of c)

-- DEMAND 2 of what C calls: on a struct that holds together number, state and room are the rules', and it holds together again; on any other it is 13
pub record ArrivesInC (c : Struct) (task : ℕ) : Type 0 where
  pub number : arrive_number c task ≡ number_of (arrive (view (state_of c)) task).answer
  pub state : view (state_of (arrive_struct c task)) ≡ (arrive (view (state_of c)) task).state
  pub again : together (arrive_struct c task) ≡ true

pub record StepsInC (c : Struct) (horizon : ℕ) (room : List ℕ) : Type 0 where
  pub number : step_number c horizon room ≡ number_of (step (view (state_of c)) horizon room).answer
  pub state : view (state_of (step_struct c horizon room)) ≡ (step (view (state_of c)) horizon room).state
  pub bytes : step_record c horizon room ≡ (step (view (state_of c)) horizon room).room
  pub again : together (step_struct c horizon room) ≡ true

pub record RulesInC : Type 0 where
  pub admits : (table : List ℕ) (m : ℕ) → admit_number table m ≡ number_of (admit table m).answer
  pub admitted : (table : List ℕ) (m : ℕ) → admit_number table m ≡ 0 → (view (state_of (admit_struct table m)) ≡ (admit table m).state) × (together (admit_struct table m) ≡ true)
  pub blank : (table : List ℕ) (m : ℕ) → ¬ (admit_number table m ≡ 0) → together (admit_struct table m) ≡ false
  pub arrives : (c : Struct) (task : ℕ) → Sized (state_of c) → (together c ≡ true → ArrivesInC c task) × (together c ≡ false → arrive_number c task ≡ 13)
  pub steps : (c : Struct) (horizon : ℕ) (room : List ℕ) → Sized (state_of c) → (together c ≡ true → StepsInC c horizon room) × (together c ≡ false → step_number c horizon room ≡ 13)
  -- a run is refused exactly when a step is; `InC` says of its records what it says of a step's
  pub runs : (c : Struct) (horizon : ℕ) (room : List ℕ) → Sized (state_of c)
      → (run_number c horizon room ≡ step_number c horizon room) × (run_number c horizon room ≡ 0 → together (run_struct c horizon room) ≡ true)

-- CALLS, each on the struct that the last one left; records and arrivals as `demands` has them
pub record Held : Type 0 where
  pub struct : Struct
  pub records : List Record
  pub arrivals : List Arrival

unfoldable pub holding : Held → Call → Held
holding r (arrive_call task) =
    record {
      struct = arrive_struct r.struct task;
      records = r.records;
      arrivals = if eqb (arrive_number r.struct task) 0 then record { task = task; tick = tick_at (state_of r.struct) } ∷ r.arrivals else r.arrivals;
    }
holding r (step_call horizon room) =
    record {
      struct = step_struct r.struct horizon room;
      records = if eqb (step_number r.struct horizon room) 0 then r.records ++ (read_record (step_record r.struct horizon room) ∷ []) else r.records;
      arrivals = r.arrivals;
    }
holding r (run_call horizon room) =
    record {
      struct = run_struct r.struct horizon room;
      records = r.records ++ read_records (run_count r.struct horizon room) (run_records r.struct horizon room);
      arrivals = r.arrivals;
    }

-- from a table's bytes and m
unfoldable pub holding_all : List ℕ → ℕ → List Call → Held
holding_all bytes m calls = foldl holding (record { struct = admit_struct bytes m; records = []; arrivals = [] }) calls

-- what the rules see of it
abbrev pub seen_in : Held → Run
seen_in r = record { state = view (state_of r.struct); records = r.records; arrivals = r.arrivals }

-- what the next call is answered, by numbers and the struct's present
pub record NextInC (rows : List Row) (r : Held) : Type 0 where
  -- 9: "the task arrived before, less than p ticks ago"; at a whole tick no other reason refuses a task of the table
  pub takes : (task tick : ℕ) → 1 ≤ task → task ≤ length rows → r.struct.now ≡ tick * scale_of rows
      → (arrive_number r.struct task ≡ 0) ↔ ((a : ℕ) → came_by task tick r.arrivals ≡ some a → a + (get_or rows (task - 1) no_row).period ≤ tick)
  -- a step with room for a record and a horizon ahead, within the clock, is taken; the clock moves, and not past the horizon
  pub moves : (horizon : ℕ) (room : List ℕ) → record_size ≤ length room → horizon ≤ clock → r.struct.now < horizon * scale_of rows
      → (step_number r.struct horizon room ≡ 0) × (r.struct.now < (step_struct r.struct horizon room).now) × ((step_struct r.struct horizon room).now ≤ horizon * scale_of rows)

-- DEMAND 3 of what C calls
pub record InC : Type 0 where
  -- any calls on the struct are the calls on the state
  pub same : (bytes : List ℕ) (m : ℕ) (calls : List Call) → seen_in (holding_all bytes m calls) ≡ seen (calling_all (starting bytes m) calls)
  pub jobs : (bytes : List ℕ) (m : ℕ) → admit_number bytes m ≡ 0 → (before : List Call) (task : ℕ) → arrive_number (holding_all bytes m before).struct task ≡ 0 → (later : List Call)
      → Job (rows_of bytes) (seen_in (holding_all bytes m (before ++ arrive_call task ∷ later))) task (tick_at (state_of (holding_all bytes m before).struct))
  pub courses : (bytes : List ℕ) (m : ℕ) → admit_number bytes m ≡ 0 → (calls : List Call) → Course (rows_of bytes) m (seen_in (holding_all bytes m calls))
  pub nexts : (bytes : List ℕ) (m : ℕ) → admit_number bytes m ≡ 0 → (calls : List Call) → NextInC (rows_of bytes) (holding_all bytes m calls)
  -- an arrival that is taken leaves every other task as it was, but for who has a processor
  pub others : (c : Struct) (task : ℕ) → Sized (state_of c) → arrive_number c task ≡ 0 → (j : ℕ) → suc j ≢ task → Untouched (at j (tasks_at (state_of c))) (at j (tasks_at (state_of (arrive_struct c task))))
