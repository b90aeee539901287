-- DEMAND 3, said of a table and of all that was called and handed out
use Rattle.std.specs.Prelude.{◌≡◌, true, List, ◌∷◌, ◌++◌, ◌≢◌, ◌↔◌, ℕ, suc, ◌+◌, ◌*◌, ◌-◌, ◌≤◌, ◌<◌, length, get_or}
use Rattle.std.proofs.Math.Option.{some}
use Rattle.rules.specs.Answers.{Answer, Done}
use Rattle.rules.specs.Bounds.{clock, record_size}
use Rattle.rules.specs.Table.{Row, rows_of, shorter}
use Rattle.rules.specs.Scale.{scale_of}
use Rattle.rules.specs.Admission.{admit}
use Rattle.rules.specs.State.{Task, State, no_row, at, is_awake, amount, tick_of}
use Rattle.rules.specs.Calls.{arrive, step}
use Rattle.rules.specs.Run.{Call, arrive_call, Run, run_of}
use Rattle.rules.specs.History.{ran, Once, Within, Working, Follows, EndsAt, came_by, plane_end}

-- the k-th plane end is at this tick, and the clock has reached it
abbrev pub Reached : List Row → Run → ℕ → ℕ → Type 0
Reached rows h k tick = (plane_end rows h.arrivals k ≡ tick) × (tick * scale_of rows ≤ h.state.now)

-- the job of task n that came at the tick a
module _ (rows : List Row) (h : Run) (n a : ℕ) where
  abbrev L : ℕ
  L = scale_of rows

  abbrev e : ℕ
  e = (get_or rows (n - 1) no_row).exec

  abbrev q : ℕ
  q = shorter (get_or rows (n - 1) no_row)

  pub record Job : Type 0 where
    -- until q after its arrival it is awake, and no other arrival has taken its place
    pub awake : h.state.now < (a + q) * L → (is_awake (at (n - 1) h.state.tasks).cond ≡ true) × ((at (n - 1) h.state.tasks).last ≡ some a)
    -- "at every plane end that the clock reaches, each job awake in that plane has run since its arrival
    -- exactly e times the ticks elapsed, divided by q"
    pub exact : (k t : ℕ) → Reached rows h k t → a ≤ t → t ≤ a + q → ran n (a * L) (t * L) h.records * q ≡ e * L * (t - a)
    -- "So when the clock reaches q after its arrival it has run exactly e ticks"; a record ends there
    pub whole : (a + q) * L ≤ h.state.now → (ran n (a * L) ((a + q) * L) h.records ≡ e * L) × EndsAt ((a + q) * L) h.records

-- what the next call is answered, said of the table and of the arrivals taken; `arrives` and `steps` give an arrival's answer,
-- and a step's with the instant that it reaches
pub record Next (rows : List Row) (h : Run) (arrives : ℕ → Answer) (steps : ℕ → List ℕ → Answer × ℕ) : Type 0 where
  -- 9: "the task arrived before, less than p ticks ago"; at a whole tick no other reason refuses a task of the table
  pub takes : (task tick : ℕ) → 1 ≤ task → task ≤ length rows → h.state.now ≡ tick * scale_of rows
      → (arrives task ≡ Done) ↔ ((a : ℕ) → came_by task tick h.arrivals ≡ some a → a + (get_or rows (task - 1) no_row).period ≤ tick)
  -- a step with room for a record and a horizon ahead, within the clock, is taken; the clock moves, and not past the horizon
  pub moves : (horizon : ℕ) (room : List ℕ) → record_size ≤ length room → horizon ≤ clock → h.state.now < horizon * scale_of rows
      → ((steps horizon room).0 ≡ Done) × (h.state.now < (steps horizon room).1) × ((steps horizon room).1 ≤ horizon * scale_of rows)

-- of the rules' arrive and step
abbrev pub NextOf : List Row → Run → Type 0
NextOf rows h = Next rows h (λ task. (arrive h.state task).answer) (λ horizon room. let x = step h.state horizon room in (x.answer, x.state.now))

-- what is true of any calls
pub record Course (rows : List Row) (m : ℕ) (h : Run) : Type 0 where
  -- "It never runs on two processors at one instant"
  pub once : Once h.records
  pub follows : Follows 0 h.records h.state.now
  -- "Slots past m are 0."
  pub within : Within m h.records
  -- who runs has a job
  pub working : Working (scale_of rows) rows h.arrivals h.records
  -- a record ends at every plane end that the clock reaches
  pub seams : (k t : ℕ) → Reached rows h (suc k) t → EndsAt (t * scale_of rows) h.records

-- "Start from any admitted table and make any calls, refused ones among them": then an arrival that is taken, then any calls
pub record Demand3 : Type 0 where
  pub jobs : (bytes : List ℕ) (m : ℕ) → (admit bytes m).answer ≡ Done → (before : List Call) (task : ℕ) → (arrive (run_of bytes m before).state task).answer ≡ Done → (later : List Call)
      → Job (rows_of bytes) (run_of bytes m (before ++ arrive_call task ∷ later)) task (tick_of (run_of bytes m before).state)
  pub courses : (bytes : List ℕ) (m : ℕ) → (admit bytes m).answer ≡ Done → (calls : List Call) → Course (rows_of bytes) m (run_of bytes m calls)
  -- what the next call is answered
  pub nexts : (bytes : List ℕ) (m : ℕ) → (admit bytes m).answer ≡ Done → (calls : List Call) → NextOf (rows_of bytes) (run_of bytes m calls)

-- NOTHING ELSE MOVES
-- of a task: its row, share and last arrival, whether it is awake, and what it has left
pub record Untouched (t u : Task) : Type 0 where
  pub row : u.row ≡ t.row
  pub share : u.share ≡ t.share
  pub last : u.last ≡ t.last
  pub awake : is_awake u.cond ≡ is_awake t.cond
  pub left : amount u ≡ amount t

-- an arrival that is taken leaves every other task as it was, but for who has a processor
abbrev pub OthersStay : Type 0
OthersStay = (s : State) (task : ℕ) → (arrive s task).answer ≡ Done → (j : ℕ) → suc j ≢ task → Untouched (at j s.tasks) (at j (arrive s task).state.tasks)
