-- WHAT A STATE SHOWS, and when its queues and slots are sound
use Rattle.std.specs.Prelude.{◌≡◌, Bool, true, false, List, map, ℕ, suc, ◌-◌, ◌≤◌, ◌<◌, length, get_or, if◌then◌else◌}
use Rattle.std.proofs.Math.Option.{Option, none, some}
use Rattle.ground.specs.Sums.{up_from}
use Rattle.rules.specs.Table.{Row}
use Rattle.rules.specs.State as Rules
use Rattle.rules.specs.State.{Cond, asleep, resting, running, waiting, Task, be}
use Rattle.queue.specs.Queues.{key_in, Good}
use Rattle.table.specs.declared.Table.{Table}
use Rattle.state.specs.declared.Jobs.{Jobs}
use Rattle.state.specs.declared.State.{State}
use Rattle.state.specs.Work.{Work, seat}
use Rattle.state.specs.Machine.{work_of}

-- THE VIEW
-- a condition, by the task's key in the running queue and in the waiting one, its processor, and whether it is awake
abbrev pub cond_of : ℕ → ℕ → Option ℕ → Option ℕ → ℕ → Bool → Cond
cond_of now end (some k) w p a = running p (k - now)
cond_of now end none (some k) p a = waiting (end - k)
cond_of now end none none p true = resting
cond_of now end none none p false = asleep

-- the condition of the task in row i
unfoldable pub cond_in : List Bool → Work → ℕ → Cond
cond_in awake w i = cond_of w.now w.end (key_in w.running (suc i)) (key_in w.waiting (suc i)) (seat (suc i) w.slots) (get_or awake i false)

-- row i of the table
abbrev pub row_of : Table → ℕ → Row
row_of t i = record { period = get_or t.period i 0; exec = get_or t.exec i 0; deadline = get_or t.deadline i 0 }

-- its task's last arrival, if there was one
abbrev pub last_at : Jobs → ℕ → Option ℕ
last_at j i = if get_or j.arrived i false then some (get_or j.last i 0) else none

-- the task in row i, but for its condition
abbrev pub job_at : Table → Jobs → ℕ → Task
job_at t j i = record { row = row_of t i; share = get_or t.share i 0; cond = asleep; last = last_at j i }

abbrev pub task_at : State → ℕ → Task
task_at s i = be (cond_in s.jobs.awake (work_of s) i) (job_at s.table s.jobs i)

abbrev pub tasks_at : State → List Task
tasks_at s = map (task_at s) (up_from 0 s.table.count)

abbrev pub plane_of : State → Option ℕ
plane_of s = if s.going then some s.end else none

abbrev pub view : State → Rules.State
view s = record { m = s.table.m; scale = s.table.scale; now = s.now.0; plane = plane_of s; tasks = tasks_at s }

-- SOUND
-- the slots hold just the tasks that run, each once, and 0 past m
pub record Seats (m : ℕ) (run : ℕ → Option ℕ) (slots : List ℕ) : Type 0 where
  pub room : length slots ≡ 16
  pub most : m ≤ 16
  pub past : (p : ℕ) → m ≤ p → get_or slots p 0 ≡ 0
  pub sits : (t k : ℕ) → run t ≡ some k → (p : ℕ) × (p < m) × (get_or slots p 0 ≡ t)
  pub runs : (p t : ℕ) → get_or slots p 0 ≡ suc t → run (suc t) ≡ none → ⊥
  pub apart : (p r t : ℕ) → get_or slots p 0 ≡ suc t → get_or slots r 0 ≡ suc t → p ≡ r

-- the queues are in order, hold tasks of the n that are awake, each once and none in both; a running key is not past, a waiting key is before the end
pub record Tidy (n : ℕ) (awake : List Bool) (w : Work) : Type 0 where
  pub few : n ≤ 128
  pub running : Good w.running
  pub waiting : Good w.waiting
  pub run_in : (t k : ℕ) → key_in w.running t ≡ some k → (0 < t) × (t ≤ n) × (w.now ≤ k) × (get_or awake (t - 1) false ≡ true)
  pub wait_in : (t k : ℕ) → key_in w.waiting t ≡ some k → (0 < t) × (t ≤ n) × (k < w.end) × (get_or awake (t - 1) false ≡ true) × (key_in w.running t ≡ none)
  pub seats : Seats w.m (key_in w.running) w.slots

abbrev pub Sound : State → Type 0
Sound s = Tidy s.table.count s.jobs.awake (work_of s)

-- what the types say: each array has its places
pub record Sized (s : State) : Type 0 where
  pub order : length s.table.order ≡ 128
  pub awake : length s.jobs.awake ≡ 128
  pub arrived : length s.jobs.arrived ≡ 128
  pub last : length s.jobs.last ≡ 128
  pub running_keys : length s.running.keys ≡ 128
  pub running_tasks : length s.running.tasks ≡ 128
  pub waiting_keys : length s.waiting.keys ≡ 128
  pub waiting_tasks : length s.waiting.tasks ≡ 128
  pub slots : length s.slots ≡ 16
