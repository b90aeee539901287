-- THE STATE AS THE CODE KEEPS IT: a step and an arrival without their refusals
use Rattle.std.specs.Prelude.{Bool, true, false, ◌&&◌, ℕ, ◌+◌, ◌*◌, ◌-◌, ◌/◌, min, ltb, eqb, get_or, set, take, replicate, if◌then◌else◌}
use mathlib.Core.List.{List, foldl}
use Rattle.ground.specs.Sums.{up_from}
use Rattle.rules.specs.Record.{Record}
use Rattle.queue.specs.declared.Queue.{Queue}
use Rattle.queue.specs.Queues.{empty_queue}
use Rattle.table.specs.declared.Table.{Table}
use Rattle.state.specs.declared.Jobs.{Jobs}
use Rattle.state.specs.declared.State.{State}
use Rattle.state.specs.Work.{Work, at_time, first_idle, events_of, next_of, enter_all, joins}

-- the plane's end in sub-ticks
abbrev pub end_at : State → ℕ
end_at s = s.end * s.table.scale

-- the present in ticks
abbrev pub tick_at : State → ℕ
tick_at s = s.now.0 / s.table.scale

-- the work of the state
abbrev pub work_of : State → Work
work_of s = record { m = s.table.m; now = s.now.0; end = end_at s; running = s.running; waiting = s.waiting; slots = s.slots }

-- the state with another work put into it
abbrev pub with_work : State → Work → State
with_work s w =
    record { table = s.table; now = record { 0 = w.now }; going = s.going; end = s.end; jobs = s.jobs; running = w.running; waiting = w.waiting; slots = w.slots }

-- q of row i: "the shorter of p and D"
abbrev pub shorter_at : Table → ℕ → ℕ
shorter_at t i = min (get_or t.period i 0) (get_or t.deadline i 0)

-- OPENING
-- "last arrival plus q for awake tasks, and the present plus q for asleep tasks"
abbrev pub limit_at : Table → Jobs → ℕ → ℕ → ℕ
limit_at t j tick i = (if get_or j.awake i false then get_or j.last i 0 else tick) + shorter_at t i

-- e or the least limit of the rows is, whichever is earlier
unfoldable pub least_limit : Table → Jobs → ℕ → ℕ → List ℕ → ℕ
least_limit t j tick e is = foldl (λ e i. min e (limit_at t j tick i)) e is

-- "Its end is the earliest of" these
unfoldable pub plane_end : Table → Jobs → ℕ → ℕ
plane_end t j tick = least_limit t j tick (limit_at t j tick 0) (up_from 1 (t.count - 1))

abbrev pub no_slots : List ℕ
no_slots = replicate 16 0

-- a plane to tick e with nobody in it yet: queues and slots are cleared
abbrev pub begun : State → ℕ → State
begun s e =
    record { table = s.table; now = s.now; going = true; end = e; jobs = s.jobs; running = empty_queue; waiting = empty_queue; slots = no_slots }

-- the awake tasks enter in the table's order of falling shares
unfoldable pub opens_to : State → ℕ → ℕ → State
opens_to s tick e =
    with_work (begun s e) (enter_all s.jobs.awake s.table.share (e - tick) (take s.table.count s.table.order) (work_of (begun s e)))

-- "A plane is opened by the first step after the last one closed"
unfoldable pub opened_of : State → State
opened_of s = if s.going then s else opens_to s (tick_at s) (plane_end s.table s.jobs (tick_at s))

-- CLOSING
-- the task in row i falls asleep if its "last arrival plus q is that tick"
unfoldable pub sleep_row : Table → List ℕ → ℕ → List Bool → ℕ → List Bool
sleep_row t last tick awake i = if get_or awake i false && eqb (get_or last i 0 + shorter_at t i) tick then set awake i false else awake

unfoldable pub sleep_all : Table → List ℕ → ℕ → List Bool → List Bool
sleep_all t last tick awake = foldl (sleep_row t last tick) awake (up_from 0 t.count)

-- nothing is held; what stands in the places stays
abbrev pub emptied : Queue → Queue
emptied q = record { keys = q.keys; tasks = q.tasks; len = 0 }

-- the plane closes at the instant `to`
unfoldable pub closed_of : State → ℕ → State
closed_of s to =
    record {
      table = s.table;
      now = record { 0 = to };
      going = false;
      end = s.end;
      jobs = record { awake = sleep_all s.table s.jobs.last s.end s.jobs.awake; arrived = s.jobs.arrived; last = s.jobs.last };
      running = emptied s.running;
      waiting = emptied s.waiting;
      slots = no_slots;
    }

-- STEP
-- a state, and the record that was written on the way
pub record Moved : Type 0 where
  pub state : State
  pub rec : Record

-- from a plane that is open, to an instant: is it the end?
unfoldable pub move_to : State → ℕ → Moved
move_to s to =
    record {
      state = if eqb to (end_at s) then closed_of s to else with_work s (events_of (at_time to (work_of s)));
      rec = record { from = s.now.0; to = to; slots = s.slots };
    }

-- "run to the next event or the horizon, whichever is first, and write one record"
unfoldable pub moved_of : State → ℕ → Moved
moved_of s horizon = let o = opened_of s in move_to o (next_of (work_of o) (horizon * o.table.scale))

-- ARRIVE
-- the task in row i is awake, from this tick on
abbrev pub woken_jobs : Jobs → ℕ → ℕ → Jobs
woken_jobs j i tick = record { awake = set j.awake i true; arrived = set j.arrived i true; last = set j.last i tick }

abbrev pub woken : State → ℕ → ℕ → State
woken s i tick =
    record {
      table = s.table;
      now = s.now;
      going = s.going;
      end = s.end;
      jobs = woken_jobs s.jobs i tick;
      running = s.running;
      waiting = s.waiting;
      slots = s.slots;
    }

-- "The amount is share times ticks to the end."
abbrev pub amount_at : State → ℕ → ℕ
amount_at s i = get_or s.table.share i 0 * (s.end - tick_at s)

-- it joins the open plane
unfoldable pub joined : State → ℕ → State
joined s i = with_work s (joins (first_idle s.table.m s.slots) (i + 1) (amount_at s i) (ltb (get_or s.table.share i 0) s.table.scale) (work_of s))

-- "With no plane open, the task is simply awake."
unfoldable pub arrived_of : State → ℕ → State
arrived_of s i = if s.going then joined (woken s i (tick_at s)) i else woken s i (tick_at s)
