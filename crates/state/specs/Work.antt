-- THE WORK OF A PLANE: its present and its end in sub-ticks, the two queues, the processors; the moves and the events over it
use Rattle.std.specs.Prelude.{Bool, true, false, ℕ, zero, suc, ◌+◌, ◌*◌, ◌-◌, min, leb, ltb, eqb, get_or, set, take, if◌then◌else◌}
use mathlib.Core.List.{List, [], ◌∷◌, foldl}
use Rattle.queue.specs.declared.Queue.{Queue}
use Rattle.queue.specs.Queues.{push_of, pop_of, top_key, top_task}

-- what the events touch; place p of the slots is processor p + 1
pub record Work : Type 0 where
  pub m : ℕ
  pub now : ℕ
  pub end : ℕ
  pub running : Queue
  pub waiting : Queue
  pub slots : List ℕ

-- the same with other queues and slots
abbrev pub moved : Work → Queue → Queue → List ℕ → Work
moved w r q l = record { m = w.m; now = w.now; end = w.end; running = r; waiting = q; slots = l }

-- the same at another instant
abbrev pub at_time : ℕ → Work → Work
at_time t w = record { m = w.m; now = t; end = w.end; running = w.running; waiting = w.waiting; slots = w.slots }

-- PROCESSORS
-- the first slot that holds t, counted from p, or 0
abbrev pub seat_from : ℕ → ℕ → List ℕ → ℕ
seat_from t p [] = 0
seat_from t p (x ∷ l) = if eqb x t then p else seat_from t (suc p) l

-- the processor of task t, or 0
abbrev pub seat : ℕ → List ℕ → ℕ
seat t slots = seat_from t 1 slots

-- the lowest idle processor of m, or 0
abbrev pub first_idle : ℕ → List ℕ → ℕ
first_idle m slots = seat 0 (take m slots)

-- the place of the slots that has the top of the running
abbrev pub top_place : Work → ℕ
top_place w = seat (top_task w.running) w.slots - 1

-- THE FOUR MOVES
-- the top of the running leaves its queue, and its place p of the slots is idle
unfoldable pub rest_top : ℕ → Work → Work
rest_top p w = moved w (pop_of w.running) w.waiting (set w.slots p 0)

-- the top of the waiting leaves its queue
unfoldable pub unqueue : Work → Work
unqueue w = moved w w.running (pop_of w.waiting) w.slots

-- task t, in no queue, waits with amount a
unfoldable pub park : ℕ → ℕ → Work → Work
park t a w = moved w w.running (push_of w.waiting (w.end - a) t) w.slots

-- task t, in no queue, runs on the idle place p of the slots with amount a
unfoldable pub place : ℕ → ℕ → ℕ → Work → Work
place p t a w = moved w (push_of w.running (w.now + a) t) w.waiting (set w.slots p t)

-- EVENTS
-- the idle place p "goes to the waiting task with the least key", if any waits
unfoldable pub give_top : ℕ → Work → Work
give_top p w = if ltb 0 w.waiting.len then place p (top_task w.waiting) (w.end - top_key w.waiting) (unqueue w) else w

-- B: "the task rests, and its processor goes" on
unfoldable pub b_one : Work → Work
b_one w = give_top (top_place w) (rest_top (top_place w) w)

-- task t, in no queue, with amount a "takes the processor of the running task with the least key, which waits"
unfoldable pub seize_top : ℕ → ℕ → Work → Work
seize_top t a w = place (top_place w) t a (park (top_task w.running) (top_key w.running - w.now) (rest_top (top_place w) w))

-- C: "the critical task takes the processor"
unfoldable pub c_one : Work → Work
c_one w = seize_top (top_task w.waiting) (w.end - top_key w.waiting) (unqueue w)

-- has the least of n keys come due?
abbrev pub due : List ℕ → ℕ → ℕ → Bool
due keys n now = if ltb 0 n then leb (get_or keys 0 0) now else false

abbrev pub b_due : Work → Bool
b_due w = due w.running.keys w.running.len w.now

abbrev pub c_due : Work → Bool
c_due w = due w.waiting.keys w.waiting.len w.now

-- how many run or wait
abbrev pub size : Work → ℕ
size w = w.running.len + w.waiting.len

-- B events while one is due, at most n
unfoldable pub b_turns : ℕ → Work → Work
b_turns zero w = w
b_turns (suc n) w = elim (b_due w) [ true ↦ b_turns n (b_one w) | false ↦ w ]

-- "all B events due": each takes one who runs or waits out of the plane
unfoldable pub b_all : Work → Work
b_all w = b_turns (size w) w

-- C events while one is due, at most n
unfoldable pub c_turns : ℕ → Work → Work
c_turns zero w = w
c_turns (suc n) w = elim (c_due w) [ true ↦ c_turns n (c_one w) | false ↦ w ]

-- "Then all C events due": at most one for each task that waits
unfoldable pub c_all : Work → Work
c_all w = c_turns w.waiting.len w

unfoldable pub events_of : Work → Work
events_of w = c_all (b_all w)

-- THE NEXT INSTANT
-- the least of n keys, if any, or x, whichever is less
abbrev pub or_top : List ℕ → ℕ → ℕ → ℕ
or_top keys n x = if ltb 0 n then min (get_or keys 0 0) x else x

-- "the least of all keys, the plane end and the horizon"
unfoldable pub next_of : Work → ℕ → ℕ
next_of w stop = or_top w.running.keys w.running.len (or_top w.waiting.keys w.waiting.len (min w.end stop))

-- OPENING
-- task t with amount a: "the first m run, on processors 1, 2 and on; the rest wait"
unfoldable pub enter : ℕ → ℕ → Work → Work
enter t a w = if ltb w.running.len w.m then place w.running.len t a w else park t a w

-- the task in row i of the table, if awake: its amount is "share times length in ticks"
unfoldable pub enter_row : List Bool → List ℕ → ℕ → Work → ℕ → Work
enter_row awake share len w i = if get_or awake i false then enter (i + 1) (get_or share i 0 * len) w else w

-- the tasks in the rows of the order, in turn
unfoldable pub enter_all : List Bool → List ℕ → ℕ → List ℕ → Work → Work
enter_all awake share len order w = foldl (enter_row awake share len) w order

-- ARRIVING IN AN OPEN PLANE
-- task t with amount a, where processor p is the lowest idle one: "take the lowest. Else, if the share is below L, wait. Else take the processor"
unfoldable pub joins : ℕ → ℕ → ℕ → Bool → Work → Work
joins p t a below w = if eqb p 0 then (if below then park t a w else seize_top t a w) else place (p - 1) t a w
