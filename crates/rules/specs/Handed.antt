-- FIGURES ON STATES HANDED IN: two that hold together, and each with a change
use Rattle.std.specs.Prelude.{◌≡◌, true, false, List, [], ◌∷◌, ℕ, ◌-◌, set, replicate}
use Rattle.std.proofs.Math.Option.{none, some}
use Rattle.rules.specs.Table.{Row}
use Rattle.rules.specs.State.{Cond, asleep, resting, running, waiting, Task, State, at, be}
use Rattle.rules.specs.Holds.{holds}
use Rattle.rules.specs.Listings.{row}

-- a task that arrived at 0, and one that never did
abbrev pub came_at_0 : Row → ℕ → Cond → Task
came_at_0 r share c = record { row = r; share = share; cond = c; last = some 0 }

abbrev pub yet_to_come : Row → ℕ → Task
yet_to_come r share = record { row = r; share = share; cond = asleep; last = none }

-- A PLANE IS OPEN. m is 2, L is 4, each share is 2. The present is 5 and the plane ends at tick 4, so 11 sub-ticks are left
abbrev pub underway : State
underway = record {
  m = 2;
  scale = 4;
  now = 5;
  plane = some 4;
  tasks = came_at_0 (row 4 2 4) 2 (running 1 5) ∷ came_at_0 (row 4 2 4) 2 (running 2 5) ∷ came_at_0 (row 4 2 4) 2 (waiting 6) ∷ came_at_0 (row 6 1 2) 2 asleep ∷ [];
}

-- NO PLANE IS OPEN. The same table, at tick 3
abbrev pub between : State
between = record {
  m = 2;
  scale = 4;
  now = 12;
  plane = none;
  tasks = came_at_0 (row 4 2 4) 2 resting ∷ came_at_0 (row 4 2 4) 2 asleep ∷ yet_to_come (row 4 2 4) 2 ∷ yet_to_come (row 6 1 2) 2 ∷ [];
}

-- at instant 0, nobody awake: m, L, the tasks
abbrev pub untouched : ℕ → ℕ → List Task → State
untouched m l ts = record { m = m; scale = l; now = 0; plane = none; tasks = ts }

-- CHANGES
infixl 40 ◌▷◌
abbrev pub ◌▷◌ : State → (State → State) → State
s ▷ change = change s

-- another present, another end of the plane (a tick)
abbrev pub present : ℕ → State → State
present x s = record { m = s.m; scale = s.scale; now = x; plane = s.plane; tasks = s.tasks }

abbrev pub ends : ℕ → State → State
ends tick s = record { m = s.m; scale = s.scale; now = s.now; plane = some tick; tasks = s.tasks }

-- another task with the number n
abbrev pub exchanged : ℕ → Task → State → State
exchanged n t s = record { m = s.m; scale = s.scale; now = s.now; plane = s.plane; tasks = set s.tasks (n - 1) t }

-- the task with the number n: its condition, its last arrival
abbrev pub task : ℕ → Cond → State → State
task n c s = exchanged n (be c (at (n - 1) s.tasks)) s

abbrev pub came : ℕ → ℕ → State → State
came n tick s = let t = at (n - 1) s.tasks in exchanged n (record { row = t.row; share = t.share; cond = t.cond; last = some tick }) s

abbrev pub never_came : ℕ → State → State
never_came n s = let t = at (n - 1) s.tasks in exchanged n (record { row = t.row; share = t.share; cond = t.cond; last = none }) s

-- other amounts of tasks 1 and 2, which run, and of task 3, which waits
abbrev pub amounts : ℕ → ℕ → ℕ → State → State
amounts a b c s = s ▷ task 1 (running 1 a) ▷ task 2 (running 2 b) ▷ task 3 (waiting c)

pub record Handed : Type 0 where
  -- OPEN. The sum: 16 · 4 is at most 6 · 11
  pub open_holds : holds underway ≡ true
  -- "a running amount is 1 up to the remaining length"
  pub runs_whole_length : holds (underway ▷ amounts 11 1 1) ≡ true
  pub runs_longer : holds (underway ▷ amounts 12 1 1) ≡ false
  pub runs_with_nothing : holds (underway ▷ amounts 0 5 6) ≡ false
  -- "a waiting amount at least 1 and less than it"
  pub waits_whole_length : holds (underway ▷ amounts 1 1 11) ≡ false
  pub waits_with_nothing : holds (underway ▷ amounts 5 5 0) ≡ false
  -- the sum: 17 · 4 is above 6 · 11
  pub sum_above : holds (underway ▷ amounts 5 5 7) ≡ false
  -- "a processor is idle only if nobody waits"
  pub idle_while_one_waits : holds (underway ▷ task 2 resting) ≡ false
  -- "running on one of the m processors and no two on the same"
  pub past_m : holds (underway ▷ task 2 (running 3 5)) ≡ false
  pub on_none : holds (underway ▷ task 2 (running 0 5)) ≡ false
  pub two_on_one : holds (untouched 2 1 (came_at_0 (row 1 1 1) 1 (running 2 1) ∷ came_at_0 (row 1 1 1) 1 (running 2 1) ∷ []) ▷ ends 1) ≡ false
  -- "A last arrival is never later than the present, and an awake task has one."
  pub came_later : holds (underway ▷ came 4 2) ≡ false
  pub awake_unarrived : holds (underway ▷ never_came 1) ≡ false
  -- "its end is a whole tick and later than the present"
  pub end_is_now : holds (underway ▷ present 12 ▷ ends 3 ▷ task 1 resting ▷ task 2 resting ▷ task 3 resting ▷ came 4 3) ≡ false
  -- "every awake task's last arrival plus q is at or after the end": 1 + 2 is before 4, though 1 + 6 is not
  pub awake_too_long : holds (underway ▷ task 4 resting ▷ came 4 1) ≡ false
  -- "for each asleep task, the present rounded up to a tick": 4 and 1 are rounded up to tick 1, and 1 + 2 is before 4
  pub asleep_on_tick : holds (underway ▷ present 4 ▷ never_came 4) ≡ false
  pub asleep_rounded_up : holds (underway ▷ present 1 ▷ never_came 4) ≡ false
  -- "or its last arrival plus p if later, plus q": 25 is rounded up to 7, which is later than 0 + 6, and 7 + 2 is 9
  pub asleep_by_present : holds (underway ▷ present 25 ▷ ends 9 ▷ came 1 5 ▷ came 2 5 ▷ came 3 5) ≡ true
  -- 1 + 6 is later than tick 5, and 7 + 2 is 9; but 0 + 6 + 2 is before 9
  pub asleep_by_arrival : holds (underway ▷ present 20 ▷ ends 9 ▷ came 1 5 ▷ came 2 5 ▷ came 3 5 ▷ came 4 1) ≡ true
  pub asleep_too_long : holds (underway ▷ present 20 ▷ ends 9 ▷ came 1 5 ▷ came 2 5 ▷ came 3 5 ▷ came 4 0) ≡ false
  -- 2 + 6 + 2 is 10; but 1 + 6 + 2 is before 10
  pub asleep_by_later_arrival : holds (underway ▷ present 24 ▷ ends 10 ▷ came 1 6 ▷ came 2 6 ▷ came 3 6 ▷ came 4 2) ≡ true
  pub asleep_too_long_since : holds (underway ▷ present 24 ▷ ends 10 ▷ came 1 6 ▷ came 2 6 ▷ came 3 6 ▷ came 4 1) ≡ false
  -- CLOSED
  pub closed_holds : holds between ≡ true
  -- "the instant is a whole tick"
  pub closed_off_tick : holds (between ▷ present 13) ≡ false
  -- "its last arrival plus q lies later": 0 + 4 is 4, and 2 + 2 is 4, though 2 + 6 is not
  pub closed_due : holds (between ▷ present 16) ≡ false
  pub closed_due_by_deadline : holds (between ▷ present 16 ▷ task 1 asleep ▷ task 4 resting ▷ came 4 2) ≡ false
  -- "nobody runs or waits", not even with nothing left
  pub closed_one_runs : holds (between ▷ task 2 (running 1 0)) ≡ false
  pub closed_one_waits : holds (between ▷ task 2 (waiting 0)) ≡ false
  -- "the instant is within the clock": 4,294,967,295 ticks and one more
  pub last_tick : holds (between ▷ task 1 asleep ▷ present 17179869180) ≡ true
  pub past_clock : holds (between ▷ task 1 asleep ▷ present 17179869184) ≡ false
  -- TABLES. "table, m, L and shares pass admission": 1 to 128 rows, m at most 16
  pub no_row : holds (untouched 1 1 []) ≡ false
  pub rows_128 : holds (untouched 1 1000 (replicate 128 (yet_to_come (row 1000 1 1000) 1))) ≡ true
  pub rows_129 : holds (untouched 1 1000 (replicate 129 (yet_to_come (row 1000 1 1000) 1))) ≡ false
  pub processors_16 : holds (untouched 16 4 (yet_to_come (row 4 2 4) 2 ∷ [])) ≡ true
  pub processors_17 : holds (untouched 17 4 (yet_to_come (row 4 2 4) 2 ∷ [])) ≡ false
  -- L is 4 and the share is 2, no other; 3 + 3 is above 1 · 4
  pub another_scale : holds (untouched 1 2 (yet_to_come (row 4 2 4) 0 ∷ [])) ≡ false
  pub another_share : holds (untouched 1 4 (yet_to_come (row 4 2 4) 1 ∷ [])) ≡ false
  pub shares_above : holds (untouched 1 4 (yet_to_come (row 4 3 4) 3 ∷ yet_to_come (row 4 3 4) 3 ∷ [])) ≡ false
