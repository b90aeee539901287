-- A STATE THAT HOLDS TOGETHER
use Rattle.std.specs.Prelude.{Bool, true, not, ◌&&◌, ◌||◌, List, map, ℕ, ◌+◌, ◌*◌, ◌-◌, leb, ltb, eqb, length, if◌then◌else◌}
use Rattle.std.proofs.Math.Option.{Option, none, some}
use Rattle.ground.specs.Tests.{every}
use Rattle.ground.specs.Sums.{sum_of, up_from}
use Rattle.rules.specs.Bounds.{clock, most_tasks}
use Rattle.rules.specs.Answers.{is_done}
use Rattle.rules.specs.Table.{Row}
use Rattle.rules.specs.Scale.{scale_of, share_of}
use Rattle.rules.specs.Admission.{processors_ok, rows_verdict}
use Rattle.rules.specs.State.{Cond, asleep, resting, running, waiting, Task, State, short, is_awake, amount, runs, waits, on, awake_share, due, soonest, tick_of, on_tick}

abbrev pub rows_in : State → List Row
rows_in s = map (λ (t : Task). t.row) s.tasks

-- "table, m, L and shares pass admission"
unfoldable pub table_holds : State → Bool
table_holds s =
    processors_ok s.m && (leb 1 (length s.tasks) && (leb (length s.tasks) most_tasks && (is_done (rows_verdict s.m (rows_in s)).answer
    && (eqb s.scale (scale_of (rows_in s)) && every (λ (t : Task). eqb t.share (share_of s.scale t.row)) s.tasks))))

-- "the instant is within the clock"
abbrev pub clock_holds : State → Bool
clock_holds s = leb s.now (clock * s.scale)

-- "running on one of the m processors"
abbrev pub seated : ℕ → Cond → Bool
seated m asleep = true
seated m resting = true
seated m (running p a) = leb 1 p && leb p m
seated m (waiting a) = true

-- "and no two on the same"
unfoldable pub conditions_hold : State → Bool
conditions_hold s = every (λ (t : Task). seated s.m t.cond) s.tasks && every (λ p. leb (sum_of (on p) s.tasks) 1) (up_from 1 s.m)

-- "A last arrival is never later than the present, and an awake task has one."
abbrev pub last_holds : State → Task → Bool
last_holds s t = elim t.last [ none ↦ not (is_awake t.cond) | some a ↦ leb (a * s.scale) s.now ]

unfoldable pub lasts_hold : State → Bool
lasts_hold s = every (last_holds s) s.tasks

-- "nobody runs or waits, every awake task counts as resting, and its last arrival plus q lies later"
abbrev pub rests_at : ℕ → Task → Bool
rests_at tick t = eqb (runs t + waits t) 0 && (if is_awake t.cond then ltb tick (due t) else true)

-- "With a plane closed, the instant is a whole tick"
unfoldable pub closed_holds : State → Bool
closed_holds s = on_tick s && every (rests_at (tick_of s)) s.tasks

-- "a running amount is 1 up to the remaining length, a waiting amount at least 1 and less than it"
abbrev pub amount_fits : ℕ → Cond → Bool
amount_fits left asleep = true
amount_fits left resting = true
amount_fits left (running p a) = leb 1 a && leb a left
amount_fits left (waiting a) = leb 1 a && ltb a left

-- "a processor is idle only if nobody waits"
abbrev pub idle_holds : ℕ → List Task → Bool
idle_holds m l = eqb (sum_of waits l) 0 || eqb (sum_of runs l) m

-- "running and waiting amounts sum to at most (sum of awake tasks' shares) times the remaining ticks, counted exactly"
abbrev pub sum_holds : ℕ → ℕ → List Task → Bool
sum_holds scale left l = leb (sum_of amount l * scale) (sum_of awake_share l * left)

-- "the present rounded up to a tick"
abbrev pub ceil_tick : State → ℕ
ceil_tick s = if on_tick s then tick_of s else tick_of s + 1

-- "every awake task's last arrival plus q is at or after the end; for each asleep task, the present rounded up to a tick,
-- or its last arrival plus p if later, plus q, is at or after the end"
abbrev pub limit_holds : ℕ → ℕ → Task → Bool
limit_holds tick end t = if is_awake t.cond then leb end (due t) else leb end (soonest tick t + short t)

-- "its end is a whole tick and later than the present"
unfoldable pub open_holds : State → ℕ → Bool
open_holds s end =
    ltb s.now (end * s.scale) && (every (λ (t : Task). amount_fits (end * s.scale - s.now) t.cond) s.tasks
    && (idle_holds s.m s.tasks && (sum_holds s.scale (end * s.scale - s.now) s.tasks && every (limit_holds (ceil_tick s) end) s.tasks)))

abbrev pub plane_holds : State → Option ℕ → Bool
plane_holds s none = closed_holds s
plane_holds s (some end) = open_holds s end

-- "Exactly this"
unfoldable pub holds : State → Bool
holds s = table_holds s && (clock_holds s && (conditions_hold s && (lasts_hold s && plane_holds s s.plane)))
