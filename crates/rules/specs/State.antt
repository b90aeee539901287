-- CONDITIONS, TASKS AND STATES. Instants and amounts are in sub-ticks; what a name calls a tick is in ticks.
use Rattle.std.specs.Prelude.{Bool, true, false, List, [], map, ℕ, ◌+◌, ◌/◌, ◌%◌, max, eqb, length, get_or, set, if◌then◌else◌}
use Rattle.std.proofs.Math.Option
use Rattle.std.proofs.Math.Option.{Option, none, some}
use Rattle.ground.specs.Sums.{up_from}
use Rattle.rules.specs.Table.{Row, shorter}
use Rattle.rules.specs.Scale.{scale_of, share_of}

-- "Each task is in one condition: asleep, running on one of the m processors and no two on the same, waiting,
-- or resting (awake, with its amount for this plane used up)."
pub data Cond : Type 0 where
  asleep resting : Cond
  running : (processor amount : ℕ) → Cond
  waiting : (amount : ℕ) → Cond

-- a row of the table with its share, its condition, and the tick of its last arrival, if there was one
pub record Task : Type 0 where
  pub row : Row
  pub share : ℕ
  pub cond : Cond
  pub last : Option ℕ

-- now is an instant; plane is the tick at which the open plane ends
pub record State : Type 0 where
  pub m : ℕ
  pub scale : ℕ
  pub now : ℕ
  pub plane : Option ℕ
  pub tasks : List Task

abbrev pub no_row : Row
no_row = record { period = 0; exec = 0; deadline = 0 }

abbrev pub nobody : Task
nobody = record { row = no_row; share = 0; cond = asleep; last = none }

-- "a blank state, which never holds together"
abbrev pub blank : State
blank = record { m = 0; scale = 0; now = 0; plane = none; tasks = [] }

-- the task in place i, counted from 0: the task with the number i + 1
abbrev pub at : ℕ → List Task → Task
at i l = get_or l i nobody

abbrev pub places : List Task → List ℕ
places l = up_from 0 (length l)

abbrev pub period : Task → ℕ
period t = t.row.period

-- the task's q
abbrev pub short : Task → ℕ
short t = shorter t.row

-- the same task in another condition
abbrev pub be : Cond → Task → Task
be c t = record { row = t.row; share = t.share; cond = c; last = t.last }

-- the task in place i takes the condition c
unfoldable pub become : ℕ → Cond → List Task → List Task
become i c l = set l i (be c (at i l))

-- READINGS OF A CONDITION
abbrev pub is_awake : Cond → Bool
is_awake asleep = false
is_awake resting = true
is_awake (running p a) = true
is_awake (waiting a) = true

-- of a task's: the amount and the processor that it has, or 0
abbrev pub amount : Task → ℕ
amount t = elim t.cond [ asleep ↦ 0 | resting ↦ 0 | running p a ↦ a | waiting a ↦ a ]

abbrev pub proc : Task → ℕ
proc t = elim t.cond [ asleep ↦ 0 | resting ↦ 0 | running p a ↦ p | waiting a ↦ 0 ]

-- 1 if it runs, 1 if it waits, 1 if it runs on processor p
abbrev pub runs : Task → ℕ
runs t = elim t.cond [ asleep ↦ 0 | resting ↦ 0 | running p a ↦ 1 | waiting a ↦ 0 ]

abbrev pub waits : Task → ℕ
waits t = elim t.cond [ asleep ↦ 0 | resting ↦ 0 | running p a ↦ 0 | waiting a ↦ 1 ]

abbrev pub on : ℕ → Task → ℕ
on p t = elim t.cond [ asleep ↦ 0 | resting ↦ 0 | running p' a ↦ (if eqb p' p then 1 else 0) | waiting a ↦ 0 ]

abbrev pub awake_share : Task → ℕ
awake_share t = if is_awake t.cond then t.share else 0

-- LAST ARRIVALS
-- the tick of the last arrival of a task that has one, as an awake task does
abbrev pub last_of : Task → ℕ
last_of t = Option.get_or t.last 0

-- "last arrival plus q"
abbrev pub due : Task → ℕ
due t = last_of t + short t

-- a tick, "or its last arrival plus p if later": the soonest at which it may come from that tick on
abbrev pub soonest : ℕ → Task → ℕ
soonest tick t = elim t.last [ none ↦ tick | some a ↦ max tick (a + period t) ]

-- THE PRESENT IN TICKS
abbrev pub tick_of : State → ℕ
tick_of s = s.now / s.scale

abbrev pub on_tick : State → Bool
on_tick s = eqb (s.now % s.scale) 0

-- ADMITTED: "a state at instant 0, no task awake, no plane open"
abbrev pub fresh : ℕ → Row → Task
fresh l r = record { row = r; share = share_of l r; cond = asleep; last = none }

abbrev pub admitted : ℕ → List Row → State
admitted m rs = let l = scale_of rs in record { m = m; scale = l; now = 0; plane = none; tasks = map (fresh l) rs }
