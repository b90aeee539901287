-- "GIVEN EXACTLY WHEN": for each answer of each call, what is then the case
use Rattle.std.specs.Prelude.{◌≡◌, true, false, List, ℕ, ◌+◌, ◌*◌, ◌-◌, ◌%◌, ◌≤◌, ◌<◌, length, get_or}
use Rattle.std.proofs.Math.Option.{some}
use Rattle.ground.specs.Sums.{sum_of}
use Rattle.rules.specs.Bounds.{clock, most_processors, most_scale, most_tasks, most_ticks, record_size, row_size}
use Rattle.rules.specs.Answers.{Answer, Done, Processors, TableLength, RowRange, RowExecution, Scale, Shares, TaskNumber, BetweenTicks, TooSoon, HorizonPastClock, HorizonNotLater, RoomTooShort, NotTogether}
use Rattle.rules.specs.Table.{Row, rows_of, shorter}
use Rattle.rules.specs.Scale.{scale_of, share_of}
use Rattle.rules.specs.State.{Task, State, no_row, at, period, tick_of}
use Rattle.rules.specs.Holds.{holds}

-- ADMIT, with its row; the conditions are in 01's order, each after the ones before it
abbrev pub ProcessorsOk : ℕ → Type 0
ProcessorsOk m = (1 ≤ m) × (m ≤ most_processors)

abbrev pub LengthOk : ℕ → Type 0
LengthOk n = (1 ≤ n) × (n ≤ most_tasks * row_size) × (n % row_size ≡ 0)

abbrev pub InRange : ℕ → Type 0
InRange x = (1 ≤ x) × (x ≤ most_ticks)

abbrev pub RowInRange : Row → Type 0
RowInRange r = InRange r.period × InRange r.exec × InRange r.deadline

-- neither 3 nor 4
abbrev pub RowOk : Row → Type 0
RowOk r = RowInRange r × (r.exec ≤ shorter r)

-- the rows before the row with the number i are in order
abbrev pub OkBefore : ℕ → List Row → Type 0
OkBefore i rs = (j : ℕ) → j + 1 < i → RowOk (get_or rs j no_row)

abbrev pub RowsOk : List Row → Type 0
RowsOk rs = (j : ℕ) → j < length rs → RowOk (get_or rs j no_row)

abbrev pub AdmitReason : List ℕ → ℕ → Answer → ℕ → Type 0
AdmitReason bytes m Processors i = (i ≡ 0) × ¬ ProcessorsOk m
AdmitReason bytes m TableLength i = (i ≡ 0) × ProcessorsOk m × ¬ LengthOk (length bytes)
AdmitReason bytes m RowRange i =
    (1 ≤ i) × (i ≤ length (rows_of bytes)) × ProcessorsOk m × LengthOk (length bytes) × OkBefore i (rows_of bytes) × ¬ RowInRange (get_or (rows_of bytes) (i - 1) no_row)
AdmitReason bytes m RowExecution i =
    (1 ≤ i) × (i ≤ length (rows_of bytes)) × ProcessorsOk m × LengthOk (length bytes) × OkBefore i (rows_of bytes) × RowInRange (get_or (rows_of bytes) (i - 1) no_row)
    × (shorter (get_or (rows_of bytes) (i - 1) no_row) < (get_or (rows_of bytes) (i - 1) no_row).exec)
AdmitReason bytes m Scale i = (i ≡ 0) × ProcessorsOk m × LengthOk (length bytes) × RowsOk (rows_of bytes) × (most_scale < scale_of (rows_of bytes))
AdmitReason bytes m Shares i =
    (i ≡ 0) × ProcessorsOk m × LengthOk (length bytes) × RowsOk (rows_of bytes) × (scale_of (rows_of bytes) ≤ most_scale)
    × (m * scale_of (rows_of bytes) < sum_of (share_of (scale_of (rows_of bytes))) (rows_of bytes))
AdmitReason bytes m Done i =
    (i ≡ 0) × ProcessorsOk m × LengthOk (length bytes) × RowsOk (rows_of bytes) × (scale_of (rows_of bytes) ≤ most_scale)
    × (sum_of (share_of (scale_of (rows_of bytes))) (rows_of bytes) ≤ m * scale_of (rows_of bytes))
AdmitReason bytes m other i = ⊥

-- ARRIVE
abbrev pub TaskKnown : State → ℕ → Type 0
TaskKnown s task = (1 ≤ task) × (task ≤ length s.tasks)

abbrev pub OnTick : State → Type 0
OnTick s = s.now ≡ tick_of s * s.scale

-- "the task arrived before, less than p ticks ago"
abbrev pub Soon : State → Task → Type 0
Soon s t = (a : ℕ) × (t.last ≡ some a) × (tick_of s < a + period t)

abbrev pub ArriveReason : State → ℕ → Answer → Type 0
ArriveReason s task NotTogether = holds s ≡ false
ArriveReason s task TaskNumber = (holds s ≡ true) × ¬ TaskKnown s task
ArriveReason s task BetweenTicks = (holds s ≡ true) × TaskKnown s task × ¬ OnTick s
ArriveReason s task TooSoon = (holds s ≡ true) × TaskKnown s task × OnTick s × Soon s (at (task - 1) s.tasks)
ArriveReason s task Done = (holds s ≡ true) × TaskKnown s task × OnTick s × ¬ Soon s (at (task - 1) s.tasks)
ArriveReason s task other = ⊥

-- what an answer of 0 says of an arrival of the task in place i
pub record Comes (s : State) (i : ℕ) : Type 0 where
  pub known : i < length s.tasks
  pub whole : s.now ≡ tick_of s * s.scale
  pub late : (a : ℕ) → (at i s.tasks).last ≡ some a → a + period (at i s.tasks) ≤ tick_of s

-- STEP
abbrev pub StepReason : State → ℕ → ℕ → Answer → Type 0
StepReason s horizon room NotTogether = holds s ≡ false
StepReason s horizon room RoomTooShort = (holds s ≡ true) × (room < record_size)
StepReason s horizon room HorizonPastClock = (holds s ≡ true) × (record_size ≤ room) × (clock < horizon)
StepReason s horizon room HorizonNotLater = (holds s ≡ true) × (record_size ≤ room) × (horizon ≤ clock) × (horizon * s.scale ≤ s.now)
StepReason s horizon room Done = (holds s ≡ true) × (record_size ≤ room) × (horizon ≤ clock) × (s.now < horizon * s.scale)
StepReason s horizon room other = ⊥
