-- What holding together says: the tests of Holds, as statements
use mathlib.Core.Path.{◌≡◌}
use mathlib.Core.Bool.{true}
use mathlib.Core.Option.{Option, none, some}
use mathlib.Core.List.{List, map}
use Prim.Native.Nat.{ℕ, ◌+◌, ◌*◌, ◌-◌, ◌/◌, ◌≤◌, ◌<◌}
use lib.ListN.{length}
use Rattle.ground.specs.Sums.{sum_of}
use Rattle.rules.specs.Bounds.{clock, most_processors, most_scale, most_tasks}
use Rattle.rules.specs.Scale.{scale_of, share_of}
use Rattle.rules.specs.State.{Task, State, at, period, short, is_awake, amount, proc, runs, waits, on, awake_share, due}
use Rattle.rules.specs.Reasons.{InRange}

abbrev pub Awake : Task → Type 0
Awake t = is_awake t.cond ≡ true

-- "table, m, L and shares pass admission"
pub record Table (m scale : ℕ) (l : List Task) : Type 0 where
  pub processors : (1 ≤ m) × (m ≤ most_processors)
  pub size : (1 ≤ length l) × (length l ≤ most_tasks)
  pub ranges : (j : ℕ) → j < length l → InRange (at j l).row.period × InRange (at j l).row.exec × InRange (at j l).row.deadline
  pub exec : (j : ℕ) → j < length l → (at j l).row.exec ≤ short (at j l)
  pub scale_is : scale ≡ scale_of (map (λ (t : Task). t.row) l)
  pub scale_most : scale ≤ most_scale
  pub share_is : (j : ℕ) → j < length l → (at j l).share ≡ share_of scale (at j l).row
  pub sum : sum_of (λ (t : Task). t.share) l ≤ m * scale

-- "running on one of the m processors and no two on the same"
pub record Seats (m : ℕ) (l : List Task) : Type 0 where
  pub low : (j : ℕ) → runs (at j l) ≤ proc (at j l)
  pub high : (j : ℕ) → proc (at j l) ≤ m
  pub apart : (p : ℕ) → sum_of (on p) l ≤ 1

-- "A last arrival is never later than the present, and an awake task has one."
pub record Lasts (scale now : ℕ) (l : List Task) : Type 0 where
  pub known : (j : ℕ) → Awake (at j l) → (a : ℕ) × ((at j l).last ≡ some a)
  pub came : (j a : ℕ) → (at j l).last ≡ some a → a * scale ≤ now

-- "With a plane closed, the instant is a whole tick, nobody runs or waits, every awake task counts as resting,
-- and its last arrival plus q lies later."
pub record Shut (scale now : ℕ) (l : List Task) : Type 0 where
  pub whole : now / scale * scale ≡ now
  pub idle : (j : ℕ) → runs (at j l) + waits (at j l) ≡ 0
  pub due : (j : ℕ) → Awake (at j l) → now / scale < due (at j l)

-- "With a plane open: its end is a whole tick and later than the present"; the end is the tick e
pub record Going (m scale now e : ℕ) (l : List Task) : Type 0 where
  pub later : now < e * scale
  -- "a running amount is 1 up to the remaining length, a waiting amount at least 1 and less than it"
  pub alive : (j : ℕ) → runs (at j l) ≤ amount (at j l)
  pub left : (j : ℕ) → waits (at j l) ≤ amount (at j l)
  pub below : (j : ℕ) → amount (at j l) + waits (at j l) ≤ e * scale - now
  -- "a processor is idle only if nobody waits"
  pub busy : 0 < sum_of waits l → sum_of runs l ≡ m
  -- "running and waiting amounts sum to at most (sum of awake tasks' shares) times the remaining ticks, counted exactly"
  pub total : sum_of amount l * scale ≤ sum_of awake_share l * (e * scale - now)
  -- "every awake task's last arrival plus q is at or after the end"
  pub due : (j : ℕ) → Awake (at j l) → e ≤ due (at j l)
  -- "for each asleep task, the present rounded up to a tick, or its last arrival plus p if later, plus q": every tick at which it may come
  pub free : (j : ℕ) → j < length l → ¬ Awake (at j l) → (t : ℕ) → now ≤ t * scale → ((a : ℕ) → (at j l).last ≡ some a → a + period (at j l) ≤ t) → e ≤ t + short (at j l)

abbrev pub Plane : State → Option ℕ → Type 0
Plane s none = Shut s.scale s.now s.tasks
Plane s (some e) = Going s.m s.scale s.now e s.tasks

pub record Together (s : State) : Type 0 where
  pub table : Table s.m s.scale s.tasks
  -- "the instant is within the clock"
  pub clock : s.now ≤ clock * s.scale
  pub seats : Seats s.m s.tasks
  pub lasts : Lasts s.scale s.now s.tasks
  pub plane : Plane s s.plane
