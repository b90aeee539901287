-- A STATE THAT HOLDS TOGETHER, clause by clause, as a test of the state that the code keeps
use Rattle.std.specs.Prelude.{◌≡◌, Bool, true, ◌&&◌, List, map, ℕ, ◌*◌, ◌≤◌, ◌<◌, leb, get_or, take, if◌then◌else◌}
use Rattle.table.specs.Rows.{share_sum_of}
use Rattle.ground.specs.Sums.{up_from}
use Rattle.rules.specs.Table.{Row}
use Rattle.rules.specs.Scale.{scale_of, share_of}
use Rattle.rules.specs.Planes.{falling, shares_of}
use Rattle.rules.specs.Reasons.{RowOk}
use Rattle.rules.specs.Holds.{holds}
use Rattle.table.specs.declared.Table.{Table}
use Rattle.state.specs.declared.State.{State}
use Rattle.state.specs.Machine.{tick_at}
use Rattle.state.specs.View.{row_of, view, Sound}
use Rattle.state.specs.Sound.{sound_of}
use Rattle.together_rows.specs.Tables.{table_ok, order_ok}
use Rattle.together_rows.specs.Jobs.{lasts_ok}
use Rattle.together.specs.Clauses.{closed_by, open_by}
use Rattle.rules.specs.Bounds.{clock, most_scale}

-- "the instant is within the clock"
abbrev pub clock_ok : State → Bool
clock_ok s = leb s.now.0 (clock * s.table.scale)

-- "With a plane closed"
abbrev pub closed_ok : State → Bool
closed_ok s =
    closed_by s.table.period s.table.deadline s.table.count s.table.scale s.now.0 s.jobs.awake s.jobs.last s.running.len s.waiting.len

-- "With a plane open"
abbrev pub open_ok : State → Bool
open_ok s =
    open_by s.table.period s.table.deadline s.table.share s.table.count s.table.m s.table.scale s.now.0 s.end
    s.jobs.awake s.jobs.arrived s.jobs.last s.running.keys s.running.len s.waiting.keys s.waiting.len

abbrev pub plane_ok : State → Bool
plane_ok s = if s.going then open_ok s else closed_ok s

-- "A last arrival is never later than the present, and an awake task has one."
abbrev pub arrivals_ok : State → Bool
arrivals_ok s = lasts_ok s.jobs.arrived s.jobs.awake s.jobs.last (tick_at s) s.table.count

-- "Exactly this": the table, the instant, the conditions, the plane, the last arrivals, the orders
unfoldable pub holds_of : State → Bool
holds_of s = table_ok s.table && (clock_ok s && (sound_of s && (plane_ok s && (arrivals_ok s && order_ok s.table))))

-- the rows of a table, and their shares
abbrev pub rows_in : Table → List Row
rows_in t = map (row_of t) (up_from 0 t.count)

abbrev pub shares_in : Table → List ℕ
shares_in t = map (λ i. get_or t.share i 0) (up_from 0 t.count)

-- a table that passes admission
pub record TableOk (t : Table) : Type 0 where
  pub processors : (1 ≤ t.m) × (t.m ≤ 16)
  pub size : (1 ≤ t.count) × (t.count ≤ 128)
  pub rows : (i : ℕ) → i < t.count → RowOk (row_of t i)
  pub scale_is : t.scale ≡ scale_of (rows_in t)
  pub scale_most : t.scale ≤ most_scale
  pub share_is : (i : ℕ) → i < t.count → get_or t.share i 0 ≡ share_of t.scale (row_of t i)
  pub sum : share_sum_of t.share t.count ≤ t.m * t.scale

-- the order that it keeps is the falling order of its shares
abbrev pub OrderOk : Table → Type 0
OrderOk t = take t.count t.order ≡ falling (shares_in t)

-- WHAT THE TEST SAYS
-- the queues, the flags and the slots agree, the rules' own "holds together" is true of the view, and the kept order is the falling order
abbrev pub Holding : State → Type 0
Holding s = Sound s × (holds (view s) ≡ true) × (take s.table.count s.table.order ≡ falling (shares_of (view s).tasks))
