-- WHAT ONE LOOP OVER THE ROWS DECIDES: the table, the instant, the last arrivals and the limits
use Rattle.std.specs.Prelude.{◌≡◌, Bool, true, false, ◌&&◌, List, ℕ, ◌*◌, ◌/◌, min, leb, get_or}
use Rattle.queue.specs.Below.{all_below}
use Rattle.rules.specs.Bounds.{clock}
use Rattle.table.specs.declared.Table.{Table}
use Rattle.table.specs.Rows.{share_sum_of}
use Rattle.together_rows.specs.Tables.{row_ok, share_ok, common_below, table_ok}
use Rattle.together_rows.specs.declared.Jobs.{Jobs}
use Rattle.together_rows.specs.declared.Times.{Times}
use Rattle.together_rows.specs.Jobs.{last_ok, lasts_ok, limit_ok, limits_ok, ceil_of, reach_of, awake_sum}

-- a row passes, its q divides L, and its share is e times L/q
abbrev pub row_passes : ℕ → ℕ → ℕ → ℕ → ℕ → Bool
row_passes l p e d x = row_ok p e d && share_ok l (min p d) e x

-- the last arrival is not later than the tick, and the limit reaches as far as this
abbrev pub job_ok : Bool → Bool → ℕ → ℕ → ℕ → ℕ → ℕ → ℕ → Bool
job_ok arrived awake last p d tick ceil reach = last_ok arrived awake last tick && limit_ok awake arrived last p d ceil reach

-- so it is with each of the first n rows
unfoldable pub each_ok : Table → Jobs → Times → ℕ → Bool
each_ok t jobs times n =
    all_below n (λ i. row_passes t.scale (get_or t.period i 0) (get_or t.exec i 0) (get_or t.deadline i 0) (get_or t.share i 0)
    && job_ok (get_or jobs.arrived.now i false) (get_or jobs.awake.now i false) (get_or jobs.last.now i 0) (get_or t.period i 0) (get_or t.deadline i 0)
    times.tick times.ceil times.reach)

-- what the jobs of a state are held against
abbrev pub times_of : ℕ → ℕ → Bool → ℕ → Times
times_of now scale going end = record { tick = now / scale; ceil = ceil_of now scale; reach = reach_of going end (now / scale) }

-- what is added up on the way: is some q L itself, so that no divisor is common to all L/q; all shares; awake tasks' shares
pub record Summed (t : Table) (awake : List Bool) (n : ℕ) (whole : Bool) (total shares : ℕ) : Type 0 where
  pub least : whole ≡ true → common_below t.scale t.period t.deadline n ≡ 1
  pub all : total ≡ share_sum_of t.share n
  pub up : shares ≡ awake_sum awake t.share n

-- the table passes admission, the instant is within the clock, no last arrival is later, and every limit reaches far enough
unfoldable pub front_of : Table → ℕ → Bool → ℕ → List Bool → List Bool → List ℕ → Bool
front_of t now going end arrived awake last =
    table_ok t && (leb now (clock * t.scale) && (lasts_ok arrived awake last (now / t.scale) t.count
    && limits_ok t.period t.deadline awake arrived last (ceil_of now t.scale) (reach_of going end (now / t.scale)) t.count))
