-- THE ROWS THAT LIE IN LENT ARRAYS: the columns that a plane's end and its closing look at
use Rattle.std.specs.Prelude.{◌≡◌, Bool, true, false, List, [], ℕ, ◌≤◌, ◌<◌, get_or}
use Rattle.table.specs.declared.Table.{Table}
use Rattle.table.specs.declared.Rows.{Rows}
use Rattle.state.specs.declared.Jobs.{Jobs}

-- a table of n rows with these columns; the others are not looked at
abbrev pub rows : List ℕ → List ℕ → ℕ → Table
rows period deadline n =
    record { period = period; exec = []; deadline = deadline; share = []; order = []; count = n; m = 0; scale = 0 }

-- the same of lent rows
abbrev pub rows_in : Rows → Table
rows_in r = rows r.period.now r.deadline.now r.count

-- who is awake, and each task's last arrival
abbrev pub jobs : List Bool → List ℕ → Jobs
jobs awake last = record { awake = awake; arrived = []; last = last }

-- of n rows, no awake task's last arrival is after the tick; a period after the tick still fits 64 bits
pub record Came (awake : List Bool) (last : List ℕ) (n tick : ℕ) : Type 0 where
  pub few : n ≤ 128
  pub past : (i : ℕ) → i < n → get_or awake i false ≡ true → get_or last i 0 ≤ tick
  pub small : tick ≤ 18446744069414584320

-- the same of row i
pub record CameAt (awake : List Bool) (last : List ℕ) (tick i : ℕ) : Type 0 where
  pub inside : i < 128
  pub past : get_or awake i false ≡ true → get_or last i 0 ≤ tick
  pub small : tick ≤ 18446744069414584320
