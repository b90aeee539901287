-- A TABLE IN COLUMNS: the rows that three lists hold, and what the code reads off them
use Rattle.std.specs.Prelude.{◌≡◌, true, List, map, ◌++◌, ℕ, ◌+◌, ◌*◌, ◌-◌, ◌≤◌, ◌<◌, min, ltb, length, get_or, take, replicate, if◌then◌else◌, Option, Some, None, Result, Ok, Err, ⊤}
use Rattle.ground.specs.Sums.{sum_of, up_from}
use Rattle.rules.specs.Answers.{Done, is_done}
use Rattle.rules.specs.Table.{Row, word_at}
use Rattle.rules.specs.Scale.{scale_of}
use Rattle.rules.specs.Admission.{Verdict, plain, fault_from}
use Rattle.table.specs.declared.Fault.{Fault}
use Rattle.table.specs.declared.Rows.{Rows}
use Rattle.table.specs.declared.Row as Declared
use Rattle.rules.specs.Bounds.{most_scale, most_ticks}

-- period, execution and deadline, as a row
abbrev pub row_of : ℕ → ℕ → ℕ → Row
row_of p e d = record { period = p; exec = e; deadline = d }

-- the row in place i of three columns
abbrev pub row_in : List ℕ → List ℕ → List ℕ → ℕ → Row
row_in ps es ds i = row_of (get_or ps i 0) (get_or es i 0) (get_or ds i 0)

-- the rows in the first n places
abbrev pub rows_held : List ℕ → List ℕ → List ℕ → ℕ → List Row
rows_held ps es ds n = map (row_in ps es ds) (up_from 0 n)

-- a row of the code, as the rules see it
abbrev pub as_row : Declared.Row → Row
as_row r = row_of r.period r.exec r.deadline

-- the row in place i, and the rows, of lent columns
abbrev pub row_on : Rows → ℕ → Declared.Row
row_on r i = record { period = get_or r.period.now i 0; exec = get_or r.exec.now i 0; deadline = get_or r.deadline.now i 0 }

abbrev pub rows_on : Rows → List Row
rows_on r = rows_held r.period.now r.exec.now r.deadline.now r.count

-- the column of the table's bytes that starts at a byte of each row: 0 the periods, 4 the executions, 8 the deadlines
abbrev pub column_of : ℕ → List ℕ → ℕ → List ℕ
column_of from bytes n = map (λ i. word_at (12 * i + from) bytes) (up_from 0 n)

-- a column has 128 places; those past the rows are 0
abbrev pub padded : List ℕ → List ℕ
padded l = l ++ replicate (128 - length l) 0

-- what the code hands back, as a verdict of the rules
abbrev pub verdict_in : Result ⊤ Fault → Verdict
verdict_in (Ok u) = plain Done
verdict_in (Err f) = record { answer = Err f.refusal; row = f.row }

-- every q of the first n places is in range
abbrev pub ShortInRange : List ℕ → List ℕ → ℕ → Type 0
ShortInRange ps ds n = (i : ℕ) → i < n → (1 ≤ min (get_or ps i 0) (get_or ds i 0)) × (min (get_or ps i 0) (get_or ds i 0) ≤ most_ticks)

-- every share of the first n places is within the largest scale
abbrev pub SharesInRange : List ℕ → ℕ → Type 0
SharesInRange shares n = (i : ℕ) → i < n → get_or shares i 0 ≤ most_scale

-- past the first n places there are 0 only
abbrev pub Filled : List ℕ → ℕ → Type 0
Filled l n = l ≡ padded (take n l)

-- no row is refused by 3 or 4
abbrev pub Faultless : List Row → Type 0
Faultless rows = is_done (fault_from 1 rows).answer ≡ true

-- the scale, or none where it is above 134,217,728
unfoldable pub bounded_scale : List Row → Option ℕ
bounded_scale rows = if ltb most_scale (scale_of rows) then None else Some (scale_of rows)

-- the sum of the first n shares
abbrev pub share_sum_of : List ℕ → ℕ → ℕ
share_sum_of shares n = sum_of (λ i. get_or shares i 0) (up_from 0 n)
