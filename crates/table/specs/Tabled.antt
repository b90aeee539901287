-- THE TABLE THAT ADMISSION HANDS ON: the rules' verdict, and the table where it is Done
use Rattle.std.specs.Prelude.{List, map, ℕ, length, replicate, if◌then◌else◌}
use Rattle.rules.specs.Answers.{Answer, is_done}
use Rattle.rules.specs.Table.{Row, rows_of}
use Rattle.rules.specs.Scale.{scale_of, share_of}
use Rattle.rules.specs.Planes.{falling}
use Rattle.rules.specs.Admission.{Verdict, admit_verdict}
use Rattle.table.specs.declared.Table.{Table}
use Rattle.table.specs.Rows.{padded, rows_held}

-- the answer of admission, the row that it names (from 1; 0 for none), and the table
pub record Tabled : Type 0 where
  pub answer : Answer
  pub row : ℕ
  pub table : Table

-- the tasks' shares, in row order
abbrev pub shares_from : List Row → List ℕ
shares_from rows = map (share_of (scale_of rows)) rows

-- the table of admitted rows; places past the rows are 0
abbrev pub table_from : ℕ → List Row → Table
table_from m rows =
    record {
      period = padded (map (λ (r : Row). r.period) rows);
      exec = padded (map (λ (r : Row). r.exec) rows);
      deadline = padded (map (λ (r : Row). r.deadline) rows);
      share = padded (shares_from rows);
      order = padded (falling (shares_from rows));
      count = length rows;
      m = m;
      scale = scale_of rows;
    }

-- one fixed value, all zero
abbrev pub blank_table : Table
blank_table =
    record {
      period = replicate 128 0;
      exec = replicate 128 0;
      deadline = replicate 128 0;
      share = replicate 128 0;
      order = replicate 128 0;
      count = 0;
      m = 0;
      scale = 0;
    }

-- a refusal: the answer, the row that it names, and the blank table
abbrev pub refusal : Answer → ℕ → Tabled
refusal answer row = record { answer = answer; row = row; table = blank_table }

-- what a verdict on the rows hands back
abbrev pub tabled_by : Verdict → ℕ → List Row → Tabled
tabled_by v m rows = record { answer = v.answer; row = v.row; table = if is_done v.answer then table_from m rows else blank_table }

-- the answer of admission, with its row and its table
unfoldable pub tabled_of : List ℕ → ℕ → Tabled
tabled_of bytes m = tabled_by (admit_verdict bytes m) m (rows_of bytes)

-- the rows of a table, as the rules see them
abbrev pub rows_in : Table → List Row
rows_in t = rows_held t.period t.exec t.deadline t.count
