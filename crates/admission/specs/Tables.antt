-- A TABLE THAT STANDS ON A SHEET
use Rattle.std.specs.Prelude.{◌≡◌, List, ℕ, Result, ⊤}
use Rattle.rules.specs.Answers.{Done}
use Rattle.rules.specs.Table.{Row}
use Rattle.rules.specs.Scale.{scale_of}
use Rattle.rules.specs.Admission.{plain, size_verdict}
use Rattle.table.specs.declared.Fault.{Fault}
use Rattle.table.specs.declared.Sheet.{Sheet}
use Rattle.table.specs.Rows.{padded, verdict_in}
use Rattle.table.specs.Tabled.{Tabled, shares_from}
use Rattle.table.specs.Lent.{table_on}

-- the answer, the row that it names, and the table on the sheet
abbrev pub tabled_in : Result ⊤ Fault → Sheet → Tabled
tabled_in r s = let v = verdict_in r in record { answer = v.answer; row = v.row; table = table_on s }

-- rows that fit: their scale, and their shares in place
pub record Weighed (m : ℕ) (rows : List Row) (scale : ℕ) (share : List ℕ) : Type 0 where
  pub is_scale : scale ≡ scale_of rows
  pub stored : share ≡ padded (shares_from rows)
  pub fits : size_verdict m rows ≡ plain Done
