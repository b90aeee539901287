-- ADMIT: "table bytes and m give a state at instant 0"
use Rattle.std.specs.Prelude.{Bool, true, false, not, ◌&&◌, List, [], ◌∷◌, ℕ, suc, ◌*◌, ◌%◌, leb, ltb, eqb, length, if◌then◌else◌}
use Rattle.rules.specs.Bounds.{most_processors, most_scale, most_tasks, row_size}
use Rattle.rules.specs.Answers.{Answer, Done, Processors, TableLength, RowRange, RowExecution, Scale, Shares, is_done}
use Rattle.rules.specs.Table.{Row, rows_of, shorter, row_in_range}
use Rattle.rules.specs.Scale.{scale_of, fits}
use Rattle.rules.specs.State.{State, blank, admitted}

-- 1: "m is 0 or above 16"
abbrev pub processors_ok : ℕ → Bool
processors_ok m = leb 1 m && leb m most_processors

-- 2: "byte length is 0, above 1,536, or not a multiple of 12"
abbrev pub length_ok : ℕ → Bool
length_ok n = leb 1 n && (leb n (most_tasks * row_size) && eqb (n % row_size) 0)

-- 3: "a row has p, e or D out of range"; 4: "a row has e above q"; "3 before 4 in one row"
abbrev pub fault_of : Row → Answer
fault_of r = if not (row_in_range r) then RowRange else (if ltb (shorter r) r.exec then RowExecution else Done)

-- an answer, and the row that it names (from 1; 0 for none)
pub record Verdict : Type 0 where
  pub answer : Answer
  pub row : ℕ

abbrev pub plain : Answer → Verdict
plain a = record { answer = a; row = 0 }

-- "the first faulty row"; the first of these rows has the number i
unfoldable pub fault_from : ℕ → List Row → Verdict
fault_from i [] = plain Done
fault_from i (r ∷ rs) = elim (is_done (fault_of r)) [ true ↦ fault_from (suc i) rs | false ↦ record { answer = fault_of r; row = i } ]

-- 5: "L is above 134,217,728"; 6: "shares sum above m times L"
unfoldable pub size_verdict : ℕ → List Row → Verdict
size_verdict m rs = if ltb most_scale (scale_of rs) then plain Scale else (if fits m rs then plain Done else plain Shares)

abbrev pub or_else : Verdict → Verdict → Verdict
or_else v w = if is_done v.answer then w else v

-- "1, 2, then the first faulty row (3 before 4 in one row), then 5, 6"
unfoldable pub rows_verdict : ℕ → List Row → Verdict
rows_verdict m rs = or_else (fault_from 1 rs) (size_verdict m rs)

unfoldable pub admit_verdict : List ℕ → ℕ → Verdict
admit_verdict bytes m =
    if processors_ok m then (if length_ok (length bytes) then rows_verdict m (rows_of bytes) else plain TableLength) else plain Processors

-- "A refused admit answers with the number, the row (0 unless 3 or 4) and a blank state"
pub record Admitted : Type 0 where
  pub answer : Answer
  pub row : ℕ
  pub state : State

unfoldable pub admit : List ℕ → ℕ → Admitted
admit bytes m =
    let v = admit_verdict bytes m in
    record { answer = v.answer; row = v.row; state = if is_done v.answer then admitted m (rows_of bytes) else blank }
