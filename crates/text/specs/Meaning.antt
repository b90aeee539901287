-- WHAT A TEXT OF GOOD FORM MEANS
use Rattle.std.specs.Prelude.{Bool, true, false, List, [], ◌∷◌, ◌++◌, map, ℕ, ◌+◌, ◌-◌, ltb, length, get_or, take, drop, if◌then◌else◌, Option, Some, None}
use Rattle.rules.specs.Table.{Row, table_bytes}
use Rattle.text.specs.declared.Item.{Item}
use Rattle.text.specs.declared.Item.TheVariants.{Processors, Task, Arrive, Until}
use Rattle.text.specs.declared.Line.{Line}
use Rattle.text.specs.Parts.{lines_of, first_at, newline}
use Rattle.text.specs.Lines.{item_of}

-- what the lines say, from the first on
unfoldable pub items_of : List ℕ → List (Option Item)
items_of text = map item_of (lines_of text)

-- the line that begins at a place of a text: what it says, and where the next one begins
abbrev pub end_at : List ℕ → ℕ → ℕ
end_at text at = at + first_at newline (drop at text)

unfoldable pub line_at : List ℕ → ℕ → Line
line_at text at =
    if ltb (end_at text at) (length text) then record { item = item_of (take (end_at text at - at) (drop at text)); next = end_at text at + 1 }
    else record { item = None; next = length text }

-- "absent means 4"
abbrev pub processors_if_absent : ℕ
processors_if_absent = 4

-- "at most one "processors M"": the number of processors, by the first line
abbrev pub processors_by : Option Item → ℕ
processors_by (Some (Processors m)) = m
processors_by (Some (Task p e d)) = processors_if_absent
processors_by (Some (Arrive t i)) = processors_if_absent
processors_by (Some (Until t)) = processors_if_absent
processors_by None = processors_if_absent

abbrev pub processors_in : List (Option Item) → ℕ
processors_in [] = processors_if_absent
processors_in (x ∷ l) = processors_by x

-- the row of a task line
abbrev pub row_by : Option Item → List Row
row_by (Some (Task p e d)) = record { period = p; exec = e; deadline = d } ∷ []
row_by (Some (Processors m)) = []
row_by (Some (Arrive t i)) = []
row_by (Some (Until t)) = []
row_by None = []

-- the rows, in the order of their lines
unfoldable pub rows_in : List (Option Item) → List Row
rows_in [] = []
rows_in (x ∷ l) = row_by x ++ rows_in l

-- is it a task line?
abbrev pub is_task : Option Item → Bool
is_task (Some (Task p e d)) = true
is_task (Some (Processors m)) = false
is_task (Some (Arrive t i)) = false
is_task (Some (Until t)) = false
is_task None = false

-- the text line of each row; the first of these lines has the number n
abbrev pub row_line_by : ℕ → Option Item → List ℕ
row_line_by n x = if is_task x then n ∷ [] else []

unfoldable pub row_lines_in : ℕ → List (Option Item) → List ℕ
row_lines_in n [] = []
row_lines_in n (x ∷ l) = row_line_by n x ++ row_lines_in (n + 1) l

-- the text line of the row with this number; 0 for none
unfoldable pub row_line_of : List ℕ → ℕ → ℕ
row_line_of text row = get_or (0 ∷ row_lines_in 1 (items_of text)) row 0

-- an arrive line or the until line, with its number
pub record Turn : Type 0 where
  pub line : ℕ
  pub item : Item

abbrev pub turn_by : ℕ → Option Item → List Turn
turn_by n (Some (Arrive t i)) = record { line = n; item = Arrive t i } ∷ []
turn_by n (Some (Until t)) = record { line = n; item = Until t } ∷ []
turn_by n (Some (Processors m)) = []
turn_by n (Some (Task p e d)) = []
turn_by n None = []

-- the arrive lines and until, in turn
unfoldable pub turns_in : ℕ → List (Option Item) → List Turn
turns_in n [] = []
turns_in n (x ∷ l) = turn_by n x ++ turns_in (n + 1) l

-- the table of a text; of more than 129 rows the first 129, which are too many as well
unfoldable pub table_of : List ℕ → List ℕ
table_of text = table_bytes (take 129 (rows_in (items_of text)))
