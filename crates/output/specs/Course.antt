-- WHAT COMES OF A TEXT: document 01, "The program", from the rules' calls. What each entry looks like is said elsewhere
use Rattle.std.specs.Prelude.{Bool, true, false, List, [], ◌∷◌, ◌++◌, map, ℕ, ◌*◌, eqb, Ok, Err}
use Rattle.rules.specs.Answers.{Answer, HorizonNotLater, TextForm, is_done}
use Rattle.rules.specs.Table.{table_bytes}
use Rattle.rules.specs.Admission.{Admitted, admit}
use Rattle.rules.specs.State.{State}
use Rattle.rules.specs.Record.{Record}
use Rattle.rules.specs.Calls.{Arrived, arrive}
use Rattle.rules.specs.Run.{Run, starting}
use Rattle.rules.specs.Listings.{reach}
use Rattle.text.specs.declared.Item.TheVariants.{Processors, Task, Arrive, Until}
use Rattle.text.specs.Form.{Checked, flaw_line, form_of}
use Rattle.text.specs.Meaning.{items_of, processors_in, rows_in, row_line_of, Turn, turns_in}

-- the scale of the admitted table; a record of m processors; a refusal, with the text line that it names or 0
pub data Entry : Type 0 where
  scale_entry : (scale : ℕ) → Entry
  record_entry : (m : ℕ) (rec : Record) → Entry
  refused_entry : (answer : Answer) (line : ℕ) → Entry

-- a refusal is the last entry
abbrev pub refusal : Answer → ℕ → List Entry
refusal a line = refused_entry a line ∷ []

-- is the present the tick?
abbrev pub is_at : State → ℕ → Bool
is_at s tick = eqb s.now (tick * s.scale)

-- "an earlier T is 11": the run so far, and what follows once the present is T
abbrev pub reached : Run → ℕ → ℕ → (State → List Entry) → List Entry
reached g tick line follows = elim (is_at g.state tick) as (λ _. List Entry) [ true ↦ follows g.state | false ↦ refusal HorizonNotLater line ]

-- "the program steps with horizon T until the present is T"
abbrev pub reaching : State → ℕ → ℕ → (State → List Entry) → List Entry
reaching s tick line follows = let g = reach tick (starting s) in map (record_entry s.m) g.records ++ reached g tick line follows

-- an arrival that is taken is followed by the next lines
abbrev pub arriving : Arrived → ℕ → (State → List Entry) → List Entry
arriving a line follows = elim (is_done a.answer) as (λ _. List Entry) [ true ↦ follows a.state | false ↦ refusal a.answer line ]

-- "For arrive, the program steps with horizon T until the present is T, then calls arrive; for until, it steps likewise", line after line
unfoldable pub turns_course : State → List Turn → List Entry
turns_course s [] = []
turns_course s (t ∷ ts) =
    elim t.item as (λ _. List Entry) [
      | Arrive tick task ↦ reaching s tick t.line (λ (there : State). arriving (arrive there task) t.line (λ (after : State). turns_course after ts))
      | Until tick ↦ reaching s tick t.line (λ (there : State). [])
      | Processors m ↦ turns_course s ts
      | Task p e d ↦ turns_course s ts
    ]

-- "Once the table is admitted it prints "scale L""; a refusal has the text line of its row, "0 for 1, 2, 5, 6"
abbrev pub admission_course : List ℕ → Admitted → List Entry
admission_course text a =
    elim (is_done a.answer) as (λ _. List Entry) [
      | true ↦ scale_entry a.state.scale ∷ turns_course a.state (turns_in 1 (items_of text))
      | false ↦ refusal a.answer (row_line_of text a.row)
    ]

-- "The form of the whole text is checked first"
abbrev pub course_by : List ℕ → Checked → List Entry
course_by text (Ok u) = admission_course text (admit (table_bytes (rows_in (items_of text))) (processors_in (items_of text)))
course_by text (Err flaw) = refusal TextForm (flaw_line flaw)

unfoldable pub course_of : List ℕ → List Entry
course_of text = course_by text (form_of text)
