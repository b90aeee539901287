-- WHAT A CURSOR OWES: the entries of the text's course that are still to come, in the words of the rules
use Rattle.std.specs.Prelude.{List, [], ◌∷◌, map, ℕ, ◌+◌, ◌≤◌, length, drop, Option, Some, None, Err}
use Rattle.state.specs.View.{view}
use Rattle.moves.specs.Whole.{Whole}
use Rattle.demands.specs.Demands.{read_records}
use Rattle.text.specs.Meaning.{items_of, turns_in}
use Rattle.output.specs.Course.{Entry, scale_entry, record_entry, refused_entry, turns_course, course_of}
use Rattle.course.specs.declared.Stage.{Stage}
use Rattle.course.specs.declared.Stage.TheVariants.{Start, Lines, Ended}
use Rattle.course.specs.declared.Cursor.{Cursor}
use Rattle.course.specs.declared.Part.{Part}
use Rattle.course.specs.declared.Part.TheVariants.{Scale, Records, Refused}

-- the entries of a part; its records are in the room
abbrev pub entries_of : Option Part → List ℕ → List Entry
entries_of (Some (Scale scale)) room = scale_entry scale ∷ []
entries_of (Some (Records k m)) room = map (record_entry m) (read_records k room)
entries_of (Some (Refused refusal line)) room = refused_entry (Err refusal) line ∷ []
entries_of None room = []

-- all of the text's course at the beginning, nothing at the end, between them what comes of the lines from the cursor's on
abbrev pub owes_by : Stage → List ℕ → Cursor → List Entry
owes_by Start text c = course_of text
owes_by Lines text c = turns_course (view c.state) (turns_in c.line (items_of (drop c.at text)))
owes_by Ended text c = []

unfoldable pub owes : List ℕ → Cursor → List Entry
owes text c = owes_by c.stage text c

-- a cursor on its way through a text of good form: its state holds together, and no line is shorter than its newline
pub record OnItsWay (text : List ℕ) (c : Cursor) : Type 0 where
  pub whole : Whole c.state
  pub short : length text ≤ 65536
  pub line : c.line ≤ c.at + 1

-- the first cursor is made, and so is every cursor that a turn hands back
abbrev pub MadeBy : Stage → List ℕ → Cursor → Type 0
MadeBy Start text c = Unit {0}
MadeBy Lines text c = OnItsWay text c
MadeBy Ended text c = Unit {0}

abbrev pub Made : List ℕ → Cursor → Type 0
Made text c = MadeBy c.stage text c
