-- THE CURSOR AND ITS TURNS: from any cursor, the next one and what comes between
use Rattle.std.specs.Prelude.{Bool, true, false, List, ℕ, ◌+◌, ◌*◌, leb, ltb, eqb, length, if◌then◌else◌, Option, Some, None, Ok, Err}
use Rattle.rules.specs.declared.Refusal.{Refusal}
use Rattle.rules.specs.declared.Refusal.TheVariants.{TextForm}
use Rattle.rules.specs.Answers.{Answer}
use Rattle.state.specs.declared.State.{State}
use Rattle.admission.specs.declared.Admitted.{Admitted}
use Rattle.calls.specs.declared.Arrived.{Arrived}
use Rattle.calls.specs.declared.Ran.{Ran}
use Rattle.admission.specs.Admit.{blank_state, admit_of}
use Rattle.calls.specs.Arrive.{arrive_of}
use Rattle.calls.specs.Run.{run_of}
use Rattle.inplace.specs.Run.{run_room}
use Rattle.text.specs.declared.Item.{Item}
use Rattle.text.specs.declared.Item.TheVariants.{Processors, Task, Arrive, Until}
use Rattle.text.specs.Form.{Checked, flaw_line, form_of}
use Rattle.text.specs.Meaning.{items_of, line_at, processors_in, row_line_of, table_of}
use Rattle.course.specs.declared.Stage.{Stage}
use Rattle.course.specs.declared.Stage.TheVariants.{Start, Lines, Ended}
use Rattle.course.specs.declared.Cursor.{Cursor}
use Rattle.course.specs.declared.Deed.{Deed}
use Rattle.course.specs.declared.Deed.TheVariants.{Begin, Run, Arrival, Skip, Finish}
use Rattle.course.specs.declared.Part.{Part}
use Rattle.course.specs.declared.Part.TheVariants.{Scale, Records, Refused}
use Rattle.course.specs.declared.Turned.{Turned}

-- before a text
abbrev pub first_cursor : Cursor
first_cursor = record { state = blank_state; at = 0; line = 0; stage = Start }

abbrev pub is_ended : Stage → Bool
is_ended Start = false
is_ended Lines = false
is_ended Ended = true

abbrev pub turned : State → ℕ → ℕ → Stage → Option Part → Turned
turned s at line stage part = record { cursor = record { state = s; at = at; line = line; stage = stage }; part = part }

-- the end, with a last part
abbrev pub ended_at : Cursor → Option Part → Turned
ended_at c part = turned c.state c.at c.line Ended part

abbrev pub refused_at : Cursor → Refusal → ℕ → Turned
refused_at c refusal line = ended_at c (Some (Refused refusal line))

-- the number of the next line; a text of good form has at most 65,536 lines
abbrev pub line_after : ℕ → ℕ
line_after line = if leb line 65536 then line + 1 else line

-- on to the next line
abbrev pub skipped_of : Cursor → ℕ → Turned
skipped_of c next = turned c.state next (line_after c.line) Lines None

-- the table: the scale, or the refusal with the line of its row
abbrev pub admitted_on : List ℕ → Cursor → State → ℕ → Answer → Turned
admitted_on text c s row (Ok u) = turned s 0 1 Lines (Some (Scale s.table.scale))
admitted_on text c s row (Err refusal) = refused_at c refusal (row_line_of text row)

abbrev pub admitted_by : List ℕ → Cursor → Admitted → Turned
admitted_by text c a = admitted_on text c a.state a.row a.answer

unfoldable pub admitted_of : List ℕ → Cursor → Turned
admitted_of text c = admitted_by text c (admit_of (table_of text) (processors_in (items_of text)))

-- the form first
abbrev pub start_by : List ℕ → Cursor → Checked → Turned
start_by text c (Ok u) = admitted_of text c
start_by text c (Err flaw) = refused_at c TextForm (flaw_line flaw)

unfoldable pub start_of : List ℕ → Cursor → Turned
start_of text c = start_by text c (form_of text)

-- an arrival, and on to the next line
abbrev pub arrival_on : Cursor → ℕ → State → Answer → Turned
arrival_on c next s (Ok u) = turned s next (line_after c.line) Lines None
arrival_on c next s (Err refusal) = refused_at c refusal c.line

abbrev pub arrival_by : Cursor → ℕ → Arrived → Turned
arrival_by c next a = arrival_on c next a.state a.answer

unfoldable pub arrival_of : Cursor → ℕ → ℕ → Turned
arrival_of c task next = arrival_by c next (arrive_of c.state task)

-- a run towards a tick, with so many bytes of room
abbrev pub ran_on : Cursor → State → ℕ → Answer → Turned
ran_on c s records (Ok u) = turned s c.at c.line Lines (Some (Records records c.state.table.m))
ran_on c s records (Err refusal) = refused_at c refusal c.line

abbrev pub ran_by : Cursor → Ran → Turned
ran_by c r = ran_on c r.state r.records r.answer

unfoldable pub ran_of : Cursor → ℕ → ℕ → Turned
ran_of c tick n = ran_by c (run_of c.state tick n)

-- WHAT IS DUE
-- on a line: a run towards its tick as long as that is not the present, then the arrival, or the end
abbrev pub item_deed : Option Item → ℕ → ℕ → ℕ → Deed
item_deed (Some (Processors m)) next present scale = Skip next
item_deed (Some (Task p e d)) next present scale = Skip next
item_deed (Some (Arrive tick task)) next present scale = if eqb present (tick * scale) then Arrival task next else Run tick
item_deed (Some (Until tick)) next present scale = if eqb present (tick * scale) then Finish else Run tick
item_deed None next present scale = Skip next

abbrev pub line_deed : List ℕ → ℕ → ℕ → ℕ → Deed
line_deed text at present scale = if ltb at (length text) then item_deed (line_at text at).item (line_at text at).next present scale else Finish

abbrev pub deed_by : Stage → List ℕ → ℕ → ℕ → ℕ → Deed
deed_by Start text at present scale = Begin
deed_by Lines text at present scale = line_deed text at present scale
deed_by Ended text at present scale = Finish

abbrev pub deed_of : List ℕ → Cursor → Deed
deed_of text c = deed_by c.stage text c.at c.state.now.0 c.state.table.scale

-- THE NEXT CURSOR, what comes between, and the room, of which n bytes were lent
abbrev pub turn_by : Deed → List ℕ → Cursor → ℕ → Turned
turn_by Begin text c n = start_of text c
turn_by (Run tick) text c n = ran_of c tick n
turn_by (Arrival task next) text c n = arrival_of c task next
turn_by (Skip next) text c n = skipped_of c next
turn_by Finish text c n = ended_at c None

abbrev pub room_by : Deed → Cursor → List ℕ → List ℕ
room_by Begin c room = room
room_by (Run tick) c room = run_room c.state tick room
room_by (Arrival task next) c room = room
room_by (Skip next) c room = room
room_by Finish c room = room

unfoldable pub turn_of : List ℕ → Cursor → ℕ → Turned
turn_of text c n = turn_by (deed_of text c) text c n

unfoldable pub turn_room : List ℕ → Cursor → List ℕ → List ℕ
turn_room text c room = room_by (deed_of text c) c room
