-- THE LISTING OF A TEXT, CHUNK BY CHUNK
use Rattle.std.specs.Prelude.{◌≡◌, List, [], ◌++◌, ℕ, zero, suc, ◌*◌, ◌≤◌, take, replicate, if◌then◌else◌, Option, Some, None}
use Rattle.rules.specs.Answers.{refusal_number}
use Rattle.print.specs.Printed.{scale_line, refused_line, record_lines}
use Rattle.output.specs.Output.{printed, output_of}
use Rattle.course.specs.declared.Cursor.{Cursor}
use Rattle.course.specs.declared.Part.{Part}
use Rattle.course.specs.declared.Part.TheVariants.{Scale, Records, Refused}
use Rattle.course.specs.Turns.{first_cursor, is_ended, turn_of, turn_room}
use Rattle.course.specs.Moves.{left}
use Rattle.course.specs.Owed.{owes, Made}

-- room for 474 records, whose lines fit 65,536 bytes
abbrev pub space : ℕ
space = 22752

abbrev pub PartFits : Option Part → Type 0
PartFits (Some (Records k m)) = (m ≤ 16) × (48 * k ≤ space)
PartFits (Some (Scale scale)) = Unit {0}
PartFits (Some (Refused refusal line)) = Unit {0}
PartFits None = Unit {0}

-- the lines of a part; its records are in the room
abbrev pub part_lines : Option Part → List ℕ → List ℕ
part_lines (Some (Scale scale)) room = scale_line scale
part_lines (Some (Records k m)) room = record_lines m k room
part_lines (Some (Refused refusal line)) room = refused_line (refusal_number refusal) line
part_lines None room = []

-- the next cursor, and what is written on the way
unfoldable pub cursor_of : List ℕ → Cursor → Cursor
cursor_of text c = (turn_of text c space).cursor

unfoldable pub chunk_of : List ℕ → Cursor → List ℕ
chunk_of text c = part_lines (turn_of text c space).part (turn_room text c (replicate space 0))

-- the bytes that a cursor owes: the first one owes `output_of text`
abbrev pub owed : List ℕ → Cursor → List ℕ
owed text c = printed (owes text c)

-- of a cursor that this code made: what was written, followed by what the new cursor owes, is what the old one owed
abbrev pub Pays : List ℕ → Cursor → Cursor → ℕ → List ℕ → Type 0
Pays text c c' len out = Made text c → (take len out ++ owed text c' ≡ owed text c) × Made text c'

-- ALL CHUNKS, from a cursor on: n of them
unfoldable pub chunks : ℕ → List ℕ → Cursor → List ℕ
chunks zero text c = []
chunks (suc n) text c = chunk_of text c ++ chunks n text (cursor_of text c)

-- THE PROGRAM'S LOOP: nothing once the cursor is at the end; else the next chunk, and on; at most n turns
unfoldable pub looped : ℕ → List ℕ → Cursor → List ℕ
looped zero text c = []
looped (suc n) text c = if is_ended c.stage then [] else chunk_of text c ++ looped n text (cursor_of text c)

-- the loop is at the end after at most `left` turns, and what it wrote is the output; chunks after the end would be empty
pub record Program : Type 0 where
  pub first : (text : List ℕ) → owed text first_cursor ≡ output_of text
  pub all : (text : List ℕ) (n : ℕ) → left text first_cursor ≤ n → chunks n text first_cursor ≡ output_of text
  pub loop : (text : List ℕ) (n : ℕ) → left text first_cursor ≤ n → looped n text first_cursor ≡ output_of text
  -- a text that is too long need not be read to its end
  pub cut : (text : List ℕ) → output_of (take 65537 text) ≡ output_of text
