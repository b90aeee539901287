-- EACH TURN LEAVES LESS TO DO
use Rattle.std.specs.Prelude.{◌≡◌, false, List, ℕ, ◌+◌, ◌*◌, ◌-◌, ◌≤◌, ◌<◌, length, Option, Some, None}
use Rattle.course.specs.declared.Stage.{Stage}
use Rattle.course.specs.declared.Stage.TheVariants.{Start, Lines, Ended}
use Rattle.course.specs.declared.Cursor.{Cursor}
use Rattle.course.specs.declared.Part.{Part}
use Rattle.course.specs.declared.Part.TheVariants.{Scale, Records, Refused}
use Rattle.course.specs.declared.Turned.{Turned}
use Rattle.course.specs.Turns.{is_ended}

-- records are of at most 16 processors and fit the room, and the present moves on
abbrev pub MovesBy : Option Part → ℕ → ℕ → ℕ → Type 0
MovesBy (Some (Records k m)) before after n = (m ≤ 16) × (48 * k ≤ n) × (before < after)
MovesBy (Some (Scale l)) before after n = Unit {0}
MovesBy (Some (Refused refusal line)) before after n = Unit {0}
MovesBy None before after n = Unit {0}

abbrev pub Moves : Cursor → Turned → ℕ → Type 0
Moves c r n = MovesBy r.part c.state.now.0 r.cursor.state.now.0 n

-- an instant is below 2^64: a line ahead counts for more than any run
abbrev pub instants : ℕ
instants = 18446744073709551616

-- what is left to do: bytes of the text, then sub-ticks
abbrev pub left_by : Stage → ℕ → ℕ → ℕ → ℕ
left_by Start len at now = (len + 1) * instants + 2
left_by Lines len at now = (len - at) * instants + (instants - now) + 1
left_by Ended len at now = 0

unfoldable pub left : List ℕ → Cursor → ℕ
left text c = left_by c.stage (length text) c.at c.state.now.0

abbrev pub Falls : List ℕ → Cursor → Cursor → Type 0
Falls text c k = is_ended c.stage ≡ false → left text k < left text c
