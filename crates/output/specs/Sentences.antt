-- WHAT DOCUMENT 01 SAYS OF EVERY OUTPUT, whatever the text
use Rattle.std.specs.Prelude.{◌≡◌, true, List, [], ◌∷◌, ℕ, ◌*◌, ◌≤◌, ◌<◌, length}
use Rattle.rules.specs.Answers.{Answer, Done, Processors, TableLength, RowRange, RowExecution, Scale, Shares, TaskNumber, BetweenTicks, TooSoon, HorizonPastClock, HorizonNotLater, RoomTooShort, NotTogether, TextForm}
use Rattle.rules.specs.Bounds.{clock}
use Rattle.rules.specs.State.{State}
use Rattle.rules.specs.Holds.{holds}
use Rattle.rules.specs.Run.{starting}
use Rattle.rules.specs.Listings.{reach}
use Rattle.output.specs.Course.{Entry, scale_entry, record_entry, refused_entry, refusal, course_of}

-- a refusal that is printed: "the text line (0 for 1, 2, 5, 6)"; "Numbers 8, 10, 12 and 13 are met through the library only"
abbrev pub Printable : Answer → ℕ → Type 0
Printable Processors line = line ≡ 0
Printable TableLength line = line ≡ 0
Printable RowRange line = 1 ≤ line
Printable RowExecution line = 1 ≤ line
Printable Scale line = line ≡ 0
Printable Shares line = line ≡ 0
Printable TaskNumber line = 1 ≤ line
Printable TooSoon line = 1 ≤ line
Printable HorizonNotLater line = 1 ≤ line
Printable TextForm line = Unit {0}
Printable BetweenTicks line = ⊥
Printable HorizonPastClock line = ⊥
Printable RoomTooShort line = ⊥
Printable NotTogether line = ⊥
Printable Done line = ⊥

-- a refusal stands "as the last line"
unfoldable pub Closes : List Entry → Type 0
Closes [] = Unit {0}
Closes (scale_entry scale ∷ es) = Closes es
Closes (record_entry m rec ∷ es) = Closes es
Closes (refused_entry answer line ∷ es) = Printable answer line × (es ≡ [])

pub record Sentences : Type 0 where
  pub closes : (text : List ℕ) → Closes (course_of text)
  -- "14 names […] line 0 where the input is too long", whatever stands in it
  pub long : (text : List ℕ) → 65536 < length text → course_of text ≡ refusal TextForm 0
  -- "steps with horizon T until the present is T"
  pub reaches : (s : State) (tick : ℕ) → holds s ≡ true → tick ≤ clock → s.now ≤ tick * s.scale → (reach tick (starting s)).state.now ≡ tick * s.scale
  -- "If T is the present it takes no step", nor for an earlier one
  pub stays : (s : State) (tick : ℕ) → tick * s.scale ≤ s.now → reach tick (starting s) ≡ starting s
