-- THE ANSWERS AND THEIR NUMBERS
use Rattle.std.specs.Prelude.{ℕ, Bool, Result, Ok, Err, is_ok}
use Rattle.rules.specs.declared.Refusal.{Refusal}
use Rattle.rules.specs.declared.Refusal.TheVariants as refusal

-- done, or refused; each answer by its name, in patterns too
abbrev pub Answer : Type 0
Answer = Result (Unit {0}) Refusal

pattern abbrev pub Done : Answer
Done = Ok tt

pattern abbrev pub Processors : Answer
Processors = Err refusal.Processors

pattern abbrev pub TableLength : Answer
TableLength = Err refusal.TableLength

pattern abbrev pub RowRange : Answer
RowRange = Err refusal.RowRange

pattern abbrev pub RowExecution : Answer
RowExecution = Err refusal.RowExecution

pattern abbrev pub Scale : Answer
Scale = Err refusal.Scale

pattern abbrev pub Shares : Answer
Shares = Err refusal.Shares

pattern abbrev pub TaskNumber : Answer
TaskNumber = Err refusal.TaskNumber

pattern abbrev pub BetweenTicks : Answer
BetweenTicks = Err refusal.BetweenTicks

pattern abbrev pub TooSoon : Answer
TooSoon = Err refusal.TooSoon

pattern abbrev pub HorizonPastClock : Answer
HorizonPastClock = Err refusal.HorizonPastClock

pattern abbrev pub HorizonNotLater : Answer
HorizonNotLater = Err refusal.HorizonNotLater

pattern abbrev pub RoomTooShort : Answer
RoomTooShort = Err refusal.RoomTooShort

pattern abbrev pub NotTogether : Answer
NotTogether = Err refusal.NotTogether

pattern abbrev pub TextForm : Answer
TextForm = Err refusal.TextForm

-- "Given exactly when" stands with each call; this is the column "No."
abbrev pub refusal_number : Refusal → ℕ
refusal_number refusal.Processors = 1
refusal_number refusal.TableLength = 2
refusal_number refusal.RowRange = 3
refusal_number refusal.RowExecution = 4
refusal_number refusal.Scale = 5
refusal_number refusal.Shares = 6
refusal_number refusal.TaskNumber = 7
refusal_number refusal.BetweenTicks = 8
refusal_number refusal.TooSoon = 9
refusal_number refusal.HorizonPastClock = 10
refusal_number refusal.HorizonNotLater = 11
refusal_number refusal.RoomTooShort = 12
refusal_number refusal.NotTogether = 13
refusal_number refusal.TextForm = 14

-- an answer's number
abbrev pub number_of : Answer → ℕ
number_of (Ok u) = 0
number_of (Err r) = refusal_number r

abbrev pub is_done : Answer → Bool
is_done a = is_ok a
