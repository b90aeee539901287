-- PUBLIC CALLS, one number each
use Rattle.std.specs.Prelude.{◌≡◌, true, false, ℕ, ◌-◌, ltb, if◌then◌else◌}
use mathlib.Core.List.{List, foldl}
use Rattle.state.specs.declared.State.{State}
use Rattle.calls.specs.Arrive.{arrive_of}
use Rattle.calls.specs.Step.{step_of}
use Rattle.course.specs.declared.Cursor.{Cursor}
use Rattle.course.specs.Turns.{first_cursor, is_ended}
use Rattle.listing.specs.Listing.{cursor_of}

-- an arrival of this task, or from 4,294,967,296 on a step to the horizon that lies above, with n bytes of room
unfoldable pub made : ℕ → State → ℕ → State
made n s call = if ltb call 4294967296 then (arrive_of s call).state else (step_of s (call - 4294967296) n).state

unfoldable pub made_all : ℕ → State → List ℕ → State
made_all n s list = foldl (made n) s list

-- chunks of a listing, from a cursor to the end
pub data Lists (text : List ℕ) : Cursor → Cursor → Type 0 where
  ended : {c : Cursor} → is_ended c.stage ≡ true → Lists text c c
  goes : {c k : Cursor} → is_ended c.stage ≡ false → Lists text (cursor_of text c) k → Lists text c k

-- the present at the end of a text's listing
abbrev pub EndsAt : List ℕ → ℕ → Type 0
EndsAt text r = (k : Cursor) × Lists text first_cursor k × (r ≡ k.state.now.0)
