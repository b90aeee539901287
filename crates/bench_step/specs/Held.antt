-- CALLS IN PLACE, one number each: an arrival of this task, or from 4,294,967,296 on a step to the horizon that lies above
use Rattle.std.specs.Prelude.{true, false, List, [], ◌∷◌, ℕ, ◌*◌, ◌-◌, ◌≤◌, ◌<◌, ltb, if◌then◌else◌}
use Rattle.rules.specs.Reasons.{Comes}
use Rattle.state.specs.declared.State.{State}
use Rattle.state.specs.Machine.{moved_of, arrived_of}
use Rattle.state.specs.View.{view}

-- the call can be taken
unfoldable pub Taken : State → ℕ → Type 0
Taken s call =
    elim (ltb call 4294967296) [
      | true ↦ (0 < call) × Comes (view s) (call - 1)
      | false ↦ (s.now.0 < (call - 4294967296) * s.table.scale) × (call - 4294967296 ≤ 4294967295)
    ]

unfoldable pub done_of : State → ℕ → State
done_of s call = if ltb call 4294967296 then arrived_of s (call - 1) else (moved_of s (call - 4294967296)).state

-- so can each of them
unfoldable pub AllTaken : State → List ℕ → Type 0
AllTaken s [] = Unit {0}
AllTaken s (call ∷ list) = Taken s call × AllTaken (done_of s call) list

unfoldable pub done_all : State → List ℕ → State
done_all s [] = s
done_all s (call ∷ list) = done_all (done_of s call) list
