-- What each call hands back, refused or taken
use mathlib.Core.Path.{◌≡◌}
use mathlib.Core.Bool.{true, false}
use mathlib.Core.List.{List, ◌++◌}
use Prim.Native.Nat.{ℕ, ◌/◌, ◌-◌}
use lib.ListN.{length, drop}
use Rattle.rules.specs.Answers.{Answer, is_done}
use Rattle.rules.specs.Record.{record_bytes}
use Rattle.state.specs.declared.State.{State}
use Rattle.state.specs.Machine.{moved_of, arrived_of}
use Rattle.refusals.specs.Arrive.{arrive_answer_of}
use Rattle.refusals.specs.Step.{step_answer_of}
use Rattle.inplace.specs.Arrive.{arrive_state_of}
use Rattle.inplace.specs.Step.{step_state_of, step_room}
use Rattle.inplace.specs.Run.{went, filled_by, run_state_of, run_records_of, run_room}

-- a refused arrival hands back the state that it was given
pub arrive_no : (s : State) (task : ℕ) (a : Answer) → a ≡ arrive_answer_of s task → is_done a ≡ false → s ≡ arrive_state_of s task
arrive_no s task a e d = rw (← e, d)

-- one that is taken, the state after it
pub arrive_yes : (s : State) (task : ℕ) (a : Answer) → a ≡ arrive_answer_of s task → is_done a ≡ true → arrived_of s (task - 1) ≡ arrive_state_of s task
arrive_yes s task a e d = rw (← e, d)

module _ (s : State) (horizon : ℕ) (room : List ℕ) (a : Answer) (e : a ≡ step_answer_of s horizon (length room)) where
  -- a refused step and a refused run hand back the state and the room, and the run counts no record
  module _ (d : is_done a ≡ false) where
    pub step_no : (s ≡ step_state_of s horizon (length room)) × (room ≡ step_room s horizon room)
    unfolding step_room
    step_no = (rw (← e, d), rw (← e, d))

    pub run_no : (s ≡ run_state_of s horizon (length room)) × (0 ≡ run_records_of s horizon (length room)) × (room ≡ run_room s horizon room)
    unfolding run_room
    run_no = (rw (← e, d), rw (← e, d), rw (← e, d))

  module _ (d : is_done a ≡ true) where
    pub step_yes : ((moved_of s horizon).state ≡ step_state_of s horizon (length room)) × (record_bytes (moved_of s horizon).rec ++ drop 48 room ≡ step_room s horizon room)
    unfolding step_room
    step_yes = (rw (← e, d), rw (← e, d))

    pub run_yes : ((went (length room / 48) horizon s).state ≡ run_state_of s horizon (length room)) × ((went (length room / 48) horizon s).records ≡ run_records_of s horizon (length room))
        × (filled_by s horizon room ≡ run_room s horizon room)
    unfolding run_room
    run_yes = (rw (← e, d), rw (← e, d), rw (← e, d))
