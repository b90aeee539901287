-- A STATE THAT HOLDS TOGETHER, as the code keeps it
use Rattle.std.specs.Prelude.{◌≡◌, true, List, ◌++◌, ℕ, ◌<◌, take, drop}
use Rattle.rules.specs.Record.{record_bytes}
use Rattle.rules.specs.Holds.{holds}
use Rattle.rules.specs.Planes.{falling, shares_of}
use Rattle.state.specs.declared.State.{State}
use Rattle.state.specs.Work.{next_of}
use Rattle.state.specs.Machine.{Moved, work_of}
use Rattle.state.specs.View.{tasks_at, view, Sound, Sized}

-- queues, flags and slots agree with each other; what they show holds together; the order that the table keeps is the falling one
pub record Whole (s : State) : Type 0 where
  pub sized : Sized s
  pub sound : Sound s
  pub together : holds (view s) ≡ true
  pub order : take s.table.count s.table.order ≡ falling (shares_of (tasks_at s))

-- the instant `to` is the next one of an open plane on the way to a stop
pub record Settles (s : State) (to : ℕ) : Type 0 where
  pub whole : Whole s
  pub on : s.going ≡ true
  pub stop : ℕ
  pub ahead : s.now.0 < stop
  pub next : to ≡ next_of (work_of s) stop

-- the state and the room after a move: its record, and "Bytes of the room after the 48th are unchanged."
pub record Writes (x : Moved) (k : State) (before after : List ℕ) : Type 0 where
  pub state : k ≡ x.state
  pub bytes : after ≡ record_bytes x.rec ++ drop 48 before
