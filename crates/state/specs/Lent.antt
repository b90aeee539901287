-- A STATE THAT LIES IN LENT PLACES
use Rattle.std.specs.Prelude.{◌≡◌, Bool, List, ℕ}
use Rattle.queue.specs.Lent.{queue_in, queue_seen, SameLane}
use Rattle.table.specs.Lent.{table_in}
use Rattle.table.specs.declared.Table.{Table}
use Rattle.state.specs.declared.State.{State}
use Rattle.state.specs.declared.Crew.{Crew}
use Rattle.state.specs.declared.InPlace.{InPlace}
use Rattle.state.specs.declared.InPlaceRef.{InPlaceRef}

-- the state there, with these arrivals
abbrev pub state_in : InPlace → List Bool → List ℕ → State
state_in s arrived last =
    record {
      table = table_in s.table;
      now = s.now;
      going = s.going;
      end = s.end;
      jobs = record { awake = s.awake.now; arrived = arrived; last = last };
      running = queue_in s.crew.running;
      waiting = queue_in s.crew.waiting;
      slots = s.crew.slots.now;
    }

-- the same of places that are lent to be read
abbrev pub state_seen : InPlaceRef → List Bool → List ℕ → State
state_seen s arrived last =
    record {
      table = table_in s.table;
      now = s.now;
      going = s.going;
      end = s.end;
      jobs = record { awake = s.awake.now; arrived = arrived; last = last };
      running = queue_seen s.crew.running;
      waiting = queue_seen s.crew.waiting;
      slots = s.crew.slots.now;
    }

-- the same with these executions, which no work in place looks at
abbrev pub state_with : InPlace → List ℕ → List Bool → List ℕ → State
state_with s exec arrived last = record (state_in s arrived last) { table = record (table_in s.table) { exec = exec } }

-- the same with the rows and the order of any table, of which an arrival looks at the shares alone
abbrev pub state_over : InPlace → Table → List Bool → List ℕ → State
state_over s z arrived last =
    record (state_in s arrived last) { table = record (table_in s.table) { period = z.period; exec = z.exec; deadline = z.deadline; order = z.order } }

-- the same places are lent afterwards
pub record SameCrew (a b : Crew) : Type 0 where
  pub running : SameLane a.running b.running
  pub waiting : SameLane a.waiting b.waiting
  pub slots : b.slots.ghost_name ≡ a.slots.ghost_name

-- and the same table
pub record SamePlaces (a b : InPlace) : Type 0 where
  pub table : b.table ≡ a.table
  pub awake : b.awake.ghost_name ≡ a.awake.ghost_name
  pub crew : SameCrew a.crew b.crew
