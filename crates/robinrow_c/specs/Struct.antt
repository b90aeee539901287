-- THE STRUCT THAT C HOLDS: the state's fields, its flags as bytes
use Rattle.std.specs.Prelude.{Bool, ◌&&◌, List, map, ℕ, leb}
use Rattle.flags.specs.Flags.{bit, flag, flags_ok}
use Rattle.queue.specs.declared.Queue.{Queue}
use Rattle.table.specs.declared.Table.{Table}
use Rattle.state.specs.declared.State.{State}

pub record Struct : Type 0 where
  pub table : Table
  pub now : ℕ
  pub going : ℕ
  pub end : ℕ
  pub awake : List ℕ
  pub arrived : List ℕ
  pub last : List ℕ
  pub running : Queue
  pub waiting : Queue
  pub slots : List ℕ

-- every flag is 0 or 1
abbrev pub flagged : Struct → Bool
flagged c = leb c.going 1 && (flags_ok c.awake && flags_ok c.arrived)

-- the state with these flags
abbrev pub state_with : Struct → List Bool → List Bool → State
state_with c awake arrived =
    record {
      table = c.table;
      now = record { 0 = c.now };
      going = flag c.going;
      end = c.end;
      jobs = record { awake = awake; arrived = arrived; last = c.last };
      running = c.running;
      waiting = c.waiting;
      slots = c.slots;
    }

-- the state that a struct stands for
abbrev pub state_of : Struct → State
state_of c = state_with c (map flag c.awake) (map flag c.arrived)

-- the struct of a state
abbrev pub struct_of : State → Struct
struct_of s =
    record {
      table = s.table;
      now = s.now.0;
      going = bit s.going;
      end = s.end;
      awake = map bit s.jobs.awake;
      arrived = map bit s.jobs.arrived;
      last = s.jobs.last;
      running = s.running;
      waiting = s.waiting;
      slots = s.slots;
    }
