-- THE STRUCT IN LENT PARTS
use Rattle.std.specs.Prelude.{List, ℕ}
use Rattle.queue.specs.Lent.{at}
use Rattle.robinrow_c.specs.Struct.{Struct}

-- the struct of these numbers and columns
abbrev pub struct_in : ℕ → ℕ → ℕ → ℕ → ℕ → ℕ → ℕ → ℕ → List ℕ → List ℕ → List ℕ → List ℕ → List ℕ → List ℕ → List ℕ → List ℕ → List ℕ → List ℕ → List ℕ → List ℕ → List ℕ → Struct
struct_in count m scale present going end running waiting period exec deadline share order awake arrived last rk rt wk wt slots =
    record {
      table = record { period = period; exec = exec; deadline = deadline; share = share; order = order; count = count; m = m; scale = scale };
      now = present;
      going = going;
      end = end;
      awake = awake;
      arrived = arrived;
      last = last;
      running = at rk rt running;
      waiting = at wk wt waiting;
      slots = slots;
    }
