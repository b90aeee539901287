-- THE STATE IN LENT PARTS
use Rattle.std.specs.Prelude.{Bool, List, ℕ}
use Rattle.queue.specs.Lent.{at}
use Rattle.state.specs.declared.State.{State}

-- the state of these numbers and columns
abbrev pub state_at : ℕ → ℕ → ℕ → ℕ → Bool → ℕ → ℕ → ℕ → List ℕ → List ℕ → List ℕ → List ℕ → List ℕ → List Bool → List Bool → List ℕ → List ℕ → List ℕ → List ℕ → List ℕ → List ℕ → State
state_at count m scale present going end running waiting period exec deadline share order awake arrived last rk rt wk wt slots =
    record {
      table = record { period = period; exec = exec; deadline = deadline; share = share; order = order; count = count; m = m; scale = scale };
      now = record { 0 = present };
      going = going;
      end = end;
      jobs = record { awake = awake; arrived = arrived; last = last };
      running = at rk rt running;
      waiting = at wk wt waiting;
      slots = slots;
    }
