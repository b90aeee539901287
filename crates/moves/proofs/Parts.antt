-- A state put together from its parts, after each has changed
use mathlib.Core.Path.{◌≡◌, ◌∙◌, ap}
use mathlib.Core.Bool.{Bool, false}
use mathlib.Core.List.{List}
use Prim.Native.Nat.{ℕ}
use Rattle.state.specs.declared.State.{State}
use Rattle.state.specs.Machine.{no_slots, sleep_all, emptied, closed_of}
use Rattle.plane.specs.Rows.{rows}
use Rattle.plane.proofs.Rows.{sleep_of_rows}

-- the closed state with these flags and slots
abbrev pub closed_with : State → ℕ → List Bool → List ℕ → State
closed_with s to awake slots =
    record {
      table = s.table;
      now = record { 0 = to };
      going = false;
      end = s.end;
      jobs = record { awake = awake; arrived = s.jobs.arrived; last = s.jobs.last };
      running = emptied s.running;
      waiting = emptied s.waiting;
      slots = slots;
    }

pub closed_parts : (s : State) (to : ℕ) (awake : List Bool) (slots : List ℕ)
    → awake ≡ sleep_all (rows s.table.period s.table.deadline s.table.count) s.jobs.last s.end s.jobs.awake → slots ≡ no_slots → closed_with s to awake slots ≡ closed_of s to
unfolding closed_of
closed_parts s to awake slots e f =
    ap (λ (a : List Bool). closed_with s to a slots) (e ∙ sleep_of_rows s.table s.jobs.last s.end s.jobs.awake)
    ∙ ap (λ (l : List ℕ). closed_with s to (sleep_all s.table s.jobs.last s.end s.jobs.awake) l) f
