-- ADMISSION INTO LENT PLACES
use Rattle.std.specs.Prelude.{Bool, false, List, ℕ, Result, ⊤}
use Rattle.queue.specs.Lent.{queue_in}
use Rattle.table.specs.declared.Fault.{Fault}
use Rattle.table.specs.declared.Sheet.{Sheet}
use Rattle.state.specs.declared.Crew.{Crew}
use Rattle.admission.specs.declared.Admitted.{Admitted}
use Rattle.admission.specs.Tables.{tabled_in}

-- the answer, the row, and the state "at instant 0, no task awake, no plane open" that lies there
abbrev pub admitted_in : Result ⊤ Fault → Sheet → List Bool → List Bool → List ℕ → Crew → Admitted
admitted_in r sheet awake arrived last crew =
    let t = tabled_in r sheet in
    record {
      answer = t.answer;
      row = t.row;
      state =
          record {
            table = t.table;
            now = record { 0 = 0 };
            going = false;
            end = 0;
            jobs = record { awake = awake; arrived = arrived; last = last };
            running = queue_in crew.running;
            waiting = queue_in crew.waiting;
            slots = crew.slots.now;
          };
    }
