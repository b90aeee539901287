-- THE STATE OF A TABLE AT INSTANT 0: "no task awake, no plane open"
use Rattle.std.specs.Prelude.{false, replicate}
use Rattle.queue.specs.Queues.{empty_queue}
use Rattle.table.specs.declared.Table.{Table}
use Rattle.state.specs.declared.State.{State}
use Rattle.state.specs.Machine.{no_slots}

abbrev pub fresh_state : Table → State
fresh_state t =
    record {
      table = t;
      now = record { 0 = 0 };
      going = false;
      end = 0;
      jobs = record { awake = replicate 128 false; arrived = replicate 128 false; last = replicate 128 0 };
      running = empty_queue;
      waiting = empty_queue;
      slots = no_slots;
    }
