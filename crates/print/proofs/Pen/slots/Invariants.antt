use Prim.Native.Nat.{◌+◌, ◌*◌, ◌≤◌}
use lib.ListN.{take, drop}
use Rattle.rules.specs.Record.{slots_from}
use Rattle.print.specs.Printed.{spaced}
use Rattle.print.specs.Pens.{Writes, SamePen}
use Rattle.print.proofs.Pen.slots.Given as goal

abbrev pub invariant-loop-k : goal.invariant-loop-k
invariant-loop-k l =
    record {
      same : SamePen l.initial.self l.self;
      short : l.self.at ≤ l.initial.self.at + 6 * l.k;
      done : Writes l.initial.self l.self (spaced (take l.k (slots_from 16 (drop l.from l.room))));
    }
