use Prim.Native.Nat.{ℕ, ◌+◌, ◌*◌, ◌≤◌}
use mathlib.Core.Path.{◌≡◌}
use lib.ListN.{length, drop}
use Rattle.ground.specs.Bytes.{pasted}
use Rattle.print.specs.Pens.{SamePen}
use Rattle.print.specs.Printed.{record_lines}
use Rattle.print.proofs.put_records.Given as goal

abbrev pub invariant-loop-i : goal.invariant-loop-i
invariant-loop-i l =
    record {
      same : SamePen l.initial.pen l.pen;
      short : l.pen.at ≤ 138 * l.i;
      left : (j : ℕ) × (l.i + j ≡ l.n) × (pasted l.pen.out.now l.pen.at (record_lines l.m j (drop (48 * l.i) l.room)) ≡ pasted l.initial.pen.out.now 0 (record_lines l.m l.n l.room))
          × (l.pen.at + length (record_lines l.m j (drop (48 * l.i) l.room)) ≡ length (record_lines l.m l.n l.room));
    }
