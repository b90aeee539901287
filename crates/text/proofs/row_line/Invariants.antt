use Prim.Native.Nat.{◌+◌, ◌-◌, ◌≤◌}
use mathlib.Core.Path.{◌≡◌}
use lib.ListN.{length, drop, get_or}
use Rattle.text.specs.Meaning.{items_of, row_lines_in, row_line_of}
use Rattle.text.proofs.row_line.Given as goal

abbrev pub invariant-loop-at : goal.invariant-loop-at
invariant-loop-at l = (l.at ≤ length l.s) × (l.here ≤ l.at + 1) × (get_or (row_lines_in l.here (items_of (drop l.at l.s))) l.left 0 ≡ row_line_of l.s l.row)

abbrev pub decreases-loop-at : goal.decreases-loop-at
decreases-loop-at l = length l.s - l.at
