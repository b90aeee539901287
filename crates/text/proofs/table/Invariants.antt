use Prim.Native.Nat.{◌+◌, ◌-◌, ◌*◌, ◌≤◌}
use mathlib.Core.Path.{◌≡◌}
use lib.ListN.{length, drop, take}
use Rattle.ground.specs.Bytes.{pasted}
use Rattle.rules.specs.Table.{table_bytes}
use Rattle.text.specs.Meaning.{items_of, rows_in, table_of}
use Rattle.text.proofs.table.Given as goal

abbrev pub invariant-loop-at : goal.invariant-loop-at
invariant-loop-at l = (l.at ≤ length l.s) × (l.k ≤ 129) × (length l.out ≡ length l.initial.out) × (pasted l.out (12 * l.k) (table_bytes (take (129 - l.k) (rows_in (items_of (drop l.at l.s))))) ≡ pasted l.initial.out 0 (table_of l.s))
    × (12 * l.k + length (table_bytes (take (129 - l.k) (rows_in (items_of (drop l.at l.s))))) ≡ length (table_of l.s))

abbrev pub decreases-loop-at : goal.decreases-loop-at
decreases-loop-at l = length l.s - l.at
