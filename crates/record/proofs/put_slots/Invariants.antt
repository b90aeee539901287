use Prim.Native.Nat.{◌+◌, ◌*◌}
use mathlib.Core.Path.{◌≡◌}
use mathlib.Core.List.{◌++◌}
use lib.ListN.{length, take, drop}
use Rattle.rules.specs.Record.{slot_bytes}
use Rattle.record.proofs.put_slots.Given as goal

abbrev pub invariant-loop-k : goal.invariant-loop-k
invariant-loop-k l = (length l.room ≡ length l.initial.room) × (l.room ≡ take 16 l.initial.room ++ slot_bytes (take l.k l.slots) ++ drop (16 + 2 * l.k) l.initial.room)
