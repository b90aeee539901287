use mathlib.Core.Path.{ap, ◌∙◌}
use mathlib.Core.List.{List, ◌++◌}
use Prim.Native.Nat.{ℕ}
use lib.ListN.{take, drop}
use lib.Seq.{drop-drop}
use Rattle.ground.specs.Bytes.{le}
use Rattle.rules.specs.Record.{slot_bytes, record_bytes}
use Rattle.record.proofs.write.Goals as goal

pub returns : goal.returns
unfolding le record_bytes
returns c =
    record {
      is = let a = c.args in
          c.put_slots.ensures.is
          ∙ ap (λ (l : List ℕ). take 16 l ++ slot_bytes a.slots.now ++ drop 48 l) c.put_head.ensures.is
          ∙ ap (λ (l : List ℕ). le 8 a.from.0 ++ le 8 a.to.0 ++ slot_bytes a.slots.now ++ l) (drop-drop 32 16 a.room.now);
    }
