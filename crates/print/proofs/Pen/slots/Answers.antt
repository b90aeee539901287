use Prim.Native.Nat.{ℕ, ◌*◌}
use mathlib.Core.List.{List, ◌∷◌, ◌++◌}
use mathlib.Core.Path.{◌≡◌, refl, sym, ap, ◌∙◌}
use native.Mathlib.Omega.{arith}
use lib.Seq.{drop-drop}
use lib.ListN.{take, drop, get_or}
use Rattle.ground.specs.Bytes.{number}
use Rattle.ground.proofs.Bytes.{paste_none}
use Rattle.rules.specs.Record.{slots_from}
use Rattle.print.specs.Printed.{spaced}
use Rattle.print.specs.Decimals.{decimal_of}
use Rattle.text.specs.Parts.{space}
use Rattle.text.proofs.Puts.{put_as}
use Rattle.print.proofs.Pens.{writes_then}
use Rattle.print.proofs.Records.{slot_at, length_slots, spaced_more, decimal_short}
use Rattle.print.proofs.Pen.slots.Goals as goal

pub loop-k-init : goal.loop-k-init
unfolding spaced
loop-k-init c = let p = c.args.self.now in record { same = record { out = refl; size = refl }; short = omega arith; done = (sym (paste_none p.out.now p.at), omega arith) }

pub spaced-requires : goal.spaced-requires
spaced-requires c = record { room = omega (arith, decimal_short c.get.result c.get.ensures.is.1) }

pub loop-k-preserved : goal.loop-k-preserved
loop-k-preserved c =
    let k = c.loop-k in
    let a = c.args in
    let p = a.self.now in
    let q = c.spaced.new.self in
    let r = a.room.now in
    let b = drop a.from r in
    let s = slots_from 16 b in
    let x = c.get.result in
    let at : x ≡ get_or s k.k 0 = c.get.ensures.is.0 ∙ sym (slot_at 16 k.k b (omega arith) ∙ ap (λ (l : List ℕ). number (take 2 l)) (drop-drop (2 * k.k) a.from r)) in
    let e = ap (λ (y : ℕ). spaced (take k.k s) ++ (space ∷ decimal_of y)) at ∙ spaced_more s k.k (omega (arith, length_slots 16 b)) in
    let w = writes_then p k.self q (spaced (take k.k s)) (space ∷ decimal_of x) (omega arith) k.invariant.done c.spaced.ensures.is in
    record {
      same = record { out = c.spaced.ensures.same.out ∙ k.invariant.same.out; size = c.spaced.ensures.same.size ∙ k.invariant.same.size };
      short = omega (arith, decimal_short x c.get.ensures.is.1);
      done = put_as p.out.now q.out.now p.at q.at _ _ e w;
    }
