-- One after the other by a pen
use Prim.Native.Nat.{◌+◌, ◌≤◌, ℕ}
use mathlib.Core.List.{List, ◌++◌}
use lib.ListN.{length}
use Rattle.print.specs.declared.Pen.{Pen}
use Rattle.print.specs.Pens.{Writes}
use Rattle.text.proofs.Puts.{put_then}

pub writes_then : (p q r : Pen) (v w : List ℕ) → p.at + length v ≤ length p.out.now → Writes p q v → Writes q r w → Writes p r (v ++ w)
writes_then p q r v w h a b = put_then p.out.now q.out.now r.out.now p.at q.at r.at v w h a b
