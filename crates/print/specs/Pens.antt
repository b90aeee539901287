-- WHAT A PEN WRITES
use Rattle.std.specs.Prelude.{List, ◌≡◌, ℕ, length}
use Rattle.text.specs.Puts.{Put}
use Rattle.print.specs.declared.Pen.{Pen}

-- v was written at the pen's place
abbrev pub Writes : Pen → Pen → List ℕ → Type 0
Writes p q v = Put p.out.now p.at v q.out.now q.at

-- the same bytes are lent afterwards, as many as before
pub record SamePen (p q : Pen) : Type 0 where
  pub out : q.out.ghost_name ≡ p.out.ghost_name
  pub size : length q.out.now ≡ length p.out.now
