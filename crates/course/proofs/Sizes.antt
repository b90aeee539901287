-- The type of a cursor's present says that it is below 2^64
use borrow.Author.Rules.{rules}
use denote.Shadow.{shadow}
use denote.RattleType.{Valss, owns}
use denote.Struct.Declared.{shape}
use mir.Val.{Fits}
use mir.Syntax.{w64}
use Prim.Native.Nat.{◌<◌}
use Rattle.course.specs.contracts.Cursor.{the_type}
use Rattle.course.specs.declared.Cursor.{Cursor}
use Rattle.course.specs.Moves.{instants}

pub small : (c : Cursor) (vs : Valss (shape the_type).fields) → shadow (owns (shape the_type).fields (the_type.to c) vs) → c.state.now.0 < instants
small c vs g =
    let present = g.0.1.1.1.0.1.1 in
    let h : Fits w64 c.state.now.0 = search rules in
    h.fits
