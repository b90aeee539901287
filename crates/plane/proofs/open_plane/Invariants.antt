use Rattle.state.specs.Lent.{SameCrew}
use Rattle.plane.specs.Lent.{work, cleared}
use Rattle.plane.proofs.Entering.{Entering}
use Rattle.plane.proofs.open_plane.Given as goal

abbrev pub invariant-loop-i : goal.invariant-loop-i
invariant-loop-i l =
    Entering l.awake l.table.share.now l.len l.table.order.now l.table.rows.count (cleared l.plane) (work l.plane l.crew) l.i
    × SameCrew l.initial.crew l.crew
