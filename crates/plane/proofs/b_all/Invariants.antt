use Rattle.state.specs.Lent.{SameCrew}
use Rattle.state.specs.Work.{size}
use Rattle.plane.specs.Lent.{work}
use Rattle.plane.proofs.Turns.{Turning}
use Rattle.plane.proofs.b_all.Given as goal

abbrev pub invariant-loop-plane : goal.invariant-loop-plane
invariant-loop-plane l = Turning (work l.plane l.initial.crew) (work l.plane l.crew) × SameCrew l.initial.crew l.crew

abbrev pub decreases-loop-plane : goal.decreases-loop-plane
decreases-loop-plane l = size (work l.plane l.crew)
