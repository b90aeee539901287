use Prim.Native.Nat.{◌-◌}
use Rattle.state.specs.Lent.{SameCrew}
use Rattle.plane.specs.Lent.{work}
use Rattle.plane.proofs.Turns.{Seizing}
use Rattle.plane.proofs.c_all.Given as goal

abbrev pub invariant-loop : goal.invariant-loop
invariant-loop l = Seizing (work l.plane l.initial.crew) (work l.plane l.crew) (l.end - l.counter) × SameCrew l.initial.crew l.crew
