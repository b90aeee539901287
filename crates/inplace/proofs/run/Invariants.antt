use Rattle.std.proofs.Common.{◌-◌}
use Rattle.state.specs.Lent.{state_in, SamePlaces}
use Rattle.inplace.proofs.RunLoop.{Going}
use Rattle.inplace.proofs.run.Given as goal

abbrev pub invariant-loop-records : goal.invariant-loop-records
invariant-loop-records l = SamePlaces l.initial.s l.s
    × Going l.horizon (state_in l.initial.s l.arrived l.last) l.initial.room (state_in l.s l.arrived l.last) l.room (l.most - l.records) l.records
