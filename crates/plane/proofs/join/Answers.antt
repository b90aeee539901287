use native.Mathlib.Omega.{arith}
use Rattle.plane.proofs.Seeking.{idle_inside}
use Rattle.plane.proofs.join.Goals as goal

pub place-requires : goal.place-requires
place-requires c =
    record {
      room = let k = c.requires.fit in
          let s = k.fit.timely.tidy.seats in (
            k.run_room,
            omega (arith, idle_inside c.args.plane.m c.args.crew.now.slots.now (omega (arith, s.room, s.most)) c.lowest_idle.ensures.is c.in-Some.is, s.most),
            omega (arith, k.amount, k.fit.timely.small),
          );
    }
