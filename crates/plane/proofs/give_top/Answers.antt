use mathlib.Core.Path.{◌∙◌, refl}
use native.Mathlib.Omega.{arith}
use borrow.Author.Tests.{lt-ltb}
use Rattle.state.specs.Work.{give_top}
use Rattle.state.proofs.Fit.{wait_top, wait_fits_run}
use Rattle.queue.specs.Lent.{queue_in}
use Rattle.plane.specs.Lent.{work}
use Rattle.plane.proofs.Works.{unqueue_is, place_is, task_is, up_to}
use Rattle.plane.proofs.give_top.Goals as goal

pub between-a-requires : goal.between-a-requires
between-a-requires c = record { ordered = rw c.least-top.ensures.is (omega (arith, (wait_top c.requires.fit.1.timely c.if-crew-gt0.true).1)) }

pub place-requires : goal.place-requires
place-requires c =
    record {
      room = let f = c.requires.fit.1.timely in
          let n = c.if-crew-gt0.true in
          let k = wait_top f n in
          (wait_fits_run f n, c.requires.fit.0, omega (arith, up_to (queue_in c.args.crew.now.waiting) c.least-top.ensures.is c.args.plane.close.0 c.between-a.ensures.is, k.0, k.1, f.small));
    }

pub returns-then-crew-gt0-clause-is : goal.returns-then-crew-gt0-clause-is
unfolding give_top
returns-then-crew-gt0-clause-is c =
    let e = c.least-top.ensures.is in
    rw (lt-ltb _ _ c.if-crew-gt0.true)
    (c.place.ensures.is
    ∙ place_is refl (task_is (queue_in c.args.crew.now.waiting) e) (up_to (queue_in c.args.crew.now.waiting) e c.args.plane.close.0 c.between-a.ensures.is) (unqueue_is (work c.args.plane c.args.crew.now) c.pop.ensures.is))
