use native.Mathlib.Omega.{arith}
use Rattle.state.proofs.Fit.{top_seat, run_top, run_fits_wait}
use Rattle.queue.specs.Lent.{queue_in}
use Rattle.plane.proofs.Works.{rest_runs, rest_waits, park_runs, since}
use Rattle.plane.proofs.seize_top.Goals as goal

pub rest_top-requires : goal.rest_top-requires
rest_top-requires c =
    record {
      held = let q = c.requires.fit in
          (q.1.runs, q.2.timely.tidy.running.fits, omega (arith, c.top_place-p.ensures.is, (top_seat q.2.timely q.1.runs).1));
    }

pub park-requires : goal.park-requires
park-requires c =
    record {
      room = let q = c.requires.fit in
          let a = c.args.plane in
          let r = c.rest_top.ensures.is a.m a.now.0 a.close.0 in (
            omega (arith, rest_waits _ _ r, run_fits_wait q.2.timely q.1.runs),
            omega (arith, since (queue_in c.args.crew.now.running) c.least-top.ensures.is a.now.0 c.between-left.ensures.is, (run_top q.2.timely q.1.runs).1),
          );
    }

pub place-requires : goal.place-requires
place-requires c =
    record {
      room = let q = c.requires.fit in
          let a = c.args.plane in
          let r = c.rest_top.ensures.is a.m a.now.0 a.close.0 in (
            omega (arith, park_runs _ _ _ c.park.ensures.is, rest_runs _ _ q.1.runs r, q.2.timely.tidy.running.fits),
            omega (arith, c.top_place-p.ensures.is, (top_seat q.2.timely q.1.runs).1),
            omega (arith, q.0, q.2.timely.small),
          );
    }
