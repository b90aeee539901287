use mathlib.Core.Path.{sym, ◌∙◌, subst}
use native.Mathlib.Omega.{arith}
use Rattle.state.specs.Fit.{Fit}
use Rattle.state.specs.Work.{c_one}
use Rattle.state.proofs.Fit.{wait_top}
use Rattle.queue.specs.Lent.{queue_in}
use Rattle.plane.specs.Lent.{work}
use Rattle.plane.proofs.Works.{unqueue_is, seize_is, task_is, up_to}
use Rattle.plane.proofs.Turns.{fits_unqueue}
use Rattle.plane.proofs.c_one.Goals as goal

pub between-a-requires : goal.between-a-requires
between-a-requires c = record { ordered = rw c.least-top.ensures.is (omega (arith, (wait_top c.requires.fit.2.timely c.requires.fit.0).1)) }

pub seize_top-requires : goal.seize_top-requires
seize_top-requires c =
    record {
      fit = let q = c.requires.fit in
          let k = wait_top q.2.timely q.0 in (
            omega (arith, up_to (queue_in c.args.crew.now.waiting) c.least-top.ensures.is c.args.plane.close.0 c.between-a.ensures.is, k.0, k.1),
            record { runs = q.1.runs; live = q.1.live },
            subst Fit (sym (unqueue_is (work c.args.plane c.args.crew.now) c.pop.ensures.is)) (fits_unqueue q.2 q.0),
          );
    }

pub returns-clause-is : goal.returns-clause-is
unfolding c_one
returns-clause-is c =
    let e = c.least-top.ensures.is in
    c.seize_top.ensures.is
    ∙ seize_is (task_is (queue_in c.args.crew.now.waiting) e) (up_to (queue_in c.args.crew.now.waiting) e c.args.plane.close.0 c.between-a.ensures.is) (unqueue_is (work c.args.plane c.args.crew.now) c.pop.ensures.is)
