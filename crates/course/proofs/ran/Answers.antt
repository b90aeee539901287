use Rattle.std.proofs.Common.{◌∙◌}
use Rattle.course.proofs.Turning.{ran_is}
use Rattle.course.proofs.ran.Goals as goal

pub returns-in-Ok : goal.returns-in-Ok
returns-in-Ok c =
    let w = ran_is c.args.c c.args.tick _ c.run-r.result _ c.run-r.ensures.is.0 c.in-Ok.is c.run-r.ensures.ahead in
    record { is = (w.0, c.run-r.ensures.is.1); moves = w.1 }

pub returns-in-Err-clause-is : goal.returns-in-Err-clause-is
returns-in-Err-clause-is c =
    let w = ran_is c.args.c c.args.tick _ c.run-r.result _ c.run-r.ensures.is.0 c.in-Err.is c.run-r.ensures.ahead in
    (c.refused.ensures.is ∙ w.0, c.run-r.ensures.is.1)
