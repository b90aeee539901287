use Rattle.std.proofs.Common.{ℕ, None, ap, ◌∙◌}
use Rattle.course.specs.declared.Stage.TheVariants.{Lines}
use Rattle.course.specs.Turns.{turned}
use Rattle.course.proofs.Turning.{arrival_is}
use Rattle.course.proofs.arrival.Goals as goal

pub returns-in-Ok : goal.returns-in-Ok
returns-in-Ok c =
    record {
      is = ap (λ (line : ℕ). turned c.arrive-a.result.state c.args.next line Lines None) c.line_after.ensures.is
          ∙ arrival_is c.args.c c.args.task c.args.next c.arrive-a.result _ c.arrive-a.ensures.is c.in-Ok.is;
    }

pub returns-in-Err : goal.returns-in-Err
returns-in-Err c = record { is = c.refused.ensures.is ∙ arrival_is c.args.c c.args.task c.args.next c.arrive-a.result _ c.arrive-a.ensures.is c.in-Err.is }
