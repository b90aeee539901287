use Rattle.std.proofs.Common.{ap, ◌∙◌}
use Rattle.text.proofs.Puts.{put_part}
use Rattle.course.specs.Turns.{refused_at}
use Rattle.course.proofs.Turning.{admitted_is}
use Rattle.course.proofs.admitted.Goals as goal

pub returns-in-Ok : goal.returns-in-Ok
returns-in-Ok c = record { is = admitted_is c.args.text.now c.args.c c.admit-a.result _ _ _ c.admit-a.ensures.is (put_part _ _ _ _ c.table-len.ensures.is) c.processors-m.ensures.is c.in-Ok.is }

pub returns-in-Err : goal.returns-in-Err
returns-in-Err c =
    record {
      is = c.refused.ensures.is ∙ ap (refused_at c.args.c c.in-Err.refusal) c.row_line.ensures.is
          ∙ admitted_is c.args.text.now c.args.c c.admit-a.result _ _ _ c.admit-a.ensures.is (put_part _ _ _ _ c.table-len.ensures.is) c.processors-m.ensures.is c.in-Err.is;
    }
