use Rattle.std.proofs.Common.{ap, ◌∙◌}
use Rattle.rules.specs.declared.Refusal.TheVariants.{TextForm}
use Rattle.course.specs.Turns.{refused_at}
use Rattle.course.proofs.Turning.{start_is}
use Rattle.course.proofs.start.Goals as goal

pub returns-in-Ok : goal.returns-in-Ok
returns-in-Ok c = record { is = c.admitted.ensures.is ∙ start_is c.args.text.now c.args.c _ _ c.form.ensures.is c.in-Ok.is }

pub returns-in-Err : goal.returns-in-Err
returns-in-Err c = record { is = c.refused.ensures.is ∙ ap (refused_at c.args.c TextForm) c.line.ensures.is ∙ start_is c.args.text.now c.args.c _ _ c.form.ensures.is c.in-Err.is }
