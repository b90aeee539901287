use Rattle.std.proofs.Common.{ap, ◌∙◌}
use Rattle.state.specs.declared.State.{State}
use Rattle.admission.specs.declared.Admitted.{Admitted}
use Rattle.course.specs.declared.Stage.TheVariants.{Start}
use Rattle.course.proofs.Turning.{first_blank}
use Rattle.course.proofs.first.Goals as goal

pub returns : goal.returns
returns c =
    record {
      is = ap (λ (a : Admitted). record { state = a.state; at = 0; line = 0; stage = Start }) c.admit-a.ensures.is
          ∙ ap (λ (s : State). record { state = s; at = 0; line = 0; stage = Start }) first_blank;
    }
