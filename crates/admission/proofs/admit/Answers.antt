use Rattle.std.proofs.Common.{rules, ◌∙◌}
use Rattle.admission.proofs.Cleared.{admitted_same}
use Rattle.admission.proofs.admit.Goals as goal

pub returns : goal.returns
returns c =
    let told = c.answer_and_row-answer.ensures.is in
    record {
      is = admitted_same _ _ _ _ _ _ told.0 told.1 (search rules) (search rules) (search rules) (search rules) (search rules) (search rules) (search rules) (search rules) (search rules) (search rules)
          ∙ c.admit_lent-found.ensures.is;
    }
