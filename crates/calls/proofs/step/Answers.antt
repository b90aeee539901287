use Rattle.std.proofs.Common.{rules, sym, ap, ◌∙◌}
use Rattle.state.specs.declared.State.{State}
use Rattle.inplace.proofs.Table.{step_table}
use Rattle.calls.proofs.Answering.{joined_is, stepped_is}
use Rattle.calls.proofs.step.Goals as goal

pub returns : goal.returns
returns c =
    let e = c.step-answer.ensures.is in
    let table = sym (ap (λ (k : State). k.table) e.1 ∙ step_table _ _ _) in
    let state = joined_is _ _ _ _ _ _ _ _ table (search rules) (search rules) (search rules) (search rules) (search rules) (search rules) in
    record { is = (stepped_is _ _ _ _ _ e.0 (state ∙ e.1), e.2) }
