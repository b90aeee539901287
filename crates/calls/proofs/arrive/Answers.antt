use Rattle.std.proofs.Common.{rules, sym, ap, ◌∙◌}
use Rattle.state.specs.declared.State.{State}
use Rattle.inplace.proofs.Table.{arrive_table}
use Rattle.calls.proofs.Answering.{joined_is, arrived_is}
use Rattle.calls.proofs.arrive.Goals as goal

pub returns : goal.returns
returns c =
    let e = c.arrive-answer.ensures.is in
    let table = sym (ap (λ (k : State). k.table) e.1 ∙ arrive_table _ _) in
    let state = joined_is _ _ _ _ _ _ _ _ table (search rules) (search rules) (search rules) (search rules) (search rules) (search rules) in
    record { is = arrived_is _ _ _ _ e.0 (state ∙ e.1) }
