use Rattle.std.proofs.Common.{rules, sym, ap, ◌∙◌}
use Rattle.state.specs.declared.State.{State}
use Rattle.inplace.proofs.Table.{run_table}
use Rattle.calls.proofs.Answering.{joined_is, ran_is}
use Rattle.calls.proofs.run.Goals as goal

pub returns-clause-is : goal.returns-clause-is
returns-clause-is c =
    let e = c.run-ran.ensures.is in
    let table = sym (ap (λ (k : State). k.table) e.1 ∙ run_table _ _ _) in
    let state = joined_is _ _ _ _ _ _ _ _ table (search rules) (search rules) (search rules) (search rules) (search rules) (search rules) in
    (ran_is _ _ _ _ _ _ e.0 (state ∙ e.1) e.2, e.3)
