use Rattle.std.proofs.Common.{refl, ◌∙◌}
use Rattle.inplace.proofs.Answering.{step_yes}
use Rattle.inplace.proofs.Places.{same_exec}
use Rattle.inplace.proofs.step.Goals as goal

pub returns-clause-is : goal.returns-clause-is
returns-clause-is c =
    let r = c.in_ok-may_step.ensures.is in
    let y = step_yes _ _ _ _ r refl in
    let w = c.step_in.ensures.is c.args.s.now.table.rows.exec.now c.args.arrived.now in
    (r, same_exec _ _ c.step_in.ensures.same ∙ w.state ∙ y.0, w.bytes ∙ y.1)
