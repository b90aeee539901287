use Rattle.std.proofs.Common.{rules, refl, sym, ap, ◌∙◌}
use Rattle.state.specs.declared.State.{State}
use Rattle.inplace.proofs.Table.{run_table}
use Rattle.calls.proofs.Answering.{joined_is}
use Rattle.robinrow_c.proofs.Exports.{run_good}
use Rattle.robinrow_c.proofs.robinrow_run_in.Goals as goal

pub returns : goal.returns
returns c =
    let f = c.read_flags.ensures.is in
    let e = c.run-r.ensures.is in
    let table = sym (ap (λ (k : State). k.table) e.1 ∙ run_table _ _ _) in
    let state = joined_is _ _ _ _ _ _ _ _ table (search rules) (search rules) (search rules) (search rules) (search rules) (search rules) in
    record { is = run_good _ _ _ f.1 f.2 (sym f.0 ∙ c.if-not-read_flags.false) _ _ c.number-2.ensures.is _ _ _ _ _ c.byte.ensures.is c.write.ensures.is refl e.0 (state ∙ e.1) _ e.2 _ e.3 }
