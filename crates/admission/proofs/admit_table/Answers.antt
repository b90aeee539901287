use mathlib.Core.Path.{◌∙◌, ap}
use Rattle.rules.specs.Table.{rows_of}
use Rattle.rules.specs.Admission.{Verdict}
use Rattle.rules.specs.Answers.{Done}
use Rattle.table.specs.declared.Table.{Table}
use Rattle.table.specs.Tabled.{tabled_by, tabled_of}
use Rattle.std.specs.Prelude.{Err}
use Rattle.admission.proofs.admit_table.Goals as goal

pub returns-in-Err-clause-is : goal.returns-in-Err-clause-is
unfolding tabled_of
returns-in-Err-clause-is c =
    let f = c.in-Err.fault in
    ap (λ (t : Table). record { answer = Err f.refusal; row = f.row; table = t }) c.clear.ensures.is
    ∙ ap (λ (v : Verdict). tabled_by v c.args.m (rows_of c.args.bytes.now)) c.in-Err.ensures.is

pub returns-clause-is : goal.returns-clause-is
unfolding tabled_of
returns-clause-is c =
    ap (λ (t : Table). record { answer = Done; row = 0; table = t }) c.in_default.ensures.made
    ∙ ap (λ (v : Verdict). tabled_by v c.args.m (rows_of c.args.bytes.now)) c.in_default.ensures.is
