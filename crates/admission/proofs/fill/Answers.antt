use mathlib.Core.Path.{◌≡◌, sym, ◌∙◌, ap}
use mathlib.Core.Bool.{true, false}
use lib.ListN.{length}
use Rattle.std.specs.Prelude.{Err}
use Rattle.rules.specs.Admission.{processors_ok, length_ok}
use Rattle.table.specs.declared.Fault.{Fault}
use Rattle.table.specs.Rows.{verdict_in}
use Rattle.admission.proofs.Reading.{by_processors, by_length, by_rows}
use Rattle.admission.proofs.fill.Goals as goal

pub returns-then-not-processors_ok-clause-is : goal.returns-then-not-processors_ok-clause-is
returns-then-not-processors_ok-clause-is c =
    let p : processors_ok c.args.m ≡ false = sym c.processors_ok.ensures.is ∙ c.if-not-processors_ok.true in
    ap (λ (f : Fault). verdict_in (Err f)) c.from.ensures ∙ by_processors c.args.bytes.now c.args.m p

pub returns-then-not-length_ok-clause-is : goal.returns-then-not-length_ok-clause-is
returns-then-not-length_ok-clause-is c =
    let p : processors_ok c.args.m ≡ true = sym c.processors_ok.ensures.is ∙ c.if-not-processors_ok.false in
    let l : length_ok (length c.args.bytes.now) ≡ false = sym c.length_ok.ensures.is ∙ c.if-not-length_ok.true in
    ap (λ (f : Fault). verdict_in (Err f)) c.from-then-not-length_ok.ensures ∙ by_length c.args.bytes.now c.args.m p l

pub returns-clause-is : goal.returns-clause-is
returns-clause-is c =
    let p : processors_ok c.args.m ≡ true = sym c.processors_ok.ensures.is ∙ c.if-not-processors_ok.false in
    let l : length_ok (length c.args.bytes.now) ≡ true = sym c.length_ok.ensures.is ∙ c.if-not-length_ok.false in
    c.read.ensures.is ∙ by_rows c.args.bytes.now c.args.m p l
