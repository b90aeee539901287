use mathlib.Core.Path.{sym, ◌∙◌, ap}
use mathlib.Core.List.{List}
use Rattle.std.proofs.lemmas.Result.{err_from_is_err_and}
use Rattle.rules.specs.Table.{Row, rows_of}
use Rattle.rules.specs.Admission.{fault_from, size_verdict}
use Rattle.table.specs.Tabled.{table_from}
use Rattle.admission.proofs.Reading.{read_as, rows_fault, rows_sized}
use Rattle.admission.proofs.Tables.{made_is, weighed_long}
use Rattle.admission.proofs.read.Goals as goal

pub returns-in_err-first_fault-clause-is : goal.returns-in_err-first_fault-clause-is
returns-in_err-first_fault-clause-is c =
    let p = err_from_is_err_and c.from_residual.result c.from_residual.ensures.1 in
    let r = read_as c.args.bytes.now c.args.count _ _ _ c.requires.inside.1 c.requires.inside.2 c.column.ensures.is c.column-2.ensures.is c.column-3.ensures.is in
    rw (p.1, p.2) (rows_fault c.args.m (rows_of c.args.bytes.now) c.in_err-first_fault.field-0.0 (c.in_err-first_fault.ensures.is ∙ ap (λ (l : List Row). fault_from 1 l) r.rows))

pub returns-in_err-scale-clause-is : goal.returns-in_err-scale-clause-is
returns-in_err-scale-clause-is c =
    let p = err_from_is_err_and c.from_residual-in_err-scale.result c.from_residual-in_err-scale.ensures.1 in
    let r = read_as c.args.bytes.now c.args.count _ _ _ c.requires.inside.1 c.requires.inside.2 c.column.ensures.is c.column-2.ensures.is c.column-3.ensures.is in
    let fault = c.in_ok-first_fault.ensures.is ∙ ap (λ (l : List Row). fault_from 1 l) r.rows in
    rw (p.1, p.2) (c.in_err-scale.ensures.is ∙ ap (λ (l : List Row). size_verdict c.args.m l) r.rows ∙ rows_sized c.args.m (rows_of c.args.bytes.now) fault)

pub fall-requires : goal.fall-requires
fall-requires c = record { inside = (c.requires.inside.1, weighed_long _ _ _ c.args.count c.args.m c.in_ok-scale.scale _ c.requires.inside.1 c.in_ok-scale.ensures.is) }

pub returns-clause-is : goal.returns-clause-is
returns-clause-is c =
    let r = read_as c.args.bytes.now c.args.count _ _ _ c.requires.inside.1 c.requires.inside.2 c.column.ensures.is c.column-2.ensures.is c.column-3.ensures.is in
    let fault = c.in_ok-first_fault.ensures.is ∙ ap (λ (l : List Row). fault_from 1 l) r.rows in
    sym c.in_ok-scale.ensures.is.fits ∙ ap (λ (l : List Row). size_verdict c.args.m l) r.rows ∙ rows_sized c.args.m (rows_of c.args.bytes.now) fault

pub returns-clause-made : goal.returns-clause-made
returns-clause-made c =
    let r = read_as c.args.bytes.now c.args.count _ _ _ c.requires.inside.1 c.requires.inside.2 c.column.ensures.is c.column-2.ensures.is c.column-3.ensures.is in
    made_is _ _ _ c.args.count c.args.m c.in_ok-scale.scale _ _ c.requires.inside.1 r.periods r.execs r.deadlines c.in_ok-scale.ensures.is c.fall.ensures.is
    ∙ ap (table_from c.args.m) r.rows
