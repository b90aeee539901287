use mathlib.Core.Path.{sym, ◌∙◌, ap, subst}
use mathlib.Core.List.{◌++◌}
use native.Mathlib.Omega.{arith}
use lib.ListN.{drop}
use Rattle.rules.specs.Record.{record_bytes}
use Rattle.state.specs.Lent.{state_with}
use Rattle.state.specs.declared.State.{State}
use Rattle.state.specs.Machine.{Moved}
use Rattle.moves.specs.Whole.{Whole}
use Rattle.moves.proofs.Opening.{open_whole}
use Rattle.moves.proofs.Moving.{stop_fits, opened_terms, moved_from}
use Rattle.moves.proofs.step_in.Goals as goal

pub overflow_mul-stop : goal.overflow_mul-stop
overflow_mul-stop c = let p = c.requires.ready in record { fits = stop_fits _ _ p.2.2 p.1 }

pub move_in-requires : goal.move_in-requires
move_in-requires c =
    let p = c.requires.ready in
    let w = p.2.2 in
    let e = c.open_in.ensures.is p.2.0 p.2.1 in
    let W = open_whole _ w in
    record { ready = (p.0, (p.2.0, p.2.1, subst Whole (sym e) W.0, ap (λ (k : State). k.going) e ∙ W.1, omega (arith, ap (λ (k : State). k.now.0) e, (opened_terms _ w).1, p.2.3))) }

pub returns-clause-is : goal.returns-clause-is
returns-clause-is c = λ z x.
    let e = moved_from (state_with c.args.s.now z x c.args.last.now) c.args.horizon _ (c.open_in.ensures.is z x) in
    let k = c.move_in.ensures.is z x in
    record { state = k.state ∙ ap (λ (x : Moved). x.state) e; bytes = k.bytes ∙ ap (λ (x : Moved). record_bytes x.rec ++ drop 48 c.args.room.now) e }
