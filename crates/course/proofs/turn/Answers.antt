use Rattle.std.proofs.Common.{refl, rules, sym, subst}
use mir.Val.{Fits}
use mir.Syntax.{w64}
use lib.ListN.{length}
use Rattle.course.specs.declared.Turned.{Turned}
use Rattle.course.specs.Moves.{Moves}
use Rattle.course.proofs.Turning.{turned_by, start_moves, arrival_moves}
use Rattle.course.proofs.turn.Goals as goal

pub returns-in-Begin : goal.returns-in-Begin
returns-in-Begin c =
    let a = c.args in
    let small : Fits w64 a.c.state.now.0 = search rules in
    let e = turned_by a.text.now a.c a.room.now _ _ _ _ c.due.ensures.is c.in-Begin.is c.start.ensures.is refl small.fits (subst (λ (x : Turned). Moves a.c x (length a.room.now)) (sym c.start.ensures.is) (start_moves a.text.now a.c _)) in
    record { is = e.0; moves = e.1 }

pub returns-in-Run : goal.returns-in-Run
returns-in-Run c =
    let a = c.args in
    let small : Fits w64 a.c.state.now.0 = search rules in
    let e = turned_by a.text.now a.c a.room.now _ _ _ _ c.due.ensures.is c.in-Run.is c.ran.ensures.is.0 c.ran.ensures.is.1 small.fits c.ran.ensures.moves in
    record { is = e.0; moves = e.1 }

pub returns-in-Arrival : goal.returns-in-Arrival
returns-in-Arrival c =
    let a = c.args in
    let small : Fits w64 a.c.state.now.0 = search rules in
    let e = turned_by a.text.now a.c a.room.now _ _ _ _ c.due.ensures.is c.in-Arrival.is c.arrival.ensures.is refl small.fits (subst (λ (x : Turned). Moves a.c x (length a.room.now)) (sym c.arrival.ensures.is) (arrival_moves a.c _ _ _)) in
    record { is = e.0; moves = e.1 }

pub returns-in-Skip : goal.returns-in-Skip
returns-in-Skip c =
    let a = c.args in
    let small : Fits w64 a.c.state.now.0 = search rules in
    let e = turned_by a.text.now a.c a.room.now _ _ _ _ c.due.ensures.is c.in-Skip.is c.skipped.ensures.is refl small.fits (subst (λ (x : Turned). Moves a.c x (length a.room.now)) (sym c.skipped.ensures.is) (tt)) in
    record { is = e.0; moves = e.1 }

pub returns-in-Finish : goal.returns-in-Finish
returns-in-Finish c =
    let a = c.args in
    let small : Fits w64 a.c.state.now.0 = search rules in
    let e = turned_by a.text.now a.c a.room.now _ _ _ _ c.due.ensures.is c.in-Finish.is c.ended.ensures.is refl small.fits (subst (λ (x : Turned). Moves a.c x (length a.room.now)) (sym c.ended.ensures.is) (tt)) in
    record { is = e.0; moves = e.1 }
