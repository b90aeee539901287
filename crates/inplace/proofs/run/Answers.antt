use Rattle.std.proofs.Common.{rules, ℕ, ◌*◌, refl, ap, ◌∙◌, arith, length-drop}
use Rattle.moves.proofs.Moving.{stop_fits}
use Rattle.inplace.proofs.Answering.{run_yes}
use Rattle.inplace.proofs.RunSteps.{went_past, went_full}
use Rattle.inplace.proofs.RunLoop.{going_from, going_room, going_on, going_end}
use Rattle.inplace.proofs.Places.{same_on, same_exec}
use Rattle.inplace.proofs.run.Goals as goal

pub overflow_mul-stop : goal.overflow_mul-stop
overflow_mul-stop c = let A = c.in_default.ensures.may in record { fits = stop_fits _ _ A.whole A.clock }

pub loop-records-init : goal.loop-records-init
loop-records-init c = (search rules, going_from _ _ _ _ (omega arith) c.in_default.ensures.may.whole)

pub returns-then-stop-s-clause-is : goal.returns-then-stop-s-clause-is
returns-then-stop-s-clause-is c =
    let G = c.loop-records.invariant.1 in
    let stop = ap (λ (k : ℕ). c.args.horizon * k) G.scale in
    let g = going_end _ _ _ _ _ _ _ G (went_past _ _ _ (omega (arith, stop, c.if-stop-s.true))) in
    let z = run_yes _ _ _ _ c.in_default.ensures.is refl in
    (c.in_default.ensures.is, g.0 ∙ z.0, g.1 ∙ z.1, g.2 ∙ z.2)

pub step_in-requires : goal.step_in-requires
step_in-requires c =
    let k = c.loop-records in
    let G = k.invariant.1 in
    let stop = ap (λ (k : ℕ). c.args.horizon * k) G.scale in
    let z = going_room _ _ _ _ _ _ _ G (omega (arith, c.loop-records-test.true)) in
    record { ready = (omega (arith, z.1, length-drop (k.records * 48) k.room), c.in_default.ensures.may.clock, (k.s.table.rows.exec.now, c.args.arrived.now, G.whole, omega (arith, stop, c.if-stop-s.false))) }

pub loop-records-preserved : goal.loop-records-preserved
loop-records-preserved c =
    let k = c.loop-records in
    let G = k.invariant.1 in
    let stop = ap (λ (k : ℕ). c.args.horizon * k) G.scale in
    let w = c.step_in.ensures.is k.s.table.rows.exec.now c.args.arrived.now in (
      same_on k.invariant.0 c.step_in.ensures.same,
      going_on _ _ _ _ _ _ _ G c.in_default.ensures.may.clock _ (omega (arith, c.loop-records-test.true)) (omega (arith, stop, c.if-stop-s.false)) _ (same_exec _ _ c.step_in.ensures.same ∙ w.state) _ w.bytes,
    )

pub returns-clause-is : goal.returns-clause-is
returns-clause-is c =
    let G = c.loop-records.invariant.1 in
    let g = going_end _ _ _ _ _ _ _ G (went_full _ _ _ (omega (arith, c.loop-records-test.false))) in
    let z = run_yes _ _ _ _ c.in_default.ensures.is refl in
    (c.in_default.ensures.is, g.0 ∙ z.0, omega (arith, g.1, G.fits) ∙ z.1, g.2 ∙ z.2)
