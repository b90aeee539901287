use Rattle.std.proofs.Common.{◌≡◌, ℕ, length, get_or, sym, ◌∙◌, ap, arith}
use Rattle.bench_step.specs.Made.{made}
use Rattle.bench_step.proofs.Making.{made_arrives, made_steps, made_on, made_end}
use Rattle.bench_step.proofs.make_all.Goals as goal
use Rattle.bench_step.proofs.make_all.Goals.{then-call-lt4294967296, else-call-lt4294967296}

pub loop-call-preserved : goal.loop-call-preserved
loop-call-preserved c =
    let j = c.if-call-lt4294967296 in
    let k = c.loop-call in
    let n = length c.args.room.now in
    let call = get_or c.args.list.now k.call-index 0 in
    let state : j.s ≡ made n k.s call =
    elim j.branch [
      | then-call-lt4294967296 w ↦ w.s-is ∙ made_arrives n k.s call _ w.if-call-lt4294967296.true w.arrive.ensures.is
      | else-call-lt4294967296 w ↦ w.s-is ∙ made_steps _ k.s call _ w.if-call-lt4294967296.false w.step.ensures.is.0 ∙ ap (λ (l : ℕ). made l k.s call) k.invariant.0
    ] in
    (omega (arith, j.auto.room, k.invariant.0), made_on _ _ _ _ _ c.loop-call-test.true state ∙ k.invariant.1)

pub returns : goal.returns
returns c = record { is = let k = c.loop-call in sym (sym k.invariant.1 ∙ made_end _ _ _ _ c.loop-call-test.false k.auto.call-index-end) }
