use Rattle.std.proofs.Common.{rules, sym, ◌∙◌, arith}
use Rattle.inplace.proofs.Places.{same_on}
use Rattle.calls.proofs.Answering.{joined_is}
use Rattle.bench_step.proofs.Doing.{doing_from, doing_taken, doing_on, doing_end}
use Rattle.bench_step.proofs.held_calls.Goals as goal

pub loop-call-init : goal.loop-call-init
loop-call-init c = (search rules, search rules, λ e W T. doing_from _ _ W T)

pub held_call-requires : goal.held_call-requires
held_call-requires c =
    let k = c.loop-call in
    let r = c.requires.taken.1 in
    let D = k.invariant.2 r.0 r.1.0 r.1.1 in
    record { taken = (omega (arith, k.invariant.1, c.requires.taken.0), (r.0, (D.whole, doing_taken _ _ _ _ D c.loop-call-test.true))) }

pub loop-call-preserved : goal.loop-call-preserved
loop-call-preserved c =
    let h = c.held_call.ensures in
    let k = c.loop-call in
    (same_on k.invariant.0 h.same, h.long ∙ k.invariant.1, λ e W T. doing_on _ _ _ _ (k.invariant.2 e W T) c.loop-call-test.true _ (h.is e))

pub returns : goal.returns
returns c =
    record {
      is = λ e W T.
          let D = c.loop-call.invariant.2 e W T in
          joined_is _ _ _ _ _ _ _ _ (sym D.table) (search rules) (search rules) (search rules) (search rules) (search rules) (search rules) ∙ doing_end _ _ _ _ D c.loop-call-test.false;
    }
