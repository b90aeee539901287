use Rattle.std.proofs.Common.{◌∙◌, arith}
use Rattle.table.specs.Lent.{table_in}
use Rattle.inplace.proofs.Places.{same_but_exec}
use Rattle.bench_step.proofs.Doing.{taken_arrives, done_arrives, taken_steps, done_steps}
use Rattle.bench_step.proofs.held_call.Goals as goal

pub overflow_sub-call : goal.overflow_sub-call
overflow_sub-call c = omega (arith, (taken_arrives _ _ c.if-call-lt4294967296.true c.requires.taken.1.1.1).0)

pub arrive_in-requires : goal.arrive_in-requires
arrive_in-requires c = record { ready = let p = c.requires.taken.1 in (record (table_in c.args.s.now.table) { exec = p.0 }, (p.1.0, (taken_arrives _ _ c.if-call-lt4294967296.true p.1.1).1)) }

pub step_in-requires : goal.step_in-requires
step_in-requires c =
    record {
      ready = let p = c.requires.taken.1 in
          let k = taken_steps _ _ c.if-call-lt4294967296.false p.1.1 in
          (c.requires.taken.0, k.1, (p.0, c.args.arrived.now, p.1.0, k.0));
    }

pub returns-then-call-lt4294967296-clause-is : goal.returns-then-call-lt4294967296-clause-is
returns-then-call-lt4294967296-clause-is c = λ e. same_but_exec e _ _ c.arrive_in.ensures.same ∙ c.arrive_in.ensures.is (record (table_in c.args.s.now.table) { exec = e }) ∙ done_arrives _ _ c.if-call-lt4294967296.true

pub returns-else-call-lt4294967296-clause-is : goal.returns-else-call-lt4294967296-clause-is
returns-else-call-lt4294967296-clause-is c = λ e. (c.step_in.ensures.is e c.args.arrived.now).state ∙ done_steps _ _ c.if-call-lt4294967296.false
