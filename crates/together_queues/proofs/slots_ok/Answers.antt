use Rattle.std.proofs.lemmas.Iterator.{cases_from_all, YieldsList-from_slice}
use Rattle.std.proofs.lemmas.Iterator.Adapters.{YieldsList-from_skip}
use Rattle.std.proofs.Common.{rules}
use mathlib.Core.Path.{◌≡◌}
use borrow.Author.Tests.{tests}
use Rattle.together_queues.proofs.Slots.{slots_tested}
use Rattle.together_queues.proofs.slots_ok.Goals as goal

pub returns : goal.returns
returns c =
    record {
      is = slots_tested c.args.m c.args.slots.now (search rules) _
          (cases_from_all _ _ _ (λ x. x ≡ 0) (λ x. ¬ (x ≡ 0)) c.all.ensures.ran (YieldsList-from_skip c.args.m (YieldsList-from_slice c.args.slots.now cc) cc) (λ x q k. search (rules, tests)) (λ x q k. search (rules, tests)));
    }
