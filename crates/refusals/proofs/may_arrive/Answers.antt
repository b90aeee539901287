use mathlib.Core.Path.{sym, ◌∙◌, subst}
use Rattle.state.specs.declared.State.{State}
use Rattle.refusals.specs.Check.{Checked}
use Rattle.refusals.proofs.Arrivals.{whole_dated, arrive_13, arrive_by, arrive_may}
use Rattle.refusals.proofs.may_arrive.Goals as goal

pub returns-then-not-check-clause-is : goal.returns-then-not-check-clause-is
returns-then-not-check-clause-is c = arrive_13 _ _ (sym (subst (λ (x : State). Checked x c.check.result) (c.shared.ensures.is _ _) c.check.ensures.is).holds ∙ c.if-not-check.true)

pub comes-requires : goal.comes-requires
comes-requires c = record { dated = whole_dated _ ((subst (λ (x : State). Checked x c.check.result) (c.shared.ensures.is _ _) c.check.ensures.is).whole c.if-not-check.false) }

pub returns-clause-is : goal.returns-clause-is
returns-clause-is c = arrive_by _ _ ((subst (λ (x : State). Checked x c.check.result) (c.shared.ensures.is _ _) c.check.ensures.is).whole c.if-not-check.false) _ c.comes.ensures.is

pub returns-clause-may : goal.returns-clause-may
returns-clause-may c = arrive_may _ _ ((subst (λ (x : State). Checked x c.check.result) (c.shared.ensures.is _ _) c.check.ensures.is).whole c.if-not-check.false) _ c.comes.ensures.is
