use mathlib.Core.Path.{sym, ◌∙◌, subst}
use Rattle.state.specs.declared.State.{State}
use Rattle.refusals.specs.Check.{Checked}
use Rattle.moves.proofs.Keeping.{together_of}
use Rattle.refusals.proofs.Moves.{step_13, step_by, step_may}
use Rattle.refusals.proofs.may_step.Goals as goal

pub returns-then-not-check-clause-is : goal.returns-then-not-check-clause-is
returns-then-not-check-clause-is c = step_13 _ _ _ (sym (subst (λ (x : State). Checked x c.check.result) (c.shared.ensures.is _ _) c.check.ensures.is).holds ∙ c.if-not-check.true)

pub may_move-requires : goal.may_move-requires
may_move-requires c = record { small = (together_of ((subst (λ (x : State). Checked x c.check.result) (c.shared.ensures.is _ _) c.check.ensures.is).whole c.if-not-check.false)).table.scale_most }

pub returns-clause-is : goal.returns-clause-is
returns-clause-is c = step_by _ _ _ ((subst (λ (x : State). Checked x c.check.result) (c.shared.ensures.is _ _) c.check.ensures.is).whole c.if-not-check.false) _ c.may_move.ensures.is

pub returns-clause-may : goal.returns-clause-may
returns-clause-may c = step_may _ _ _ ((subst (λ (x : State). Checked x c.check.result) (c.shared.ensures.is _ _) c.check.ensures.is).whole c.if-not-check.false) _ c.may_move.ensures.is
