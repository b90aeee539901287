use mathlib.Core.Path.{sym, ◌∙◌, ap}
use Rattle.state.specs.Lent.{state_with}
use Rattle.state.specs.Machine.{with_work}
use Rattle.moves.proofs.Moving.{end_fits, settle_came, settle_fit, moved_end, moved_on}
use Rattle.moves.proofs.Parts.{closed_parts}
use Rattle.moves.proofs.settle_in.Goals as goal

pub overflow_mul-close : goal.overflow_mul-close
overflow_mul-close c = let S = c.requires.next.2 in record { fits = (end_fits _ S.whole S.on).0 }

pub sleep_all-requires : goal.sleep_all-requires
sleep_all-requires c = record { came = settle_came _ _ c.requires.next.2 }

pub returns-then-eq-clause-is : goal.returns-then-eq-clause-is
returns-then-eq-clause-is c = λ e x. closed_parts (state_with c.args.s.now e x c.args.last.now) c.args.to.0 _ _ c.sleep_all.ensures.is c.clear_slots.ensures.is ∙ moved_end _ _ (sym c.eq.ensures ∙ c.if-eq.true)

pub events-requires : goal.events-requires
events-requires c = record { fit = settle_fit _ _ c.requires.next.2 (sym c.eq.ensures ∙ c.if-eq.false) }

pub returns-clause-is : goal.returns-clause-is
returns-clause-is c = λ e x. ap (with_work (state_with c.args.s.now e x c.args.last.now)) c.events.ensures.is ∙ moved_on _ _ (sym c.eq.ensures ∙ c.if-eq.false)
