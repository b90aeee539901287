use Rattle.state.specs.Lent.{state_with}
use Rattle.moves.proofs.Opening.{can_open, can_open_to, opened_on, opened_off}
use Rattle.moves.proofs.open_in.Goals as goal

pub returns-then-s-clause-is : goal.returns-then-s-clause-is
returns-then-s-clause-is c = λ e x. opened_on _ c.if-s.true

pub nonzero_div-tick : goal.nonzero_div-tick
nonzero_div-tick c = (can_open _ c.requires.whole.2 c.if-s.false).scale_pos

pub plane_end-end-requires : goal.plane_end-end-requires
plane_end-end-requires c = let k = can_open _ c.requires.whole.2 c.if-s.false in record { came = (k.some_row, k.came) }

pub overflow_mul-plane : goal.overflow_mul-plane
overflow_mul-plane c = record { fits = (can_open_to _ c.requires.whole.2 c.if-s.false _ c.plane_end-end.ensures.is).small }

pub overflow_sub-end : goal.overflow_sub-end
overflow_sub-end c = (can_open_to _ c.requires.whole.2 c.if-s.false _ c.plane_end-end.ensures.is).later

pub open_plane-requires : goal.open_plane-requires
open_plane-requires c = record { fit = (can_open_to _ c.requires.whole.2 c.if-s.false _ c.plane_end-end.ensures.is).ready }

pub returns-clause-is : goal.returns-clause-is
returns-clause-is c = λ e x. opened_off (state_with c.args.s.now e x c.args.last.now) c.if-s.false _ c.plane_end-end.ensures.is _ c.open_plane.ensures.is
