use borrow.Author.Rules.{rules}
use mathlib.Core.Path.{refl}
use native.Mathlib.Omega.{arith}
use Rattle.state.specs.Lent.{state_over}
use Rattle.moves.proofs.Moving.{end_fits}
use Rattle.moves.proofs.Arriving.{arrive_inside, arrive_scale, arrive_later, arrive_fits, arrive_joins, arrived_off, arrived_on}
use Rattle.moves.proofs.arrive_in.Goals as goal

pub nonzero_div-tick : goal.nonzero_div-tick
nonzero_div-tick c = let p = c.requires.ready.1 in arrive_scale _ _ p.0 p.1

pub offset_bounds-table-i : goal.offset_bounds-table-i
offset_bounds-table-i c = let r = arrive_inside c.requires.ready.1 in search (rules, r)

pub bounds-table-i : goal.bounds-table-i
bounds-table-i c = arrive_inside c.requires.ready.1

pub bounds-s-i : goal.bounds-s-i
bounds-s-i c = arrive_inside c.requires.ready.1

pub bounds-arrived-i : goal.bounds-arrived-i
bounds-arrived-i c = arrive_inside c.requires.ready.1

pub offset_bounds-last-i : goal.offset_bounds-last-i
offset_bounds-last-i c = let r = arrive_inside c.requires.ready.1 in search (rules, r)

pub bounds-last-i : goal.bounds-last-i
bounds-last-i c = arrive_inside c.requires.ready.1

pub returns-then-not-s-clause-is : goal.returns-then-not-s-clause-is
returns-then-not-s-clause-is c = λ z. arrived_off (state_over c.args.s.now z c.args.arrived.now c.args.last.now) _ c.if-not-s.true

pub overflow_mul-plane : goal.overflow_mul-plane
overflow_mul-plane c = record { fits = (end_fits _ c.requires.ready.1.0 c.if-not-s.false).0 }

pub overflow_sub-amount : goal.overflow_sub-amount
overflow_sub-amount c = let p = c.requires.ready.1 in omega (arith, arrive_later _ _ p.0 p.1 c.if-not-s.false)

pub overflow_mul-amount : goal.overflow_mul-amount
overflow_mul-amount c = let p = c.requires.ready.1 in record { fits = arrive_fits _ _ p.0 p.1 c.if-not-s.false }

pub overflow_add-task : goal.overflow_add-task
overflow_add-task c = let r = arrive_inside c.requires.ready.1 in search (rules, r)

pub overflow_cast-task : goal.overflow_cast-task
overflow_cast-task c = let r = arrive_inside c.requires.ready.1 in search (rules, r)

pub join-requires : goal.join-requires
join-requires c = let p = c.requires.ready.1 in record { fit = arrive_joins _ _ p.0 p.1 c.if-not-s.false }

pub returns-clause-is : goal.returns-clause-is
returns-clause-is c = λ z. arrived_on (state_over c.args.s.now z c.args.arrived.now c.args.last.now) _ c.if-not-s.false _ _ _ refl refl c.join.ensures.is
