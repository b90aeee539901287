use mathlib.Core.Path.{◌∙◌, ap}
use mathlib.Core.List.{◌++◌}
use Prim.Native.Nat.{ℕ}
use lib.ListN.{drop}
use Rattle.ground.specs.declared.Instant.{Instant}
use Rattle.rules.specs.Record.{record_bytes}
use Rattle.state.specs.Lent.{state_with}
use Rattle.state.specs.Machine.{move_to}
use Rattle.moves.proofs.Moving.{end_fits, next_seen}
use Rattle.moves.proofs.move_in.Goals as goal

pub overflow_mul-close : goal.overflow_mul-close
overflow_mul-close c = let p = c.requires.ready.1 in record { fits = (end_fits _ p.2 p.3).0 }

pub settle_in-requires : goal.settle_in-requires
settle_in-requires c =
    let p = c.requires.ready.1 in
    let s = c.args.s.now in
    let e = c.shared-crew.ensures in
    let to = next_seen s.table.m s.now.0 _ s.crew.slots.now c.args.stop.0 e.running e.waiting (ap (λ (x : Instant). x.0) (c.next_instant-to.ensures.is s.table.m s.now.0 _ _ s.crew.slots.now)) in
    record { next = (p.0, p.1, record { whole = p.2; on = p.3; stop = c.args.stop.0; ahead = p.4; next = to }) }

pub returns-clause-is : goal.returns-clause-is
unfolding move_to
returns-clause-is c = λ e x.
    let s = c.args.s.now in
    let k = c.shared-crew.ensures in
    let to = next_seen s.table.m s.now.0 _ s.crew.slots.now c.args.stop.0 k.running k.waiting (ap (λ (x : Instant). x.0) (c.next_instant-to.ensures.is s.table.m s.now.0 _ _ s.crew.slots.now)) in
    record {
      state = c.settle_in.ensures.is e x ∙ ap (λ (t : ℕ). (move_to (state_with s e x c.args.last.now) t).state) to;
      bytes = c.write.ensures.is ∙ ap (λ (t : ℕ). record_bytes (record { from = s.now.0; to = t; slots = s.crew.slots.now }) ++ drop 48 c.args.room.now) to;
    }
