use mathlib.Core.Path.{sym, ◌∙◌, ap, subst}
use mathlib.Core.Bool.{◌&&◌}
use Prim.Native.Nat.{ℕ}
use lib.Dec.{ltb}
use Rattle.state.specs.Lent.{state_seen}
use Rattle.state.specs.Sound.{sound_of}
use Rattle.state.specs.Machine.{end_at}
use Rattle.together_queues.specs.Amounts.{amounts_ok, Soon}
use Rattle.together.proofs.Deciding.{front_fails, front_is, front_not, order_fails, table_passes, plane_soon, open_decides, closed_decides}
use Rattle.together.proofs.Tables.{scale_low}
use Rattle.together.proofs.holds.Goals as goal

pub returns-in_default : goal.returns-in_default
returns-in_default c = record { is = let a = c.args in sym (front_fails (state_seen a.s a.arrived.now a.last.now) (front_not _ _ c.in_default.ensures.is)) }

pub order_ok-requires : goal.order_ok-requires
order_ok-requires c = record { inside = let a = c.args in (table_passes (state_seen a.s a.arrived.now a.last.now) (front_is _ _ _ c.in-Some.ensures.is).0).size }

pub returns-then-not-order_ok : goal.returns-then-not-order_ok
returns-then-not-order_ok c = record { is = let a = c.args in sym (order_fails (state_seen a.s a.arrived.now a.last.now) (sym c.if-not-order_ok.ensures.is)) }

pub open_ok-requires : goal.open_ok-requires
open_ok-requires c =
    record {
      small = let a = c.args in
          let s = state_seen a.s a.arrived.now a.last.now in
          let f = front_is _ _ _ c.in-Some.ensures.is in
          subst (λ (x : ℕ). Soon x s.table.count s.table.m s.table.scale s.now.0 s.end) (sym f.1) (plane_soon s f.0 c.if-s.true);
    }

pub returns-then-s : goal.returns-then-s
returns-then-s c =
    record {
      is = let a = c.args in
          let s = state_seen a.s a.arrived.now a.last.now in
          let f = front_is _ _ _ c.in-Some.ensures.is in
          c.open_ok.ensures.is
          ∙ ap (λ (x : ℕ). sound_of s && (ltb s.now.0 (end_at s) && amounts_ok x s.table.m s.table.scale s.now.0 (end_at s) s.running.keys s.running.len s.waiting.keys s.waiting.len)) f.1
          ∙ open_decides s f.0 (sym c.if-not-order_ok.ensures.is) c.if-s.true;
    }

pub closed_ok-requires : goal.closed_ok-requires
closed_ok-requires c =
    record {
      small = let a = c.args in
          let s = state_seen a.s a.arrived.now a.last.now in
          let T = table_passes s (front_is _ _ _ c.in-Some.ensures.is).0 in
          (T.size.1, T.processors.1, scale_low s.table T);
    }

pub returns-else-s : goal.returns-else-s
returns-else-s c =
    record {
      is = let a = c.args in
          let s = state_seen a.s a.arrived.now a.last.now in
          let f = front_is _ _ _ c.in-Some.ensures.is in
          c.closed_ok.ensures.is (end_at s) s.jobs.awake s.waiting.keys s.waiting.tasks ∙ closed_decides s f.0 (sym c.if-not-order_ok.ensures.is) c.if-s.false;
    }
