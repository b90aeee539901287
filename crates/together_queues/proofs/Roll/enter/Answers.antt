use mathlib.Core.Path.{◌≡◌}
use mathlib.Core.Bool.{true, false, ◌&&◌}
use Rattle.std.proofs.Common.{rules}
use Prim.Native.Nat.{◌*◌}
use native.Mathlib.Omega.{arith}
use lib.ListN.{get_or}
use Rattle.rules.specs.Bounds.{most_scale}
use Rattle.queue.specs.Lent.{queue_seen, in_turn}
use Rattle.state.specs.Sound.{fresh}
use Rattle.together_queues.specs.Amounts.{longest}
use Rattle.together_queues.specs.Entries.{key_ok}
use Rattle.together_queues.proofs.Entries.{walked_from, entry_fails, sum_small, walked_on, walked_end}
use Rattle.together_queues.proofs.Roll.enter.Goals as goal

pub loop-i-init : goal.loop-i-init
loop-i-init c = (walked_from _ _ _ _, λ h. absurd (omega arith))

pub returns-then-not-in_turn : goal.returns-then-not-in_turn
returns-then-not-in_turn c =
    record {
      is = let a = c.args in
          let k = c.loop-i in
          let q = queue_seen a.lane in
          let t = c.from-t.ensures in
          let e : false ≡ (key_ok a.present.0 a.top (get_or q.tasks k.i 0) (get_or q.keys k.i 0) && fresh k.self.count k.self.ok.now k.self.met (get_or q.tasks k.i 0)) && in_turn q.keys q.tasks k.i = search rules in
          entry_fails a.present.0 a.top q a.self.now k.invariant.0 (λ _. search rules) c.requires.inside.0 c.loop-i-test.true e;
    }

pub overflow_add-sum : goal.overflow_add-sum
overflow_add-sum c =
    let a = c.args in
    let k = c.loop-i in
    let q = queue_seen a.lane in
    let t = c.from-t.ensures in
    let h = c.loop-i-test.true in
    let e : true ≡ (key_ok a.present.0 a.top (get_or q.tasks k.i 0) (get_or q.keys k.i 0) && fresh k.self.count k.self.ok.now k.self.met (get_or q.tasks k.i 0)) && in_turn q.keys q.tasks k.i = search rules in
    let s = sum_small a.present.0 a.top q a.self.now k.invariant.0 (λ _. search rules) c.requires.inside.0 e (longest * most_scale) c.requires.inside.2 (omega arith) in
    omega (arith, s.1)

pub loop-i-preserved : goal.loop-i-preserved
loop-i-preserved c =
    let a = c.args in
    let k = c.loop-i in
    let q = queue_seen a.lane in
    let t = c.from-t.ensures in
    let e : true ≡ (key_ok a.present.0 a.top (get_or q.tasks k.i 0) (get_or q.keys k.i 0) && fresh k.self.count k.self.ok.now k.self.met (get_or q.tasks k.i 0)) && in_turn q.keys q.tasks k.i = search rules in
    (rw (c.note.ensures.is, t) (walked_on a.present.0 a.top q a.self.now k.invariant.0 (λ _. search rules) c.requires.inside.0 e c.loop-i-test.true), λ _. search rules)

pub returns : goal.returns
returns c = record { is = let a = c.args in walked_end a.present.0 a.top (queue_seen a.lane) a.self.now c.loop-i.invariant.0 (λ h. c.loop-i.invariant.1 (let t = c.loop-i-test.false in omega arith)) c.requires.inside.0 c.loop-i-test.false }
