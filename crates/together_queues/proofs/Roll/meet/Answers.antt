use mathlib.Core.Path.{◌≡◌}
use native.Mathlib.Omega.{arith}
use lib.ListN.{take}
use lib.Seq.{take_all}
use Rattle.together_queues.proofs.Meeting.{meets_from, meets_on, meets_fails, meets_end}
use Rattle.together_queues.proofs.Roll.meet.Goals as goal

pub loop-task-init : goal.loop-task-init
loop-task-init c = meets_from _ _ _

pub returns-then-not-is_fresh-clause-is : goal.returns-then-not-is_fresh-clause-is
returns-then-not-is_fresh-clause-is c =
    let z : take 16 c.args.slots.now ≡ c.args.slots.now = take_all 16 c.args.slots.now (omega arith) in
    let t = c.loop-task-test.true in
    rw z at (meets_fails c.loop-task.invariant (omega arith) (omega arith) (rw c.from-t.ensures at c.if-not-is_fresh.ensures.is))

pub loop-task-preserved : goal.loop-task-preserved
loop-task-preserved c =
    let t = c.loop-task-test.true in
    rw (c.note.ensures.is, c.from-t.ensures) (meets_on c.loop-task.invariant (omega arith) (omega arith) (rw c.from-t.ensures at c.if-not-is_fresh.ensures.is))

pub returns-clause-is : goal.returns-clause-is
returns-clause-is c =
    let z : take 16 c.args.slots.now ≡ c.args.slots.now = take_all 16 c.args.slots.now (omega arith) in
    let t = c.loop-task-test.false in
    rw z at (meets_end c.loop-task.invariant (omega arith) (omega arith)).0

pub returns-clause-met : goal.returns-clause-met
returns-clause-met c =
    let z : take 16 c.args.slots.now ≡ c.args.slots.now = take_all 16 c.args.slots.now (omega arith) in
    let t = c.loop-task-test.false in
    λ _. rw z at (meets_end c.loop-task.invariant (omega arith) (omega arith)).1
