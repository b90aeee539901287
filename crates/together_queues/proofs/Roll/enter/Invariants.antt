use Prim.Native.Nat.{◌<◌}
use Rattle.queue.specs.Lent.{queue_seen, sized}
use Rattle.together_queues.proofs.Entries.{Walked}
use Rattle.together_queues.proofs.Roll.enter.Given as goal

abbrev pub invariant-loop-i : goal.invariant-loop-i
invariant-loop-i l = Walked l.present.0 l.top (queue_seen l.lane) l.fn.self l.i l.self l.sum × (0 < l.i → sized l.lane.keys.now l.lane.tasks.now)
