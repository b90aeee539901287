use Rattle.together_queues.proofs.Meeting.{Meets}
use Rattle.together_queues.proofs.Roll.meet.Given as goal

abbrev pub invariant-loop-task : goal.invariant-loop-task
invariant-loop-task l = Meets 16 l.slots l.fn.self l.task-index l.self
