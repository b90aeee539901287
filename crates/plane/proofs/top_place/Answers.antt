use Rattle.queue.specs.Lent.{queue_in}
use Rattle.queue.specs.Queues.{top_task}
use Rattle.plane.proofs.Seeking.{first_place}
use Rattle.plane.proofs.top_place.Goals as goal

pub returns : goal.returns
returns c = record { is = first_place (top_task (queue_in c.args.crew.now.running)) c.args.crew.now.slots.now (rw c.least_task.ensures.is at c.seat_of.ensures.is) c.unwrap_or.ensures }
