-- A WORK THAT LIES IN LENT PLACES
use Rattle.std.specs.Prelude.{List, ℕ, zero, suc, Option, None, Some}
use Rattle.queue.specs.Lent.{queue_in}
use Rattle.queue.specs.Queues.{empty_queue}
use Rattle.queue.specs.declared.Queue.{Queue}
use Rattle.state.specs.declared.Crew.{Crew}
use Rattle.state.specs.Work.{Work}
use Rattle.state.specs.Fit.{Fit, Yielding}
use Rattle.state.specs.Machine.{no_slots}
use Rattle.plane.specs.declared.Plane.{Plane}

-- a work by its parts: m, the present, the end, who runs, who waits, and the slots
abbrev pub parts_at : ℕ → ℕ → ℕ → Queue → Queue → List ℕ → Work
parts_at m t e run wait slots = record { m = m; now = t; end = e; running = run; waiting = wait; slots = slots }

-- the same with a crew
abbrev pub work_at : ℕ → ℕ → ℕ → Crew → Work
work_at m t e c = parts_at m t e (queue_in c.running) (queue_in c.waiting) c.slots.now

-- the same of a plane
abbrev pub work : Plane → Crew → Work
work p c = work_at p.m p.now.0 p.close.0 c

-- a plane with nobody in it: every place of the queues and the slots is 0
abbrev pub cleared : Plane → Work
cleared p = record { m = p.m; now = p.now.0; end = p.close.0; running = empty_queue; waiting = empty_queue; slots = no_slots }

-- the place of a processor that is counted from 1; 0 is None
abbrev pub place_of : ℕ → Option ℕ
place_of zero = None
place_of (suc p) = Some p

-- all C events find what they need
pub record Critical (w : Work) : Type 0 where
  pub fit : Fit w
  pub yields : Yielding w.waiting.len w
