-- EVENTS: what happens at an instant inside a plane
use Rattle.std.specs.Prelude.{true, false, ℕ, zero, suc, ◌-◌, min, leb, eqb, if◌then◌else◌}
use mathlib.Core.List.{List, map, foldl}
use Rattle.ground.specs.Sums.{sum_of}
use Rattle.rules.specs.State.{Cond, asleep, resting, running, waiting, Task, at, be, become, places, amount, proc, waits}
use Rattle.rules.specs.Keys.{Best, nope, best, least, run_key, wait_key}

-- TIME: d sub-ticks pass
abbrev pub spend : ℕ → Cond → Cond
spend d asleep = asleep
spend d resting = resting
spend d (running p a) = running p (a - d)
spend d (waiting a) = waiting a

unfoldable pub advance : ℕ → List Task → List Task
advance d l = map (λ t. be (spend d t.cond) t) l

-- "Run to the least of all keys, the plane end and the horizon."
unfoldable pub or_key : Best → ℕ → ℕ
or_key nope n = n
or_key (best i k) n = min k n

unfoldable pub next_at : ℕ → ℕ → List Task → ℕ → ℕ
next_at end now l stop = or_key (least (run_key now) l) (or_key (least (wait_key end) l) (min end stop))

-- "its processor goes to the waiting task with the least key"
unfoldable pub give : ℕ → ℕ → List Task → List Task
give end p l = elim (least (wait_key end) l) [ nope ↦ l | best i k ↦ become i (running p (amount (at i l))) l ]

-- task i "takes the processor of the running task with the least key, which waits"
unfoldable pub seize : ℕ → ℕ → List Task → List Task
seize now i l =
    elim (least (run_key now) l) [
      | nope ↦ l
      | best j k ↦ become i (running (proc (at j l)) (amount (at i l))) (become j (waiting (amount (at j l))) l)
    ]

-- B: a running task has nothing left; "the task rests, and its processor goes" on
unfoldable pub b_event : ℕ → List Task → ℕ → List Task
b_event end l i =
    elim (at i l).cond [
      | asleep ↦ l
      | resting ↦ l
      | running p a ↦ (if eqb a 0 then give end p (become i resting l) else l)
      | waiting a ↦ l
    ]

-- "all B events due come first, by lower number"
unfoldable pub b_events : ℕ → List Task → List Task
b_events end l = foldl (b_event end) l (places l)

-- C: "by least key: the critical task takes the processor", while one is due; at most n of them
unfoldable pub c_events_in : ℕ → ℕ → ℕ → List Task → List Task
c_events_in zero end now l = l
c_events_in (suc n) end now l =
    elim (least (wait_key end) l) [
      | nope ↦ l
      | best i k ↦ elim (leb k now) [ true ↦ c_events_in n end now (seize now i l) | false ↦ l ]
    ]

-- "Then all C events due": at most one for each task that waits
unfoldable pub c_events : ℕ → ℕ → List Task → List Task
c_events end now l = c_events_in (sum_of waits l) end now l

unfoldable pub events : ℕ → ℕ → List Task → List Task
events end now l = c_events end now (b_events end l)
