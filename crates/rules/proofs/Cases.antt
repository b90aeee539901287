-- Definitions that go by cases, as functions of what they distinguish
use Rattle.std.specs.Prelude.{if◌then◌else◌}
use mathlib.Core.Path.{◌≡◌, refl}
use native.Mathlib.Omega.{arith}
use mathlib.Core.Option.{Option, none, some, get_or}
use mathlib.Core.List.{List}
use Prim.Native.Nat.{ℕ, ◌+◌, ◌*◌, ◌-◌}
use lib.Dec.{eqb}
use Rattle.rules.specs.State.{Cond, asleep, resting, running, waiting, Task, State, at, become, amount, proc, tick_of}
use Rattle.rules.specs.Keys.{Best, nope, best}
use Rattle.rules.specs.Planes.{end_of, open_tasks}
use Rattle.rules.specs.Events.{next_at, give}
use Rattle.rules.specs.Record.{slots_of}
use Rattle.rules.specs.Calls.{Moved, after}

-- OF A CONDITION
abbrev pub amount_of : Cond → ℕ
amount_of c = elim c [ asleep ↦ 0 | resting ↦ 0 | running p a ↦ a | waiting a ↦ a ]

abbrev pub proc_of : Cond → ℕ
proc_of c = elim c [ asleep ↦ 0 | resting ↦ 0 | running p a ↦ p | waiting a ↦ 0 ]

abbrev pub runs_of : Cond → ℕ
runs_of c = elim c [ asleep ↦ 0 | resting ↦ 0 | running p a ↦ 1 | waiting a ↦ 0 ]

abbrev pub waits_of : Cond → ℕ
waits_of c = elim c [ asleep ↦ 0 | resting ↦ 0 | running p a ↦ 0 | waiting a ↦ 1 ]

abbrev pub on_of_lem : ℕ → Cond → ℕ
on_of_lem p c = elim c [ asleep ↦ 0 | resting ↦ 0 | running p' a ↦ (if eqb p' p then 1 else 0) | waiting a ↦ 0 ]

-- of one that neither runs nor waits
pub idle_amount : (c : Cond) → runs_of c + waits_of c ≡ 0 → amount_of c ≡ 0
idle_amount asleep h = refl
idle_amount resting h = refl
idle_amount (running p a) h = absurd (omega arith)
idle_amount (waiting a) h = absurd (omega arith)

pub idle_proc : (c : Cond) → runs_of c + waits_of c ≡ 0 → proc_of c ≡ 0
idle_proc (running p a) h = absurd (omega arith)
idle_proc other h = refl

pub idle_on : (p : ℕ) (c : Cond) → runs_of c + waits_of c ≡ 0 → on_of_lem p c ≡ 0
idle_on p (running p' a) h = absurd (omega arith)
idle_on p other h = refl

abbrev pub run_key_of : ℕ → Cond → Option ℕ
run_key_of now c = elim c [ asleep ↦ none | resting ↦ none | running p a ↦ some (now + a) | waiting a ↦ none ]

abbrev pub wait_key_of : ℕ → Cond → Option ℕ
wait_key_of end c = elim c [ asleep ↦ none | resting ↦ none | running p a ↦ none | waiting a ↦ some (end - a) ]

-- a B event of the task in place i, if its condition is one
abbrev pub b_case : ℕ → List Task → ℕ → Cond → List Task
b_case end l i c = elim c [ asleep ↦ l | resting ↦ l | running p a ↦ (if eqb a 0 then give end p (become i resting l) else l) | waiting a ↦ l ]

-- OF THE TASK WITH THE LEAST KEY: who gets a processor, whose is taken
abbrev pub give_to : ℕ → List Task → Best → List Task
give_to p l b = elim b [ nope ↦ l | best i k ↦ become i (running p (amount (at i l))) l ]

abbrev pub take_from : ℕ → List Task → Best → List Task
take_from i l b = elim b [ nope ↦ l | best j k ↦ become i (running (proc (at j l)) (amount (at i l))) (become j (waiting (amount (at j l))) l) ]

-- OF A PLANE
abbrev pub open_at : State → ℕ → ℕ → State
open_at s tick end = record { m = s.m; scale = s.scale; now = s.now; plane = some end; tasks = open_tasks s.m (end - tick) s.tasks }

abbrev pub open_case : State → Option ℕ → State
open_case s p = elim p [ some e ↦ s | none ↦ open_at s (tick_of s) (end_of (tick_of s) s.tasks) ]

-- a step to an instant of a plane that ends at the tick e
abbrev pub move_to : State → ℕ → ℕ → Moved
move_to s e to = record { state = after s e to (eqb to (e * s.scale)); rec = record { from = s.now; to = to; slots = slots_of s.m s.tasks } }

abbrev pub move_in : State → Option ℕ → ℕ → Moved
move_in s p horizon = let e = get_or p 0 in move_to s e (next_at (e * s.scale) s.now s.tasks (horizon * s.scale))
