-- THE TEST THAT A STATE IS SOUND: one pass over the entries of each queue and one over the slots, with marks for the tasks that were met
use Rattle.std.specs.Prelude.{Bool, true, false, not, ◌&&◌, ◌||◌, ℕ, ◌-◌, leb, ltb, eqb, get_or, set, take, replicate, if◌then◌else◌}
use mathlib.Core.List.{List, [], ◌∷◌, foldl}
use Rattle.rules.specs.Bounds.{most_processors, most_tasks, slot_count}
use Rattle.queue.specs.declared.Queue.{Queue}
use Rattle.queue.specs.Below.{all_below}
use Rattle.queue.specs.Queues.{stands_of}
use Rattle.state.specs.declared.State.{State}
use Rattle.state.specs.Machine.{end_at}

-- nobody was met yet
abbrev pub no_marks : List Bool
no_marks = replicate 128 false

-- task t, if it is one, is among the n, passes, and was not met
abbrev pub fresh : ℕ → List Bool → List Bool → ℕ → Bool
fresh n ok marks t = eqb t 0 || (ltb (t - 1) n && (get_or ok (t - 1) false && not (get_or marks (t - 1) false)))

-- task t, if it is one, was met
abbrev pub mark : List Bool → ℕ → List Bool
mark marks t = if eqb t 0 then marks else set marks (t - 1) true

-- each of the tasks in turn is fresh, and then marked
unfoldable pub all_fresh : ℕ → List Bool → List ℕ → List Bool → Bool
all_fresh n ok [] marks = true
all_fresh n ok (t ∷ ts) marks = fresh n ok marks t && all_fresh n ok ts (mark marks t)

-- the marks of all of them
unfoldable pub all_marked : List ℕ → List Bool → List Bool
all_marked ts marks = foldl mark marks ts

-- the tasks that a queue holds
abbrev pub members : Queue → List ℕ
members q = take q.len q.tasks

-- "Any order that a queue relies on stands."
unfoldable pub queue_ok : Queue → Bool
queue_ok q = leb q.len most_tasks && stands_of q

-- CONDITIONS: "running on one of the m processors and no two on the same, waiting, or resting"
-- a running entry: a task, not past, on a processor
abbrev pub run_ok : ℕ → List Bool → ℕ → ℕ → Bool
run_ok now seats t k = ltb 0 t && (leb now k && get_or seats (t - 1) false)

unfoldable pub runs_ok : ℕ → List Bool → List ℕ → List ℕ → ℕ → Bool
runs_ok now seats keys tasks n = all_below n (λ j. run_ok now seats (get_or tasks j 0) (get_or keys j 0))

-- a waiting entry: a task, before the end
unfoldable pub waits_ok : ℕ → List ℕ → List ℕ → ℕ → Bool
waits_ok end keys tasks n = all_below n (λ j. ltb 0 (get_or tasks j 0) && ltb (get_or keys j 0) end)

-- "Slots past m are 0."
unfoldable pub slots_ok : ℕ → List ℕ → Bool
slots_ok m slots = all_below slot_count (λ p. ltb p m || eqb (get_or slots p 0) 0)

-- who runs is awake, who waits is awake and does not run, who is on a processor runs; each once
unfoldable pub members_ok : ℕ → List Bool → List ℕ → List ℕ → List ℕ → Bool
members_ok n awake run wait slots =
    all_fresh n awake run no_marks && (all_fresh n awake wait (all_marked run no_marks) && all_fresh n (all_marked run no_marks) slots no_marks)

-- the queues, the awake flags and the slots agree, and "Any order that a queue relies on stands."
unfoldable pub sound_by : ℕ → ℕ → ℕ → ℕ → List Bool → Queue → Queue → List ℕ → Bool
sound_by n m now end awake r w slots =
    leb n most_tasks && (leb m most_processors && (queue_ok r && (queue_ok w
    && ((runs_ok now (all_marked slots no_marks) r.keys r.tasks r.len && (waits_ok end w.keys w.tasks w.len && slots_ok m slots))
    && members_ok n awake (members r) (members w) slots))))

-- of a state
abbrev pub sound_of : State → Bool
sound_of s = sound_by s.table.count s.table.m s.now.0 (end_at s) s.jobs.awake s.running s.waiting s.slots
