-- THE ENTRIES OF A QUEUE, in one loop
use Rattle.std.specs.Prelude.{Bool, ◌&&◌, List, ℕ, leb, ltb, get_or, take}
use Rattle.queue.specs.Below.{all_below}
use Rattle.queue.specs.Queues.{stands_of}
use Rattle.queue.specs.declared.Queue.{Queue}
use Rattle.state.specs.Sound.{all_fresh}
use Rattle.together_queues.specs.declared.Roll.{Roll}

-- the task is one, and its key lies after now and not past top
abbrev pub key_ok : ℕ → ℕ → ℕ → ℕ → Bool
key_ok now top t key = ltb 0 t && (ltb now key && leb key top)

-- so it is with each of the first n entries
unfoldable pub keys_ok : ℕ → ℕ → List ℕ → List ℕ → ℕ → Bool
keys_ok now top keys tasks n = all_below n (λ j. key_ok now top (get_or tasks j 0) (get_or keys j 0))

-- the roll with these marks
abbrev pub with_met : Roll → List Bool → Roll
with_met r met = record { count = r.count; ok = r.ok; met = met }

-- the queue's order stands, each task in turn is fresh, and each key lies in its range
abbrev pub enters : Roll → ℕ → ℕ → Queue → Bool
enters r now top q = stands_of q && (all_fresh r.count r.ok.now (take q.len q.tasks) r.met && keys_ok now top q.keys q.tasks q.len)
