-- KEYS, and the task with the least one
use Rattle.std.proofs.Math.Option.{Option, none, some}
use Rattle.std.specs.Prelude.{List, [], ◌∷◌, ℕ, suc, ◌+◌, ◌-◌, leb, if◌then◌else◌}
use Rattle.rules.specs.State.{asleep, resting, running, waiting, Task}

-- "A running task's key is the present plus its amount"
abbrev pub run_key : ℕ → Task → Option ℕ
run_key now t = elim t.cond [ asleep ↦ none | resting ↦ none | running p a ↦ some (now + a) | waiting a ↦ none ]

-- "A waiting task's key is the end minus its amount"
abbrev pub wait_key : ℕ → Task → Option ℕ
wait_key end t = elim t.cond [ asleep ↦ none | resting ↦ none | running p a ↦ none | waiting a ↦ some (end - a) ]

-- the place and key of a task, or of nobody
pub data Best : Type 0 where
  nope : Best
  best : (place key : ℕ) → Best

-- the better of a task in front of a list and the best of the list: "Equal keys: lower number first."
unfoldable pub better : Option ℕ → Best → Best
better none nope = nope
better none (best j k') = best (suc j) k'
better (some k) nope = best 0 k
better (some k) (best j k') = if leb k k' then best 0 k else best (suc j) k'

-- the task with the least key
unfoldable pub least : (Task → Option ℕ) → List Task → Best
least key [] = nope
least key (t ∷ l) = better (key t) (least key l)
