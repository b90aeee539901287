-- THE RECORD
use Rattle.std.specs.Prelude.{List, [], ◌∷◌, ◌++◌, map, ℕ, zero, suc, ◌-◌, eqb, take, drop, replicate, if◌then◌else◌}
use Rattle.ground.specs.Sums.{up_from}
use Rattle.ground.specs.Bytes.{le, number}
use Rattle.rules.specs.Bounds.{slot_count}
use Rattle.rules.specs.State.{Task, proc}

-- "from and to as 64-bit instants, then sixteen 16-bit slots"
pub record Record : Type 0 where
  pub from : ℕ
  pub to : ℕ
  pub slots : List ℕ

-- "the task on each processor or 0": the number of the task on processor p; the first of these tasks has the number i
unfoldable pub on_proc : ℕ → ℕ → List Task → ℕ
on_proc p i [] = 0
on_proc p i (t ∷ l) = if eqb (proc t) p then i else on_proc p (suc i) l

-- "Slots past m are 0."
unfoldable pub slots_of : ℕ → List Task → List ℕ
slots_of m l = map (λ p. on_proc p 1 l) (up_from 1 m) ++ replicate (slot_count - m) 0

-- "all least byte first"
unfoldable pub slot_bytes : List ℕ → List ℕ
slot_bytes [] = []
slot_bytes (s ∷ l) = le 2 s ++ slot_bytes l

unfoldable pub record_bytes : Record → List ℕ
record_bytes r = le 8 r.from ++ le 8 r.to ++ slot_bytes r.slots

-- n numbers of two bytes each
unfoldable pub slots_from : ℕ → List ℕ → List ℕ
slots_from zero bytes = []
slots_from (suc n) bytes = number (take 2 bytes) ∷ slots_from n (drop 2 bytes)

-- the record that 48 bytes spell
unfoldable pub read_record : List ℕ → Record
read_record bytes = record { from = number (take 8 bytes); to = number (take 8 (drop 8 bytes)); slots = slots_from slot_count (drop 16 bytes) }
