-- WHAT IS READ OFF THE RECORDS AND THE ARRIVALS
use Rattle.std.specs.Prelude.{◌≡◌, ◌&&◌, ◌⊎◌, List, [], ◌∷◌, ℕ, zero, suc, ◌+◌, ◌*◌, ◌-◌, ◌≤◌, ◌<◌, min, max, leb, ltb, eqb, get_or, if◌then◌else◌}
use Rattle.std.proofs.Math.Option.{Option, none, some}
use Rattle.rules.specs.State.{no_row}
use Rattle.ground.specs.Sums.{sum_of, times}
use Rattle.rules.specs.Table.{Row, shorter}
use Rattle.rules.specs.Record.{Record}
use Rattle.rules.specs.Run.{Arrival}

-- RUNNING TIME
-- the sub-ticks for which task n ran in that part of a record that lies between two instants
abbrev pub ran_in : ℕ → ℕ → ℕ → Record → ℕ
ran_in n from to r = times n r.slots * (min to r.to - max from r.from)

-- "Running time is read off the records handed out."
unfoldable pub ran : ℕ → ℕ → ℕ → List Record → ℕ
ran n from to rs = sum_of (ran_in n from to) rs

-- "It never runs on two processors at one instant": it is in one slot of a record at most
abbrev pub Once : List Record → Type 0
Once [] = Unit {0}
Once (r ∷ rs) = ((j : ℕ) → times (suc j) r.slots ≤ 1) × Once rs

-- the records follow one another up to the present: each begins at the instant where the last one ended, and ends later
abbrev pub Follows : ℕ → List Record → ℕ → Type 0
Follows from [] now = from ≡ now
Follows from (r ∷ rs) now = (r.from ≡ from) × (r.from < r.to) × Follows r.to rs now

-- a record ends at this instant
abbrev pub EndsAt : ℕ → List Record → Type 0
EndsAt to [] = ⊥
EndsAt to (r ∷ rs) = (r.to ≡ to) ⊎ EndsAt to rs

-- "Slots past m are 0": no more than m processors run
abbrev pub Within : ℕ → List Record → Type 0
Within m [] = Unit {0}
Within m (r ∷ rs) = ((p : ℕ) → m ≤ p → get_or r.slots p 0 ≡ 0) × Within m rs

-- x is one of the arrivals
abbrev pub In : Arrival → List Arrival → Type 0
In x [] = ⊥
In x (y ∷ ys) = (x ≡ y) ⊎ In x ys

-- nobody runs without a job: who is in a slot came by the record's beginning, and the record ends by q after that; L is the scale
abbrev pub Working : ℕ → List Row → List Arrival → List Record → Type 0
Working L rows xs [] = Unit {0}
Working L rows xs (r ∷ rs) =
    ((j : ℕ) → 0 < times (suc j) r.slots → (a : ℕ) × In (record { task = suc j; tick = a }) xs × (a * L ≤ r.from) × (r.to ≤ (a + shorter (get_or rows j no_row)) * L))
    × Working L rows xs rs

-- PLANE ENDS
-- the latest arrival of task n up to a tick
unfoldable pub came_by : ℕ → ℕ → List Arrival → Option ℕ
came_by n tick [] = none
came_by n tick (x ∷ xs) = if eqb x.task n && leb x.tick tick then some x.tick else came_by n tick xs

-- "last arrival plus q for awake tasks, and the present plus q for asleep tasks"; awake is from its arrival until q after it
abbrev pub limit_by : ℕ → ℕ → Option ℕ → ℕ
limit_by q tick none = tick + q
limit_by q tick (some a) = if ltb tick (a + q) then a + q else tick + q

-- one for each row; the first of these rows has the number n
unfoldable pub limits_by : ℕ → List Row → List Arrival → ℕ → List ℕ
limits_by n [] xs tick = []
limits_by n (r ∷ rs) xs tick = limit_by (shorter r) tick (came_by n tick xs) ∷ limits_by (suc n) rs xs tick

-- the least of some ticks
unfoldable pub earliest : List ℕ → ℕ
earliest [] = 0
earliest (x ∷ []) = x
earliest (x ∷ y ∷ l) = min x (earliest (y ∷ l))

-- the plane ends, counted from 0, where no plane was yet: each plane's "end is the earliest of" the limits at the end of the last one
unfoldable pub plane_end : List Row → List Arrival → ℕ → ℕ
plane_end rows xs zero = 0
plane_end rows xs (suc k) = earliest (limits_by 1 rows xs (plane_end rows xs k))
