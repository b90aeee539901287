-- THE TASKS' JOBS, row by row: last arrivals, the tasks of a closed plane, and the limits of an open one
use Rattle.std.specs.Prelude.{Bool, true, false, not, List, ℕ, ◌+◌, ◌/◌, ◌%◌, min, max, leb, ltb, eqb, get_or, if◌then◌else◌}
use Rattle.ground.specs.Sums.{sum_of, up_from}
use Rattle.queue.specs.Below.{all_below}

-- LAST ARRIVALS: "A last arrival is never later than the present, and an awake task has one."
abbrev pub last_ok : Bool → Bool → ℕ → ℕ → Bool
last_ok arrived awake last tick = if arrived then leb last tick else not awake

unfoldable pub lasts_ok : List Bool → List Bool → List ℕ → ℕ → ℕ → Bool
lasts_ok arrived awake last tick n = all_below n (λ i. last_ok (get_or arrived i false) (get_or awake i false) (get_or last i 0) tick)

-- A CLOSED PLANE
-- "every awake task counts as resting, and its last arrival plus q lies later"
abbrev pub rest_ok : Bool → ℕ → ℕ → ℕ → Bool
rest_ok awake last q tick = if awake then ltb tick (last + q) else true

unfoldable pub rests_ok : List ℕ → List ℕ → List Bool → List ℕ → ℕ → ℕ → Bool
rests_ok ps ds awake last tick n = all_below n (λ i. rest_ok (get_or awake i false) (get_or last i 0) (min (get_or ps i 0) (get_or ds i 0)) tick)

-- AN OPEN PLANE
-- "the present rounded up to a tick"
abbrev pub ceil_of : ℕ → ℕ → ℕ
ceil_of now scale = if eqb (now % scale) 0 then now / scale else now / scale + 1

-- "the present rounded up to a tick, or its last arrival plus p if later"
abbrev pub soonest_of : Bool → ℕ → ℕ → ℕ → ℕ
soonest_of arrived last p ceil = if arrived then max ceil (last + p) else ceil

-- "every awake task's last arrival plus q is at or after the end; for each asleep task" the soonest "plus q"
abbrev pub limit_ok : Bool → Bool → ℕ → ℕ → ℕ → ℕ → ℕ → Bool
limit_ok awake arrived last p d ceil end = if awake then leb end (last + min p d) else leb end (soonest_of arrived last p ceil + min p d)

unfoldable pub limits_ok : List ℕ → List ℕ → List Bool → List Bool → List ℕ → ℕ → ℕ → ℕ → Bool
limits_ok ps ds awake arrived last ceil end n =
    all_below n (λ i. limit_ok (get_or awake i false) (get_or arrived i false) (get_or last i 0) (get_or ps i 0) (get_or ds i 0) ceil end)

-- how far every limit has to reach: to the end of an open plane, and past the present tick in a closed one
abbrev pub reach_of : Bool → ℕ → ℕ → ℕ
reach_of going end tick = if going then end else tick + 1

-- "sum of awake tasks' shares"
abbrev pub awake_sum : List Bool → List ℕ → ℕ → ℕ
awake_sum awake xs n = sum_of (λ i. if get_or awake i false then get_or xs i 0 else 0) (up_from 0 n)
