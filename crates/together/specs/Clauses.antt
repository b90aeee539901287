-- THE PLANE, closed or open: the clauses over rows, queues and slots, each under its sentence
use Rattle.std.specs.Prelude.{Bool, ◌&&◌, List, ℕ, ◌*◌, ◌/◌, ◌%◌, ltb, eqb}
use Rattle.together_rows.specs.Jobs.{rests_ok, ceil_of, limits_ok, awake_sum}
use Rattle.together_queues.specs.Amounts.{amounts_ok}

-- "With a plane closed, the instant is a whole tick, nobody runs or waits, every awake task counts as resting,
-- and its last arrival plus q lies later."
unfoldable pub closed_by : List ℕ → List ℕ → ℕ → ℕ → ℕ → List Bool → List ℕ → ℕ → ℕ → Bool
closed_by ps ds n scale now awake last run wait = eqb (now % scale) 0 && (eqb run 0 && (eqb wait 0 && rests_ok ps ds awake last (now / scale) n))

-- "With a plane open: its end is a whole tick and later than the present", and so on; end is in ticks
unfoldable pub open_by : List ℕ → List ℕ → List ℕ → ℕ → ℕ → ℕ → ℕ → ℕ → List Bool → List Bool → List ℕ → List ℕ → ℕ → List ℕ → ℕ → Bool
open_by ps ds xs n m scale now end awake arrived last rk rn wk wn =
    ltb now (end * scale) && (amounts_ok (awake_sum awake xs n) m scale now (end * scale) rk rn wk wn && limits_ok ps ds awake arrived last (ceil_of now scale) end n)
