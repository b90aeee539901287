-- THE AMOUNTS OF AN OPEN PLANE, read off the queues' keys: a running amount is key - present, a waiting amount end - key
use Rattle.std.specs.Prelude.{Bool, ◌&&◌, ◌||◌, List, ℕ, ◌+◌, ◌*◌, ◌-◌, ◌/◌, ◌%◌, ◌≤◌, ◌<◌, leb, ltb, eqb, get_or}
use Rattle.ground.specs.Sums.{sum_of, up_from}
use Rattle.queue.specs.Below.{all_below}
use Rattle.rules.specs.Bounds.{clock, most_scale, most_ticks}

-- "a running amount is 1 up to the remaining length"
unfoldable pub run_amounts_ok : ℕ → ℕ → List ℕ → ℕ → Bool
run_amounts_ok now end keys n = all_below n (λ j. ltb now (get_or keys j 0) && leb (get_or keys j 0) end)

-- "a waiting amount at least 1 and less than it"
unfoldable pub wait_amounts_ok : ℕ → ℕ → List ℕ → ℕ → Bool
wait_amounts_ok now end keys n = all_below n (λ j. ltb (get_or keys j 0) end && ltb now (get_or keys j 0))

-- "a processor is idle only if nobody waits"
abbrev pub idle_ok : ℕ → ℕ → ℕ → Bool
idle_ok m run wait = eqb wait 0 || eqb run m

-- the running amounts' sum, the waiting amounts' sum
abbrev pub run_sum : ℕ → List ℕ → ℕ → ℕ
run_sum now keys n = sum_of (λ j. get_or keys j 0 - now) (up_from 0 n)

abbrev pub wait_sum : ℕ → List ℕ → ℕ → ℕ
wait_sum end keys n = sum_of (λ j. end - get_or keys j 0) (up_from 0 n)

-- amounts "sum to at most" shares "times the remaining ticks, counted exactly when the present is between ticks"
abbrev pub sum_ok : ℕ → ℕ → ℕ → ℕ → Bool
sum_ok scale left amounts shares = leb amounts (shares * (left / scale) + shares * (left % scale) / scale)

-- amounts, idle processors and the sum, together; shares is the awake tasks'
unfoldable pub amounts_ok : ℕ → ℕ → ℕ → ℕ → ℕ → List ℕ → ℕ → List ℕ → ℕ → Bool
amounts_ok shares m scale now end rk rn wk wn =
    run_amounts_ok now end rk rn && (wait_amounts_ok now end wk wn && (idle_ok m rn wn && sum_ok scale (end - now) (run_sum now rk rn + wait_sum end wk wn) shares))

-- WHAT THE CODE LEANS ON, so that nothing wraps
-- an asleep task's soonest arrival plus q is at most p and q after the present rounded up, so no plane ends more ticks after the present tick
abbrev pub longest : ℕ
longest = 2 * most_ticks + 1

-- a plane that ends soon enough; end is in ticks
pub record Soon (shares n m scale now end : ℕ) : Type 0 where
  pub rows : n ≤ 128
  pub processors : m ≤ 16
  pub sum : shares ≤ 16 * most_scale
  pub scale_in : (0 < scale) × (scale ≤ most_scale)
  pub end_low : end ≤ clock + longest
  pub near : end * scale ≤ now + longest * scale
