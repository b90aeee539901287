-- THE SCALE AND THE SHARES
use Rattle.std.specs.Prelude.{Bool, true, false, List, [], ◌∷◌, ℕ, zero, suc, ◌*◌, ◌/◌, ◌%◌, leb, eqb}
use Rattle.ground.specs.Sums.{sum_of}
use Rattle.rules.specs.Table.{Row, shorter}

-- "The common divisor is found by Euclid's rule": with room for n falls of the remainder
unfoldable pub gcd_in : ℕ → ℕ → ℕ → ℕ
gcd_in zero a b = a
gcd_in (suc n) a b = elim (eqb b 0) [ true ↦ a | false ↦ gcd_in n b (a % b) ]

unfoldable pub gcd : ℕ → ℕ → ℕ
gcd a b = gcd_in (suc b) a b

unfoldable pub lcm : ℕ → ℕ → ℕ
lcm a b = a / gcd a b * b

-- the least common multiple of l and the q of the rows
unfoldable pub scale_from : ℕ → List Row → ℕ
scale_from l [] = l
scale_from l (r ∷ rs) = scale_from (lcm l (shorter r)) rs

-- "The scale L is the least common multiple of all q."
unfoldable pub scale_of : List Row → ℕ
scale_of rs = scale_from 1 rs

-- "A task's share is e times L/q"
unfoldable pub share_of : ℕ → Row → ℕ
share_of l r = r.exec * (l / shorter r)

-- "The table fits if the shares sum to at most m times L."
unfoldable pub fits : ℕ → List Row → Bool
fits m rs = leb (sum_of (share_of (scale_of rs)) rs) (m * scale_of rs)
