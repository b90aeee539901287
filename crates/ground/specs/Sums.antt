-- Sums over a list. A count is a sum of ones and zeros.
use Rattle.std.specs.Prelude.{List, [], ◌∷◌, ℕ, zero, suc, ◌+◌, eqb, if◌then◌else◌}

-- f summed over the elements of l
unfoldable pub sum_of : {A : Type 0} → (A → ℕ) → List A → ℕ
sum_of f [] = 0
sum_of f (x ∷ l) = f x + sum_of f l

-- i, i + 1, …: n of them
unfoldable pub up_from : ℕ → ℕ → List ℕ
up_from i zero = []
up_from i (suc n) = i ∷ up_from (suc i) n

-- 1 if two numbers are the same, else 0
abbrev pub same : ℕ → ℕ → ℕ
same x y = if eqb x y then 1 else 0

-- how often x stands in a list
abbrev pub times : ℕ → List ℕ → ℕ
times x l = sum_of (same x) l
