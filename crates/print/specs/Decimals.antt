-- DECIMAL NUMBERS, as they are written
use Rattle.std.specs.Prelude.{List, [], ◌∷◌, ◌++◌, ℕ, zero, suc, ◌+◌, ◌/◌, ◌%◌, ltb, if◌then◌else◌}

-- the digits of x, of at most n
unfoldable pub digits : ℕ → ℕ → List ℕ
digits zero x = []
digits (suc n) x = if ltb x 10 then (48 + x) ∷ [] else digits n (x / 10) ++ ((48 + x % 10) ∷ [])

-- a number of 64 bits has at most 20 digits
abbrev pub decimal_of : ℕ → List ℕ
decimal_of x = digits 20 x
