-- Numbers as bytes, least byte first
use Rattle.std.specs.Prelude.{List, [], ◌∷◌, ◌++◌, ℕ, zero, suc, ◌+◌, ◌*◌, ◌/◌, ◌%◌, length, take, drop}

-- the n least bytes of x
unfoldable pub le : ℕ → ℕ → List ℕ
le zero x = []
le (suc n) x = x % 256 ∷ le n (x / 256)

-- the number that the bytes spell
unfoldable pub number : List ℕ → ℕ
number [] = 0
number (b ∷ l) = b + 256 * number l

-- l with v from place `at` on, all else as it was
abbrev pub pasted : List ℕ → ℕ → List ℕ → List ℕ
pasted l at v = take at l ++ v ++ drop (at + length v) l
