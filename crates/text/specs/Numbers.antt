-- DECIMAL NUMBERS, as they are read
use Rattle.std.specs.Prelude.{Bool, true, false, not, ◌&&◌, List, [], ◌∷◌, ℕ, ◌+◌, ◌*◌, ◌-◌, leb, eqb, if◌then◌else◌, Option, Some, None}
use Rattle.ground.specs.Tests.{every}

-- the digits 0 to 9
abbrev pub is_digit : ℕ → Bool
is_digit b = leb 48 b && leb b 57

-- "Numbers are decimal": what digits spell after those that spell v
unfoldable pub spelled_after : ℕ → List ℕ → ℕ
spelled_after v [] = v
spelled_after v (b ∷ l) = spelled_after (10 * v + (b - 48)) l

abbrev pub spelled : List ℕ → ℕ
spelled part = spelled_after 0 part

-- "no leading zero unless 0 itself"
abbrev pub plain : List ℕ → Bool
plain [] = false
plain (b ∷ []) = true
plain (b ∷ d ∷ l) = not (eqb b 48)

-- "at most 4,294,967,295"
abbrev pub most_number : ℕ
most_number = 4294967295

abbrev pub is_number : List ℕ → Bool
is_number part = plain part && (every is_digit part && leb (spelled part) most_number)

-- the number that a part is, if it is one
unfoldable pub numeral_of : List ℕ → Option ℕ
numeral_of part = if is_number part then Some (spelled part) else None
