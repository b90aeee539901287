-- FLAGS AS BYTES
use Rattle.std.specs.Prelude.{Bool, true, false, List, ℕ, leb, eqb}
use Rattle.ground.specs.Tests.{every}

abbrev pub bit : Bool → ℕ
bit true = 1
bit false = 0

abbrev pub flag : ℕ → Bool
flag x = eqb x 1

-- a byte above 1 is no flag
abbrev pub flags_ok : List ℕ → Bool
flags_ok l = every (λ x. leb x 1) l
