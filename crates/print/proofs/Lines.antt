-- Lines, computed
use mathlib.Core.Path.{◌≡◌, refl}
use mathlib.Core.List.{[], ◌∷◌}
use Rattle.print.specs.Decimals.{digits, decimal_of}
use Rattle.print.specs.Printed.{refused_line}

-- refused 14 120
refused_line_lem : refused_line 14 120 ≡ 114 ∷ 101 ∷ 102 ∷ 117 ∷ 115 ∷ 101 ∷ 100 ∷ 32 ∷ 49 ∷ 52 ∷ 32 ∷ 49 ∷ 50 ∷ 48 ∷ 10 ∷ []
unfolding digits
refused_line_lem = refl

most_decimal : decimal_of 18446744073709551615 ≡ 49 ∷ 56 ∷ 52 ∷ 52 ∷ 54 ∷ 55 ∷ 52 ∷ 52 ∷ 48 ∷ 55 ∷ 51 ∷ 55 ∷ 48 ∷ 57 ∷ 53 ∷ 53 ∷ 49 ∷ 54 ∷ 49 ∷ 53 ∷ []
unfolding digits
most_decimal = refl
