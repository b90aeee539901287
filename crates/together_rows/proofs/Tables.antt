-- What the table's tests say of a row, and the common divisor row by row
use mathlib.Core.Path.{◌≡◌, refl, sym, ◌∙◌, ap}
use mathlib.Core.List.{List}
use Prim.Native.Nat.{ℕ, zero, suc, ◌+◌, ◌-◌, ◌/◌, ◌≤◌, min, ◌<◌, max}
use native.Mathlib.Nat.{eq-one_of_dvd-one}
use native.Mathlib.Numerals.{add-one}
use native.Mathlib.Omega.{arith}
use lib.ListN.{get_or}
use Rattle.ground.specs.Tests.{Says}
use Rattle.ground.proofs.Tests.{leb_says, and_says, is_false, is_true}
use Rattle.rules.specs.Reasons.{RowOk}
use Rattle.rules.specs.Scale.{gcd}
use Rattle.rules.specs.Table.{Row, shorter, row_in_range}
use Rattle.rules.proofs.Admitting.{row_says}
use Rattle.rules.proofs.Euclid.{gcd_divides_left, gcd_divides_right}
use Rattle.together_rows.specs.Tables.{row_ok, common_below, ahead}
use mathlib.Core.Bool.{Bool, true, false}
use lib.Dec.{leb}
use Rattle.rules.specs.Bounds.{most_ticks}

-- ROWS
pub row_ok_says : (r : Row) → Says (RowOk r) (row_ok r.period r.exec r.deadline)
row_ok_says r = and_says _ _ (row_in_range r) _ (row_says r) (leb_says r.exec (shorter r))

module _ (p e d : ℕ) where
  abbrev row : Row
  row = record { period = p; exec = e; deadline = d }

  -- a row fails where e is 0, or above q
  pub row_none : e ≡ 0 → row_ok p e d ≡ false
  row_none z = is_false (row_ok p e d) (row_ok_says row) (λ R. let a = R.0.1.0 in omega arith)

  pub row_over : min p d < e → row_ok p e d ≡ false
  row_over h = is_false (row_ok p e d) (row_ok_says row) (λ R. let a = R.1 in omega arith)

  -- otherwise the longer of p and D decides
  pub row_longer : ¬ (e ≡ 0) → e ≤ min p d → leb (max p d) most_ticks ≡ row_ok p e d
  row_longer n h = go (leb (max p d) most_ticks) (leb_says (max p d) most_ticks)
    where
      go : (b : Bool) → Says (max p d ≤ most_ticks) b → b ≡ row_ok p e d
      go true s =
          sym (is_true (row_ok p e d) (row_ok_says row)
          (((omega arith, omega arith), (omega arith, omega arith), (omega arith, omega arith)), h))
      go false s = sym (is_false (row_ok p e d) (row_ok_says row) (λ R. s (let a = R.0.0.1 in let b = R.0.2.1 in omega arith)))

-- THE COMMON DIVISOR
-- 1 has no other divisor
pub gcd_one : (d : ℕ) → gcd 1 d ≡ 1
gcd_one d = eq-one_of_dvd-one (gcd_divides_left 1 d)

pub gcd_with_one : (g : ℕ) → gcd g 1 ≡ 1
gcd_with_one g = eq-one_of_dvd-one (gcd_divides_right g 1)

module _ (l : ℕ) (ps ds : List ℕ) where
  pub common_none : common_below l ps ds 0 ≡ l
  unfolding common_below
  common_none = refl

  -- one row more
  pub common_more : (i : ℕ) → common_below l ps ds (i + 1) ≡ gcd (common_below l ps ds i) (l / min (get_or ps i 0) (get_or ds i 0))
  unfolding common_below
  common_more i = rw add-one

  -- 1 stays 1
  pub common_one : (i : ℕ) → common_below l ps ds i ≡ 1 → common_below l ps ds (i + 1) ≡ 1
  common_one i e = common_more i ∙ ap (λ (g : ℕ). gcd g (l / min (get_or ps i 0) (get_or ds i 0))) e ∙ gcd_one _

  stays : (i k : ℕ) → common_below l ps ds i ≡ 1 → common_below l ps ds (i + k) ≡ 1
  stays i zero e = let z : i + 0 ≡ i = omega arith in rw z e
  stays i (suc k) e = let z : i + suc k ≡ (i + k) + 1 = omega arith in rw z (common_one (i + k) (stays i k e))

  pub common_whole : (i n : ℕ) → i ≤ n → common_below l ps ds i ≡ 1 → common_below l ps ds n ≡ 1
  common_whole i n h e = let z : i + (n - i) ≡ n = omega arith in rw z at (stays i (n - i) e)

  -- one turn of the loop
  pub common_turn : (i g d r : ℕ) → g ≡ common_below l ps ds i → d ≡ l / min (get_or ps i 0) (get_or ds i 0) → r ≡ gcd g d → r ≡ common_below l ps ds (i + 1)
  common_turn i g d r eg ed er = er ∙ ap (λ (x : ℕ). gcd x d) eg ∙ ap (λ (x : ℕ). gcd (common_below l ps ds i) x) ed ∙ sym (common_more i)

-- THE KEPT ORDER
-- the same places, however they were found
pub ahead_same : (xs : List ℕ) (i i' j j' : ℕ) → i ≡ i' → j ≡ j' → ahead xs i j ≡ ahead xs i' j'
ahead_same xs i i' j j' p q = ap (λ (x : ℕ). ahead xs x j) p ∙ ap (λ (x : ℕ). ahead xs i' x) q
