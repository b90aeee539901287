-- Digits, one by one: what is left of a test and of a number from a place on; what a numeral's first digit says
use Prim.Native.Nat.{ℕ, ◌+◌, ◌*◌, ◌-◌, ◌≤◌, ◌<◌}
use mathlib.Core.Path.{◌≡◌, refl}
use mathlib.Core.Bool.{Bool, true, false, not}
use mathlib.Core.List.{List, [], ◌∷◌}
use native.Mathlib.Numerals.{add-one}
use native.Mathlib.Omega.{arith}
use lib.Dec.{eqb, leb}
use lib.ListN.{length, get_or, drop, drop_of_length-le}
use lib.Seq.{drop-cons}
use Rattle.ground.specs.Tests.{every}
use Rattle.ground.proofs.Tests.{of_true, and_says, leb_says}
use Rattle.text.specs.Numbers.{is_digit, plain, spelled_after, most_number, spelled, numeral_of}
use borrow.Author.Tests.{lt-leb}
use Rattle.text.proofs.Numerals.{and_false}
use Rattle.std.specs.Prelude.{None}

module _ (f : ℕ → Bool) (l : List ℕ) (i : ℕ) where
  pub every_on : i < length l → f (get_or l i 0) ≡ true → every f (drop i l) ≡ every f (drop (i + 1) l)
  unfolding every
  every_on h e = rw (drop-cons l i 0 h, e, add-one)

  pub every_stop : i < length l → f (get_or l i 0) ≡ false → every f (drop i l) ≡ false
  unfolding every
  every_stop h e = rw (drop-cons l i 0 h, e)

  pub every_end : length l ≤ i → every f (drop i l) ≡ true
  unfolding every
  every_end h = rw (drop_of_length-le l h)

module _ (v : ℕ) (l : List ℕ) (i : ℕ) where
  pub spelled_on : i < length l → spelled_after v (drop i l) ≡ spelled_after (10 * v + (get_or l i 0 - 48)) (drop (i + 1) l)
  unfolding spelled_after
  spelled_on h = rw (drop-cons l i 0 h, add-one)

  pub spelled_end : length l ≤ i → spelled_after v (drop i l) ≡ v
  unfolding spelled_after
  spelled_end h = rw (drop_of_length-le l h)

pub spelled_more : (v : ℕ) (l : List ℕ) → v ≤ spelled_after v l
unfolding spelled_after
spelled_more v [] = omega arith
spelled_more v (b ∷ l) = omega (arith, spelled_more (10 * v + (b - 48)) l)

-- what `plain` says, by the length
pub plain_none : (p : List ℕ) → length p ≡ 0 → plain p ≡ false
plain_none [] h = refl
plain_none (b ∷ p) h = absurd (omega arith)

pub plain_one : (p : List ℕ) → length p ≡ 1 → plain p ≡ true
plain_one [] h = absurd (omega arith)
plain_one (b ∷ []) h = refl
plain_one (b ∷ d ∷ p) h = absurd (omega arith)

pub plain_more : (p : List ℕ) → (length p ≡ 0 → ⊥) → (length p ≡ 1 → ⊥) → not (eqb (get_or p 0 0) 48) ≡ plain p
plain_more [] h k = absurd (h refl)
plain_more (b ∷ []) h k = absurd (k refl)
plain_more (b ∷ d ∷ p) h k = refl

pub digit_from : (b : ℕ) → is_digit b ≡ true → (48 ≤ b) × (b ≤ 57)
digit_from b e = of_true (is_digit b) (and_says (48 ≤ b) (b ≤ 57) (leb 48 b) (leb b 57) (leb_says 48 b) (leb_says b 57)) e

-- digits that spell more than the most are no number
pub over_most : (p : List ℕ) → most_number < spelled p → numeral_of p ≡ None
unfolding numeral_of
over_most p h = rw (lt-leb (spelled p) most_number h, and_false (every is_digit p), and_false (plain p))
