-- What is written reads back
use Rattle.std.specs.Prelude.{if◌then◌else◌, Some}
use Prim.Native.Nat.{ℕ, zero, suc, ◌+◌, ◌-◌, ◌*◌, ◌/◌, ◌%◌, ◌≤◌, ◌<◌}
use mathlib.Core.Path.{◌≡◌, refl, ap, ◌∙◌}
use mathlib.Core.Bool.{Bool, true, false, ◌&&◌}
use mathlib.Core.List.{List, [], ◌∷◌, ◌++◌}
use native.Mathlib.Nat.{mod-lt, mod-add-div}
use native.Mathlib.Omega.{arith}
use borrow.Author.Tests.{le-leb, ne_eqb}
use lib.Dec.{ltb}
use Rattle.ground.specs.Tests.{every, Says}
use Rattle.ground.proofs.Tests.{ltb_says}
use Rattle.text.specs.Numbers.{most_number, is_digit, plain, spelled_after, spelled, numeral_of}
use Rattle.print.specs.Decimals.{digits, decimal_of}
use Rattle.text.proofs.Numerals.{a_number}
use Rattle.print.proofs.Decimals.{Enough, enough_less, digits_last, digits_more, tenth}

spelled_append : (v : ℕ) (a b : List ℕ) → spelled_after v (a ++ b) ≡ spelled_after (spelled_after v a) b
unfolding spelled_after
spelled_append v [] b = refl
spelled_append v (x ∷ a) b = spelled_append (10 * v + (x - 48)) a b

-- the digits of a number spell it
pub spelled_digits : (n x : ℕ) → Enough n x → spelled (digits n x) ≡ x
unfolding digits spelled_after
spelled_digits zero x e = absurd (omega arith)
spelled_digits (suc n) x e = go (ltb x 10) (ltb_says x 10) (spelled_digits n (x / 10))
  where
    go : (t : Bool) → Says (x < 10) t → (Enough n (x / 10) → spelled (digits n (x / 10)) ≡ x / 10)
        → spelled (if t then (48 + x) ∷ [] else digits n (x / 10) ++ ((48 + x % 10) ∷ [])) ≡ x
    go true h f = omega arith
    go false h f =
        let r = f (enough_less n x e.1 (omega arith)) in
        spelled_append 0 (digits n (x / 10)) ((48 + x % 10) ∷ [])
        ∙ ap (λ (v : ℕ). spelled_after v ((48 + x % 10) ∷ [])) r
        ∙ omega (arith, mod-add-div x 10)

every_append : (a b : List ℕ) → every is_digit a ≡ true → every is_digit b ≡ true → every is_digit (a ++ b) ≡ true
unfolding every
every_append [] b ea eb = eb
every_append (x ∷ a) b ea eb = go (is_digit x) ea (λ f. every_append a b f eb)
  where
    go : (t : Bool) → (t && every is_digit a) ≡ true → (every is_digit a ≡ true → every is_digit (a ++ b) ≡ true) → (t && every is_digit (a ++ b)) ≡ true
    go true e f = f e
    go false e f = e

is_digit_lem : (d : ℕ) → d < 10 → every is_digit ((48 + d) ∷ []) ≡ true
unfolding every
is_digit_lem d h = rw (le-leb 48 (48 + d) (omega arith), le-leb (48 + d) 57 (omega arith))

pub every_digits : (n x : ℕ) → every is_digit (digits n x) ≡ true
unfolding digits every
every_digits zero x = refl
every_digits (suc n) x = go (ltb x 10) (ltb_says x 10) (every_digits n (x / 10))
  where
    go : (t : Bool) → Says (x < 10) t → every is_digit (digits n (x / 10)) ≡ true → every is_digit (if t then (48 + x) ∷ [] else digits n (x / 10) ++ ((48 + x % 10) ∷ [])) ≡ true
    go true h f = is_digit_lem x h
    go false h f = let pos : 0 < 10 = omega arith in every_append (digits n (x / 10)) ((48 + x % 10) ∷ []) f (is_digit_lem (x % 10) (mod-lt x pos))

-- the first digit of a number that is not 0 is not 0
first_digit : (n x : ℕ) → Enough n x → 1 ≤ x → (b : ℕ) × (l : List ℕ) × (digits n x ≡ b ∷ l) × (b ≡ 48 → ⊥)
unfolding digits
first_digit zero x e p = absurd (omega arith)
first_digit (suc n) x e p = go (ltb x 10) (ltb_says x 10) (first_digit n (x / 10))
  where
    go : (t : Bool) → Says (x < 10) t → (Enough n (x / 10) → 1 ≤ x / 10 → (b : ℕ) × (l : List ℕ) × (digits n (x / 10) ≡ b ∷ l) × (b ≡ 48 → ⊥))
        → (b : ℕ) × (l : List ℕ) × ((if t then (48 + x) ∷ [] else digits n (x / 10) ++ ((48 + x % 10) ∷ [])) ≡ b ∷ l) × (b ≡ 48 → ⊥)
    go true h f = (48 + x, [], refl, λ q. omega arith)
    go false h f =
        let r = f (enough_less n x e.1 (omega arith)) (tenth 1 x (omega arith)) in
        (r.0, r.1 ++ ((48 + x % 10) ∷ []), ap (λ (l : List ℕ). l ++ ((48 + x % 10) ∷ [])) r.2, r.3)

plain_first : (b d : ℕ) (l : List ℕ) → (b ≡ 48 → ⊥) → plain (b ∷ (l ++ (d ∷ []))) ≡ true
plain_first b d [] h = rw (ne_eqb b 48 h)
plain_first b d (x ∷ l) h = rw (ne_eqb b 48 h)

-- no leading zero unless 0 itself
pub plain_digits : (n x : ℕ) → Enough n x → plain (digits n x) ≡ true
plain_digits n x e = go (ltb x 10) (ltb_says x 10)
  where
    go : (t : Bool) → Says (x < 10) t → plain (digits n x) ≡ true
    go true h = ap plain (digits_last n x e.0 h)
    go false h =
        let t = digits_more n x e (omega arith) in
        let f = first_digit t.0 (x / 10) t.2 (tenth 1 x (omega arith)) in
        ap plain (t.3 ∙ ap (λ (l : List ℕ). l ++ ((48 + x % 10) ∷ [])) f.2) ∙ plain_first f.0 (48 + x % 10) f.1 f.3

-- 20 digits are enough for 64 bits
enough : (x : ℕ) → x < 18446744073709551616 → Enough 20 x
enough x h = (omega arith, omega arith)

pub decimal_spells : (x : ℕ) → x < 18446744073709551616 → spelled (decimal_of x) ≡ x
decimal_spells x h = spelled_digits 20 x (enough x h)

pub decimal_plain : (x : ℕ) → x < 18446744073709551616 → plain (decimal_of x) ≡ true
decimal_plain x h = plain_digits 20 x (enough x h)

pub decimal_reads : (x : ℕ) → x ≤ most_number → numeral_of (decimal_of x) ≡ Some x
decimal_reads x h =
    let k : x < 18446744073709551616 = omega arith in a_number (decimal_of x) x (decimal_plain x k) (every_digits 20 x) (decimal_spells x k) h
