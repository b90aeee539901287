-- Euclid's rule finds the greatest common divisor, and from it the least common multiple
use mathlib.Core.Path.{◌≡◌, refl, sym, ◌∙◌, ap}
use mathlib.Core.Bool.{Bool, true, false}
use Prim.Native.Nat.{ℕ, zero, suc, ◌*◌, ◌/◌, ◌%◌, ◌≤◌, ◌<◌, ◌∣◌}
use native.Mathlib.Nat.{le-mul_of_pos_right, mod-lt, div-add-mod', mul-div-mul_left, mul-le-mul, mul-pos, dvd-zero, dvd-mul_left, dvd-mul_right, div-mul_cancel, mul-dvd-mul_left, pos_of_dvd_of_pos}
use native.Mathlib.Omega.{arith}
use lib.Dec.{eqb}
use Rattle.std.specs.Int.{IsGcd}
use Rattle.std.proofs.lemmas.Nat.Gcd.{IsGcd-from_zero, IsGcd-from_mod}
use Rattle.ground.specs.Tests.{Says}
use Rattle.ground.proofs.Tests.{eqb_says}
use Rattle.rules.specs.Scale.{gcd_in, gcd, lcm}

-- ONE TURN OF THE RULE
-- with no second number the answer is the first
pub gcd_none : (n a b : ℕ) → b ≡ 0 → gcd_in n a b ≡ a
unfolding gcd_in
gcd_none zero a b e = refl
gcd_none (suc n) a b e = go (eqb b 0) (eqb_says b 0)
  where
    go : (t : Bool) → Says (b ≡ 0) t → elim t [ true ↦ a | false ↦ gcd_in n b (a % b) ] ≡ a
    go true s = refl
    go false s = absurd (s e)

-- any two numbers of falls that are enough give the same
gcd_enough : (n k a b : ℕ) → b ≤ n → b ≤ k → gcd_in n a b ≡ gcd_in k a b
unfolding gcd_in
gcd_enough zero k a b h g = sym (gcd_none k a b (omega arith))
gcd_enough (suc n) zero a b h g = gcd_none (suc n) a b (omega arith)
gcd_enough (suc n) (suc k) a b h g = go (eqb b 0) (eqb_says b 0) (λ r. gcd_enough n k b (a % b) (omega (arith, mod-lt a {m = b} r)) (omega (arith, mod-lt a {m = b} r)))
  where
    go : (t : Bool) → Says (b ≡ 0) t → (0 < b → gcd_in n b (a % b) ≡ gcd_in k b (a % b))
        → ◌≡◌ {A = ℕ} (elim t [ true ↦ a | false ↦ gcd_in n b (a % b) ]) (elim t [ true ↦ a | false ↦ gcd_in k b (a % b) ])
    go true e ih = refl
    go false e ih = ih (omega arith)

pub gcd_end : (a b : ℕ) → b ≡ 0 → gcd a b ≡ a
unfolding gcd
gcd_end a b e = gcd_none (suc b) a b e

pub gcd_turn : (a b : ℕ) → ¬ (b ≡ 0) → gcd b (a % b) ≡ gcd a b
unfolding gcd gcd_in
gcd_turn a b h = go (eqb b 0) (eqb_says b 0)
  where
    go : (t : Bool) → Says (b ≡ 0) t → gcd_in (suc (a % b)) b (a % b) ≡ elim t [ true ↦ a | false ↦ gcd_in b b (a % b) ]
    go true s = absurd (h s)
    go false s = gcd_enough (suc (a % b)) b b (a % b) (omega arith) (omega (arith, mod-lt a {m = b} (omega arith)))

-- THE GREATEST COMMON DIVISOR
gcd_in_is : (n a b : ℕ) → b < n → IsGcd a b (gcd_in n a b)
unfolding gcd_in
gcd_in_is zero a b h = absurd (omega arith)
gcd_in_is (suc n) a b h = go (eqb b 0) (eqb_says b 0) (λ p. gcd_in_is n b (a % b) p)
  where
    go : (t : Bool) → Says (b ≡ 0) t → (a % b < n → IsGcd b (a % b) (gcd_in n b (a % b))) → IsGcd a b (elim t [ true ↦ a | false ↦ gcd_in n b (a % b) ])
    go true e ih = IsGcd-from_zero a b e
    go false e ih = let hb : 0 < b = omega arith in IsGcd-from_mod a b (gcd_in n b (a % b)) (ih (omega (arith, mod-lt a hb)))

pub gcd_is : (a b : ℕ) → IsGcd a b (gcd a b)
unfolding gcd
gcd_is a b = gcd_in_is (suc b) a b (omega arith)

-- it divides both
pub gcd_divides_left : (a b : ℕ) → gcd a b ∣ a
gcd_divides_left a b = (gcd_is a b).0

pub gcd_divides_right : (a b : ℕ) → gcd a b ∣ b
gcd_divides_right a b = (gcd_is a b).1

-- every common divisor divides it
pub gcd_greatest : (a b c : ℕ) → c ∣ a → c ∣ b → c ∣ gcd a b
gcd_greatest a b c p q = (gcd_is a b).2 c p q

pub gcd_positive : (a b : ℕ) → 0 < a → 0 < gcd a b
gcd_positive a b h = pos_of_dvd_of_pos (gcd_divides_left a b) h

-- THE LEAST COMMON MULTIPLE
mod_scaled : (x a b : ℕ) → 0 < x → (x * a) % (x * b) ≡ x * (a % b)
mod_scaled x a b h =
    let d = rw (mul-div-mul_left a b h) at (div-add-mod' (x * a) (x * b)) in
    omega (arith, d, ap (λ z. x * z) (div-add-mod' a b))

gcd_in_scaled : (n a b x : ℕ) → 0 < x → gcd_in n (x * a) (x * b) ≡ x * gcd_in n a b
unfolding gcd_in
gcd_in_scaled zero a b x h = refl
gcd_in_scaled (suc n) a b x h = go (eqb (x * b) 0) (eqb_says (x * b) 0) (eqb b 0) (eqb_says b 0) (gcd_in_scaled n b (a % b) x h)
  where
    go : (s : Bool) → Says (x * b ≡ 0) s → (t : Bool) → Says (b ≡ 0) t → gcd_in n (x * b) (x * (a % b)) ≡ x * gcd_in n b (a % b)
        → elim s [ true ↦ x * a | false ↦ gcd_in n (x * b) ((x * a) % (x * b)) ] ≡ x * (elim t [ true ↦ a | false ↦ gcd_in n b (a % b) ])
    go true p true q ih = refl
    go true p false q ih = let hb : 0 < b = omega arith in absurd (omega (arith, mul-le-mul h hb))
    go false p true q ih = absurd (p (rw q (omega arith)))
    go false p false q ih = rw (mod_scaled x a b h) ih

gcd_scaled : (x a b : ℕ) → 0 < x → gcd (x * a) (x * b) ≡ x * gcd a b
unfolding gcd
gcd_scaled x a b h =
    gcd_in_scaled (suc (x * b)) a b x h
    ∙ ap (λ z. x * z) (gcd_enough (suc (x * b)) (suc b) a b (omega (arith, le-mul_of_pos_right b h)) (omega arith))

-- it is a multiple of both
pub lcm_left : (a b : ℕ) → a ∣ lcm a b
unfolding lcm
lcm_left a b =
    let g = gcd a b in
    let x = div-mul_cancel g (gcd_divides_left a b) in
    let y = div-mul_cancel g (gcd_divides_right a b) in
    let e : a / g * b ≡ a * (b / g) = omega (arith, ap (λ z. a / g * z) y, ap (λ z. z * (b / g)) x) in
    rw e (dvd-mul_right a (b / g))

pub lcm_right : (a b : ℕ) → b ∣ lcm a b
unfolding lcm
lcm_right a b = dvd-mul_left b (a / gcd a b)

pub lcm_positive : (a b : ℕ) → 0 < a → 0 < b → 0 < lcm a b
unfolding lcm
lcm_positive a b ha hb = mul-pos (go (a / gcd a b) (div-mul_cancel (gcd a b) (gcd_divides_left a b))) hb
  where
    go : (x : ℕ) → x * gcd a b ≡ a → 0 < x
    go zero e = absurd (omega arith)
    go (suc x) e = omega arith

-- it divides every common multiple
pub lcm_least : (a b c : ℕ) → a ∣ c → b ∣ c → lcm a b ∣ c
unfolding lcm
lcm_least a b c p q = go (c / a) (div-mul_cancel a p)
  where
    go : (x : ℕ) → x * a ≡ c → a / gcd a b * b ∣ c
    go zero e = let z : c ≡ 0 = omega arith in rw z (dvd-zero _)
    go (suc x) e =
        let big : b ∣ suc x * gcd a b = rw (gcd_scaled (suc x) a b (omega arith)) at (gcd_greatest (suc x * a) (suc x * b) b (rw e q) (dvd-mul_left b (suc x))) in
        let s : a / gcd a b * (suc x * gcd a b) ≡ c = omega (arith, ap (λ z. suc x * z) (div-mul_cancel (gcd a b) (gcd_divides_left a b)), e) in
        rw s at (mul-dvd-mul_left b (a / gcd a b) big)
