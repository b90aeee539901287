-- The scale is the least common multiple of all q, and a share is exactly e·L/q
use mathlib.Core.Path.{◌≡◌, refl, ap, subst}
use mathlib.Core.Logic.{◌↔◌}
use mathlib.Core.List.{List, [], ◌∷◌}
use Prim.Native.Nat.{ℕ, zero, suc, ◌*◌, ◌/◌, ◌≤◌, ◌<◌, ◌∣◌}
use native.Mathlib.Nat.{mul-le-mul_left, mul-le-mul_right, mul-div-le, le_trans, le_of_dvd, pos_of_dvd_of_pos, eq-one_of_dvd-one, dvd_refl, dvd_trans, dvd-mul_left, dvd-mul_right, one-dvd, dvd_antisymm, div-mul_cancel, div-lt_self, div-eq_of_eq-mul_left}
use native.Mathlib.Omega.{arith}
use lib.ListN.{length}
use Rattle.rules.specs.Table.{Row, shorter}
use Rattle.rules.specs.Exactly.{short_at, Multiple}
use Rattle.rules.specs.Scale.{gcd, lcm, scale_from, scale_of, share_of}
use Rattle.rules.proofs.Euclid.{gcd_divides_left, gcd_divides_right, gcd_greatest, lcm_left, lcm_right, lcm_positive, lcm_least}

-- every q is positive
abbrev pub Positive : List Row → Type 0
Positive rows = (i : ℕ) → i < length rows → 0 < short_at rows i

-- ALONG THE ROWS
pub scale_from_start : (l : ℕ) (rows : List Row) → l ∣ scale_from l rows
unfolding scale_from
scale_from_start l [] = dvd_refl l
scale_from_start l (r ∷ rows) = dvd_trans l (lcm_left l (shorter r)) (scale_from_start (lcm l (shorter r)) rows)

pub scale_from_multiple : (l : ℕ) (rows : List Row) → Multiple rows (scale_from l rows)
unfolding scale_from
scale_from_multiple l [] i h = absurd (omega arith)
scale_from_multiple l (r ∷ rows) zero h = dvd_trans (shorter r) (lcm_right l (shorter r)) (scale_from_start (lcm l (shorter r)) rows)
scale_from_multiple l (r ∷ rows) (suc i) h = scale_from_multiple (lcm l (shorter r)) rows i (omega arith)

pub scale_from_least : (l : ℕ) (rows : List Row) (c : ℕ) → l ∣ c → Multiple rows c → scale_from l rows ∣ c
unfolding scale_from
scale_from_least l [] c p h = p
scale_from_least l (r ∷ rows) c p h = scale_from_least (lcm l (shorter r)) rows c (lcm_least l (shorter r) c p (h 0 (omega arith))) (λ i k. h (suc i) (omega arith))

pub scale_from_positive : (l : ℕ) (rows : List Row) → 0 < l → Positive rows → 0 < scale_from l rows
unfolding scale_from
scale_from_positive l [] p h = p
scale_from_positive l (r ∷ rows) p h = scale_from_positive (lcm l (shorter r)) rows (lcm_positive l (shorter r) p (h 0 (omega arith))) (λ i k. h (suc i) (omega arith))

-- it never falls along the rows
pub scale_from_rises : (l : ℕ) (rows : List Row) → 0 < l → Positive rows → l ≤ scale_from l rows
scale_from_rises l rows p h = le_of_dvd (scale_from_positive l rows p h) (scale_from_start l rows)

-- THE SCALE
pub scale_positive : (rows : List Row) → Positive rows → 0 < scale_of rows
unfolding scale_of
scale_positive rows h = scale_from_positive 1 rows (omega arith) h

-- a multiple of every q
pub scale_multiple : (rows : List Row) → Multiple rows (scale_of rows)
unfolding scale_of
scale_multiple rows = scale_from_multiple 1 rows

-- and it divides every common multiple: the least
pub scale_least : (rows : List Row) (c : ℕ) → Multiple rows c → scale_of rows ∣ c
unfolding scale_of
scale_least rows c h = scale_from_least 1 rows c (one-dvd c) h

-- no other number is a least common multiple
pub scale_unique : (rows : List Row) (l : ℕ) → Multiple rows l → ((c : ℕ) → Multiple rows c → l ∣ c) → l ≡ scale_of rows
scale_unique rows l h least = dvd_antisymm (least (scale_of rows) (scale_multiple rows)) (scale_least rows l h)

-- SHARES
-- nothing is rounded: share·q = e·L
pub share_exact : (l : ℕ) (r : Row) → shorter r ∣ l → share_of l r * shorter r ≡ r.exec * l
unfolding share_of
share_exact l r d = omega (arith, ap (λ z. r.exec * z) (div-mul_cancel (shorter r) d))

-- "a whole number from 1 to L"
pub share_at_most : (l : ℕ) (r : Row) → r.exec ≤ shorter r → share_of l r ≤ l
unfolding share_of
share_at_most l r h = le_trans (mul-le-mul_right (l / shorter r) h) (mul-div-le l (shorter r))

pub share_positive : (l : ℕ) (r : Row) → 0 < l → shorter r ∣ l → 0 < r.exec → 0 < share_of l r
share_positive l r p d h = go (share_of l r) (share_exact l r d)
  where
    go : (x : ℕ) → x * shorter r ≡ r.exec * l → 0 < x
    go zero e = absurd (omega (arith, mul-le-mul_left r.exec p, h))
    go (suc x) e = omega arith

-- A CHEAP TEST THAT THE SCALE IS THE SCALE
-- the greatest common divisor of g and all l/q
unfoldable pub common_from : ℕ → ℕ → List Row → ℕ
common_from g l [] = g
common_from g l (r ∷ rows) = common_from (gcd g (l / shorter r)) l rows

common_start : (g l : ℕ) (rows : List Row) → common_from g l rows ∣ g
unfolding common_from
common_start g l [] = dvd_refl g
common_start g l (r ∷ rows) = dvd_trans _ (common_start (gcd g (l / shorter r)) l rows) (gcd_divides_left g (l / shorter r))

common_divides : (g l : ℕ) (rows : List Row) (i : ℕ) → i < length rows → common_from g l rows ∣ l / short_at rows i
unfolding common_from
common_divides g l [] i h = absurd (omega arith)
common_divides g l (r ∷ rows) zero h = dvd_trans _ (common_start (gcd g (l / shorter r)) l rows) (gcd_divides_right g (l / shorter r))
common_divides g l (r ∷ rows) (suc i) h = common_divides (gcd g (l / shorter r)) l rows i (omega arith)

common_greatest : (g l : ℕ) (rows : List Row) (c : ℕ) → c ∣ g → ((i : ℕ) → i < length rows → c ∣ l / short_at rows i) → c ∣ common_from g l rows
unfolding common_from
common_greatest g l [] c p h = p
common_greatest g l (r ∷ rows) c p h = common_greatest (gcd g (l / shorter r)) l rows c (gcd_greatest g (l / shorter r) c p (h 0 (omega arith))) (λ i k. h (suc i) (omega arith))

-- once it is 1 it stays 1
pub common_one : (l : ℕ) (rows : List Row) → common_from 1 l rows ≡ 1
common_one l rows = eq-one_of_dvd-one (common_start 1 l rows)

-- a common divisor g of l and all l/q leaves a common multiple l/g
fewer : (rows : List Row) (l g : ℕ) → 0 < g → Multiple rows l → g ∣ l → ((i : ℕ) → i < length rows → g ∣ l / short_at rows i) → Multiple rows (l / g)
fewer rows l g p h d k i hi =
    let q = short_at rows i in
    let x = div-mul_cancel q (h i hi) in
    let y = div-mul_cancel g (k i hi) in
    let e : l ≡ l / q / g * q * g = omega (arith, ap (λ z. z * q) y, x) in
    rw (div-eq_of_eq-mul_left p e) (dvd-mul_left q (l / q / g))

pub scale_passes : (rows : List Row) → Positive rows → common_from (scale_of rows) (scale_of rows) rows ≡ 1
scale_passes rows h =
    let l = scale_of rows in
    let p = scale_positive rows h in
    let g = common_from l l rows in
    let d = common_start l l rows in
    let pg : 0 < g = pos_of_dvd_of_pos d p in
    let m = fewer rows l g pg (scale_multiple rows) d (common_divides l l rows) in
    go g pg d (scale_least rows (l / g) m)
  where
    go : (g : ℕ) → 0 < g → g ∣ scale_of rows → scale_of rows ∣ scale_of rows / g → g ≡ 1
    go zero pg d m = absurd (omega arith)
    go (suc zero) pg d m = refl
    go (suc (suc g)) pg d m =
        let p = scale_positive rows h in
        let two : 1 < suc (suc g) = omega arith in
        let s = div-lt_self p two in
        let w : 0 < scale_of rows / suc (suc g) = some (scale_of rows / suc (suc g)) (div-mul_cancel (suc (suc g)) d) in
        absurd (omega (arith, le_of_dvd w m))
      where
        some : (x : ℕ) → x * suc (suc g) ≡ scale_of rows → 0 < x
        some zero e = absurd (omega (arith, scale_positive rows h))
        some (suc x) e = omega arith

pub test_is_scale : (rows : List Row) (l : ℕ) → Positive rows → 0 < l → Multiple rows l → common_from l l rows ≡ 1 → l ≡ scale_of rows
test_is_scale rows l h p m e =
    let s = scale_of rows in
    let ps = scale_positive rows h in
    let d = scale_least rows l m in
    let k = l / s in
    let x : k * s ≡ l = div-mul_cancel s d in
    let each : (i : ℕ) → i < length rows → k ∣ l / short_at rows i = λ i hi.
    (let q = short_at rows i in
    let y : s / q * q ≡ s = div-mul_cancel q (scale_multiple rows i hi) in
    let z : l ≡ k * (s / q) * q = omega (arith, ap (λ w. k * w) y, x) in
    rw (div-eq_of_eq-mul_left (h i hi) z) (dvd-mul_right k (s / q))) in
    let base : k ∣ l = subst (λ (w : ℕ). k ∣ w) x (dvd-mul_right k s) in
    let one : k ≡ 1 = eq-one_of_dvd-one (rw e at (common_greatest l l rows k base each)) in
    omega (arith, ap (λ w. w * s) one, x)

-- L is the scale exactly when every q divides it and the greatest common divisor of all L/q is 1
pub scale_test : (rows : List Row) (l : ℕ) → Positive rows → 0 < l → (l ≡ scale_of rows) ↔ (Multiple rows l × (common_from l l rows ≡ 1))
scale_test rows l h p = (
  λ e. rw e (scale_multiple rows, scale_passes rows h),
  λ t. test_is_scale rows l h p t.0 t.1,
)
