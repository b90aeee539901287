-- The numbers i, i + 1, … in a row, and how often a number stands in a list
use mathlib.Core.Path.{◌≡◌, refl, sym, ◌∙◌, ap}
use mathlib.Core.Bool.{Bool, true, false}
use mathlib.Core.Logic.{◌≢◌}
use mathlib.Core.List.{List, [], ◌∷◌}
use Prim.Native.Nat.{ℕ, zero, suc, ◌+◌, ◌-◌, ◌≤◌, ◌<◌}
use native.Mathlib.Omega.{arith}
use lib.Dec.{eqb}
use lib.ListN.{length, get_or}
use Rattle.ground.specs.Tests.{Says}
use Rattle.ground.specs.Sums.{sum_of, up_from, same, times}
use Rattle.ground.proofs.Tests.{eqb_says, if_by}

-- THE PLACES FROM i ON, PUT IN ONE AFTER ANOTHER
-- the first of n - i places that are left
pub up_turn : (i n : ℕ) → i < n → up_from i (n - i) ≡ i ∷ up_from (i + 1) (n - (i + 1))
unfolding up_from
up_turn i n h = go (n - i) (omega arith)
  where
    go : (k : ℕ) → k ≡ suc (n - (i + 1)) → up_from i k ≡ i ∷ up_from (i + 1) (n - (i + 1))
    go k e = let s : suc i ≡ i + 1 = omega arith in ap (up_from i) e ∙ ap (λ (x : ℕ). i ∷ up_from x (n - (i + 1))) s

pub up_end : (i n : ℕ) → n ≤ i → up_from i (n - i) ≡ []
unfolding up_from
up_end i n h = let z : n - i ≡ 0 = omega arith in ap (up_from i) z

pub up_length : (i n : ℕ) → length (up_from i n) ≡ n
unfolding up_from
up_length i zero = refl
up_length i (suc n) = ap suc (up_length (suc i) n)

pub up_at : (i n k : ℕ) → k < n → get_or (up_from i n) k 0 ≡ i + k
unfolding up_from
up_at i zero k h = absurd (omega arith)
up_at i (suc n) zero h = omega arith
up_at i (suc n) (suc k) h = up_at (suc i) n k (omega arith) ∙ omega arith

pub same_yes : (x y : ℕ) → x ≡ y → same x y ≡ 1
same_yes x y e = if_by (λ (v : ℕ). v ≡ 1) (eqb x y) (eqb_says x y) (λ p. refl) (λ n. absurd (n e))

pub same_no : (x y : ℕ) → ¬ (x ≡ y) → same x y ≡ 0
same_no x y n = if_by (λ (v : ℕ). v ≡ 0) (eqb x y) (eqb_says x y) (λ p. absurd (n p)) (λ q. refl)

pub same_swap : (x y : ℕ) → same x y ≡ same y x
same_swap x y = if_by (λ (v : ℕ). v ≡ same y x) (eqb x y) (eqb_says x y) (λ p. sym (same_yes y x (sym p))) (λ n. sym (same_no y x (λ p. n (sym p))))

pub up_none : (x i n : ℕ) → x < i → times x (up_from i n) ≡ 0
unfolding up_from sum_of
up_none x i zero h = refl
up_none x i (suc n) h = omega (arith, same_no x i (omega arith), up_none x (suc i) n (omega arith))

pub up_past : (x i n : ℕ) → i + n ≤ x → times x (up_from i n) ≡ 0
unfolding up_from sum_of
up_past x i zero h = refl
up_past x i (suc n) h = omega (arith, same_no x i (omega arith), up_past x (suc i) n (omega arith))

pub up_once : (x i n : ℕ) → i ≤ x → x < i + n → times x (up_from i n) ≡ 1
unfolding up_from sum_of
up_once x i zero h k = absurd (omega arith)
up_once x i (suc n) h k = go (eqb x i) (eqb_says x i) (up_once x (suc i) n)
  where
    go : (t : Bool) → Says (x ≡ i) t → (suc i ≤ x → x < suc i + n → times x (up_from (suc i) n) ≡ 1) → same x i + times x (up_from (suc i) n) ≡ 1
    go true e ih = omega (arith, same_yes x i e, up_none x (suc i) n (omega arith))
    go false e ih = omega (arith, same_no x i e, ih (omega arith) (omega arith))

-- an entry that is there has a place
pub times_place : (x : ℕ) (order : List ℕ) → 0 < times x order → (k : ℕ) × (k < length order) × (get_or order k 0 ≡ x)
unfolding sum_of
times_place x [] h = absurd (omega arith)
times_place x (y ∷ l) h = go (eqb x y) (eqb_says x y) (times_place x l)
  where
    go : (t : Bool) → Says (x ≡ y) t → (0 < times x l → (k : ℕ) × (k < length l) × (get_or l k 0 ≡ x)) → (k : ℕ) × (k < length (y ∷ l)) × (get_or (y ∷ l) k 0 ≡ x)
    go true e ih = (0, omega arith, sym e)
    go false e ih = let r = ih (omega (arith, h, same_no x y e)) in (suc r.0, omega arith, r.2)

pub by_same : (P : ℕ → Type 0) (a b : ℕ) → (a ≡ b → P 1) → (a ≢ b → P 0) → P (same a b)
by_same P a b f g = if_by P (eqb a b) (eqb_says a b) f g

pub times_cons : (x y : ℕ) (l : List ℕ) → times x (y ∷ l) ≡ same x y + times x l
unfolding sum_of
times_cons x y l = refl
