-- Lists that are made of a range of numbers, or of one value
use mathlib.Core.Path.{◌≡◌, refl, ap}
use mathlib.Core.List.{map}
use Prim.Native.Nat.{ℕ, zero, suc, ◌+◌, ◌<◌}
use native.Mathlib.Nat.{not-suc-le-zero, le_of_suc-le-suc}
use native.Mathlib.Decide.{dec_lt}
use native.Mathlib.Omega.{arith}
use lib.ListN.{length, get_or, replicate, length-replicate, get_or-replicate, get_or-eq_default}
use Rattle.ground.specs.Sums.{up_from}

pub length_up : {A : Type 0} (f : ℕ → A) (i n : ℕ) → length (map f (up_from i n)) ≡ n
unfolding up_from
length_up f i zero = refl
length_up f i (suc n) = ap suc (length_up f (suc i) n)

pub at_up : {A : Type 0} (f : ℕ → A) (d : A) (i n j : ℕ) → j < n → get_or (map f (up_from i n)) j d ≡ f (i + j)
unfolding up_from
at_up f d i zero j h = absurd (not-suc-le-zero h)
at_up f d i (suc n) zero h = let z : i + 0 ≡ i = omega arith in rw z
at_up f d i (suc n) (suc j) h = let z : i + suc j ≡ suc i + j = omega arith in rw z (at_up f d (suc i) n j (le_of_suc-le-suc h))

-- one value everywhere, and past the end too
pub all_one : {A : Type 0} (a : A) (n p : ℕ) → get_or (replicate n a) p a ≡ a
all_one a n p = go (dec_lt p n)
  where
    go : Dec (p < n) → get_or (replicate n a) p a ≡ a
    go (yes h) = get_or-replicate n p a a h
    go (no h) = get_or-eq_default (replicate n a) a {n = p} (let z = length-replicate n a in omega arith)
