-- What the test of every number below a bound says
use mathlib.Core.Path.{◌≡◌}
use mathlib.Core.Bool.{Bool, true, false, ◌&&◌}
use Prim.Native.Nat.{ℕ, zero, suc, ◌<◌}
use native.Mathlib.Decide.{ℕ_discrete}
use native.Mathlib.Nat.{not-suc-le-zero}
use native.Mathlib.Omega.{arith}
use Rattle.ground.specs.Tests.{Says}
use Rattle.queue.specs.Below.{all_below}

pub all_says : (P : ℕ → Type 0) (f : ℕ → Bool) → ((i : ℕ) → Says (P i) (f i)) → (n : ℕ) → Says ((i : ℕ) → i < n → P i) (all_below n f)
unfolding all_below
all_says P f s zero = λ i h. absurd (not-suc-le-zero h)
all_says P f s (suc n) = go (f n) (s n) (all_below n f) (all_says P f s n)
  where
    at_i : (i : ℕ) → i < suc n → P n → ((j : ℕ) → j < n → P j) → Dec (i ≡ n) → P i
    at_i i h p q (yes e) = rw e p
    at_i i h p q (no e) = q i (omega arith)

    go : (a : Bool) → Says (P n) a → (b : Bool) → Says ((i : ℕ) → i < n → P i) b → Says ((i : ℕ) → i < suc n → P i) (a && b)
    go true p true q = λ i h. at_i i h p q (ℕ_discrete i n)
    go true p false q = λ r. q (λ i h. r i (omega arith))
    go false p b q = λ r. p (r n (omega arith))
