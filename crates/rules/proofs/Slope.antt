-- The sum clause as time passes: A amounts, S shares, R left, k running, d passing
use mathlib.Core.Path.{◌≡◌}
use mathlib.Core.Logic.{◌⊎◌, inl, inr}
use Prim.Native.Nat.{ℕ, ◌+◌, ◌*◌, ◌-◌, ◌≤◌}
use native.Mathlib.Nat.{mul-le-mul_left, mul-le-mul_right}
use native.Mathlib.Decide.{dec_le}
use native.Mathlib.Omega.{arith}

-- S ≤ k·L: the slope of the left side is at least that of the right one
slope : (A L S R k d : ℕ) → d ≤ R → k * d ≤ A → A * L ≤ S * R → S ≤ k * L → (A - k * d) * L ≤ S * (R - d)
slope A L S R k d hd hk h hs =
    let f1 : (A - k * d + k * d) * L ≤ A * L = mul-le-mul_right L (omega arith) in
    let f2 : S * R ≤ S * (R - d + d) = mul-le-mul_left S (omega arith) in
    omega (arith, mul-le-mul_right d hs)

-- k·L ≤ S and every one of k amounts at most R: below the line through the end
under : (A L S R k d : ℕ) → d ≤ R → k * d ≤ A → A ≤ k * R → k * L ≤ S → (A - k * d) * L ≤ S * (R - d)
under A L S R k d hd hk ha hs =
    let f1 : k * R ≤ k * (R - d + d) = mul-le-mul_left k (omega arith) in
    let f2 : A - k * d ≤ k * (R - d) = omega arith in
    omega (arith, mul-le-mul_right L f2, mul-le-mul_right (R - d) hs)

pub key : (A L S R k d m : ℕ) → d ≤ R → k * d ≤ A → A * L ≤ S * R → ((k ≡ m) × (S ≤ m * L)) ⊎ (A ≤ k * R)
    → (A - k * d) * L ≤ S * (R - d)
key A L S R k d m hd hk h (inl (e)) = slope A L S R k d hd hk h (rw e.0 e.1)
key A L S R k d m hd hk h (inr ha) = go (dec_le S (k * L))
  where
    go : Dec (S ≤ k * L) → (A - k * d) * L ≤ S * (R - d)
    go (yes hs) = slope A L S R k d hd hk h hs
    go (no hs) = under A L S R k d hd hk ha (omega arith)
