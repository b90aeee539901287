-- Ticks, the scale and amounts: what comes before the end
use mathlib.Core.Path.{◌≡◌, ap}
use Prim.Native.Nat.{ℕ, zero, suc, ◌+◌, ◌*◌, ◌-◌, ◌/◌, ◌≤◌, ◌<◌}
use native.Mathlib.Nat.{mul-le-mul_right, mul-le-mul, mod-add-div}
use native.Mathlib.Decide.{dec_lt}
use native.Mathlib.Omega.{arith}

-- an instant before a whole tick: there is a scale, and the present tick is before it
pub scale_some : (now e scale : ℕ) → now < e * scale → 0 < scale
scale_some now e zero h = absurd (omega arith)
scale_some now e (suc k) h = omega arith

pub tick_before : (now e scale : ℕ) → now < e * scale → now / scale < e
tick_before now e scale h = go (dec_lt (now / scale) e)
  where
    go : Dec (now / scale < e) → now / scale < e
    go (yes q) = q
    go (no q) = let z : e ≤ now / scale = omega arith in absurd (omega (arith, mul-le-mul_right scale z, mod-add-div now scale))

-- a share times the ticks from a tick to the end: more than nothing, and from that tick on it comes before the end
pub amount_some : (share tick e : ℕ) → 0 < share → tick < e → 0 < share * (e - tick)
amount_some share tick e h g = let len : 0 < e - tick = omega arith in mul-le-mul h len

pub amount_in_time : (share scale tick e : ℕ) → share ≤ scale → tick < e → tick * scale + share * (e - tick) ≤ e * scale
amount_in_time share scale tick e h g =
    let z : e ≡ e - tick + tick = omega arith in
    omega (arith, mul-le-mul_right (e - tick) h, ap (λ (x : ℕ). x * scale) z)
