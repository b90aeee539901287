-- Bounds that the tests of the queues give the code, so that no sum and no product wraps
use mathlib.Core.Path.{◌≡◌}
use mathlib.Core.Bool.{true}
use mathlib.Core.List.{List}
use Prim.Native.Nat.{ℕ, ◌+◌, ◌*◌, ◌-◌, ◌≤◌, ◌/◌, ◌%◌, ◌<◌}
use native.Mathlib.Nat.{mul-le-mul, mul-le-mul_right, mul-le-mul_left, div-le_of_le-mul, div-le_self, mod-lt}
use native.Mathlib.Omega.{arith}
use lib.ListN.{get_or}
use Rattle.rules.specs.Bounds.{clock, most_scale}
use Rattle.together_rows.proofs.Folds.{sum_bound}
use Rattle.together_queues.specs.Amounts.{run_sum, longest}
use Rattle.together_queues.specs.Entries.{keys_ok}
use Rattle.together_queues.proofs.Entries.{key_in}

-- THE SUM CLAUSE
pub record Fits (scale left shares : ℕ) : Type 0 where
  pub whole : shares * (left / scale) ≤ 9223372036854775807
  pub part : shares * (left % scale) ≤ 4611686018427387904
  pub both : shares * (left / scale) + shares * (left % scale) / scale ≤ 18446744073709551615

pub sum_parts : (scale left shares : ℕ) → 0 < scale → scale ≤ most_scale → left ≤ longest * scale → shares ≤ 16 * most_scale → Fits scale left shares
sum_parts scale left shares p h k s =
    let t : left / scale ≤ longest = div-le_of_le-mul scale (omega arith) in
    let r : left % scale ≤ most_scale = omega (arith, mod-lt left {m = scale} p) in
    let a : shares * (left / scale) ≤ 16 * most_scale * longest = mul-le-mul {n₂ = 16 * most_scale} {m₂ = longest} s t in
    let b : shares * (left % scale) ≤ 16 * most_scale * most_scale = mul-le-mul {n₂ = 16 * most_scale} {m₂ = most_scale} s r in
    record { whole = omega arith; part = omega arith; both = omega (arith, div-le_self (shares * (left % scale)) scale) }

-- AMOUNTS
-- what is left of a plane that ends soon enough
pub left_small : (scale now end : ℕ) → scale ≤ most_scale → end ≤ now + longest * scale → end ≤ now + longest * most_scale
left_small scale now end h k = omega (arith, mul-le-mul_left longest h)

-- the running amounts' sum, and as many whole lengths as tasks wait
pub run_fits : (now end : ℕ) (keys tasks : List ℕ) (n : ℕ) → keys_ok now end keys tasks n ≡ true → n ≤ 128 → end ≤ now + longest * most_scale → run_sum now keys n ≤ 128 * (longest * most_scale)
run_fits now end keys tasks n e h l =
    omega (
      arith,
      sum_bound (λ j. get_or keys j 0 - now) (longest * most_scale) n (λ i k. let r = key_in now end keys tasks n i e k in omega arith),
      mul-le-mul_right (longest * most_scale) h,
    )

pub wait_fits : (n now end : ℕ) → n ≤ 128 → end ≤ now + longest * most_scale → n * (end - now) ≤ 128 * (longest * most_scale)
wait_fits n now end h l = let d : end - now ≤ longest * most_scale = omega arith in mul-le-mul {n₂ = 128} {m₂ = longest * most_scale} h d

-- THE END
-- the end in sub-ticks fits
pub end_fits : (end scale : ℕ) → end ≤ clock + longest → scale ≤ most_scale → end * scale ≤ 1152921504606846976
end_fits end scale h k = let m : end * scale ≤ (clock + longest) * most_scale = mul-le-mul {n₂ = clock + longest} {m₂ = most_scale} h k in omega arith
