-- Bounds that the tests of rows give the code, so that no sum and no product wraps
use Rattle.std.specs.Prelude.{if◌then◌else◌}
use mathlib.Core.Path.{◌≡◌, ap, refl}
use mathlib.Core.Bool.{Bool, true, false, ◌&&◌}
use mathlib.Core.List.{List}
use Prim.Native.Nat.{ℕ, ◌+◌, ◌*◌, ◌/◌, ◌%◌, ◌≤◌, ◌<◌, min}
use native.Mathlib.Nat.{mul-le-mul, mul-le-mul_right, div-le_of_le-mul, div-le_self, div-add-mod'}
use native.Mathlib.Omega.{arith}
use borrow.Author.Tests.{leb-true, eqb-true}
use lib.Dec.{leb, eqb}
use lib.ListN.{get_or}
use Rattle.table.specs.Rows.{share_sum_of}
use Rattle.ground.specs.Sums.{sum_of, up_from}
use Rattle.ground.proofs.Tests.{leb_says, of_true}
use Rattle.rules.specs.Bounds.{clock, most_scale, most_ticks}
use Rattle.rules.specs.Scale.{share_of}
use Rattle.rules.proofs.Scale.{share_at_most}
use Rattle.together_rows.specs.Tables.{row_ok, share_ok}
use Rattle.together_rows.specs.Jobs.{last_ok, lasts_ok, ceil_of, awake_sum, soonest_of}
use Rattle.together_rows.proofs.Tables.{row_ok_says}
use Rattle.together_rows.proofs.Folds.{and_both, all_at, sum_more, sum_bound, sum_mono}

-- LAST ARRIVALS
pub last_small : (arrived awake : Bool) (last tick : ℕ) → last_ok arrived awake last tick ≡ true → (awake ≡ true → last ≤ tick) × (arrived ≡ true → last ≤ tick)
last_small true awake last tick e = let h = of_true (leb last tick) (leb_says last tick) e in ((λ _. h), λ _. h)
last_small false true last tick e = cc
last_small false false last tick e = ((λ q. cc), λ q. cc)

-- a last arrival that was is by the present tick
pub lasts_small : (arrived awake : List Bool) (last : List ℕ) (tick n i : ℕ) → lasts_ok arrived awake last tick n ≡ true → i < n
    → (get_or awake i false ≡ true → get_or last i 0 ≤ tick) × (get_or arrived i false ≡ true → get_or last i 0 ≤ tick)
unfolding lasts_ok
lasts_small arrived awake last tick n i e h =
    last_small (get_or arrived i false) (get_or awake i false) (get_or last i 0) tick
    (all_at (λ j. last_ok (get_or arrived j false) (get_or awake j false) (get_or last j 0) tick) n i e h)

-- LIMITS
pub soonest_small : (arrived : Bool) (last p ceil : ℕ) → (arrived ≡ true → last ≤ clock) → ceil ≤ clock + 1 → soonest_of arrived last p ceil ≤ clock + 1 + p
soonest_small true last p ceil h k = let x = h refl in omega arith
soonest_small false last p ceil h k = omega arith

-- THE INSTANT
pub tick_small : (now scale : ℕ) → 0 < scale → now ≤ clock * scale → now / scale ≤ clock
tick_small now scale p h = div-le_of_le-mul scale (omega arith)

pub ceil_small : (now scale : ℕ) → ceil_of now scale ≤ now / scale + 1
ceil_small now scale = go (eqb (now % scale) 0)
  where
    go : (b : Bool) → (if b then now / scale else now / scale + 1) ≤ now / scale + 1
    go true = omega arith
    go false = omega arith

-- SUMS
-- a sum of n terms of at most b, and one more term, where n is below 128
pub sum_fits : (f : ℕ → ℕ) (b i : ℕ) → i < 128 → ((j : ℕ) → j < i + 1 → f j ≤ b) → sum_of f (up_from 0 i) + f i ≤ 128 * b
sum_fits f b i h k =
    let e : i + 1 ≤ 128 = omega arith in
    omega (arith, sum_more f i, sum_bound f b (i + 1) k, mul-le-mul_right b e)

pub if_small : (b : Bool) (x : ℕ) → (if b then x else 0) ≤ x
if_small true x = omega arith
if_small false x = omega arith

-- the awake tasks' shares sum to no more than all shares
pub awake_small : (awake : List Bool) (xs : List ℕ) (n : ℕ) → awake_sum awake xs n ≤ share_sum_of xs n
awake_small awake xs n = sum_mono (λ i. if get_or awake i false then get_or xs i 0 else 0) (λ i. get_or xs i 0) n (λ i h. if_small (get_or awake i false) (get_or xs i 0))

-- ROWS
pub record RowSmall (p e d : ℕ) : Type 0 where
  pub some : 0 < min p d
  pub period : p ≤ most_ticks
  pub exec : e ≤ most_ticks
  pub short : min p d ≤ most_ticks
  pub within : e ≤ min p d

-- a row that passes
pub row_within : (p x d : ℕ) → row_ok p x d ≡ true → RowSmall p x d
row_within p x d e =
    let r = of_true (row_ok p x d) (row_ok_says (record { period = p; exec = x; deadline = d })) e in
    record {
      some = let a = r.0.0.0 in let b = r.0.2.0 in omega arith;
      period = r.0.0.1;
      exec = r.0.1.1;
      short = let a = r.0.0.1 in omega arith;
      within = r.1;
    }

-- SHARES
pub share_fits : (e d scale q : ℕ) → e ≤ most_ticks → scale ≤ most_scale → d ≡ scale / q → (d * q ≤ scale) × (e * d ≤ 140737488355328)
share_fits e d scale q h k z =
    let s : d ≤ most_scale = omega (arith, div-le_self scale q) in
    let m : e * d ≤ most_ticks * most_scale = mul-le-mul {n₂ = most_ticks} {m₂ = most_scale} h s in
    (omega (arith, ap (λ (x : ℕ). x * q) z, div-add-mod' scale q), omega arith)

-- a share that passes is at most L
pub share_within : (l p e d x : ℕ) → row_ok p e d ≡ true → share_ok l (min p d) e x ≡ true → x ≤ l
unfolding share_of
share_within l p e d x r s =
    let q = min p d in
    let y = eqb-true x (e * (l / q)) (and_both (eqb (l / q * q) l) _ s).1 in
    let m = share_at_most l (record { period = p; exec = e; deadline = d }) (row_within p e d r).within in
    omega arith

-- TWO BOUNDS
pub within : (a x b : ℕ) → leb a x && leb x b ≡ true → (a ≤ x) × (x ≤ b)
within a x b e = let r = and_both (leb a x) (leb x b) e in (leb-true a x r.0, leb-true x b r.1)

-- m·L fits
pub most_fits : (m scale : ℕ) → m ≤ 16 → scale ≤ most_scale → m * scale ≤ 16 * most_scale
most_fits m scale h k = mul-le-mul {n₂ = 16} {m₂ = most_scale} h k
