-- Bounds that the tests of the rows give the plane: it ends soon
use mathlib.Core.Path.{◌≡◌, refl}
use mathlib.Core.Bool.{Bool, true, false}
use mathlib.Core.List.{List}
use Prim.Native.Nat.{ℕ, ◌+◌, ◌*◌, ◌/◌, ◌≤◌, ◌<◌, min, max}
use native.Mathlib.Nat.{mul-le-mul_right, div-add-mod'}
use native.Mathlib.Omega.{arith}
use borrow.Author.Tests.{leb-true}
use lib.ListN.{get_or}
use Rattle.rules.specs.Bounds.{clock, most_ticks}
use Rattle.table.specs.declared.Table.{Table}
use Rattle.together_rows.specs.Jobs.{lasts_ok, ceil_of, limit_ok, limits_ok, awake_sum}
use Rattle.together_rows.proofs.Bounds.{lasts_small, tick_small, ceil_small, awake_small, most_fits}
use Rattle.together_rows.proofs.Folds.{all_at}
use Rattle.together_queues.specs.Amounts.{longest, Soon}
use Rattle.together.specs.Holds.{TableOk}
use Rattle.together.proofs.Tables.{scale_low}

limit_near : (awake arrived : Bool) (last p d ceil end tick : ℕ) → (awake ≡ true → last ≤ tick) → (arrived ≡ true → last ≤ tick) → ceil ≤ tick + 1 → p ≤ most_ticks → min p d ≤ most_ticks
    → limit_ok awake arrived last p d ceil end ≡ true → end ≤ tick + longest
limit_near true arrived last p d ceil end tick f g c hp hq e = let x = leb-true end (last + min p d) e in let y = f refl in omega arith
limit_near false true last p d ceil end tick f g c hp hq e = let x = leb-true end (max ceil (last + p) + min p d) e in let y = g refl in omega arith
limit_near false false last p d ceil end tick f g c hp hq e = let x = leb-true end (ceil + min p d) e in omega arith

-- a plane within its tasks' limits ends soon enough
pub end_soon : (t : Table) → TableOk t → (now end : ℕ) (arrived awake : List Bool) (last : List ℕ) → now ≤ clock * t.scale → lasts_ok arrived awake last (now / t.scale) t.count ≡ true
    → limits_ok t.period t.deadline awake arrived last (ceil_of now t.scale) end t.count ≡ true → Soon (awake_sum awake t.share t.count) t.count t.m t.scale now end
unfolding limits_ok
end_soon t T now end arrived awake last h l e =
    let scale = t.scale in
    let b : 0 < t.count = omega (arith, T.size) in
    let k = lasts_small arrived awake last (now / scale) t.count 0 l b in
    let p = (T.rows 0 b).0.0.1 in
    let x = limit_near (get_or awake 0 false) (get_or arrived 0 false) (get_or last 0 0) (get_or t.period 0 0) (get_or t.deadline 0 0) (ceil_of now scale) end (now / scale) k.0 k.1 (ceil_small now scale) p (omega arith)
    (all_at (λ i. limit_ok (get_or awake i false) (get_or arrived i false) (get_or last i 0) (get_or t.period i 0) (get_or t.deadline i 0) (ceil_of now scale) end) t.count 0 e b) in
    let r = tick_small now scale (scale_low t T) h in
    let m : end * scale ≤ (now / scale + longest) * scale = mul-le-mul_right scale x in
    record {
      rows = T.size.1;
      processors = T.processors.1;
      sum = omega (arith, awake_small awake t.share t.count, T.sum, most_fits t.m scale T.processors.1 T.scale_most);
      scale_in = (scale_low t T, T.scale_most);
      end_low = omega arith;
      near = omega (arith, div-add-mod' now scale);
    }
