use Prim.Native.Nat.{ℕ, ◌+◌, ◌-◌, ◌<◌, ◌^◌}
use mathlib.Core.Path.{◌≡◌, sym, ap}
use mathlib.Core.List.{List}
use native.Mathlib.Nat.{pow-zero}
use native.Mathlib.Omega.{arith}
use lib.ListN.{take, drop}
use Rattle.ground.specs.Bytes.{number}
use Rattle.ground.proofs.Bytes.{number_turn, turn_fits}
use Rattle.ground.proofs.get.Goals as goal

-- nothing is read yet
none : (l : List ℕ) (at w : ℕ) → (0 ≡ number (take (w - w) (drop (at + w) l))) × (0 < 256 ^ (w - w))
unfolding number
none l at w =
    let z : w - w ≡ 0 = omega arith in
    (ap (λ (n : ℕ). number (take n (drop (at + w) l))) (sym z), omega (arith, ap (λ (n : ℕ). 256 ^ n) z, pow-zero 256))

pub loop-i-init : goal.loop-i-init
loop-i-init c = none c.args.bytes.now c.args.at c.args.width

pub overflow_mul-r : goal.overflow_mul-r
overflow_mul-r c =
    let k = c.loop-i in
    omega (arith, turn_fits c.args.width k.i k.r 0 c.requires.fits.1 c.loop-i-test.true k.auto.i k.invariant.1 (omega arith))

pub overflow_add-r : goal.overflow_add-r
overflow_add-r c =
    let k = c.loop-i in
    omega (arith, turn_fits c.args.width k.i k.r c.from.result c.requires.fits.1 c.loop-i-test.true k.auto.i k.invariant.1 (omega (arith, c.from.ensures, c.type_inv.bytes (c.args.at + (k.i - 1)))))

pub loop-i-preserved : goal.loop-i-preserved
loop-i-preserved c =
    let k = c.loop-i in
    let a = c.args in
    let t = number_turn a.bytes.now a.at a.width k.i k.r c.loop-i-test.true k.auto.i c.requires.fits.0 (omega (arith, c.type_inv.bytes (a.at + (k.i - 1)))) k.invariant in
    (omega (arith, t.0, c.from.ensures), omega (arith, t.1, c.from.ensures))
