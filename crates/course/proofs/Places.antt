-- The present as a tick, the number of a line
use Rattle.std.specs.Prelude.{if◌then◌else◌}
use mathlib.Core.Path.{◌≡◌, refl, sym, ◌∙◌, ap}
use mathlib.Core.Bool.{Bool, true, false}
use Prim.Native.Nat.{ℕ, ◌+◌, ◌*◌, ◌/◌, ◌%◌, ◌≤◌, ◌<◌}
use native.Mathlib.Nat.{mul-mod_left, mul-div_cancel, mod-add-div'}
use native.Mathlib.Omega.{arith}
use lib.Dec.{leb, eqb}
use Rattle.ground.proofs.Tests.{leb_says, eqb_says, is_true, is_false, of_true}
use Rattle.course.specs.Turns.{line_after}

-- two tests that say the same
same_test : (a b : Bool) (P Q : Type 0) → (a ≡ true → P) → (P → a ≡ true) → (b ≡ true → Q) → (Q → b ≡ true) → (P → Q) → (Q → P) → a ≡ b
same_test true b P Q f f' g g' h k = sym (g' (h (f refl)))
same_test false true P Q f f' g g' h k = f' (k (g refl))
same_test false false P Q f f' g g' h k = refl

eqb_same : (a b c d : ℕ) → (a ≡ b → c ≡ d) → (c ≡ d → a ≡ b) → eqb a b ≡ eqb c d
eqb_same a b c d h k =
    same_test (eqb a b) (eqb c d) (a ≡ b) (c ≡ d) (of_true (eqb a b) (eqb_says a b)) (is_true (eqb a b) (eqb_says a b)) (of_true (eqb c d) (eqb_says c d)) (is_true (eqb c d) (eqb_says c d)) h k

module _ (present scale tick : ℕ) where
  pub at_zero : scale ≡ 0 → eqb present 0 ≡ eqb present (tick * scale)
  at_zero e = let z : 0 ≡ tick * scale = sym (ap (λ (k : ℕ). tick * k) e ∙ (let y : tick * 0 ≡ 0 = omega arith in y)) in ap (eqb present) z

  pub at_between : ¬ (present % scale ≡ 0) → false ≡ eqb present (tick * scale)
  at_between n = sym (is_false (eqb present (tick * scale)) (eqb_says present (tick * scale)) (λ e. n (ap (λ (k : ℕ). k % scale) e ∙ mul-mod_left tick scale)))

  pub at_whole : ¬ (scale ≡ 0) → present % scale ≡ 0 → eqb (present / scale) tick ≡ eqb present (tick * scale)
  at_whole n z =
      let p : 0 < scale = omega (arith, n) in
      eqb_same (present / scale) tick present (tick * scale)
      (λ e. sym (mod-add-div' present scale) ∙ (let y : present % scale + present / scale * scale ≡ present / scale * scale = omega (arith, z) in y) ∙ ap (λ (k : ℕ). k * scale) e)
      (λ e. ap (λ (k : ℕ). k / scale) e ∙ mul-div_cancel tick p)

pub line_more : (line : ℕ) → line ≤ 65536 → line + 1 ≡ line_after line
line_more line h = sym (ap (λ b. if b then line + 1 else line) (is_true (leb line 65536) (leb_says line 65536) h))

pub line_most : (line : ℕ) → ¬ (line ≤ 65536) → line ≡ line_after line
line_most line h = sym (ap (λ b. if b then line + 1 else line) (is_false (leb line 65536) (leb_says line 65536) h))
