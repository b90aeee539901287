-- The slots past m, tested one by one
use Rattle.std.specs.Bool.{MatchBool}
use Rattle.std.specs.List.{AllWithin, HoldsAt}
use Rattle.std.proofs.lemmas.List.{get_or-drop, length-drop}
use mathlib.Core.Path.{◌≡◌, refl, sym, ◌∙◌, ap}
use mathlib.Core.Bool.{Bool, true, false, ◌||◌}
use mathlib.Core.List.{List}
use Prim.Native.Nat.{ℕ, ◌+◌, ◌-◌, ◌<◌}
use native.Mathlib.Omega.{arith}
use borrow.Author.Tests.{le-ltb, ltb-false, eq-eqb, ne_eqb}
use lib.Dec.{ltb, eqb}
use lib.ListN.{length, get_or, drop}
use Rattle.state.specs.Sound.{slots_ok}
use Rattle.together_rows.proofs.Folds.{all_fails}
use Rattle.together_queues.proofs.Planes.{all_by}

module _ (m : ℕ) (slots : List ℕ) (size : length slots ≡ 16) where
  abbrev slot_at : ℕ → Bool
  slot_at p = ltb p m || eqb (get_or slots p 0) 0

  rest : length (drop m slots) ≡ 16 - m
  rest = omega (arith, length-drop m slots)

  past : (k : ℕ) → get_or (drop m slots) k 0 ≡ get_or slots (m + k) 0
  past k = get_or-drop m slots k 0

  pub slots_tested : (b : Bool) → MatchBool b (AllWithin (λ x. x ≡ 0) (drop m slots) 0 (length (drop m slots))) ((k : ℕ) × (k < length (drop m slots)) × HoldsAt (λ x. ¬ (x ≡ 0)) (drop m slots) k)
      → b ≡ slots_ok m slots
  unfolding slots_ok
  slots_tested true h = sym (all_by slot_at 16 (λ p l. go p l (ltb p m) refl))
    where
      go : (p : ℕ) → p < 16 → (a : Bool) → ltb p m ≡ a → (a || eqb (get_or slots p 0) 0) ≡ true
      go p l true e = refl
      go p l false e =
          let b = ltb-false p m e in
          let z : m + (p - m) ≡ p = omega arith in
          eq-eqb (get_or slots p 0) 0 (rw z at (sym (past (p - m)) ∙ h (p - m) 0 (omega arith) (omega (arith, rest))))
  slots_tested false (k, l, h) = sym (all_fails slot_at 16 (m + k) (omega (arith, rest)) (fails (ltb (m + k) m) (le-ltb (m + k) m (omega arith))))
    where
      fails : (a : Bool) → a ≡ false → (a || eqb (get_or slots (m + k) 0) 0) ≡ false
      fails a e = ap (λ (x : Bool). x || eqb (get_or slots (m + k) 0) 0) e ∙ ne_eqb (get_or slots (m + k) 0) 0 (λ z. h 0 (past k ∙ z))
