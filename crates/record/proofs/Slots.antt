-- The bytes of the slots
use Prim.Native.Nat.{ℕ, zero, suc, ◌+◌, ◌*◌, ◌<◌}
use mathlib.Core.Path.{◌≡◌, refl, sym, ap, ◌∙◌}
use mathlib.Core.List.{List, [], ◌∷◌, ◌++◌, append_assoc, append-nil}
use native.Mathlib.Nat.{not-suc-le-zero, le_of_suc-le-suc}
use native.Mathlib.Omega.{arith}
use lib.ListN.{length, get_or, take, length-append}
use Rattle.ground.specs.Bytes.{le}
use Rattle.ground.proofs.Bytes.{length_le}
use Rattle.rules.specs.Record.{slot_bytes}

pub length_slots : (xs : List ℕ) → length (slot_bytes xs) ≡ 2 * length xs
unfolding slot_bytes
length_slots [] = refl
length_slots (x ∷ xs) = omega (arith, length-append (le 2 x) (slot_bytes xs), length_le 2 x, length_slots xs)

-- the slots up to k, and one more
pub slots_more : (xs : List ℕ) (k : ℕ) → k < length xs → slot_bytes (take (k + 1) xs) ≡ slot_bytes (take k xs) ++ le 2 (get_or xs k 0)
unfolding slot_bytes
slots_more [] k h = absurd (not-suc-le-zero h)
slots_more (x ∷ xs) zero h = append-nil (le 2 x)
slots_more (x ∷ xs) (suc k) h =
    let e : suc k + 1 ≡ suc (k + 1) = omega arith in
    ap (λ (n : ℕ). slot_bytes (take n (x ∷ xs))) e
    ∙ ap (λ (q : List ℕ). le 2 x ++ q) (slots_more xs k (le_of_suc-le-suc h))
    ∙ sym (append_assoc (le 2 x) (slot_bytes (take k xs)) (le 2 (get_or xs k 0)))
