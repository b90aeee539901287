-- Laws of what is put into lent bytes
use Prim.Native.Nat.{ℕ, ◌+◌, ◌≤◌}
use mathlib.Core.Path.{◌≡◌, sym, ap, subst, ◌∙◌}
use mathlib.Core.List.{List, ◌++◌}
use native.Mathlib.Omega.{arith}
use lib.ListN.{length, take, drop, length-append}
use lib.Seq.{length-take-le, take_at}
use Rattle.ground.proofs.Bytes.{paste_then, length_pasted}
use Rattle.text.specs.Puts.{Put, Counts}

-- one after the other
pub put_then : (l l₁ l₂ : List ℕ) (at n₁ n₂ : ℕ) (v w : List ℕ) → at + length v ≤ length l → Put l at v l₁ n₁ → Put l₁ n₁ w l₂ n₂ → Put l at (v ++ w) l₂ n₂
put_then l l₁ l₂ at n₁ n₂ v w h p q =
    (q.0 ∙ paste_then l l₁ at n₁ v w h p.0 p.1, omega (arith, p.1, q.1, length-append v w))

-- put under another name
pub put_as : (l l₁ : List ℕ) (at n₁ : ℕ) (v w : List ℕ) → v ≡ w → Put l at v l₁ n₁ → Put l at w l₁ n₁
put_as l l₁ at n₁ v w e p = subst (λ (x : List ℕ). Put l at x l₁ n₁) e p

pub counted : (l : List ℕ) (n : ℕ) → n ≤ length l → Counts n l
counted l n h = (h, sym (length-take-le n l h))

-- what was put at the start can be lent as a part
pub put_counts : (l l₁ v : List ℕ) (n : ℕ) → length v ≤ length l → Put l 0 v l₁ n → Counts n l₁
put_counts l l₁ v n h p =
    let e : length l₁ ≡ length l = ap length p.0 ∙ length_pasted l 0 v (omega arith) in
    counted l₁ n (omega (arith, p.1))

-- what was put at the start is that part
pub put_part : (l v l' : List ℕ) (n : ℕ) → Put l 0 v l' n → take n l' ≡ v
put_part l v l' n p =
    let e : length v ≡ n = omega (arith, p.1) in
    ap (take n) p.0 ∙ take_at v (drop (0 + length v) l) n e
