-- Columns of 128 places: the rows in front, 0 past them
use mathlib.Core.Path.{◌≡◌, refl, sym, ◌∙◌, ap}
use mathlib.Core.List.{List, ◌++◌, map, map-map}
use Prim.Native.Nat.{ℕ, zero, suc, ◌+◌, ◌-◌, ◌≤◌, ◌<◌}
use native.Mathlib.Nat.{min-le_left}
use native.Mathlib.Omega.{arith}
use lib.ListN.{length, get_or, take, drop, replicate, length-append, length-replicate, length-take, get_or-append}
use lib.Seq.{sets, sets-eq, take_at, ext_get_or, length-take-le, get_or-take, get_or-append-add}
use Rattle.ground.proofs.Ranges.{length_up, at_up}
use Rattle.ground.specs.Sums.{up_from}
use Rattle.std.proofs.lemmas.List.{drop-replicate}
use Rattle.table.specs.Rows.{padded, Filled}

-- a column in front of what is left of the zeros
pub padded_front : (v : List ℕ) (n : ℕ) → length v ≡ n → v ++ drop n (replicate 128 0) ≡ padded v
padded_front v n e = ap (λ (w : List ℕ). v ++ w) (drop-replicate n 128 0 ∙ ap (λ (k : ℕ). replicate (128 - k) 0) (sym e))

-- a column stored into zeros
pub padded_store : (v : List ℕ) → length v ≤ 128 → sets (replicate 128 0) 0 v ≡ padded v
padded_store v h =
    let z : 0 + length v ≡ length v = omega arith in
    let fits : 0 + length v ≤ length (replicate {A = ℕ} 128 0) = omega (arith, length-replicate 128 (zero)) in
    sets-eq v (replicate 128 0) 0 fits ∙ ap (λ (k : ℕ). v ++ drop k (replicate 128 0)) z ∙ padded_front v (length v) refl

pub padded_take : (v : List ℕ) (n : ℕ) → length v ≡ n → take n (padded v) ≡ v
padded_take v n e = take_at v (replicate (128 - length v) 0) n e

pub padded_at : (v : List ℕ) (i : ℕ) → i < length v → get_or (padded v) i 0 ≡ get_or v i 0
padded_at v i h = get_or-append v (replicate (128 - length v) 0) 0 i h

-- past the rows there is 0
pub padded_past : (v : List ℕ) (i : ℕ) → length v ≤ i → get_or (padded v) i 0 ≡ 0
padded_past v i h =
    let e : length v + (i - length v) ≡ i = omega arith in
    ap (λ (k : ℕ). get_or (padded v) k 0) (sym e) ∙ get_or-append-add v (replicate (128 - length v) 0) (i - length v) 0 ∙ zeros (128 - length v) (i - length v)
  where
    zeros : (n k : ℕ) → ◌≡◌ {A = ℕ} (get_or (replicate n 0) k 0) 0
    zeros zero k = refl
    zeros (suc n) zero = refl
    zeros (suc n) (suc k) = zeros n k

pub padded_length : (v : List ℕ) → length v ≤ 128 → length (padded v) ≡ 128
padded_length v h = omega (arith, length-append v (replicate (128 - length v) 0), length-replicate (128 - length v) zero)

pub padded_filled : (v : List ℕ) (n : ℕ) → length v ≡ n → Filled (padded v) n
padded_filled v n e = ap padded (sym (padded_take v n e))

-- a filled column has its 128 places
pub filled_room : (l : List ℕ) (n : ℕ) → n ≤ 128 → Filled l n → n ≤ length l
filled_room l n h f =
    let t : length (take n l) ≤ 128 = omega (arith, length-take n l, min-le_left n (length l)) in
    omega (arith, ap length f, padded_length (take n l) t)

-- the first n places of a list, one by one
held_take : (l : List ℕ) (n : ℕ) → n ≤ length l → map (λ i. get_or l i 0) (up_from 0 n) ≡ take n l
held_take l n h =
    ext_get_or 0 (map (λ i. get_or l i 0) (up_from 0 n)) (take n l) (length_up (λ i. get_or l i 0) 0 n ∙ sym (length-take-le n l h))
    (λ i q.
    (let b : i < n = omega (arith, length_up (λ i. get_or l i 0) 0 n) in
    let z : 0 + i ≡ i = omega arith in
    at_up (λ i. get_or l i 0) 0 0 n i b ∙ ap (λ (k : ℕ). get_or l k 0) z ∙ sym (get_or-take n l i 0 b)))

-- a filled column is the column of its rows, padded
pub filled_column : {A : Type 0} (row : ℕ → A) (field : A → ℕ) (l : List ℕ) (n : ℕ) → ((i : ℕ) → field (row i) ≡ get_or l i 0) → n ≤ length l → Filled l n
    → l ≡ padded (map field (map row (up_from 0 n)))
filled_column row field l n same h f =
    f ∙ ap padded (sym (map-map field row (up_from 0 n) ∙ ap (λ (g : ℕ → ℕ). map g (up_from 0 n)) (λ i x. same x i) ∙ held_take l n h))
