-- The table's bytes, put row by row
use Rattle.std.specs.Prelude.{Option, Some}
use Prim.Native.Nat.{ℕ, zero, suc, ◌+◌, ◌-◌, ◌*◌, ◌≤◌, ◌<◌}
use mathlib.Core.Path.{◌≡◌, refl, sym, ap, subst, ◌∙◌}
use mathlib.Core.List.{List, [], ◌∷◌, ◌++◌, append_assoc, append-nil}
use native.Mathlib.Omega.{arith}
use lib.ListN.{length, take, length-append, length-take}
use lib.Seq.{take-nil, take_all}
use Rattle.ground.specs.Bytes.{pasted}
use Rattle.ground.proofs.Bytes.{paste_none, length_pasted, paste_then}
use Rattle.rules.specs.Table.{Row, row_bytes, table_bytes}
use Rattle.rules.proofs.Reading.{length_table}
use Rattle.text.specs.declared.Item.{Item}
use Rattle.text.specs.declared.Item.TheVariants.{Processors, Task, Arrive, Until}
use Rattle.text.specs.Meaning.{row_by}
use Rattle.text.specs.Puts.{RowsPut}

pub table_append : (a b : List Row) → table_bytes (a ++ b) ≡ table_bytes a ++ table_bytes b
unfolding table_bytes
table_append [] b = refl
table_append (r ∷ a) b = ap (λ (l : List ℕ). row_bytes r ++ l) (table_append a b) ∙ sym (append_assoc (row_bytes r) (table_bytes a) (table_bytes b))

pub take_append : (n : ℕ) (a b : List Row) → take n (a ++ b) ≡ take n a ++ take (n - length (take n a)) b
take_append zero [] b = refl
take_append zero (r ∷ a) b = refl
take_append (suc n) [] b = let e : suc n ≡ suc n - 0 = omega arith in ap (λ (k : ℕ). take k b) e
take_append (suc n) (r ∷ a) b =
    let e : n - length (take n a) ≡ suc n - suc (length (take n a)) = omega arith in
    ap (λ (l : List Row). r ∷ l) (take_append n a b) ∙ ap (λ (k : ℕ). r ∷ (take n a ++ take k b)) e

-- rows put after k rows: none where the table is full, none where there is none, one row
pub rows_full : (l : List ℕ) (k : ℕ) (rows : List Row) → 129 ≤ k → RowsPut l k rows l k
unfolding table_bytes
rows_full l k rows h =
    let e : take (129 - k) rows ≡ [] = ap (λ (n : ℕ). take n rows) (let z : 129 - k ≡ 0 = omega arith in z) in
    (sym (ap (λ (r : List Row). pasted l (12 * k) (table_bytes r)) e ∙ paste_none l (12 * k)), omega (arith, ap length e))

pub rows_none : (l : List ℕ) (k : ℕ) → RowsPut l k [] l k
unfolding table_bytes
rows_none l k =
    let e : take {A = Row} (129 - k) [] ≡ [] = take-nil (129 - k) in
    (sym (ap (λ (r : List Row). pasted l (12 * k) (table_bytes r)) e ∙ paste_none l (12 * k)), omega (arith, ap length e))

pub rows_one : (l l' : List ℕ) (k : ℕ) (r : Row) → k < 129 → l' ≡ pasted l (12 * k) (row_bytes r) → RowsPut l k (r ∷ []) l' (k + 1)
unfolding table_bytes
rows_one l l' k r h e =
    let f : take (129 - k) (r ∷ []) ≡ r ∷ [] = take_all (129 - k) (r ∷ []) (omega arith) in
    (e ∙ sym (ap (λ (x : List Row). pasted l (12 * k) (table_bytes x)) f ∙ ap (λ (v : List ℕ). pasted l (12 * k) v) (append-nil (row_bytes r))), omega (arith, ap length f))

-- what is left to put of the rows, after one line
pub rows_turn : (l l' : List ℕ) (k n : ℕ) (a b : List Row) → k ≤ 129 → 1548 ≤ length l → RowsPut l k a l' n
    → (n ≤ 129) × (length l' ≡ length l) × (pasted l (12 * k) (table_bytes (take (129 - k) (a ++ b))) ≡ pasted l' (12 * n) (table_bytes (take (129 - n) b)))
    × (12 * k + length (table_bytes (take (129 - k) (a ++ b))) ≡ 12 * n + length (table_bytes (take (129 - n) b)))
rows_turn l l' k n a b h m p =
    let t = take (129 - k) a in
    let lt : length t ≤ 129 - k = omega (arith, length-take (129 - k) a) in
    let lv = length_table t in
    let q : 129 - k - length t ≡ 129 - n = omega (arith, p.1) in
    let e : table_bytes (take (129 - k) (a ++ b)) ≡ table_bytes t ++ table_bytes (take (129 - n) b) =
    ap table_bytes (take_append (129 - k) a b ∙ ap (λ (j : ℕ). t ++ take j b) q) ∙ table_append t (take (129 - n) b) in
    let room : 12 * k + length (table_bytes t) ≤ length l = omega arith in
    let next : 12 * n ≡ 12 * k + length (table_bytes t) = omega (arith, p.1) in (
      omega (arith, p.1),
      ap length p.0 ∙ length_pasted l (12 * k) (table_bytes t) room,
      ap (λ (v : List ℕ). pasted l (12 * k) v) e ∙ sym (paste_then l l' (12 * k) (12 * n) (table_bytes t) (table_bytes (take (129 - n) b)) room p.0 next),
      omega (arith, ap length e, length-append (table_bytes t) (table_bytes (take (129 - n) b))),
    )

-- the same line under another name
pub rows_as : (l l' : List ℕ) (k n : ℕ) (x y : Option Item) → x ≡ y → RowsPut l k (row_by y) l' n → RowsPut l k (row_by x) l' n
rows_as l l' k n x y e p = subst (λ (z : Option Item). RowsPut l k (row_by z) l' n) (sym e) p

-- a line that is no task line gives no row
pub no_row : (x : Item) → ((p e d : ℕ) → x ≡ Task p e d → ⊥) → row_by (Some x) ≡ []
no_row (Processors m) h = refl
no_row (Task p e d) h = absurd (h p e d refl)
no_row (Arrive t i) h = refl
no_row (Until t) h = refl
