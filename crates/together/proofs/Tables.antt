-- The table's test says that the table passes admission, and the order's test that the kept order is the falling order
use mathlib.Core.Path.{◌≡◌, refl, sym, ◌∙◌, ap, subst}
use mathlib.Core.Bool.{◌&&◌}
use mathlib.Core.List.{List, map}
use Prim.Native.Nat.{ℕ, zero, suc, ◌+◌, ◌*◌, ◌-◌, ◌/◌, ◌≤◌, ◌<◌, ◌∣◌}
use native.Mathlib.Nat.{div-mul_cancel, dvd-mul_left}
use native.Mathlib.Omega.{arith}
use lib.Dec.{leb, ltb, eqb}
use lib.ListN.{length, get_or, take}
use lib.Seq.{get_or-take, length-take-le}
use Rattle.table.specs.Rows.{share_sum_of}
use Rattle.table.specs.declared.Table.{Table}
use Rattle.ground.specs.Sums.{up_from}
use Rattle.ground.specs.Tests.{Says}
use Rattle.ground.proofs.Ranges.{length_up, at_up}
use Rattle.ground.proofs.Tests.{leb_says, ltb_says, eqb_says, and_says, or_says, says_as}
use Rattle.rules.specs.Admission.{processors_ok}
use Rattle.rules.specs.Planes.{falling}
use Rattle.rules.specs.Reasons.{RowOk}
use Rattle.rules.specs.Scale.{gcd, scale_of, share_of}
use Rattle.rules.specs.State.{no_row}
use Rattle.rules.specs.Table.{Row, shorter}
use Rattle.rules.proofs.Falling.{Ahead, falling_length, falling_below, falling_falls, falling_unique}
use Rattle.rules.proofs.Holding.{processors_says}
use Rattle.rules.proofs.Scale.{Positive, common_from, scale_positive, scale_test}
use Rattle.state.specs.View.{row_of}
use Rattle.together.specs.Holds.{rows_in, shares_in, TableOk, OrderOk}
use Rattle.together_rows.specs.Tables.{rows_ok, scale_in_range, shares_ok, common_below, scale_ok, table_ok, places_ok, ahead, falls_ok, order_ok}
use Rattle.together_rows.proofs.Tables.{row_ok_says}
use Rattle.together_rows.proofs.Folds.{and_then, below_says}
use Rattle.rules.specs.Bounds.{most_scale}

-- THE ROWS AS A LIST
pub row_in : (t : Table) (i : ℕ) → i < t.count → get_or (rows_in t) i no_row ≡ row_of t i
row_in t i h = at_up (row_of t) no_row 0 t.count i h ∙ (let z : 0 + i ≡ i = omega arith in ap (row_of t) z)

pub rows_length : (t : Table) → length (rows_in t) ≡ t.count
rows_length t = length_up (row_of t) 0 t.count

-- the greatest common divisor, row by row
common_last : (f : ℕ → Row) (g l i n : ℕ) → common_from g l (map f (up_from i (suc n))) ≡ gcd (common_from g l (map f (up_from i n))) (l / shorter (f (i + n)))
unfolding common_from up_from
common_last f g l i zero = let z : i + 0 ≡ i = omega arith in rw z
common_last f g l i (suc n) = let z : suc i + n ≡ i + suc n = omega arith in rw z at (common_last f (gcd g (l / shorter (f i))) l (suc i) n)

pub common_rows : (t : Table) (l n : ℕ) → common_below l t.period t.deadline n ≡ common_from l l (map (row_of t) (up_from 0 n))
unfolding common_below
common_rows t l zero = unfold common_from up_from in refl
common_rows t l (suc n) =
    let z : 0 + n ≡ n = omega arith in
    ap (λ (g : ℕ). gcd g (l / shorter (row_of t n))) (common_rows t l n) ∙ sym (rw z at (common_last (row_of t) l l 0 n))

-- ROWS
rows_ok_says : (t : Table) → Says ((i : ℕ) → i < t.count → RowOk (row_of t i)) (rows_ok t.period t.exec t.deadline t.count)
unfolding rows_ok
rows_ok_says t = below_says (λ i. RowOk (row_of t i)) _ t.count (λ i h. row_ok_says (row_of t i))

-- SCALE AND SHARES
-- every q is positive
positive : (t : Table) → ((i : ℕ) → i < t.count → RowOk (row_of t i)) → Positive (rows_in t)
positive t R i h =
    let b : i < t.count = omega (arith, rows_length t) in
    rw (row_in t i b) (let r = (R i b).0 in let p = r.0.0 in let d = r.2.0 in omega arith)

abbrev ScaleOk : Table → Type 0
ScaleOk t = (t.scale ≡ scale_of (rows_in t)) × ((i : ℕ) → i < t.count → get_or t.share i 0 ≡ share_of t.scale (row_of t i))

abbrev ShareOk : Table → ℕ → Type 0
ShareOk t i = (t.scale / shorter (row_of t i) * shorter (row_of t i) ≡ t.scale) × (get_or t.share i 0 ≡ get_or t.exec i 0 * (t.scale / shorter (row_of t i)))

module _ (t : Table) (R : (i : ℕ) → i < t.count → RowOk (row_of t i)) (pos : 0 < t.scale) where
  scale_of_lem : ((i : ℕ) → i < t.count → ShareOk t i) × (common_below t.scale t.period t.deadline t.count ≡ 1) → ScaleOk t
  unfolding share_of
  scale_of_lem h = (
    (scale_test (rows_in t) t.scale (positive t R) pos).1 (
      (λ i k.
          let b : i < t.count = omega (arith, rows_length t) in
          rw (row_in t i b) (subst (λ (x : ℕ). shorter (row_of t i) ∣ x) (h.0 i b).0 (dvd-mul_left (shorter (row_of t i)) (t.scale / shorter (row_of t i))))),
      sym (common_rows t t.scale t.count) ∙ h.1,
    ),
    λ i k. (h.0 i k).1,
  )

  of_scale : ScaleOk t → ((i : ℕ) → i < t.count → ShareOk t i) × (common_below t.scale t.period t.deadline t.count ≡ 1)
  unfolding share_of
  of_scale h =
      let m = (scale_test (rows_in t) t.scale (positive t R) pos).0 h.0 in (
        (λ i k. (div-mul_cancel (shorter (row_of t i)) (rw (row_in t i k) at (m.0 i (omega (arith, rows_length t)))), h.1 i k)),
        common_rows t t.scale t.count ∙ m.1,
      )

  scale_says : Says (ScaleOk t) (scale_ok t.scale t.period t.exec t.deadline t.share t.count)
  unfolding scale_ok shares_ok
  scale_says =
      says_as (scale_ok t.scale t.period t.exec t.deadline t.share t.count) scale_of_lem of_scale
      (and_says _ _ (shares_ok t.scale t.period t.exec t.deadline t.share t.count) _
      (below_says (ShareOk t) _ t.count
      (λ i h. let q = shorter (row_of t i) in
      and_says _ _ (eqb (t.scale / q * q) t.scale) _ (eqb_says (t.scale / q * q) t.scale) (eqb_says (get_or t.share i 0) (get_or t.exec i 0 * (t.scale / q)))))
      (eqb_says (common_below t.scale t.period t.deadline t.count) 1))

-- L is at least 1
pub scale_low : (t : Table) → TableOk t → 0 < t.scale
scale_low t T = rw T.scale_is (scale_positive (rows_in t) (positive t T.rows))

-- "table, m, L and shares pass admission"
pub table_ok_says : (t : Table) → Says (TableOk t) (table_ok t)
unfolding table_ok
table_ok_says t =
    says_as (table_ok t)
    (λ h.
    record {
      processors = h.0;
      size = h.1.0;
      rows = h.1.1.0;
      scale_most = h.1.1.1.0.1;
      scale_is = h.1.1.1.1.0.0;
      share_is = h.1.1.1.1.0.1;
      sum = h.1.1.1.1.1;
    })
    (λ T. (T.processors, (T.size, (T.rows, ((scale_low t T, T.scale_most), ((T.scale_is, T.share_is), T.sum))))))
    (and_says _ _ (processors_ok t.m) _ (processors_says t.m)
    (and_says _ _ (leb 1 t.count && leb t.count 128) _ (and_says _ _ (leb 1 t.count) _ (leb_says 1 t.count) (leb_says t.count 128))
    (and_then _ _ (rows_ok t.period t.exec t.deadline t.count) _ (rows_ok_says t) (λ R.
    (and_then _ _ (scale_in_range t.scale) _ (and_says _ _ (leb 1 t.scale) _ (leb_says 1 t.scale) (leb_says t.scale most_scale)) (λ L.
    (and_says _ _ (scale_ok t.scale t.period t.exec t.deadline t.share t.count) _ (scale_says t R L.0)
    (leb_says (share_sum_of t.share t.count) (t.m * t.scale)))))))))

-- THE KEPT ORDER
share_in : (t : Table) (i : ℕ) → i < t.count → get_or (shares_in t) i 0 ≡ get_or t.share i 0
share_in t i h = at_up (λ i. get_or t.share i 0) 0 0 t.count i h ∙ (let z : 0 + i ≡ i = omega arith in ap (λ (x : ℕ). get_or t.share x 0) z)

ahead_says : (xs : List ℕ) (i j : ℕ) → Says (Ahead xs i j) (ahead xs i j)
ahead_says xs i j =
    or_says _ _ (ltb (get_or xs j 0) (get_or xs i 0)) _ (ltb_says (get_or xs j 0) (get_or xs i 0))
    (and_says _ _ (eqb (get_or xs i 0) (get_or xs j 0)) _ (eqb_says (get_or xs i 0) (get_or xs j 0)) (ltb_says i j))

abbrev Places : List ℕ → ℕ → Type 0
Places os n = (k : ℕ) → k < n → get_or os k 0 < n

abbrev Chain : List ℕ → List ℕ → ℕ → Type 0
Chain xs os n = (k : ℕ) → k < n - 1 → Ahead xs (get_or os k 0) (get_or os (k + 1) 0)

module _ (t : Table) (few : t.count ≤ 128) (room : length t.order ≡ 128) where
  long : length (take t.count t.order) ≡ t.count
  long = length-take-le t.count t.order (omega arith)

  wide : length (shares_in t) ≡ t.count
  wide = length_up (λ i. get_or t.share i 0) 0 t.count

  entry : (k : ℕ) → k < t.count → get_or (take t.count t.order) k 0 ≡ get_or t.order k 0
  entry k h = get_or-take t.count t.order k 0 h

  kept : Places t.order t.count × Chain t.share t.order t.count → OrderOk t
  kept h =
      falling_unique (shares_in t) (take t.count t.order) (long ∙ sym wide)
      (λ k q. let b : k < t.count = omega (arith, long) in rw (entry k b) (omega (arith, h.0 k b, wide)))
      (λ k q.
      let b : suc k < t.count = omega (arith, long) in
      let c : k < t.count = omega arith in
      let s : k + 1 ≡ suc k = omega arith in
      let a = rw s at (h.1 k (omega arith)) in
      rw (entry k c, entry (suc k) b, share_in t (get_or t.order k 0) (h.0 k c), share_in t (get_or t.order (suc k) 0) (h.0 (suc k) b)) a)

  from_kept : OrderOk t → Places t.order t.count × Chain t.share t.order t.count
  from_kept e = (places, chain)
    where
      same : (k : ℕ) → k < t.count → get_or t.order k 0 ≡ get_or (falling (shares_in t)) k 0
      same k h = sym (entry k h) ∙ ap (λ (l : List ℕ). get_or l k 0) e

      places : (k : ℕ) → k < t.count → get_or t.order k 0 < t.count
      places k h = omega (arith, same k h, falling_below (shares_in t) k (omega (arith, falling_length (shares_in t), wide)), wide)

      chain : (k : ℕ) → k < t.count - 1 → Ahead t.share (get_or t.order k 0) (get_or t.order (k + 1) 0)
      chain k h =
          let c : k < t.count = omega arith in
          let b : k + 1 < t.count = omega arith in
          let a = falling_falls (shares_in t) k (k + 1) (omega arith) (omega (arith, falling_length (shares_in t), wide)) in
          rw (← same k c, ← same (k + 1) b, share_in t (get_or t.order k 0) (places k c), share_in t (get_or t.order (k + 1) 0) (places (k + 1) b)) at a

  pub order_ok_says : Says (OrderOk t) (order_ok t)
  unfolding order_ok places_ok falls_ok
  order_ok_says =
      says_as (order_ok t) kept from_kept
      (and_says _ _ (places_ok t.order t.count) _
      (below_says (λ k. get_or t.order k 0 < t.count) _ t.count (λ k h. ltb_says (get_or t.order k 0) t.count))
      (below_says (λ k. Ahead t.share (get_or t.order k 0) (get_or t.order (k + 1) 0)) _ (t.count - 1) (λ k h. ahead_says t.share (get_or t.order k 0) (get_or t.order (k + 1) 0))))
