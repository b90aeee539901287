-- What admission's tests say of the rows
use Rattle.std.specs.Prelude.{if◌then◌else◌}
use mathlib.Core.Path.{◌≡◌, refl}
use mathlib.Core.Bool.{Bool, true, false, not, ◌&&◌}
use mathlib.Core.List.{List, [], ◌∷◌}
use Prim.Native.Nat.{ℕ, zero, suc, ◌*◌, ◌≤◌, ◌<◌}
use native.Mathlib.Omega.{arith}
use lib.Dec.{leb, ltb}
use lib.ListN.{length, get_or}
use Rattle.rules.specs.Bounds.{most_scale, most_ticks}
use Rattle.rules.specs.Answers.{Done, RowRange, RowExecution, Scale, Shares, is_done}
use Rattle.ground.specs.Sums.{sum_of}
use Rattle.ground.specs.Tests.{Says}
use Rattle.ground.proofs.Tests.{leb_says, ltb_says, and_says, says_as}
use Rattle.rules.specs.Admission.{fault_of, Verdict, plain, fault_from, size_verdict, or_else, rows_verdict}
use Rattle.rules.specs.Reasons.{InRange, RowInRange, RowOk}
use Rattle.rules.specs.Scale.{scale_of, share_of, fits}
use Rattle.rules.specs.State.{no_row}
use Rattle.rules.specs.Table.{Row, shorter, in_range, row_in_range}

range_says : (x : ℕ) → Says (InRange x) (in_range x)
range_says x = and_says (1 ≤ x) (x ≤ most_ticks) (leb 1 x) (leb x most_ticks) (leb_says 1 x) (leb_says x most_ticks)

pub row_says : (r : Row) → Says (RowInRange r) (row_in_range r)
row_says r =
    says_as (row_in_range r) (λ h. (h.0, h.1.0, h.1.1)) (λ h. (h.0, (h.1, h.2)))
    (and_says (InRange r.period) (InRange r.exec × InRange r.deadline) (in_range r.period) (in_range r.exec && in_range r.deadline) (range_says r.period)
    (and_says (InRange r.exec) (InRange r.deadline) (in_range r.exec) (in_range r.deadline) (range_says r.exec) (range_says r.deadline)))

pub fault_says : (r : Row) → Says (RowOk r) (is_done (fault_of r))
fault_says r = go (row_in_range r) (row_says r) (ltb (shorter r) r.exec) (ltb_says (shorter r) r.exec)
  where
    go : (a : Bool) → Says (RowInRange r) a → (b : Bool) → Says (shorter r < r.exec) b
        → Says (RowOk r) (is_done (if not a then RowRange else (if b then RowExecution else Done)))
    go true p true q = λ h. omega (arith, h.1)
    go true p false q = (p, omega arith)
    go false p b q = λ h. p h.0

-- "the first faulty row": there is none
pub faults_says : (i : ℕ) (rs : List Row) → Says ((j : ℕ) → j < length rs → RowOk (get_or rs j no_row)) (is_done (fault_from i rs).answer)
unfolding fault_from
faults_says i [] = λ j h. absurd (omega arith)
faults_says i (r ∷ rs) = go (is_done (fault_of r)) refl (fault_says r) (faults_says (suc i) rs)
  where
    go : (a : Bool) → is_done (fault_of r) ≡ a → Says (RowOk r) a → Says ((j : ℕ) → j < length rs → RowOk (get_or rs j no_row)) (is_done (fault_from (suc i) rs).answer)
        → Says ((j : ℕ) → j < length (r ∷ rs) → RowOk (get_or (r ∷ rs) j no_row)) (is_done (elim a as (λ _. Verdict) [ true ↦ fault_from (suc i) rs | false ↦ record { answer = fault_of r; row = i } ]).answer)
    go true e p ih =
        says_as (is_done (fault_from (suc i) rs).answer) (λ h. elim [ zero ↦ λ _. p | suc j ↦ λ hj. h j (omega arith) ]) (λ h j hj. h (suc j) (omega arith)) ih
    go false e p ih = rw e (λ h. p (h 0 (omega arith)))

-- neither 5 nor 6
pub size_says : (m : ℕ) (rs : List Row) → Says ((scale_of rs ≤ most_scale) × (sum_of (share_of (scale_of rs)) rs ≤ m * scale_of rs)) (is_done (size_verdict m rs).answer)
unfolding size_verdict fits
size_says m rs = go (ltb most_scale (scale_of rs)) (ltb_says most_scale (scale_of rs)) (leb (sum_of (share_of (scale_of rs)) rs) (m * scale_of rs)) (leb_says (sum_of (share_of (scale_of rs)) rs) (m * scale_of rs))
  where
    go : (a : Bool) → Says (most_scale < scale_of rs) a → (b : Bool) → Says (sum_of (share_of (scale_of rs)) rs ≤ m * scale_of rs) b
        → Says ((scale_of rs ≤ most_scale) × (sum_of (share_of (scale_of rs)) rs ≤ m * scale_of rs)) (is_done (if a then plain Scale else (if b then plain Done else plain Shares)).answer)
    go true p b q = λ h. omega (arith, h.0)
    go false p true q = (omega arith, q)
    go false p false q = λ h. q h.1

-- the rows pass
pub record RowsPass (m : ℕ) (rs : List Row) : Type 0 where
  pub rows : (j : ℕ) → j < length rs → RowOk (get_or rs j no_row)
  pub scale_most : scale_of rs ≤ most_scale
  pub sum : sum_of (share_of (scale_of rs)) rs ≤ m * scale_of rs

pub rows_says : (m : ℕ) (rs : List Row) → Says (RowsPass m rs) (is_done (rows_verdict m rs).answer)
unfolding rows_verdict
rows_says m rs = go (fault_from 1 rs) (faults_says 1 rs)
  where
    by : (a : Bool) (v : Verdict) → is_done v.answer ≡ a → Says ((j : ℕ) → j < length rs → RowOk (get_or rs j no_row)) a
        → Says (RowsPass m rs) (is_done (if a then size_verdict m rs else v).answer)
    by true v e p =
        says_as (is_done (size_verdict m rs).answer) (λ h. record { rows = p; scale_most = h.0; sum = h.1 }) (λ h. (h.scale_most, h.sum)) (size_says m rs)
    by false v e p = rw e (λ h. p h.rows)

    go : (v : Verdict) → Says ((j : ℕ) → j < length rs → RowOk (get_or rs j no_row)) (is_done v.answer) → Says (RowsPass m rs) (is_done (or_else v (size_verdict m rs)).answer)
    go v s = by (is_done v.answer) v refl s
