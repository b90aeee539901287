-- EXACTLY: what the refusals and the scale come to
use Rattle.std.specs.Prelude.{◌≡◌, ◌↔◌, List, ℕ, ◌*◌, ◌≤◌, ◌<◌, length, get_or}
use Rattle.std.specs.Int.{◌∣◌}
use Rattle.rules.specs.Answers.{Answer}
use Rattle.rules.specs.Table.{Row, shorter}
use Rattle.rules.specs.Scale.{scale_of, share_of}
use Rattle.rules.specs.Admission.{admit}
use Rattle.rules.specs.State.{State, no_row}
use Rattle.rules.specs.Calls.{arrive, step}
use Rattle.rules.specs.Reasons.{RowsOk, AdmitReason, ArriveReason, StepReason}

-- "Given exactly when": a call gives an answer (and admission a row) exactly when its reason is the case
pub record ExactlyWhen : Type 0 where
  pub admits : (bytes : List ℕ) (m : ℕ) (a : Answer) (i : ℕ) → (((admit bytes m).answer ≡ a) × ((admit bytes m).row ≡ i)) ↔ AdmitReason bytes m a i
  pub arrives : (s : State) (task : ℕ) (a : Answer) → ((arrive s task).answer ≡ a) ↔ ArriveReason s task a
  pub steps : (s : State) (horizon : ℕ) (room : List ℕ) (a : Answer) → ((step s horizon room).answer ≡ a) ↔ StepReason s horizon (length room) a

-- the q of the row in place i, counted from 0
abbrev pub short_at : List Row → ℕ → ℕ
short_at rows i = shorter (get_or rows i no_row)

-- c is a multiple of every q
abbrev pub Multiple : List Row → ℕ → Type 0
Multiple rows c = (i : ℕ) → i < length rows → short_at rows i ∣ c

-- "The scale L is the least common multiple of all q", and no other number is
pub record LeastMultiple (rows : List Row) : Type 0 where
  pub common : Multiple rows (scale_of rows)
  pub least : (c : ℕ) → 0 < c → Multiple rows c → scale_of rows ≤ c
  pub unique : (l : ℕ) → 0 < l → Multiple rows l → ((c : ℕ) → 0 < c → Multiple rows c → l ≤ c) → l ≡ scale_of rows

-- "A task's share is e times L/q, a whole number from 1 to L": "nothing is rounded"
pub record WholeShare (rows : List Row) (r : Row) : Type 0 where
  pub low : 1 ≤ share_of (scale_of rows) r
  pub high : share_of (scale_of rows) r ≤ scale_of rows
  pub unrounded : share_of (scale_of rows) r * shorter r ≡ r.exec * scale_of rows

-- of the rows of any table that passes 3 and 4
pub record Measures : Type 0 where
  pub scale : (rows : List Row) → RowsOk rows → LeastMultiple rows
  pub shares : (rows : List Row) → RowsOk rows → (i : ℕ) → i < length rows → WholeShare rows (get_or rows i no_row)
