-- What admission promises, in the words of the rules
use Rattle.std.specs.Prelude.{if◌then◌else◌}
use mathlib.Core.Path.{◌≡◌, refl, sym, ◌∙◌, ap, subst}
use mathlib.Core.Bool.{Bool, true, false}
use mathlib.Core.List.{List, map}
use Prim.Native.Nat.{ℕ, ◌+◌, ◌/◌, ◌≤◌, ◌<◌}
use native.Mathlib.Omega.{arith}
use lib.ListN.{length, get_or, take, length-map, get_or-map}
use lib.Seq.{ext_get_or}
use Rattle.ground.proofs.Ranges.{length_up, at_up}
use Rattle.rules.specs.Answers.{is_done}
use Rattle.rules.specs.Table.{Row, row_at, rows_of}
use Rattle.rules.specs.State.{no_row, admitted, blank}
use Rattle.rules.specs.Scale.{scale_of, share_of}
use Rattle.rules.specs.Planes.{falling}
use Rattle.rules.specs.Admission.{admit_verdict, admit}
use Rattle.rules.proofs.Falling.{falling_length}
use Rattle.table.specs.declared.Table.{Table}
use Rattle.table.specs.Rows.{row_in, padded}
use Rattle.table.specs.Tabled.{shares_from, table_from, blank_table, tabled_of, rows_in}
use Rattle.table.proofs.Padding.{padded_at, padded_take, padded_past}

-- THE SAME ANSWER, ROW AND STATE AS THE RULES
pub tabled_answer : (bytes : List ℕ) (m : ℕ) → (tabled_of bytes m).answer ≡ (admit_verdict bytes m).answer
unfolding tabled_of
tabled_answer bytes m = refl

pub tabled_row : (bytes : List ℕ) (m : ℕ) → (tabled_of bytes m).row ≡ (admit_verdict bytes m).row
unfolding tabled_of
tabled_row bytes m = refl

-- a refusal hands back the blank table
pub tabled_refused : (bytes : List ℕ) (m : ℕ) → is_done (admit_verdict bytes m).answer ≡ false → (tabled_of bytes m).table ≡ blank_table
unfolding tabled_of
tabled_refused bytes m e = ap (λ (t : Bool). if t then table_from m (rows_of bytes) else blank_table) e

-- Done hands back the table of the rows
pub tabled_done : (bytes : List ℕ) (m : ℕ) → is_done (admit_verdict bytes m).answer ≡ true → (tabled_of bytes m).table ≡ table_from m (rows_of bytes)
unfolding tabled_of
tabled_done bytes m e = ap (λ (t : Bool). if t then table_from m (rows_of bytes) else blank_table) e

-- THE TABLE OF ROWS
-- its rows are the rows
pub rows_in_table : (m : ℕ) (rows : List Row) → rows_in (table_from m rows) ≡ rows
rows_in_table m rows =
    let n = length rows in
    let t = table_from m rows in
    let f : ℕ → Row = row_in t.period t.exec t.deadline in
    let long = length_up f 0 n in
    let field : (g : Row → ℕ) → g no_row ≡ 0 → (i : ℕ) → i < n → get_or (padded (map g rows)) i 0 ≡ g (get_or rows i no_row) = λ g z i h.
    (padded_at (map g rows) i (omega (arith, length-map rows g)) ∙ ap (get_or (map g rows) i) (sym z) ∙ get_or-map g rows i no_row) in
    ext_get_or no_row (rows_in t) rows long (λ i h.
    (let b : i < n = omega arith in
    let z : 0 + i ≡ i = omega arith in
    let p = field (λ (r : Row). r.period) refl i b in
    let e = field (λ (r : Row). r.exec) refl i b in
    let d = field (λ (r : Row). r.deadline) refl i b in
    at_up f no_row 0 n i b ∙ ap f z ∙ (λ k. record { period = p k; exec = e k; deadline = d k })))

-- the share in each place is the row's
pub share_in_table : (m : ℕ) (rows : List Row) (i : ℕ) → i < length rows → get_or (table_from m rows).share i 0 ≡ share_of (scale_of rows) (get_or rows i no_row)
unfolding share_of
share_in_table m rows i h =
    let l = scale_of rows in
    let none : share_of l no_row ≡ 0 = omega arith in
    padded_at (shares_from rows) i (omega (arith, length-map rows (share_of l))) ∙ ap (get_or (shares_from rows) i) (sym none) ∙ get_or-map (share_of l) rows i no_row

-- the order in front is the falling order of the shares in front
pub order_in_table : (m : ℕ) (rows : List Row) → take (length rows) (table_from m rows).order ≡ falling (take (length rows) (table_from m rows).share)
order_in_table m rows =
    let long = length-map rows (share_of (scale_of rows)) in
    padded_take (falling (shares_from rows)) (length rows) (falling_length (shares_from rows) ∙ long)
    ∙ ap falling (sym (padded_take (shares_from rows) (length rows) long))

-- past the rows every place is 0
pub past_table : (m : ℕ) (rows : List Row) (i : ℕ) → length rows ≤ i → let t = table_from m rows in
    (get_or t.period i 0 ≡ 0) × (get_or t.exec i 0 ≡ 0) × (get_or t.deadline i 0 ≡ 0) × (get_or t.share i 0 ≡ 0) × (get_or t.order i 0 ≡ 0)
past_table m rows i h =
    let field : (g : Row → ℕ) → get_or (padded (map g rows)) i 0 ≡ 0 = λ g. padded_past (map g rows) i (omega (arith, length-map rows g)) in
    let order = padded_past (falling (shares_from rows)) i (omega (arith, falling_length (shares_from rows), length-map rows (share_of (scale_of rows)))) in
    (field (λ (r : Row). r.period), field (λ (r : Row). r.exec), field (λ (r : Row). r.deadline), field (share_of (scale_of rows)), order)

pub rows_of_length : (bytes : List ℕ) → length (rows_of bytes) ≡ length bytes / 12
unfolding rows_of
rows_of_length bytes = length_up (row_at bytes) 0 (length bytes / 12)

-- WHAT AN ADMITTED TABLE HOLDS
pub record Admits (bytes : List ℕ) (m : ℕ) (t : Table) : Type 0 where
  pub rows : rows_in t ≡ rows_of bytes
  pub count : t.count ≡ length bytes / 12
  pub processors : t.m ≡ m
  pub scale : t.scale ≡ scale_of (rows_of bytes)
  pub shares : (i : ℕ) → i < t.count → get_or t.share i 0 ≡ share_of t.scale (get_or (rows_of bytes) i no_row)
  pub order : take t.count t.order ≡ falling (take t.count t.share)
  pub past : (i : ℕ) → t.count ≤ i
      → (get_or t.period i 0 ≡ 0) × (get_or t.exec i 0 ≡ 0) × (get_or t.deadline i 0 ≡ 0) × (get_or t.share i 0 ≡ 0) × (get_or t.order i 0 ≡ 0)

pub tabled_admits : (bytes : List ℕ) (m : ℕ) → is_done (admit_verdict bytes m).answer ≡ true → Admits bytes m (tabled_of bytes m).table
tabled_admits bytes m e = subst (Admits bytes m) (sym (tabled_done bytes m e)) (whole (rows_of_length bytes))
  where
    whole : length (rows_of bytes) ≡ length bytes / 12 → Admits bytes m (table_from m (rows_of bytes))
    whole l =
        record {
          rows = rows_in_table m (rows_of bytes);
          count = l;
          processors = refl;
          scale = refl;
          shares = share_in_table m (rows_of bytes);
          order = order_in_table m (rows_of bytes);
          past = past_table m (rows_of bytes);
        }

-- the state that the rules admit is the state of the table's rows
pub tabled_state : (bytes : List ℕ) (m : ℕ) → is_done (admit_verdict bytes m).answer ≡ true → (admit bytes m).state ≡ admitted m (rows_in (tabled_of bytes m).table)
unfolding admit
tabled_state bytes m e =
    ap (λ (t : Bool). if t then admitted m (rows_of bytes) else blank) e ∙ ap (admitted m) (sym (tabled_admits bytes m e).rows)
