-- What is written reads back: a record from its bytes, rows from a table's
use mathlib.Core.Path.{◌≡◌, refl, sym, ◌∙◌, ap}
use mathlib.Core.List.{List, [], ◌∷◌, ◌++◌, map, append_assoc}
use Prim.Native.Nat.{ℕ, suc, ◌+◌, ◌*◌, ◌/◌, ◌≤◌, ◌<◌, ◌^◌}
use native.Mathlib.Nat.{mul-div_cancel_left}
use native.Mathlib.Omega.{arith}
use lib.ListN.{length, get_or, take, drop, length-append}
use lib.Seq.{take_at, drop_at, drop-append-add}
use Rattle.ground.specs.Bytes.{le, number}
use Rattle.ground.specs.Sums.{up_from}
use Rattle.ground.proofs.Bytes.{length_le, number_le}
use Rattle.rules.specs.Record.{Record, slot_bytes, record_bytes, slots_from, read_record}
use Rattle.rules.specs.Table.{Row, word_at, row_at, rows_of, row_bytes, table_bytes}

-- a record that fits its bytes
pub record Written (r : Record) : Type 0 where
  pub from : r.from < 256 ^ 8
  pub to : r.to < 256 ^ 8
  pub sixteen : length r.slots ≡ 16
  pub each : (i : ℕ) → i < length r.slots → get_or r.slots i 0 < 256 ^ 2

slots_read : (slots rest : List ℕ) → ((i : ℕ) → i < length slots → get_or slots i 0 < 256 ^ 2) → slots_from (length slots) (slot_bytes slots ++ rest) ≡ slots
unfolding slots_from slot_bytes le
slots_read [] rest h = refl
slots_read (s ∷ l) rest h = rw (slots_read l rest (λ i hi. h (suc i) (omega arith))) (ap (λ (x : ℕ). x ∷ l) (number_le 2 s (h 0 (omega arith))))

pub record_read : (r : Record) (rest : List ℕ) → Written r → read_record (record_bytes r ++ rest) ≡ r
unfolding read_record record_bytes le
record_read r rest W =
    let s : slots_from 16 (slot_bytes r.slots ++ rest) ≡ r.slots = rw W.sixteen at (slots_read r.slots rest W.each) in
    rw (number_le 8 r.from W.from, number_le 8 r.to W.to, s)

-- TABLES
pub length_row : (r : Row) → length (row_bytes r) ≡ 12
length_row r =
    omega (arith, length-append (le 4 r.period ++ le 4 r.exec) (le 4 r.deadline), length-append (le 4 r.period) (le 4 r.exec), length_le 4 r.period, length_le 4 r.exec, length_le 4 r.deadline)

pub length_table : (rs : List Row) → length (table_bytes rs) ≡ 12 * length rs
unfolding table_bytes
length_table [] = refl
length_table (r ∷ rs) = omega (arith, length-append (row_bytes r) (table_bytes rs), length_row r, length_table rs)

-- every number of a row fits 32 bits
abbrev pub RowFits : Row → Type 0
RowFits r = (r.period ≤ 4294967295) × (r.exec ≤ 4294967295) × (r.deadline ≤ 4294967295)

abbrev pub RowsFit : List Row → Type 0
RowsFit [] = Unit {0}
RowsFit (r ∷ rs) = RowFits r × RowsFit rs

-- a word of four bytes in front, and the rest
word_front : (x : ℕ) (l : List ℕ) → x ≤ 4294967295 → number (take 4 (le 4 x ++ l)) ≡ x
word_front x l h = ap number (take_at (le 4 x) l 4 (length_le 4 x)) ∙ number_le 4 x (omega arith)

-- the row that stands after `before`
row_at_lem : (before rest : List ℕ) (i : ℕ) (r : Row) → length before ≡ 12 * i → RowFits r → row_at (before ++ (row_bytes r ++ rest)) i ≡ r
row_at_lem before rest i r e f =
    let p = le 4 r.period in
    let x = le 4 r.exec in
    let d = le 4 r.deadline in
    let all = before ++ (row_bytes r ++ rest) in
    let a1 : row_bytes r ++ rest ≡ p ++ (x ++ (d ++ rest)) = append_assoc (p ++ x) d rest ∙ append_assoc p x (d ++ rest) in
    let from : (n : ℕ) → drop (12 * i + n) all ≡ drop n (p ++ (x ++ (d ++ rest))) =
    λ n. ap (λ (k : ℕ). drop (k + n) all) (sym e) ∙ drop-append-add before (row_bytes r ++ rest) n ∙ ap (drop n) a1 in
    let w0 : word_at (12 * i) all ≡ r.period =
    ap (λ (k : ℕ). number (take 4 (drop k all))) (let z : 12 * i ≡ 12 * i + 0 = omega arith in z)
    ∙ ap (λ (l : List ℕ). number (take 4 l)) (from 0)
    ∙ word_front r.period (x ++ (d ++ rest)) f.0 in
    let w1 : word_at (12 * i + 4) all ≡ r.exec =
    ap (λ (l : List ℕ). number (take 4 l)) (from 4 ∙ drop_at p (x ++ (d ++ rest)) 4 (length_le 4 r.period)) ∙ word_front r.exec (d ++ rest) f.1 in
    let px : length (p ++ x) ≡ 8 = omega (arith, length-append p x, length_le 4 r.period, length_le 4 r.exec) in
    let w2 : word_at (12 * i + 8) all ≡ r.deadline =
    ap (λ (l : List ℕ). number (take 4 l)) (from 8 ∙ ap (drop 8) (sym (append_assoc p x (d ++ rest))) ∙ drop_at (p ++ x) (d ++ rest) 8 px)
    ∙ word_front r.deadline rest f.2 in
    let made : ℕ → ℕ → ℕ → Row = λ a b c. record { period = a; exec = b; deadline = c } in
    ap (λ (a : ℕ). made a (word_at (12 * i + 4) all) (word_at (12 * i + 8) all)) w0
    ∙ ap (λ (b : ℕ). made r.period b (word_at (12 * i + 8) all)) w1
    ∙ ap (λ (c : ℕ). made r.period r.exec c) w2

rows_from : (before : List ℕ) (i : ℕ) (rs : List Row) → length before ≡ 12 * i → RowsFit rs → map (row_at (before ++ table_bytes rs)) (up_from i (length rs)) ≡ rs
unfolding table_bytes up_from
rows_from before i [] e f = refl
rows_from before i (r ∷ rs) e f =
    let n : length (before ++ row_bytes r) ≡ 12 * suc i = omega (arith, length-append before (row_bytes r), length_row r) in
    let rest = rows_from (before ++ row_bytes r) (suc i) rs n f.1 in
    ap (λ (x : Row). x ∷ map (row_at (before ++ (row_bytes r ++ table_bytes rs))) (up_from (suc i) (length rs))) (row_at_lem before (table_bytes rs) i r e f.0)
    ∙ ap (λ (l : List ℕ). r ∷ map (row_at l) (up_from (suc i) (length rs))) (sym (append_assoc before (row_bytes r) (table_bytes rs)))
    ∙ ap (λ (l : List Row). r ∷ l) rest

-- the rows of a table's bytes
pub table_rows : (rs : List Row) → RowsFit rs → rows_of (table_bytes rs) ≡ rs
unfolding rows_of
table_rows rs f =
    let pos : 0 < 12 = omega arith in
    let n : length (table_bytes rs) / 12 ≡ length rs = ap (λ (k : ℕ). k / 12) (length_table rs) ∙ mul-div_cancel_left (length rs) pos in
    ap (λ (k : ℕ). map (row_at (table_bytes rs)) (up_from 0 k)) n ∙ rows_from [] 0 rs refl f
