-- The columns hold the rows of the bytes, and the verdict goes by the first test that fails
use Rattle.std.specs.Prelude.{if◌then◌else◌, Err}
use mathlib.Core.Path.{◌≡◌, refl, sym, ◌∙◌, ap, subst}
use mathlib.Core.Bool.{Bool, true, false, ◌&&◌}
use mathlib.Core.List.{List, map}
use Prim.Native.Nat.{ℕ, ◌+◌, ◌*◌, ◌/◌, ◌≤◌, ◌<◌, ◌%◌}
use native.Mathlib.Nat.{mul-div_cancel_left, div-add-mod}
use native.Mathlib.Omega.{arith}
use lib.ListN.{length, get_or, replicate}
use lib.Seq.{sets}
use Rattle.ground.proofs.Ranges.{length_up, at_up}
use Rattle.ground.specs.Sums.{up_from}
use Rattle.rules.specs.Answers.{Done, Processors, TableLength, is_done}
use Rattle.rules.specs.Table.{Row, word_at, row_at, rows_of}
use Rattle.rules.specs.Admission.{Verdict, plain, processors_ok, length_ok, fault_from, size_verdict, or_else, rows_verdict, admit_verdict}
use Rattle.table.specs.declared.Fault.{Fault}
use Rattle.table.specs.Rows.{row_in, rows_held, column_of, padded, Filled, verdict_in}
use Rattle.table.proofs.Columning.{held_same}
use Rattle.table.proofs.Padding.{padded_store, padded_at, padded_filled}
use Rattle.table.specs.Tabled.{table_from, blank_table, refusal, tabled_by}
use Rattle.ground.proofs.Tests.{leb_says, eqb_says, and_says, of_true}
use lib.Dec.{leb, eqb}
use Rattle.rules.proofs.Holding.{processors_says}

-- THE ROWS
-- an entry of a column that was read
column_at : (bytes : List ℕ) (from n j : ℕ) → j < n → get_or (padded (column_of from bytes n)) j 0 ≡ word_at (12 * j + from) bytes
column_at bytes from n j h =
    let z : 0 + j ≡ j = omega arith in
    padded_at (column_of from bytes n) j (omega (arith, length_up (λ i. word_at (12 * i + from) bytes) 0 n))
    ∙ at_up (λ i. word_at (12 * i + from) bytes) 0 0 n j h
    ∙ ap (λ (k : ℕ). word_at (12 * k + from) bytes) z

row_same : (p p' e e' d d' : ℕ) → p ≡ p' → e ≡ e' → d ≡ d' → ◌≡◌ {A = Row} (record { period = p; exec = e; deadline = d }) (record { period = p'; exec = e'; deadline = d' })
row_same p p' e e' d d' a b c = λ i. record { period = a i; exec = b i; deadline = c i }

rows_read : (bytes : List ℕ) (n : ℕ) → length bytes ≡ 12 * n
    → rows_held (padded (column_of 0 bytes n)) (padded (column_of 4 bytes n)) (padded (column_of 8 bytes n)) n ≡ rows_of bytes
unfolding rows_of
rows_read bytes n e =
    let k : n ≡ length bytes / 12 = sym (ap (λ (x : ℕ). x / 12) e ∙ mul-div_cancel_left n (omega arith)) in
    held_same (row_in (padded (column_of 0 bytes n)) (padded (column_of 4 bytes n)) (padded (column_of 8 bytes n))) (row_at bytes) 0 n
    (λ j a b.
    (let h : j < n = omega arith in
    let z : 12 * j + 0 ≡ 12 * j = omega arith in
    row_same _ _ _ _ _ _ (column_at bytes 0 n j h ∙ ap (λ (i : ℕ). word_at i bytes) z) (column_at bytes 4 n j h) (column_at bytes 8 n j h)))
    ∙ ap (λ (m : ℕ). map (row_at bytes) (up_from 0 m)) k

-- what is known of three columns that were read into zeros
pub record ReadAs (bytes : List ℕ) (n : ℕ) (ps es ds : List ℕ) : Type 0 where
  pub rows : rows_held ps es ds n ≡ rows_of bytes
  pub periods : Filled ps n
  pub execs : Filled es n
  pub deadlines : Filled ds n

pub read_as : (bytes : List ℕ) (n : ℕ) (ps es ds : List ℕ) → n ≤ 128 → length bytes ≡ 12 * n → ps ≡ sets (replicate 128 0) 0 (column_of 0 bytes n)
    → es ≡ sets (replicate 128 0) 0 (column_of 4 bytes n) → ds ≡ sets (replicate 128 0) 0 (column_of 8 bytes n) → ReadAs bytes n ps es ds
read_as bytes n ps es ds h l p e d =
    let col : (from : ℕ) → length (column_of from bytes n) ≡ n = λ from. length_up (λ i. word_at (12 * i + from) bytes) 0 n in
    let p' : ps ≡ padded (column_of 0 bytes n) = p ∙ padded_store (column_of 0 bytes n) (omega (arith, col 0)) in
    let e' : es ≡ padded (column_of 4 bytes n) = e ∙ padded_store (column_of 4 bytes n) (omega (arith, col 4)) in
    let d' : ds ≡ padded (column_of 8 bytes n) = d ∙ padded_store (column_of 8 bytes n) (omega (arith, col 8)) in
    record {
      rows = (λ i. rows_held (p' i) (e' i) (d' i) n) ∙ rows_read bytes n l;
      periods = subst (λ (x : List ℕ). Filled x n) (sym p') (padded_filled (column_of 0 bytes n) n (col 0));
      execs = subst (λ (x : List ℕ). Filled x n) (sym e') (padded_filled (column_of 4 bytes n) n (col 4));
      deadlines = subst (λ (x : List ℕ). Filled x n) (sym d') (padded_filled (column_of 8 bytes n) n (col 8));
    }

-- a verdict that is not Done hands back the blank table
pub refusal_is : (v : Verdict) (m : ℕ) (rows : List Row) → is_done v.answer ≡ false → refusal v.answer v.row ≡ tabled_by v m rows
refusal_is v m rows e = sym (ap (λ (t : Bool). record { answer = v.answer; row = v.row; table = if t then table_from m rows else blank_table }) e)

-- THE VERDICT
-- a faulty row comes first
pub rows_fault : (m : ℕ) (rows : List Row) (f : Fault) → verdict_in (Err f) ≡ fault_from 1 rows → verdict_in (Err f) ≡ rows_verdict m rows
unfolding rows_verdict
rows_fault m rows f e = ap (λ (v : Verdict). or_else v (size_verdict m rows)) e

-- there is none: the size decides
pub rows_sized : (m : ℕ) (rows : List Row) → plain Done ≡ fault_from 1 rows → size_verdict m rows ≡ rows_verdict m rows
unfolding rows_verdict
rows_sized m rows e = ap (λ (v : Verdict). or_else v (size_verdict m rows)) e

verdict_by : (bytes : List ℕ) (m : ℕ) (a b : Bool) → processors_ok m ≡ a → length_ok (length bytes) ≡ b
    → admit_verdict bytes m ≡ (if a then (if b then rows_verdict m (rows_of bytes) else plain TableLength) else plain Processors)
unfolding admit_verdict
verdict_by bytes m a b p q =
    ap (λ (t : Bool). if t then (if length_ok (length bytes) then rows_verdict m (rows_of bytes) else plain TableLength) else plain Processors) p
    ∙ ap (λ (t : Bool). if a then (if t then rows_verdict m (rows_of bytes) else plain TableLength) else plain Processors) q

-- 1, then 2, then the rows
pub by_processors : (bytes : List ℕ) (m : ℕ) → processors_ok m ≡ false → plain Processors ≡ admit_verdict bytes m
by_processors bytes m p = sym (verdict_by bytes m false (length_ok (length bytes)) p refl)

pub by_length : (bytes : List ℕ) (m : ℕ) → processors_ok m ≡ true → length_ok (length bytes) ≡ false → plain TableLength ≡ admit_verdict bytes m
by_length bytes m p q = sym (verdict_by bytes m true false p q)

pub by_rows : (bytes : List ℕ) (m : ℕ) → processors_ok m ≡ true → length_ok (length bytes) ≡ true → rows_verdict m (rows_of bytes) ≡ admit_verdict bytes m
by_rows bytes m p q = sym (verdict_by bytes m true true p q)

-- what the first two tests say
pub processors_known : (m : ℕ) → processors_ok m ≡ true → (1 ≤ m) × (m ≤ 16)
processors_known m e = of_true (processors_ok m) (processors_says m) e

pub length_known : (n : ℕ) → length_ok n ≡ true → (1 ≤ n / 12) × (n / 12 ≤ 128) × (n ≡ 12 * (n / 12))
length_known n e =
    let s =
    of_true (length_ok n)
    (and_says (1 ≤ n) ((n ≤ 1536) × (n % 12 ≡ 0)) (leb 1 n) (leb n 1536 && eqb (n % 12) 0) (leb_says 1 n)
    (and_says (n ≤ 1536) (n % 12 ≡ 0) (leb n 1536) (eqb (n % 12) 0) (leb_says n 1536) (eqb_says (n % 12) 0)))
    e in
    let d = div-add-mod n 12 in
    (omega arith, omega arith, omega arith)
