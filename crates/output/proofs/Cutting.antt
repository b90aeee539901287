-- What a buffer's end cuts off changes nothing: rows past the 129th, bytes past the 65,537th
use Rattle.std.specs.Prelude.{if◌then◌else◌, Err}
use mathlib.Core.Path.{◌≡◌, refl, sym, ◌∙◌, ap}
use mathlib.Core.Bool.{Bool, true, false, ◌&&◌}
use mathlib.Core.List.{List}
use Prim.Native.Nat.{ℕ, ◌≤◌, ◌<◌}
use native.Mathlib.Omega.{arith}
use lib.Dec.{leb, ltb}
use lib.ListN.{length, take}
use lib.Seq.{take_all, length-take-le}
use Rattle.ground.specs.Tests.{Says}
use Rattle.ground.proofs.Tests.{leb_says, ltb_says, is_true, is_false}
use Rattle.rules.specs.Answers.{Answer, TableLength, Processors, is_done}
use Rattle.rules.specs.Table.{Row, rows_of, table_bytes}
use Rattle.rules.specs.State.{blank, admitted}
use Rattle.rules.specs.Admission.{plain, Admitted, processors_ok, rows_verdict, admit_verdict, admit}
use Rattle.rules.proofs.Reading.{length_table}
use Rattle.text.specs.declared.Flaw.TheVariants.{TooLong}
use Rattle.text.specs.declared.Stage.TheVariants.{Start}
use Rattle.text.specs.Parts.{split_by, newline}
use Rattle.text.specs.Form.{Checked, form_from, form_of}
use Rattle.text.specs.Meaning.{items_of, rows_in, table_of}
use Rattle.output.specs.Course.{course_by, course_of}
use Rattle.output.specs.Output.{printed, output_of}

-- by cases on how long it is
by_length : (P : Type 0) (a b : ℕ) → (a ≤ b → P) → (b < a → P) → P
by_length P a b f g = go (leb a b) (leb_says a b)
  where
    go : (t : Bool) → Says (a ≤ b) t → P
    go true h = f h
    go false h = g (omega (arith, h))

-- a table that is too long is refused, whatever its rows
abbrev too_long : ℕ → Answer
too_long m = if processors_ok m then TableLength else Processors

long_admit : (bytes : List ℕ) (m : ℕ) → 1536 < length bytes → admit bytes m ≡ record { answer = too_long m; row = 0; state = blank }
unfolding admit admit_verdict
long_admit bytes m h = rw (is_false (leb (length bytes) 1536) (leb_says (length bytes) 1536) (λ z. omega (arith, h, z))) (go (processors_ok m) (leb 1 (length bytes)))
  where
    go : (p q : Bool)
        → ◌≡◌ {A = Admitted} (record {
          answer = (if p then (if q && false then rows_verdict m (rows_of bytes) else plain TableLength) else plain Processors).answer;
          row = (if p then (if q && false then rows_verdict m (rows_of bytes) else plain TableLength) else plain Processors).row;
          state = if is_done (if p then (if q && false then rows_verdict m (rows_of bytes) else plain TableLength) else plain Processors).answer then admitted m (rows_of bytes) else blank;
        }) (record { answer = if p then TableLength else Processors; row = 0; state = blank })
    go true true = refl
    go true false = refl
    go false q = refl

pub rows_cut : (text : List ℕ) (m : ℕ) → admit (table_of text) m ≡ admit (table_bytes (rows_in (items_of text))) m
unfolding table_of
rows_cut text m =
    let rows = rows_in (items_of text) in
    by_length _ (length rows) 129
    (λ h. ap (λ (l : List Row). admit (table_bytes l) m) (take_all 129 rows h))
    (λ h.
    let a : 1536 < length (table_bytes (take 129 rows)) = omega (arith, length_table (take 129 rows), length-take-le 129 rows (omega (arith, h))) in
    let b : 1536 < length (table_bytes rows) = omega (arith, length_table rows, h) in
    long_admit (table_bytes (take 129 rows)) m a ∙ sym (long_admit (table_bytes rows) m b))

-- a text that is too long breaks the form, whatever its lines
pub long_form : (text : List ℕ) → 65536 < length text → form_of text ≡ Err TooLong
unfolding form_of
long_form text h = ap (λ b. if b then Err TooLong else form_from Start 1 (split_by newline text)) (is_true (ltb 65536 (length text)) (ltb_says 65536 (length text)) h)

long_output : (text : List ℕ) → 65536 < length text → output_of text ≡ printed (course_by text (Err TooLong))
unfolding output_of course_of
long_output text h = ap (λ (f : Checked). printed (course_by text f)) (long_form text h)

pub text_cut : (text : List ℕ) → output_of (take 65537 text) ≡ output_of text
text_cut text =
    by_length _ (length text) 65537
    (λ h. ap output_of (take_all 65537 text h))
    (λ h. long_output (take 65537 text) (omega (arith, length-take-le 65537 text (omega (arith, h)))) ∙ sym (long_output text (omega (arith, h))))
