-- The table's bytes read back as the rows of the text
use Rattle.std.specs.Prelude.{if◌then◌else◌, Option, Some, None}
use Prim.Native.Nat.{ℕ, zero, suc, ◌*◌, ◌-◌, ◌≤◌, ◌<◌}
use mathlib.Core.Path.{◌≡◌, refl, ◌∙◌}
use mathlib.Core.Bool.{Bool, true, false, ◌&&◌}
use mathlib.Core.List.{List, [], ◌∷◌, ◌++◌, map}
use lib.Dec.{leb, ltb}
use native.Mathlib.Omega.{arith}
use lib.ListN.{length, take, drop, length-take}
use lib.Seq.{take_all}
use Rattle.ground.specs.Tests.{every}
use Rattle.ground.proofs.Tests.{leb_says, of_true}
use Rattle.rules.specs.Table.{Row, rows_of}
use Rattle.rules.proofs.Reading.{RowsFit, length_table, table_rows}
use Rattle.text.specs.declared.Item.{Item}
use Rattle.text.specs.declared.Item.TheVariants.{Processors, Task, Arrive, Until}
use Rattle.text.specs.Parts.{same, lines_of, parts_of}
use Rattle.text.specs.Numbers.{most_number, is_digit, plain, spelled, numeral_of}
use Rattle.text.specs.Lines.{processors_word, task_word, arrive_word, until_word, with_one, with_two, with_three, of_parts, item_of}
use Rattle.text.specs.Meaning.{items_of, end_at, line_at, row_by, rows_in, table_of}
use Rattle.text.proofs.Walks.{whole_line, no_line}

-- each number of a text fits 32 bits
abbrev NumeralFits : Option ℕ → Type 0
NumeralFits (Some x) = x ≤ most_number
NumeralFits None = Unit {0}

numeral_fits : (p : List ℕ) → NumeralFits (numeral_of p)
unfolding numeral_of
numeral_fits p = go (plain p) (every is_digit p) (leb (spelled p) most_number) (λ e. of_true (leb (spelled p) most_number) (leb_says (spelled p) most_number) e)
  where
    go : (a b c : Bool) → (c ≡ true → spelled p ≤ most_number) → NumeralFits (if a && (b && c) then Some (spelled p) else None)
    go true true true f = f refl
    go true true false f = tt
    go true false c f = tt
    go false b c f = tt

-- and so does each number of a line
abbrev pub ItemFits : Option Item → Type 0
ItemFits (Some (Processors m)) = m ≤ most_number
ItemFits (Some (Task p e d)) = (p ≤ most_number) × (e ≤ most_number) × (d ≤ most_number)
ItemFits (Some (Arrive t i)) = (t ≤ most_number) × (i ≤ most_number)
ItemFits (Some (Until t)) = t ≤ most_number
ItemFits None = Unit {0}

two_fit : (w : List ℕ) (a b : Option ℕ) → NumeralFits a → NumeralFits b → ItemFits (with_two w a b)
two_fit w (Some x) (Some y) f g = go (same w arrive_word)
  where
    go : (t : Bool) → ItemFits (if t then Some (Arrive x y) else None)
    go true = (f, g)
    go false = tt
two_fit w (Some x) None f g = tt
two_fit w None b f g = tt

one_fit : (w : List ℕ) (a : Option ℕ) → NumeralFits a → ItemFits (with_one w a)
one_fit w (Some x) f = go (same w processors_word) (same w until_word)
  where
    go : (t u : Bool) → ItemFits (if t then Some (Processors x) else (if u then Some (Until x) else None))
    go true u = f
    go false true = f
    go false false = tt
one_fit w None f = tt

three_fit : (w : List ℕ) (a b c : Option ℕ) → NumeralFits a → NumeralFits b → NumeralFits c → ItemFits (with_three w a b c)
three_fit w (Some x) (Some y) (Some z) f g h = go (same w task_word)
  where
    go : (t : Bool) → ItemFits (if t then Some (Task x y z) else None)
    go true = (f, g, h)
    go false = tt
three_fit w (Some x) (Some y) None f g h = tt
three_fit w (Some x) None c f g h = tt
three_fit w None b c f g h = tt

parts_fit : (ps : List (List ℕ)) → ItemFits (of_parts ps)
parts_fit [] = tt
parts_fit (w ∷ []) = tt
parts_fit (w ∷ a ∷ []) = one_fit w (numeral_of a) (numeral_fits a)
parts_fit (w ∷ a ∷ b ∷ []) = two_fit w (numeral_of a) (numeral_of b) (numeral_fits a) (numeral_fits b)
parts_fit (w ∷ a ∷ b ∷ c ∷ []) = three_fit w (numeral_of a) (numeral_of b) (numeral_of c) (numeral_fits a) (numeral_fits b) (numeral_fits c)
parts_fit (w ∷ a ∷ b ∷ c ∷ d ∷ l) = tt

pub item_fits : (line : List ℕ) → ItemFits (item_of line)
unfolding item_of
item_fits line = parts_fit (parts_of line)

-- of the line at a place too
pub line_fits : (s : List ℕ) (at : ℕ) → ItemFits (line_at s at).item
unfolding line_at
line_fits s at = go (ltb (end_at s at) (length s))
  where
    go : (t : Bool) → ItemFits (if t then whole_line s at (end_at s at) else no_line s).item
    go true = item_fits (take (end_at s at - at) (drop at s))
    go false = tt

item_rows : (x : Option Item) → ItemFits x → RowsFit (row_by x)
item_rows (Some (Processors m)) f = tt
item_rows (Some (Task p e d)) f = (f, tt)
item_rows (Some (Arrive t i)) f = tt
item_rows (Some (Until t)) f = tt
item_rows None f = tt

fit_append : (a b : List Row) → RowsFit a → RowsFit b → RowsFit (a ++ b)
fit_append [] b f g = g
fit_append (r ∷ a) b f g = (f.0, fit_append a b f.1 g)

fit_take : (n : ℕ) (rs : List Row) → RowsFit rs → RowsFit (take n rs)
fit_take zero [] f = tt
fit_take zero (r ∷ rs) f = tt
fit_take (suc n) [] f = tt
fit_take (suc n) (r ∷ rs) f = (f.0, fit_take n rs f.1)

lines_rows : (ls : List (List ℕ)) → RowsFit (rows_in (map item_of ls))
unfolding rows_in
lines_rows [] = tt
lines_rows (l ∷ ls) = fit_append (row_by (item_of l)) (rows_in (map item_of ls)) (item_rows (item_of l) (item_fits l)) (lines_rows ls)

pub text_rows_fit : (text : List ℕ) → RowsFit (rows_in (items_of text))
unfolding items_of
text_rows_fit text = lines_rows (lines_of text)

-- the rows of the table that the text gives are the rows of the text, up to 129
pub text_table : (text : List ℕ) → rows_of (table_of text) ≡ take 129 (rows_in (items_of text))
unfolding table_of
text_table text = table_rows (take 129 (rows_in (items_of text))) (fit_take 129 (rows_in (items_of text)) (text_rows_fit text))

-- all of them, where there are at most 129
pub text_table_whole : (text : List ℕ) → length (rows_in (items_of text)) ≤ 129 → rows_of (table_of text) ≡ rows_in (items_of text)
text_table_whole text h = text_table text ∙ take_all 129 (rows_in (items_of text)) h

-- its length says how many rows there are; with more than 128 it is above 1,536
pub text_table_length : (text : List ℕ) → length (table_of text) ≡ 12 * length (take 129 (rows_in (items_of text)))
unfolding table_of
text_table_length text = length_table (take 129 (rows_in (items_of text)))

pub text_table_long : (text : List ℕ) → 128 < length (rows_in (items_of text)) → length (table_of text) ≡ 1548
text_table_long text h = omega (arith, text_table_length text, length-take 129 (rows_in (items_of text)))

pub text_table_short : (text : List ℕ) → length (table_of text) ≤ 1548
text_table_short text = omega (arith, text_table_length text, length-take 129 (rows_in (items_of text)))
