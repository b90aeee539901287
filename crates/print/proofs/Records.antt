-- Laws of the output lines
use Prim.Native.Nat.{ℕ, zero, suc, ◌+◌, ◌*◌, ◌≤◌, ◌<◌}
use mathlib.Core.Path.{◌≡◌, refl, sym, ap, ◌∙◌}
use mathlib.Core.List.{List, [], ◌∷◌, ◌++◌, append_assoc, append-nil}
use native.Mathlib.Omega.{arith}
use lib.ListN.{length, get_or, take, drop, length-append, set}
use lib.Seq.{drop-drop, take-suc, sets, drop-cons}
use Rattle.ground.specs.Bytes.{number, pasted}
use Rattle.ground.proofs.Bytes.{paste_then, paste_none}
use Rattle.rules.specs.Record.{slots_from, read_record}
use Rattle.text.specs.Parts.{newline, space}
use Rattle.print.specs.Decimals.{decimal_of}
use Rattle.text.specs.Puts.{Put}
use Rattle.print.specs.Printed.{spaced, record_line, record_lines, scale_word, scale_line, refused_word, refused_line}
use Rattle.print.proofs.Decimals.{digits_most, digits_few}

-- the slots
pub length_slots : (n : ℕ) (b : List ℕ) → length (slots_from n b) ≡ n
unfolding slots_from
length_slots zero b = refl
length_slots (suc n) b = ap suc (length_slots n (drop 2 b))

pub slot_at : (n k : ℕ) (b : List ℕ) → k < n → get_or (slots_from n b) k 0 ≡ number (take 2 (drop (2 * k) b))
unfolding slots_from
slot_at zero k b h = absurd (omega arith)
slot_at (suc n) zero b h = refl
slot_at (suc n) (suc k) b h =
    let e : 2 + 2 * k ≡ 2 * suc k = omega arith in
    slot_at n k (drop 2 b) (omega arith) ∙ ap (λ (l : List ℕ). number (take 2 l)) (drop-drop (2 * k) 2 b ∙ ap (λ (j : ℕ). drop j b) e)

spaced_append : (a b : List ℕ) → spaced (a ++ b) ≡ spaced a ++ spaced b
unfolding spaced
spaced_append [] b = refl
spaced_append (x ∷ a) b = ap (λ (l : List ℕ). (space ∷ decimal_of x) ++ l) (spaced_append a b) ∙ sym (append_assoc (space ∷ decimal_of x) (spaced a) (spaced b))

pub spaced_more : (xs : List ℕ) (k : ℕ) → k < length xs → spaced (take k xs) ++ (space ∷ decimal_of (get_or xs k 0)) ≡ spaced (take (k + 1) xs)
unfolding spaced
spaced_more xs k h =
    let e : suc k ≡ k + 1 = omega arith in
    let one : spaced (get_or xs k 0 ∷ []) ≡ space ∷ decimal_of (get_or xs k 0) = append-nil (space ∷ decimal_of (get_or xs k 0)) in
    ap (λ (l : List ℕ). spaced (take k xs) ++ l) (sym one)
    ∙ sym (spaced_append (take k xs) (get_or xs k 0 ∷ []))
    ∙ ap spaced (sym (take-suc xs k 0 h) ∙ ap (λ (j : ℕ). take j xs) e)

-- how long a number may be
pub decimal_most : (x : ℕ) → length (decimal_of x) ≤ 20
decimal_most x = digits_most 20 x

pub decimal_short : (x : ℕ) → x < 65536 → length (decimal_of x) ≤ 5
decimal_short x h = digits_few 20 5 x (omega arith, omega arith)

-- a word, byte by byte
pub word_turn : (l w : List ℕ) (at i : ℕ) → i < length w → sets l (at + i) (drop i w) ≡ sets (set l (at + i) (get_or w i 0)) (at + (i + 1)) (drop (i + 1) w)
word_turn l w at i h =
    let e : suc (at + i) ≡ at + (i + 1) = omega arith in
    let f : suc i ≡ i + 1 = omega arith in
    ap (sets l (at + i)) (drop-cons w i 0 h)
    ∙ ap (λ (n : ℕ). sets (set l (at + i) (get_or w i 0)) n (drop (suc i) w)) e
    ∙ ap (λ (n : ℕ). sets (set l (at + i) (get_or w i 0)) (at + (i + 1)) (drop n w)) f

-- the line of a record, as it is put
pub record_line_lem : (m place : ℕ) (room : List ℕ)
    → decimal_of (number (take 8 (drop place room))) ++ (space ∷ decimal_of (number (take 8 (drop (place + 8) room)))) ++ spaced (take m (slots_from 16 (drop (place + 16) room))) ++ (newline ∷ [])
    ≡ record_line m (read_record (drop place room))
unfolding read_record spaced
record_line_lem m place room =
    let d = decimal_of (number (take 8 (drop place room))) in
    let s : List ℕ → List ℕ → List ℕ = λ a b. d ++ ((space ∷ decimal_of (number (take 8 a))) ++ spaced (take m (slots_from 16 b))) ++ (newline ∷ []) in
    ap (λ (l : List ℕ). l ++ (newline ∷ []))
    (append_assoc d (space ∷ decimal_of (number (take 8 (drop (place + 8) room)))) (spaced (take m (slots_from 16 (drop (place + 16) room)))))
    ∙ ap (λ (a : List ℕ). s a (drop (place + 16) room)) (sym (drop-drop 8 place room))
    ∙ ap (λ (b : List ℕ). s (drop 8 (drop place room)) b) (sym (drop-drop 16 place room))

-- what is left to put of the records, after one
pub records_turn : (l l₁ room : List ℕ) (at n₁ m j i : ℕ) → 0 < j → at + length (record_line m (read_record (drop (48 * i) room))) ≤ length l
    → Put l at (record_line m (read_record (drop (48 * i) room))) l₁ n₁
    → (k : ℕ) × (j ≡ k + 1) × (pasted l at (record_lines m j (drop (48 * i) room)) ≡ pasted l₁ n₁ (record_lines m k (drop (48 * (i + 1)) room)))
    × (at + length (record_lines m j (drop (48 * i) room)) ≡ n₁ + length (record_lines m k (drop (48 * (i + 1)) room)))
unfolding record_lines
records_turn l l₁ room at n₁ m zero i h r p = absurd (omega arith)
records_turn l l₁ room at n₁ m (suc k) i h r p =
    let v = record_line m (read_record (drop (48 * i) room)) in
    let c : 48 * i + 48 ≡ 48 * (i + 1) = omega arith in
    let e : record_lines m k (drop 48 (drop (48 * i) room)) ≡ record_lines m k (drop (48 * (i + 1)) room) =
    ap (record_lines m k) (drop-drop 48 (48 * i) room ∙ ap (λ (j : ℕ). drop j room) c) in
    let w = record_lines m k (drop (48 * (i + 1)) room) in (
      k,
      omega arith,
      ap (λ (x : List ℕ). pasted l at (v ++ x)) e ∙ sym (paste_then l l₁ at n₁ v w r p.0 p.1),
      omega (arith, ap (λ (x : List ℕ). length (v ++ x)) e, length-append v w, p.1),
    )

pub records_none : (l room : List ℕ) (at m j : ℕ) → j ≡ 0 → (pasted l at (record_lines m j room) ≡ l) × (length (record_lines m j room) ≡ 0)
unfolding record_lines
records_none l room at m j e =
    (ap (λ (k : ℕ). pasted l at (record_lines m k room)) e ∙ paste_none l at, ap (λ (k : ℕ). length (record_lines m k room)) e)

-- how long the lines may be
pub scale_short : (x : ℕ) → length (scale_line x) ≤ 27
scale_short x =
    omega (arith, length-append (scale_word ++ decimal_of x) (newline ∷ []), length-append scale_word (decimal_of x), decimal_most x)

pub refused_short : (n line : ℕ) → length (refused_line n line) ≤ 50
refused_short n line =
    omega (arith, length-append (refused_word ++ decimal_of n ++ (space ∷ decimal_of line)) (newline ∷ []), length-append (refused_word ++ decimal_of n) (space ∷ decimal_of line), length-append refused_word (decimal_of n), decimal_most n, decimal_most line)
