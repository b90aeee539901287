-- What is written as bytes reads back; stores one by one, and one part after another
use mathlib.Core.Path.{◌≡◌, refl, sym, ap, ◌∙◌}
use mathlib.Core.List.{List, [], ◌∷◌, ◌++◌, append_assoc, append-nil}
use Prim.Native.Nat.{ℕ, zero, suc, ◌+◌, ◌-◌, ◌*◌, ◌/◌, ◌%◌, ◌≤◌, ◌<◌, ◌^◌}
use native.Mathlib.Nat.{add-zero, mod-add-div, div-lt_iff_lt-mul, pow-suc, pow-zero, add-mul-div_left, add-mul-mod_self_left, mod-eq_of_lt, div-eq_of_lt, pow-le-pow_right}
use native.Mathlib.Omega.{arith}
use lib.ListN.{length, get_or, set, take, drop, length-append, length-drop, length-take, take-append-drop}
use borrow.Rule.Slice.PartMut.{put_mid}
use Rattle.std.proofs.lemmas.Slice.{put_mid-paste}
use lib.Seq.{sets, sets-eq, take-length, drop-length, take_at, drop-drop, drop-cons, drop-append-add, length-take-le}
use Rattle.ground.specs.Bytes.{le, number, pasted}

pub length_le : (n x : ℕ) → length (le n x) ≡ n
unfolding le
length_le zero x = refl
length_le (suc n) x = ap suc (length_le n (x / 256))

pub number_le : (n x : ℕ) → x < 256 ^ n → number (le n x) ≡ x
unfolding le number
number_le zero x h = omega (arith, rw pow-zero at h)
number_le (suc n) x h =
    let pos : 0 < 256 = omega arith in
    let h' : x < 256 ^ n * 256 = rw pow-suc at h in
    omega (arith, ap (λ z. 256 * z) (number_le n (x / 256) ((div-lt_iff_lt-mul pos).1 h')), mod-add-div x 256)

-- a byte, in front of those that follow it
byte_low : (b n : ℕ) → b < 256 → ((b + 256 * n) % 256 ≡ b) × ((b + 256 * n) / 256 ≡ n)
byte_low b n h =
    let pos : 0 < 256 = omega arith in
    (add-mul-mod_self_left b 256 n ∙ mod-eq_of_lt h, add-mul-div_left b n pos ∙ ap (λ (k : ℕ). k + n) (div-eq_of_lt h) ∙ omega arith)

-- the bytes of the number that bytes spell are those bytes
pub le_number : (l : List ℕ) → ((j : ℕ) → get_or l j 0 < 256) → le (length l) (number l) ≡ l
unfolding le number
le_number [] h = refl
le_number (b ∷ l) h =
    let e = byte_low b (number l) (h 0) in
    ap (λ (x : ℕ). x ∷ le (length l) ((b + 256 * number l) / 256)) e.0
    ∙ ap (λ (x : ℕ). b ∷ le (length l) x) e.1
    ∙ ap (λ (k : List ℕ). b ∷ k) (le_number l (λ j. h (suc j)))

-- a number of n bytes is below 256 ^ n
pub number_below : (l : List ℕ) → ((j : ℕ) → get_or l j 0 < 256) → number l < 256 ^ length l
unfolding number
number_below [] h = omega (arith, pow-zero 256)
number_below (b ∷ l) h =
    let z : 256 ^ suc (length l) ≡ 256 ^ length l * 256 = pow-suc 256 (length l) in
    omega (arith, h 0, z, number_below l (λ j. h (suc j)))

-- one byte more in front
pub number_turn : (l : List ℕ) (at w i r : ℕ) → 0 < i → i ≤ w → at + w ≤ length l → get_or l (at + (i - 1)) 0 < 256
    → (r ≡ number (take (w - i) (drop (at + i) l))) × (r < 256 ^ (w - i))
    → (256 * r + get_or l (at + (i - 1)) 0 ≡ number (take (w - (i - 1)) (drop (at + (i - 1)) l))) × (256 * r + get_or l (at + (i - 1)) 0 < 256 ^ (w - (i - 1)))
unfolding number
number_turn l at w i r p h k b e =
    let n : w - (i - 1) ≡ suc (w - i) = omega arith in
    let m : suc (at + (i - 1)) ≡ at + i = omega arith in
    let z : 256 ^ (w - (i - 1)) ≡ 256 ^ (w - i) * 256 = ap (λ (x : ℕ). 256 ^ x) n ∙ pow-suc 256 (w - i) in
    let more : number (take (w - (i - 1)) (drop (at + (i - 1)) l)) ≡ get_or l (at + (i - 1)) 0 + 256 * number (take (w - i) (drop (at + i) l)) =
    ap (λ (x : ℕ). number (take x (drop (at + (i - 1)) l))) n
    ∙ ap (λ (q : List ℕ). number (take (suc (w - i)) q)) (drop-cons l (at + (i - 1)) 0 (omega arith))
    ∙ ap (λ (x : ℕ). get_or l (at + (i - 1)) 0 + 256 * number (take (w - i) (drop x l))) m in
    (omega (arith, more, ap (λ (x : ℕ). 256 * x) e.0), omega (arith, z, e.1))

-- 256 times a number of fewer than eight bytes, and a byte, fit 64 bits
pub turn_fits : (w i r b : ℕ) → w ≤ 8 → 0 < i → i ≤ w → r < 256 ^ (w - i) → b < 256 → 256 * r + b < 18446744073709551616
turn_fits w i r b h p k e f =
    let pos : 0 < 256 = omega arith in
    let m : w - i ≤ 7 = omega arith in
    omega (arith, pow-le-pow_right {n = 256} pos m)

-- nothing is put
pub paste_none : (l : List ℕ) (at : ℕ) → pasted l at [] ≡ l
paste_none l at = rw (append-nil, add-zero) (take-append-drop at l)

pub length_pasted : (l : List ℕ) (at : ℕ) (v : List ℕ) → at + length v ≤ length l → length (pasted l at v) ≡ length l
length_pasted l at v h =
    omega (arith, length-append (take at l ++ v) (drop (at + length v) l), length-append (take at l) v, length-take-le at l (omega arith), length-drop (at + length v) l)

-- one after the other
pub paste_paste : (l : List ℕ) (at : ℕ) (v w : List ℕ) → at + length v ≤ length l → pasted (pasted l at v) (at + length v) w ≡ pasted l at (v ++ w)
paste_paste l at v w h =
    let p = take at l ++ v in
    let n = at + length v in
    let e : length p ≡ n = omega (arith, length-append (take at l) v, length-take-le at l (omega arith)) in
    let t : take n (p ++ drop n l) ≡ p = take_at p (drop n l) n e in
    let d : drop (n + length w) (p ++ drop n l) ≡ drop (n + length w) l =
    ap (λ (m : ℕ). drop (m + length w) (p ++ drop n l)) (sym e) ∙ drop-append-add p (drop n l) (length w) ∙ drop-drop (length w) n l in
    let m : n + length w ≡ at + length (v ++ w) = omega (arith, length-append v w) in
    ap (λ (q : List ℕ). q ++ w ++ drop (n + length w) (p ++ drop n l)) t
    ∙ ap (λ (q : List ℕ). p ++ w ++ q) d
    ∙ ap (λ (q : List ℕ). q ++ drop (n + length w) l) (append_assoc (take at l) v w)
    ∙ ap (λ (k : ℕ). take at l ++ (v ++ w) ++ drop k l) m

-- the same where the next place is given
pub paste_then : (l l' : List ℕ) (at n : ℕ) (v w : List ℕ) → at + length v ≤ length l → l' ≡ pasted l at v → n ≡ at + length v → pasted l' n w ≡ pasted l at (v ++ w)
paste_then l l' at n v w h e f = ap (λ (x : List ℕ). pasted x n w) e ∙ ap (λ (k : ℕ). pasted (pasted l at v) k w) f ∙ paste_paste l at v w h

-- A NUMBER'S BYTES, STORED ONE BY ONE
-- what is left to store, after one; and nothing
pub le_turn : (l : List ℕ) (i m k y : ℕ) → m ≡ suc k → sets l i (le m y) ≡ sets (set l i (y % 256)) (i + 1) (le k (y / 256))
unfolding le
le_turn l i m k y e =
    let s : suc i ≡ i + 1 = omega arith in
    ap (λ (n : ℕ). sets l i (le n y)) e ∙ ap (λ (n : ℕ). sets (set l i (y % 256)) n (le k (y / 256))) s

pub le_none : (l : List ℕ) (i m y : ℕ) → m ≡ 0 → sets l i (le m y) ≡ l
unfolding le
le_none l i m y e = ap (λ (n : ℕ). sets l i (le n y)) e

-- the part of so many bytes from a place on
pub part_long : (l : List ℕ) (at w : ℕ) → at + w ≤ length l → length (take (at + w - at) (drop at l)) ≡ w
part_long l at w h = omega (arith, length-take (at + w - at) (drop at l), length-drop at l)

-- stored over the whole part, it is the paste
pub part_stored : (l part v : List ℕ) (at k : ℕ) → length part ≡ k → length v ≡ k → put_mid at k l (sets part 0 v) ≡ pasted l at v
part_stored l part v at k p q =
    let all : 0 + length v ≡ length part = omega arith in
    let whole : sets part 0 v ≡ v =
    sets-eq v part 0 (omega arith) ∙ ap (λ (n : ℕ). v ++ drop n part) all ∙ ap (λ (x : List ℕ). v ++ x) (drop-length part) ∙ append-nil v in
    put_mid-paste at k l (sets part 0 v) v (length v) whole q refl
    ∙ ap (λ (x : List ℕ). take at l ++ x ++ drop (at + length v) l) (take-length v)

-- one more part after those that are there
pub grown : (p v l : List ℕ) (n : ℕ) → length p ≡ n → n ≤ length l → pasted (p ++ drop n l) n v ≡ (p ++ v) ++ drop (n + length v) l
grown p v l n e h =
    let t : take n (p ++ drop n l) ≡ p = take_at p (drop n l) n e in
    let s : drop (n + length v) (p ++ drop n l) ≡ drop (n + length v) l =
    ap (λ (m : ℕ). drop (m + length v) (p ++ drop n l)) (sym e) ∙ drop-append-add p (drop n l) (length v) ∙ drop-drop (length v) n l in
    ap (λ (q : List ℕ). q ++ v ++ drop (n + length v) (p ++ drop n l)) t ∙ ap (λ (q : List ℕ). p ++ v ++ q) s
