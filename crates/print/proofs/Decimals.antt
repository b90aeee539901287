-- Laws of numbers that are written
use Rattle.std.specs.Prelude.{if◌then◌else◌}
use Prim.Native.Nat.{ℕ, zero, suc, ◌+◌, ◌-◌, ◌*◌, ◌/◌, ◌%◌, ◌^◌, ◌≤◌, ◌<◌}
use mathlib.Core.Path.{◌≡◌, refl, sym, ap, subst, ◌∙◌}
use mathlib.Core.Bool.{Bool, true, false}
use mathlib.Core.List.{List, [], ◌∷◌, ◌++◌, append_assoc}
use native.Mathlib.Nat.{pow-suc, pow-zero, div-lt_iff_lt-mul, le-div_iff_mul-le, div-div-eq-div-mul, mod-eq_of_lt}
use native.Mathlib.Omega.{arith}
use borrow.Author.Tests.{lt-ltb, le-ltb}
use lib.Dec.{ltb}
use lib.ListN.{length, set, take, drop, length-append}
use lib.Seq.{take-set-le, drop-cons, drop-set-lt, get_or-set_same, append_snoc, lt-length-set, set_split}
use Rattle.ground.specs.Bytes.{pasted}
use Rattle.ground.specs.Tests.{Says}
use Rattle.ground.proofs.Tests.{ltb_says}
use Rattle.print.specs.Decimals.{digits}

-- f digits are enough for y
abbrev pub Enough : ℕ → ℕ → Type 0
Enough f y = (1 ≤ f) × (y < 10 ^ f)

pub digits_last : (f y : ℕ) → 1 ≤ f → y < 10 → digits f y ≡ (48 + y) ∷ []
unfolding digits
digits_last zero y h k = absurd (omega arith)
digits_last (suc f) y h k = rw (lt-ltb y 10 k)

-- one digit less is enough for all but the last digit
pub enough_less : (g y : ℕ) → y < 10 ^ suc g → 10 ≤ y → Enough g (y / 10)
enough_less zero y h k = let h' : y < 10 ^ 0 * 10 = rw pow-suc at h in let z : 10 ^ 0 ≡ 1 = pow-zero 10 in absurd (omega arith)
enough_less (suc g) y h k =
    let pos : 0 < 10 = omega arith in
    let h' : y < 10 ^ suc g * 10 = rw pow-suc at h in
    (omega arith, (div-lt_iff_lt-mul pos).1 h')

pub digits_more : (f y : ℕ) → Enough f y → 10 ≤ y → (g : ℕ) × (f ≡ g + 1) × Enough g (y / 10) × (digits f y ≡ digits g (y / 10) ++ ((48 + y % 10) ∷ []))
unfolding digits
digits_more zero y e h = absurd (omega arith)
digits_more (suc g) y e h = (g, omega arith, enough_less g y e.1 h, rw (le-ltb y 10 h))

count_more : (f y : ℕ) → Enough f y → 10 ≤ y → (g : ℕ) × (f ≡ g + 1) × Enough g (y / 10) × (length (digits f y) ≡ length (digits g (y / 10)) + 1)
count_more f y e h =
    let t = digits_more f y e h in
    (t.0, t.1, t.2, ap length t.3 ∙ length-append (digits t.0 (y / 10)) ((48 + y % 10) ∷ []))

-- how many digits, by the size
pub tenth : (k y : ℕ) → k * 10 ≤ y → k ≤ y / 10
tenth k y h = let pos : 0 < 10 = omega arith in (le-div_iff_mul-le pos).1 h

under : (k y : ℕ) → y < k * 10 → y / 10 < k
under k y h = let pos : 0 < 10 = omega arith in (div-lt_iff_lt-mul pos).1 h

pub count_one : (f y : ℕ) → Enough f y → y < 10 → length (digits f y) ≡ 1
count_one f y e h = ap length (digits_last f y e.0 h)

pub count_two : (f y : ℕ) → Enough f y → 10 ≤ y → y < 100 → length (digits f y) ≡ 2
count_two f y e a h = let t = count_more f y e a in omega (arith, count_one t.0 (y / 10) t.2 (under 10 y h), t.3)

pub count_three : (f y : ℕ) → Enough f y → 100 ≤ y → y < 1000 → length (digits f y) ≡ 3
count_three f y e a h =
    let t = count_more f y e (omega arith) in omega (arith, count_two t.0 (y / 10) t.2 (tenth 10 y a) (under 100 y h), t.3)

pub count_four : (f y : ℕ) → Enough f y → 1000 ≤ y → y < 10000 → length (digits f y) ≡ 4
count_four f y e a h =
    let t = count_more f y e (omega arith) in omega (arith, count_three t.0 (y / 10) t.2 (tenth 100 y a) (under 1000 y h), t.3)

-- four digits at a time
pub count_on : (f y : ℕ) → Enough f y → 10000 ≤ y → (g : ℕ) × (f ≡ g + 4) × Enough g (y / 10000) × (length (digits f y) ≡ length (digits g (y / 10000)) + 4)
count_on f y e h =
    let h1 : 1000 ≤ y / 10 = tenth 1000 y h in
    let h2 : 100 ≤ y / 10 / 10 = tenth 100 (y / 10) h1 in
    let h3 : 10 ≤ y / 10 / 10 / 10 = tenth 10 (y / 10 / 10) h2 in
    let a = count_more f y e (omega arith) in
    let b = count_more a.0 (y / 10) a.2 (omega arith) in
    let c = count_more b.0 (y / 10 / 10) b.2 (omega arith) in
    let d = count_more c.0 (y / 10 / 10 / 10) c.2 h3 in
    let q : y / 10 / 10 / 10 / 10 ≡ y / 10000 =
    ap (λ (n : ℕ). n / 10 / 10) (div-div-eq-div-mul y 10 10) ∙ ap (λ (n : ℕ). n / 10) (div-div-eq-div-mul y 100 10) ∙ div-div-eq-div-mul y 1000 10 in (
      d.0,
      omega (arith, a.1, b.1, c.1, d.1),
      subst (λ (n : ℕ). Enough d.0 n) q d.2,
      omega (arith, a.3, b.3, c.3, d.3, ap (λ (n : ℕ). length (digits d.0 n)) q),
    )

-- never more digits than that
pub digits_most : (n x : ℕ) → length (digits n x) ≤ n
unfolding digits
digits_most zero x = omega arith
digits_most (suc n) x = go (ltb x 10) (digits_most n (x / 10))
  where
    go : (t : Bool) → length (digits n (x / 10)) ≤ n → length (if t then (48 + x) ∷ [] else digits n (x / 10) ++ ((48 + x % 10) ∷ [])) ≤ suc n
    go true f = omega arith
    go false f = omega (arith, length-append (digits n (x / 10)) ((48 + x % 10) ∷ []))

pub digits_few : (n k x : ℕ) → Enough k x → length (digits n x) ≤ k
unfolding digits
digits_few zero k x e = omega arith
digits_few (suc n) zero x e = absurd (omega arith)
digits_few (suc n) (suc k) x e = go (ltb x 10) (ltb_says x 10) (digits_few n k (x / 10))
  where
    go : (t : Bool) → Says (x < 10) t → (Enough k (x / 10) → length (digits n (x / 10)) ≤ k) → length (if t then (48 + x) ∷ [] else digits n (x / 10) ++ ((48 + x % 10) ∷ [])) ≤ suc k
    go true h f = omega arith
    go false h f = omega (arith, length-append (digits n (x / 10)) ((48 + x % 10) ∷ []), f (enough_less k x e.1 (omega arith)))

-- the k last digits of y
unfoldable pub low : ℕ → ℕ → List ℕ
low zero y = []
low (suc k) y = low k (y / 10) ++ ((48 + y % 10) ∷ [])

pub length_low : (k y : ℕ) → length (low k y) ≡ k
unfolding low
length_low zero y = refl
length_low (suc k) y = omega (arith, length-append (low k (y / 10)) ((48 + y % 10) ∷ []), length_low k (y / 10))

pub digits_low : (n x : ℕ) → digits n x ≡ low (length (digits n x)) x
unfolding digits low
digits_low zero x = refl
digits_low (suc n) x = go (ltb x 10) (ltb_says x 10) (digits_low n (x / 10))
  where
    all : Bool → List ℕ
    all t = if t then (48 + x) ∷ [] else digits n (x / 10) ++ ((48 + x % 10) ∷ [])

    go : (t : Bool) → Says (x < 10) t → digits n (x / 10) ≡ low (length (digits n (x / 10))) (x / 10) → all t ≡ low (length (all t)) x
    go true h f = ap (λ (d : ℕ). (48 + d) ∷ []) (sym (mod-eq_of_lt h))
    go false h f =
        let e : length (digits n (x / 10) ++ ((48 + x % 10) ∷ [])) ≡ suc (length (digits n (x / 10))) = omega (arith, length-append (digits n (x / 10)) ((48 + x % 10) ∷ [])) in
        ap (λ (l : List ℕ). l ++ ((48 + x % 10) ∷ [])) f ∙ ap (λ (k : ℕ). low k x) (sym e)

-- the last byte stored first
pub paste_back : (l v : List ℕ) (at k b : ℕ) → length v ≡ k → at + k < length l → pasted l at (v ++ (b ∷ [])) ≡ pasted (set l (at + k) b) at v
paste_back l v at k b e h =
    let s = set l (at + k) b in
    let n : at + length (v ++ (b ∷ [])) ≡ suc (at + k) = omega (arith, length-append v (b ∷ [])) in
    let m : at + length v ≡ at + k = omega arith in
    let d : drop (at + k) s ≡ b ∷ drop (suc (at + k)) l =
    drop-cons s (at + k) 0 (lt-length-set l (at + k) b h)
    ∙ ap (λ (x : ℕ). x ∷ drop (suc (at + k)) s) (get_or-set_same l (at + k) b 0 h)
    ∙ ap (λ (q : List ℕ). b ∷ q) (drop-set-lt (suc (at + k)) l (at + k) b (omega arith)) in
    ap (λ (q : List ℕ). q ++ drop (at + length (v ++ (b ∷ []))) l) (sym (append_assoc (take at l) v (b ∷ [])))
    ∙ append_snoc (take at l ++ v) b (drop (at + length (v ++ (b ∷ []))) l)
    ∙ ap (λ (j : ℕ). take at l ++ v ++ b ∷ drop j l) n
    ∙ ap (λ (q : List ℕ). q ++ v ++ b ∷ drop (suc (at + k)) l) (sym (take-set-le at l (at + k) b (omega arith)))
    ∙ ap (λ (q : List ℕ). take at s ++ v ++ q) (sym d)
    ∙ ap (λ (j : ℕ). take at s ++ v ++ drop j s) (sym m)

-- a digit less to store
pub low_turn : (l : List ℕ) (at i y : ℕ) → 0 < i → at + i ≤ length l
    → pasted l at (low i y) ≡ pasted (set l (at + (i - 1)) (48 + y % 10)) at (low (i - 1) (y / 10))
unfolding low
low_turn l at zero y h k = absurd (omega arith)
low_turn l at (suc i) y h k =
    let e : i ≡ suc i - 1 = omega arith in
    paste_back l (low i (y / 10)) at i (48 + y % 10) (length_low i (y / 10)) (omega arith)
    ∙ ap (λ (j : ℕ). pasted (set l (at + j) (48 + y % 10)) at (low j (y / 10))) e

pub low_none : (l : List ℕ) (at i y : ℕ) → i ≡ 0 → pasted l at (low i y) ≡ pasted l at []
unfolding low
low_none l at i y e = ap (λ (j : ℕ). pasted l at (low j y)) e

pub paste_byte : (l : List ℕ) (at b : ℕ) → at < length l → set l at b ≡ pasted l at (b ∷ [])
paste_byte l at b h = let e : suc at ≡ at + 1 = omega arith in set_split l at b h ∙ ap (λ (j : ℕ). take at l ++ b ∷ drop j l) e ∙ sym (append_snoc (take at l) b (drop (at + 1) l))
