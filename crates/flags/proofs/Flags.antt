-- Flags and bytes, one for one
use mathlib.Core.Path.{◌≡◌, refl, sym, ap, subst, ◌∙◌}
use mathlib.Core.Bool.{Bool, true, false, ◌&&◌}
use mathlib.Core.List.{List, [], ◌∷◌, ◌++◌, map}
use Prim.Native.Nat.{ℕ, zero, suc, ◌+◌, ◌≤◌, ◌<◌, max}
use native.Mathlib.Omega.{arith}
use lib.Dec.{leb}
use lib.ListN.{length, get_or, take, set}
use lib.Seq.{take_all, take-suc, take-suc-set}
use Rattle.ground.specs.Tests.{Says, every}
use Rattle.ground.proofs.Tests.{leb_says, and_says, is_true, is_false, of_true}
use Rattle.flags.specs.Flags.{bit, flag, flags_ok}

pub flag_bit : (b : Bool) → flag (bit b) ≡ b
flag_bit true = refl
flag_bit false = refl

pub flags_bits : (l : List Bool) → map flag (map bit l) ≡ l
flags_bits [] = refl
flags_bits (b ∷ l) = ap (λ (x : Bool). x ∷ map flag (map bit l)) (flag_bit b) ∙ ap (λ (q : List Bool). b ∷ q) (flags_bits l)

pub bit_flag : (x : ℕ) → leb x 1 ≡ true → bit (flag x) ≡ x
bit_flag zero h = refl
bit_flag (suc zero) h = refl
bit_flag (suc (suc x)) h = let z = of_true (leb (suc (suc x)) 1) (leb_says (suc (suc x)) 1) h in absurd (omega (arith, z))

-- two tests that pass together pass each
pub both : (a b : Bool) → (a && b) ≡ true → (a ≡ true) × (b ≡ true)
both true b e = (refl, e)
both false b e = let z : ⊥ = of_true false (λ w. w) e in absurd z

pub bits_flags : (l : List ℕ) → flags_ok l ≡ true → map bit (map flag l) ≡ l
unfolding every
bits_flags [] h = refl
bits_flags (x ∷ l) h =
    let e = both (leb x 1) (flags_ok l) h in
    ap (λ (k : ℕ). k ∷ map bit (map flag l)) (bit_flag x e.0) ∙ ap (λ (q : List ℕ). x ∷ q) (bits_flags l e.1)

-- bits are flags
pub bits_ok : (l : List Bool) → flags_ok (map bit l) ≡ true
unfolding every
bits_ok [] = refl
bits_ok (true ∷ l) = bits_ok l
bits_ok (false ∷ l) = bits_ok l

-- ONE TURN: a place of a column is a function of the same place of another
map_append : {A B : Type 0} (f : A → B) (l k : List A) → map f (l ++ k) ≡ map f l ++ map f k
map_append f [] k = refl
map_append f (x ∷ l) k = ap (λ q. f x ∷ q) (map_append f l k)

pub mapped_turn : {A B : Type 0} (f : A → B) (d : A) (xs : List A) (out : List B) (i : ℕ) (y : B) → i < length xs → i < length out → take i out ≡ map f (take i xs) → y ≡ f (get_or xs i d)
    → take (i + 1) (set out i y) ≡ map f (take (i + 1) xs)
mapped_turn f d xs out i y hx ho e g =
    let next : suc i ≡ i + 1 = omega arith in
    subst (λ n. take n (set out i y) ≡ map f (take n xs)) next (take-suc-set out i y ho
    ∙ ap (λ q. q ++ (y ∷ [])) e
    ∙ ap (λ q. map f (take i xs) ++ (q ∷ [])) g
    ∙ sym (map_append f (take i xs) (get_or xs i d ∷ []))
    ∙ ap (map f) (sym (take-suc xs i d hx)))

-- the greatest byte says whether every byte is a flag
every_append : (l : List ℕ) (x : ℕ) → flags_ok (l ++ (x ∷ [])) ≡ (flags_ok l && leb x 1)
unfolding every
every_append [] x = and_true (leb x 1)
  where
    and_true : (b : Bool) → (b && true) ≡ (true && b)
    and_true true = refl
    and_true false = refl
every_append (y ∷ l) x = ap (λ b. leb y 1 && b) (every_append l x) ∙ and_assoc (leb y 1) (flags_ok l) (leb x 1)
  where
    and_assoc : (a b c : Bool) → (a && (b && c)) ≡ ((a && b) && c)
    and_assoc true b c = refl
    and_assoc false b c = refl

max_ok : (a b : ℕ) → leb (max a b) 1 ≡ (leb a 1 && leb b 1)
max_ok a b = by (leb a 1 && leb b 1) (and_says (a ≤ 1) (b ≤ 1) (leb a 1) (leb b 1) (leb_says a 1) (leb_says b 1))
  where
    by : (t : Bool) → Says ((a ≤ 1) × (b ≤ 1)) t → leb (max a b) 1 ≡ t
    by true h = is_true _ (leb_says (max a b) 1) (omega (arith, h.0, h.1))
    by false n = is_false _ (leb_says (max a b) 1) (λ z. n (omega (arith, z), omega (arith, z)))

pub most_turn : (l : List ℕ) (i most b most' : ℕ) → i < length l → leb most 1 ≡ flags_ok (take i l) → b ≡ get_or l i 0 → most' ≡ max most b → leb most' 1 ≡ flags_ok (take (i + 1) l)
most_turn l i most b most' h e q g =
    let next : suc i ≡ i + 1 = omega arith in
    ap (λ (x : ℕ). leb x 1) g
    ∙ max_ok most b
    ∙ ap (λ t. t && leb b 1) e
    ∙ ap (λ (x : ℕ). flags_ok (take i l) && leb x 1) q
    ∙ sym (every_append (take i l) (get_or l i 0))
    ∙ ap flags_ok (sym (take-suc l i 0 h))
    ∙ ap (λ n. flags_ok (take n l)) next

pub none_ok : true ≡ flags_ok []
unfolding every
none_ok = refl

-- the first 128 of 128 are all
pub taken_all : {A : Type 0} (l : List A) (n : ℕ) → length l ≡ 128 → n ≡ 128 → take n l ≡ l
taken_all l n e f = take_all n l (omega (arith, e, f))
