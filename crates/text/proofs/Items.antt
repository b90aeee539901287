-- Words, byte by byte; what a line says, by the ends of its parts
use Rattle.std.specs.Prelude.{nat_eq, None}
use Prim.Native.Nat.{ℕ, suc, ◌+◌, ◌-◌, ◌≤◌, ◌<◌}
use mathlib.Core.Path.{◌≡◌, refl, ap, ◌∙◌}
use mathlib.Core.Bool.{Bool, ◌&&◌, true, false}
use mathlib.Core.List.{List, [], ◌∷◌}
use lib.Dec.{eqb}
use lib.Pointwise.{pointwise}
use Rattle.text.specs.Parts.{same, parts_of, split_by, first_at, space}
use native.Mathlib.Omega.{arith}
use native.Mathlib.Numerals.{add-one}
use borrow.Author.Tests.{eq-eqb, ne_eqb}
use lib.ListN.{length, get_or, take, drop, drop_of_length-le}
use lib.Seq.{drop-cons}
use Rattle.text.specs.Numbers.{numeral_of}
use Rattle.text.specs.Lines.{with_one, with_two, with_three, of_parts, item_of}
use Rattle.text.proofs.Splitting.{piece_more, piece_last, split_some}

pub same_pointwise : (a b : List ℕ) → pointwise nat_eq a b ≡ same a b
unfolding same
same_pointwise [] [] = refl
same_pointwise [] (y ∷ b) = refl
same_pointwise (x ∷ a) [] = refl
same_pointwise (x ∷ a) (y ∷ b) = ap (λ (t : Bool). eqb x y && t) (same_pointwise a b)

-- words of two lengths differ
pub same_length : (a b : List ℕ) → (length a ≡ length b → ⊥) → same a b ≡ false
unfolding same
same_length [] [] h = absurd (h refl)
same_length [] (y ∷ b) h = refl
same_length (x ∷ a) [] h = refl
same_length (x ∷ a) (y ∷ b) h = go (eqb x y) (same_length a b (λ e. h (ap suc e)))
  where
    go : (t : Bool) → same a b ≡ false → (t && same a b) ≡ false
    go true e = e
    go false e = refl

module _ (a b : List ℕ) (i : ℕ) (ha : i < length a) (hb : i < length b) where
  -- the same byte here: look further
  pub same_on : get_or a i 0 ≡ get_or b i 0 → same (drop i a) (drop i b) ≡ same (drop (i + 1) a) (drop (i + 1) b)
  unfolding same
  same_on e = rw (drop-cons a i 0 ha, drop-cons b i 0 hb, eq-eqb (get_or a i 0) (get_or b i 0) e, add-one)

  -- two bytes here
  pub same_stop : (get_or a i 0 ≡ get_or b i 0 → ⊥) → same (drop i a) (drop i b) ≡ false
  unfolding same
  same_stop e = rw (drop-cons a i 0 ha, drop-cons b i 0 hb, ne_eqb (get_or a i 0) (get_or b i 0) e)

pub same_end : (a b : List ℕ) (i : ℕ) → length a ≤ i → length b ≤ i → same (drop i a) (drop i b) ≡ true
unfolding same
same_end a b i ha hb = rw (drop_of_length-le a ha, drop_of_length-le b hb)

-- the first part, and what comes after it
parts_from : (s : List ℕ) (a : ℕ) → a ≡ 0 + first_at space (drop 0 s) → a < length s → parts_of s ≡ take a s ∷ split_by space (drop (a + 1) s)
parts_from s a e h =
    let z : a - 0 ≡ a = omega arith in
    piece_more space s 0 a e h ∙ ap (λ (n : ℕ). take n s ∷ split_by space (drop (a + 1) s)) z

-- what a line says, by the ends of its parts
module _ (s : List ℕ) (a : ℕ) (ea : a ≡ 0 + first_at space (drop 0 s)) where
  pub item_word : length s ≤ a → item_of s ≡ None
  unfolding item_of
  item_word h = ap of_parts (piece_last space s 0 a ea h)

  module _ (b : ℕ) (ha : a < length s) (eb : b ≡ a + 1 + first_at space (drop (a + 1) s)) where
    pub item_one : length s ≤ b → item_of s ≡ with_one (take a s) (numeral_of (take (b - (a + 1)) (drop (a + 1) s)))
    unfolding item_of
    item_one h =
        ap of_parts (parts_from s a ea ha ∙ ap (λ (l : List (List ℕ)). take a s ∷ l) (piece_last space s (a + 1) b eb h))

    module _ (c : ℕ) (hb : b < length s) (ec : c ≡ b + 1 + first_at space (drop (b + 1) s)) where
      pub item_two : length s ≤ c → item_of s ≡ with_two (take a s) (numeral_of (take (b - (a + 1)) (drop (a + 1) s))) (numeral_of (take (c - (b + 1)) (drop (b + 1) s)))
      unfolding item_of
      item_two h =
          ap of_parts
          (parts_from s a ea ha
          ∙ ap (λ (l : List (List ℕ)). take a s ∷ l)
          (piece_more space s (a + 1) b eb hb
          ∙ ap (λ (l : List (List ℕ)). take (b - (a + 1)) (drop (a + 1) s) ∷ l) (piece_last space s (b + 1) c ec h)))

      module _ (d : ℕ) (hc : c < length s) (ed : d ≡ c + 1 + first_at space (drop (c + 1) s)) where
        pub item_three : length s ≤ d
            → item_of s ≡ with_three (take a s) (numeral_of (take (b - (a + 1)) (drop (a + 1) s))) (numeral_of (take (c - (b + 1)) (drop (b + 1) s))) (numeral_of (take (d - (c + 1)) (drop (c + 1) s)))
        unfolding item_of
        item_three h =
            ap of_parts
            (parts_from s a ea ha
            ∙ ap (λ (l : List (List ℕ)). take a s ∷ l)
            (piece_more space s (a + 1) b eb hb
            ∙ ap (λ (l : List (List ℕ)). take (b - (a + 1)) (drop (a + 1) s) ∷ l)
            (piece_more space s (b + 1) c ec hc
            ∙ ap (λ (l : List (List ℕ)). take (c - (b + 1)) (drop (b + 1) s) ∷ l) (piece_last space s (c + 1) d ed h))))

        pub item_more : d < length s → item_of s ≡ None
        unfolding item_of
        item_more h =
            let t = split_some space (drop (d + 1) s) in
            ap of_parts
            (parts_from s a ea ha
            ∙ ap (λ (l : List (List ℕ)). take a s ∷ l)
            (piece_more space s (a + 1) b eb hb
            ∙ ap (λ (l : List (List ℕ)). take (b - (a + 1)) (drop (a + 1) s) ∷ l)
            (piece_more space s (b + 1) c ec hc
            ∙ ap (λ (l : List (List ℕ)). take (c - (b + 1)) (drop (b + 1) s) ∷ l)
            (piece_more space s (c + 1) d ed h ∙ ap (λ (l : List (List ℕ)). take (d - (c + 1)) (drop (c + 1) s) ∷ l) t.2))))
