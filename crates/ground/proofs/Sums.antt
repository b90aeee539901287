-- Sums over a list, in parts, place by place and one element at a time
use mathlib.Core.Path.{◌≡◌, refl}
use mathlib.Core.List.{List, [], ◌∷◌, ◌++◌, map}
use Prim.Native.Nat.{ℕ, zero, suc, ◌+◌, ◌*◌, ◌≤◌, ◌<◌}
use native.Mathlib.Nat.{not-suc-le-zero, le_of_suc-le-suc}
use native.Mathlib.Omega.{arith}
use lib.ListN.{length, get_or, set}
use Rattle.ground.specs.Sums.{sum_of}

module _ {A : Type 0} where
  -- a list in two parts
  pub sum_of_append : (f : A → ℕ) (l k : List A) → sum_of f (l ++ k) ≡ sum_of f l + sum_of f k
  unfolding sum_of
  sum_of_append f [] k = omega arith
  sum_of_append f (x ∷ l) k = omega (arith, sum_of_append f l k)

  -- changing one element: the sum changes by the difference
  pub sum_of_set : (f : A → ℕ) (l : List A) (i : ℕ) (y d : A) → i < length l → sum_of f (set l i y) + f (get_or l i d) ≡ sum_of f l + f y
  unfolding sum_of
  sum_of_set f [] i y d h = absurd (not-suc-le-zero h)
  sum_of_set f (x ∷ l) zero y d h = omega arith
  sum_of_set f (x ∷ l) (suc i) y d h = omega (arith, sum_of_set f l i y d (le_of_suc-le-suc h))

  -- monotone, pointwise by index
  pub sum_of_mono : (f g : A → ℕ) (d : A) (l : List A) → ((i : ℕ) → i < length l → f (get_or l i d) ≤ g (get_or l i d)) → sum_of f l ≤ sum_of g l
  unfolding sum_of
  sum_of_mono f g d [] h = omega arith
  sum_of_mono f g d (x ∷ l) h = omega (arith, h 0 (omega arith), sum_of_mono f g d l (λ i hi. h (suc i) (omega arith)))

  -- an element is at most the sum
  pub sum_of_at : (f : A → ℕ) (l : List A) (i : ℕ) (d : A) → i < length l → f (get_or l i d) ≤ sum_of f l
  unfolding sum_of
  sum_of_at f [] i d h = absurd (not-suc-le-zero h)
  sum_of_at f (x ∷ l) zero d h = omega arith
  sum_of_at f (x ∷ l) (suc i) d h = omega (arith, sum_of_at f l i d (le_of_suc-le-suc h))

  -- f at most g everywhere and the sums the other way round: equal everywhere
  pub sum_of_tight : (f g : A → ℕ) (d : A) (l : List A) → ((i : ℕ) → i < length l → f (get_or l i d) ≤ g (get_or l i d)) → sum_of g l ≤ sum_of f l
      → (i : ℕ) → i < length l → f (get_or l i d) ≡ g (get_or l i d)
  unfolding sum_of
  sum_of_tight f g d [] h t i hi = absurd (not-suc-le-zero hi)
  sum_of_tight f g d (x ∷ l) h t zero hi = omega (arith, h 0 (omega arith), sum_of_mono f g d l (λ i hi. h (suc i) (omega arith)))
  sum_of_tight f g d (x ∷ l) h t (suc i) hi =
      sum_of_tight f g d l (λ i hi. h (suc i) (omega arith)) (omega (arith, h 0 (omega arith))) i (le_of_suc-le-suc hi)

  -- a constant, a factor, two summands
  pub sum_of_const : (R : ℕ) (l : List A) → sum_of (λ _. R) l ≡ length l * R
  unfolding sum_of
  sum_of_const R [] = omega arith
  sum_of_const R (x ∷ l) = omega (arith, sum_of_const R l)

  pub sum_of_scale : (f : A → ℕ) (c : ℕ) (l : List A) → sum_of (λ x. f x * c) l ≡ sum_of f l * c
  unfolding sum_of
  sum_of_scale f c [] = omega arith
  sum_of_scale f c (x ∷ l) = omega (arith, sum_of_scale f c l)

  pub sum_of_add : (f g : A → ℕ) (l : List A) → sum_of (λ x. f x + g x) l ≡ sum_of f l + sum_of g l
  unfolding sum_of
  sum_of_add f g [] = omega arith
  sum_of_add f g (x ∷ l) = omega (arith, sum_of_add f g l)

  -- equal at every place, equal in sum
  pub sum_of_cong : (f g : A → ℕ) (d : A) (l : List A) → ((i : ℕ) → i < length l → f (get_or l i d) ≡ g (get_or l i d)) → sum_of f l ≡ sum_of g l
  sum_of_cong f g d l h = omega (arith, sum_of_mono f g d l (λ i hi. omega (arith, h i hi)), sum_of_mono g f d l (λ i hi. omega (arith, h i hi)))

  pub sum_of_none : (f : A → ℕ) (d : A) (l : List A) → ((i : ℕ) → i < length l → f (get_or l i d) ≡ 0) → sum_of f l ≡ 0
  sum_of_none f d l h = omega (arith, sum_of_mono f (λ _. 0) d l (λ i hi. omega (arith, h i hi)), sum_of_const 0 l)

  -- two lists that agree place by place
  pub sum_of_places : (f g : A → ℕ) (d : A) (l k : List A) → length k ≡ length l → ((j : ℕ) → f (get_or k j d) ≡ g (get_or l j d)) → sum_of f k ≡ sum_of g l
  unfolding sum_of
  sum_of_places f g d [] [] e h = refl
  sum_of_places f g d [] (y ∷ k) e h = absurd (omega arith)
  sum_of_places f g d (x ∷ l) [] e h = absurd (omega arith)
  sum_of_places f g d (x ∷ l) (y ∷ k) e h = omega (arith, h 0, sum_of_places f g d l k (omega arith) (λ j. h (suc j)))

pub sum_of_map : {A B : Type 0} (f : B → ℕ) (g : A → B) (l : List A) → sum_of f (map g l) ≡ sum_of (λ x. f (g x)) l
unfolding sum_of
sum_of_map f g [] = refl
sum_of_map f g (x ∷ l) = omega (arith, sum_of_map f g l)
