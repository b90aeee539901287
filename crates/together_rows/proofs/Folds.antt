-- Tests of every number below a bound and sums over the places below it: what they say, and one more place
use mathlib.Core.Path.{◌≡◌, refl, sym, ◌∙◌, ap}
use mathlib.Core.Bool.{Bool, true, false, ◌&&◌}
use mathlib.Core.List.{List, [], ◌∷◌}
use Prim.Native.Nat.{ℕ, zero, suc, ◌+◌, ◌*◌, ◌≤◌, ◌<◌}
use native.Mathlib.Decide.{ℕ_discrete}
use native.Mathlib.Nat.{not-suc-le-zero, suc-mul}
use native.Mathlib.Numerals.{add-one}
use native.Mathlib.Omega.{arith}
use lib.ListN.{length, get_or}
use Rattle.ground.specs.Sums.{sum_of, up_from}
use Rattle.ground.specs.Tests.{Says}
use Rattle.ground.proofs.Tests.{is_true, is_false, of_true}
use Rattle.queue.specs.Below.{all_below}

-- TESTS
-- the second test may lean on what the first says
pub and_then : (P Q : Type 0) (a b : Bool) → Says P a → (P → Says Q b) → Says (P × Q) (a && b)
and_then P Q true true p q = (p, q p)
and_then P Q true false p q = λ r. q p r.1
and_then P Q false b p q = λ r. p r.0

-- each number below n by itself
pub below_says : (P : ℕ → Type 0) (f : ℕ → Bool) (n : ℕ) → ((i : ℕ) → i < n → Says (P i) (f i)) → Says ((i : ℕ) → i < n → P i) (all_below n f)
unfolding all_below
below_says P f zero s = λ i h. absurd (not-suc-le-zero h)
below_says P f (suc n) s = go (f n) (s n (omega arith)) (all_below n f) (below_says P f n (λ i h. s i (omega arith)))
  where
    at_i : (i : ℕ) → i < suc n → P n → ((j : ℕ) → j < n → P j) → Dec (i ≡ n) → P i
    at_i i h p q (yes e) = rw e p
    at_i i h p q (no e) = q i (omega arith)

    go : (a : Bool) → Says (P n) a → (b : Bool) → Says ((i : ℕ) → i < n → P i) b → Says ((i : ℕ) → i < suc n → P i) (a && b)
    go true p true q = λ i h. at_i i h p q (ℕ_discrete i n)
    go true p false q = λ r. q (λ i h. r i (omega arith))
    go false p b q = λ r. p (r n (omega arith))

is_itself : (b : Bool) → Says (b ≡ true) b
is_itself true = refl
is_itself false = λ e. cc

itself_says : (f : ℕ → Bool) (n : ℕ) → Says ((i : ℕ) → i < n → f i ≡ true) (all_below n f)
itself_says f n = below_says (λ i. f i ≡ true) f n (λ i h. is_itself (f i))

pub all_none : (f : ℕ → Bool) → all_below 0 f ≡ true
unfolding all_below
all_none f = refl

pub all_more : (f : ℕ → Bool) (i : ℕ) → all_below i f ≡ true → f i ≡ true → all_below (i + 1) f ≡ true
unfolding all_below
all_more f i h e = rw (add-one, e) h

pub all_at : (f : ℕ → Bool) (n i : ℕ) → all_below n f ≡ true → i < n → f i ≡ true
all_at f n i h k = of_true (all_below n f) (itself_says f n) h i k

pub all_fails : (f : ℕ → Bool) (n i : ℕ) → i < n → f i ≡ false → all_below n f ≡ false
all_fails f n i h e = is_false (all_below n f) (itself_says f n) (λ r. let q = r i h in cc)

-- every place was passed
pub all_whole : (f : ℕ → Bool) (n i : ℕ) → n ≤ i → all_below i f ≡ true → all_below n f ≡ true
all_whole f n i h e = is_true (all_below n f) (itself_says f n) (λ j k. all_at f i j e (omega arith))

-- SUMS
pub sum_none : (f : ℕ → ℕ) → sum_of f (up_from 0 0) ≡ 0
unfolding sum_of up_from
sum_none f = refl

sum_last : (f : ℕ → ℕ) (i n : ℕ) → sum_of f (up_from i (suc n)) ≡ sum_of f (up_from i n) + f (i + n)
unfolding sum_of up_from
sum_last f i zero = let z : i + 0 ≡ i = omega arith in rw z (omega arith)
sum_last f i (suc n) = let z : suc i + n ≡ i + suc n = omega arith in let ih = sum_last f (suc i) n in omega (arith, rw z at ih)

pub sum_more : (f : ℕ → ℕ) (i : ℕ) → sum_of f (up_from 0 (i + 1)) ≡ sum_of f (up_from 0 i) + f i
sum_more f i = let z : 0 + i ≡ i = omega arith in rw (add-one, sum_last f 0 i, z)

-- equal at each place
pub sum_same : (f g : ℕ → ℕ) (n : ℕ) → ((i : ℕ) → i < n → f i ≡ g i) → sum_of f (up_from 0 n) ≡ sum_of g (up_from 0 n)
sum_same f g zero h = sum_none f ∙ sym (sum_none g)
sum_same f g (suc n) h =
    let z : n + 1 ≡ suc n = omega arith in
    let a = rw z at (sum_more f n) in
    let b = rw z at (sum_more g n) in
    omega (arith, a, b, h n (omega arith), sum_same f g n (λ i k. h i (omega arith)))

-- each at most b: the sum at most n times b
pub sum_bound : (f : ℕ → ℕ) (b n : ℕ) → ((i : ℕ) → i < n → f i ≤ b) → sum_of f (up_from 0 n) ≤ n * b
sum_bound f b zero h = omega (arith, sum_none f)
sum_bound f b (suc n) h =
    let z : n + 1 ≡ suc n = omega arith in
    let a = rw z at (sum_more f n) in
    omega (arith, a, suc-mul n b, sum_bound f b n (λ i k. h i (omega arith)), h n (omega arith))

-- each at most the other's
pub sum_mono : (f g : ℕ → ℕ) (n : ℕ) → ((i : ℕ) → i < n → f i ≤ g i) → sum_of f (up_from 0 n) ≤ sum_of g (up_from 0 n)
sum_mono f g zero h = omega (arith, sum_none f)
sum_mono f g (suc n) h =
    let z : n + 1 ≡ suc n = omega arith in
    let a = rw z at (sum_more f n) in
    let b = rw z at (sum_more g n) in
    omega (arith, a, b, h n (omega arith), sum_mono f g n (λ i k. h i (omega arith)))

shifted : (g : ℕ → ℕ) (i n : ℕ) → sum_of g (up_from (suc i) n) ≡ sum_of (λ j. g (suc j)) (up_from i n)
unfolding sum_of up_from
shifted g i zero = refl
shifted g i (suc n) = omega (arith, shifted g (suc i) n)

-- the first place apart
pub sum_first : (g : ℕ → ℕ) (n : ℕ) → sum_of g (up_from 0 (suc n)) ≡ g 0 + sum_of (λ j. g (suc j)) (up_from 0 n)
unfolding sum_of up_from
sum_first g n = omega (arith, shifted g 0 n)

-- a sum over a list is a sum over its places
pub sum_by_places : {A : Type 0} (f : A → ℕ) (d : A) (l : List A) → sum_of f l ≡ sum_of (λ j. f (get_or l j d)) (up_from 0 (length l))
unfolding sum_of
sum_by_places f d [] = sym (sum_none (λ j. f d))
sum_by_places f d (x ∷ l) = omega (arith, sum_by_places f d l, sum_first (λ j. f (get_or (x ∷ l) j d)) (length l))

-- the second test holds where the first one is told
pub and_after : (P Q : Type 0) (a b : Bool) → (Q → Says P a) → Says Q b → Says (P × Q) (a && b)
and_after P Q true true f q = (f q, q)
and_after P Q true false f q = λ h. q h.1
and_after P Q false true f q = λ h. f q h.0
and_after P Q false false f q = λ h. q h.1

-- the first test that fails decides, or the last
pub and_first : (a b : Bool) → a ≡ false → a && b ≡ false
and_first a b e = ap (λ (t : Bool). t && b) e

pub and_next : (a b : Bool) → a ≡ true → a && b ≡ b
and_next a b e = ap (λ (t : Bool). t && b) e

-- both tests pass
pub and_both : (a b : Bool) → a && b ≡ true → (a ≡ true) × (b ≡ true)
and_both true b e = (refl, e)
and_both false b e = cc

-- the same tests in another order: m and r, then w, then z
pub parts_first : (m r w z : Bool) → m && r ≡ false → (r && (w && z)) && m ≡ false
parts_first true true w z e = let y : ◌≡◌ {A = ℕ} 0 1 = cc in absurd (omega arith)
parts_first true false w z e = refl
parts_first false true true true e = refl
parts_first false true true false e = refl
parts_first false true false z e = refl
parts_first false false w z e = refl

pub parts_second : (m r w z : Bool) → w ≡ false → (r && (w && z)) && m ≡ false
parts_second m true true z e = let y : ◌≡◌ {A = ℕ} 0 1 = cc in absurd (omega arith)
parts_second m true false z e = refl
parts_second m false w z e = refl

pub parts_last : (m r w z : Bool) → m && r ≡ true → w ≡ true → (r && (w && z)) && m ≡ z
parts_last true true true true e f = refl
parts_last true true true false e f = refl
parts_last true true false z e f = let y : ◌≡◌ {A = ℕ} 0 1 = cc in absurd (omega arith)
parts_last true false w z e f = let y : ◌≡◌ {A = ℕ} 0 1 = cc in absurd (omega arith)
parts_last false r w z e f = let y : ◌≡◌ {A = ℕ} 0 1 = cc in absurd (omega arith)

-- the second test decides
pub second_fails : (a b : Bool) → b ≡ false → a && b ≡ false
second_fails true b e = e
second_fails false b e = refl

pub second_holds : (a b : Bool) → b ≡ true → a && b ≡ a
second_holds true b e = e
second_holds false b e = refl

-- a test that cannot pass fails
pub refuted : (b : Bool) → ¬ (b ≡ true) → b ≡ false
refuted b n = is_false b (is_itself b) n

-- no test passes and fails
pub clash : {A : Type 0} (b : Bool) → b ≡ false → b ≡ true → A
clash b e f = cc

-- both tests of every number, or each by itself
pub all_both : (f g : ℕ → Bool) (n : ℕ) → all_below n (λ i. f i && g i) ≡ true → (all_below n f ≡ true) × (all_below n g ≡ true)
all_both f g n e = (
  is_true (all_below n f) (itself_says f n) (λ i h. (and_both (f i) (g i) (all_at (λ j. f j && g j) n i e h)).0),
  is_true (all_below n g) (itself_says g n) (λ i h. (and_both (f i) (g i) (all_at (λ j. f j && g j) n i e h)).1),
)

pub all_joined : (f g : ℕ → Bool) (n : ℕ) → all_below n f ≡ true → all_below n g ≡ true → all_below n (λ i. f i && g i) ≡ true
all_joined f g n e h = is_true (all_below n (λ i. f i && g i)) (itself_says (λ i. f i && g i) n) (λ i k. and_next (f i) (g i) (all_at f n i e k) ∙ all_at g n i h k)

-- equal at each number
pub all_same : (f g : ℕ → Bool) (n : ℕ) → ((i : ℕ) → i < n → f i ≡ g i) → all_below n f ≡ all_below n g
unfolding all_below
all_same f g zero h = refl
all_same f g (suc n) h = ap (λ (b : Bool). b && all_below n f) (h n (omega arith)) ∙ ap (λ (b : Bool). g n && b) (all_same f g n (λ i k. h i (omega arith)))
