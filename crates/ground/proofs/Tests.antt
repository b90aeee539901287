-- What the tests say. A proof takes a test's value with what it says beside it, and goes by clauses.
use Rattle.std.specs.Prelude.{if◌then◌else◌}
use mathlib.Core.Path.{◌≡◌, refl, subst}
use mathlib.Core.Bool.{Bool, true, false, ◌&&◌, ◌||◌, not}
use mathlib.Core.List.{List, [], ◌∷◌}
use mathlib.Core.Logic.{◌⊎◌, inl, inr}
use Prim.Native.Nat.{ℕ, zero, suc, ◌+◌, ◌≤◌, ◌<◌}
use native.Mathlib.Omega.{arith}
use lib.Dec.{leb, ltb, eqb, leb→le, le→leb, eqb→eq, eqb_refl, T}
use lib.ListN.{length, get_or}
use native.Mathlib.Decide.{ℕ_discrete}
use Rattle.ground.specs.Tests.{Says, every}
use Rattle.ground.specs.Sums.{up_from}

pub leb_says : (a b : ℕ) → Says (a ≤ b) (leb a b)
leb_says a b = go (leb a b) (leb→le a b) (le→leb a b)
  where
    go : (t : Bool) → (T t → a ≤ b) → (a ≤ b → T t) → Says (a ≤ b) t
    go true f g = f tt
    go false f g = g

pub ltb_says : (a b : ℕ) → Says (a < b) (ltb a b)
ltb_says a b = leb_says (suc a) b

pub eqb_says : (a b : ℕ) → Says (a ≡ b) (eqb a b)
eqb_says a b = go (eqb a b) (eqb→eq a b) (λ e. rw e (eqb_refl b))
  where
    go : (t : Bool) → (T t → a ≡ b) → (a ≡ b → T t) → Says (a ≡ b) t
    go true f g = f tt
    go false f g = g

pub not_says : (P : Type 0) (b : Bool) → Says P b → Says (¬ P) (not b)
not_says P true p = λ n. n p
not_says P false p = p

pub and_says : (P Q : Type 0) (a b : Bool) → Says P a → Says Q b → Says (P × Q) (a && b)
and_says P Q true true p q = (p, q)
and_says P Q true false p q = λ r. q r.1
and_says P Q false b p q = λ r. p r.0

pub or_says : (P Q : Type 0) (a b : Bool) → Says P a → Says Q b → Says (P ⊎ Q) (a || b)
or_says P Q true b p q = inl p
or_says P Q false true p q = inr q
or_says P Q false false p q = elim [ inl x ↦ p x | inr y ↦ q y ]

-- what is said may be worded another way
pub says_as : {P Q : Type 0} (b : Bool) → (P → Q) → (Q → P) → Says P b → Says Q b
says_as true f g s = f s
says_as false f g s = λ q. s (g q)

-- a choice, by what its test says
pub if_by : {A : Type 0} (P : A → Type 0) {Q : Type 0} (b : Bool) {x y : A} → Says Q b → (Q → P x) → (¬ Q → P y) → P (if b then x else y)
if_by P true s f g = f s
if_by P false s f g = g s

-- the value of a test, from what holds
pub is_true : {P : Type 0} (b : Bool) → Says P b → P → b ≡ true
is_true true s p = refl
is_true false s p = absurd (s p)

pub is_false : {P : Type 0} (b : Bool) → Says P b → ¬ P → b ≡ false
is_false true s n = absurd (n s)
is_false false s n = refl

-- what holds, from the value of a test
pub of_true : {P : Type 0} (b : Bool) → Says P b → b ≡ true → P
of_true true s e = s
of_true false s e = let z : ◌≡◌ {A = ℕ} 0 1 = cc in absurd (omega arith)

pub of_false : {P : Type 0} (b : Bool) → Says P b → b ≡ false → ¬ P
of_false true s e = let z : ◌≡◌ {A = ℕ} 0 1 = cc in absurd (omega arith)
of_false false s e = s

-- every element, by its place
pub every_says : {A : Type 0} (P : A → Type 0) (f : A → Bool) (d : A) → ((x : A) → Says (P x) (f x)) → (l : List A)
    → Says ((j : ℕ) → j < length l → P (get_or l j d)) (every f l)
unfolding every
every_says P f d s [] = λ j h. absurd (omega arith)
every_says P f d s (t ∷ l) = go (f t) (s t) (every f l) (every_says P f d s l)
  where
    go : (a : Bool) → Says (P t) a → (b : Bool) → Says ((j : ℕ) → j < length l → P (get_or l j d)) b → Says ((j : ℕ) → j < length (t ∷ l) → P (get_or (t ∷ l) j d)) (a && b)
    go true p true q = elim [ zero ↦ λ h. p | suc j ↦ λ h. q j (omega arith) ]
    go true p false q = λ h. q (λ j hj. h (suc j) (omega arith))
    go false p b q = λ h. p (h 0 (omega arith))

-- every one of the numbers i, i + 1, …
pub every_up_says : (P : ℕ → Type 0) (f : ℕ → Bool) → ((x : ℕ) → Says (P x) (f x)) → (i n : ℕ) → Says ((x : ℕ) → i ≤ x → x < i + n → P x) (every f (up_from i n))
unfolding every up_from
every_up_says P f s i zero = λ x a b. absurd (omega arith)
every_up_says P f s i (suc n) = go (f i) (s i) (every f (up_from (suc i) n)) (every_up_says P f s (suc i) n)
  where
    go : (a : Bool) → Says (P i) a → (b : Bool) → Says ((x : ℕ) → suc i ≤ x → x < suc i + n → P x) b → Says ((x : ℕ) → i ≤ x → x < i + suc n → P x) (a && b)
    go true p true q = λ x a b. at x a b (ℕ_discrete i x)
      where
        at : (x : ℕ) → i ≤ x → x < i + suc n → Dec (i ≡ x) → P x
        at x a b (yes e) = subst P e p
        at x a b (no e) = q x (omega arith) (omega arith)
    go true p false q = λ h. q (λ x a b. h x (omega arith) (omega arith))
    go false p b q = λ h. p (h i (omega arith) (omega arith))
