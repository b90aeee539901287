-- The places of a task list, a change at one of them, and the least key
use mathlib.Core.Path.{◌≡◌, refl}
use mathlib.Core.Option.{Option, none, some}
use mathlib.Core.Logic.{◌≢◌}
use mathlib.Core.List.{List, [], ◌∷◌, foldl}
use Prim.Native.Nat.{ℕ, zero, suc, ◌+◌, ◌≤◌, ◌<◌}
use native.Mathlib.Decide.{dec_lt, ℕ_discrete}
use native.Mathlib.Omega.{arith}
use lib.Dec.{leb}
use lib.ListN.{length, length-set, get_or-eq_default}
use lib.Seq.{get_or-set_same, get_or-set_other}
use Rattle.ground.specs.Sums.{sum_of, up_from}
use Rattle.ground.proofs.Sums.{sum_of_set}
use Rattle.ground.proofs.Tests.{leb_says, if_by}
use Rattle.rules.specs.Calls.{step}
use Rattle.rules.specs.Keys.{Best, nope, best, better, least}
use Rattle.rules.specs.State.{Cond, Task, nobody, at, be, become}
use Rattle.rules.proofs.Slope.{key}

-- PLACES
pub at_same : (l : List Task) (i : ℕ) (c : Cond) → i < length l → at i (become i c l) ≡ be c (at i l)
unfolding become
at_same l i c h = get_or-set_same l i _ _ h

pub at_other : (l : List Task) (i j : ℕ) (c : Cond) → j ≢ i → at j (become i c l) ≡ at j l
unfolding become
at_other l i j c h = get_or-set_other l i j _ _ h

pub length_become : (l : List Task) (i : ℕ) (c : Cond) → length (become i c l) ≡ length l
unfolding become
length_become l i c = length-set l i _

pub sum_become : (f : Task → ℕ) (l : List Task) (i : ℕ) (c : Cond) → i < length l → sum_of f (become i c l) + f (at i l) ≡ sum_of f l + f (be c (at i l))
unfolding become
sum_become f l i c h = sum_of_set f l i _ nobody h

-- what holds of every place still does, if it holds of the changed task
pub all_become : (P : Task → Type 0) (l : List Task) (i : ℕ) (c : Cond) → i < length l → P (be c (at i l)) → ((j : ℕ) → P (at j l)) → (j : ℕ) → P (at j (become i c l))
all_become P l i c hi p h j = go (ℕ_discrete j i)
  where
    go : Dec (j ≡ i) → P (at j (become i c l))
    go (yes e) = rw (e, at_same) p
    go (no n) = rw at_other (h j)

-- the same at one place
pub one_become : (P : Task → Type 0) (l : List Task) (i : ℕ) (c : Cond) → i < length l → P (be c (at i l)) → (j : ℕ) → P (at j l) → P (at j (become i c l))
one_become P l i c hi p j h = go (ℕ_discrete j i)
  where
    go : Dec (j ≡ i) → P (at j (become i c l))
    go (yes e) = rw (e, at_same) p
    go (no n) = rw at_other h

-- what a change of condition leaves alone
pub keeps : {X : Type 0} (g : Task → X) (l : List Task) (i : ℕ) (c : Cond) → i < length l → g (be c (at i l)) ≡ g (at i l) → (j : ℕ) → g (at j (become i c l)) ≡ g (at j l)
keeps g l i c hi e j = go (ℕ_discrete j i)
  where
    go : Dec (j ≡ i) → g (at j (become i c l)) ≡ g (at j l)
    go (yes f) = rw (f, at_same) e
    go (no n) = rw at_other

-- past the list there is nobody: what holds of nobody and at every place of the list holds at every number
pub anywhere : (P : Task → Type 0) (l : List Task) → P nobody → ((j : ℕ) → j < length l → P (at j l)) → (j : ℕ) → P (at j l)
anywhere P l p h j = go (dec_lt j (length l))
  where
    go : Dec (j < length l) → P (at j l)
    go (yes q) = h j q
    go (no q) = let past : length l ≤ j = omega arith in rw (get_or-eq_default l nobody) p

pub inside : (f : Task → ℕ) (l : List Task) (i : ℕ) → f nobody ≡ 0 → 0 < f (at i l) → i < length l
inside f l i z h = go (dec_lt i (length l))
  where
    go : Dec (i < length l) → i < length l
    go (yes q) = q
    go (no q) = let past : length l ≤ i = omega arith in absurd (omega (arith, rw (get_or-eq_default l nobody) at h))

-- two changes at two places
pub sum_two : (f : Task → ℕ) (l : List Task) (i j : ℕ) (c d : Cond) → i < length l → j < length l → i ≢ j
    → sum_of f (become i c (become j d l)) + f (at i l) + f (at j l) ≡ sum_of f l + f (be c (at i l)) + f (be d (at j l))
sum_two f l i j c d hi hj ne =
    let a = sum_become f l j d hj in
    let b = rw (at_other l j i d ne) at (sum_become f (become j d l) i c (rw length_become hi)) in
    omega arith

pub one_two : (P : Task → Type 0) (l : List Task) (i j : ℕ) (c d : Cond) → i < length l → j < length l → i ≢ j → P (be c (at i l)) → P (be d (at j l))
    → (x : ℕ) → P (at x l) → P (at x (become i c (become j d l)))
one_two P l i j c d hi hj ne p q x h =
    one_become P (become j d l) i c (rw length_become hi) (rw (at_other l j i d ne) p) x (one_become P l j d hj q x h)

-- THE LEAST KEY
abbrev pub IsLeast : (Task → Option ℕ) → List Task → Best → Type 0
IsLeast key l nope = (j : ℕ) → key (at j l) ≡ none
IsLeast key l (best i k) = (i < length l) × (key (at i l) ≡ some k) × ((j k' : ℕ) → key (at j l) ≡ some k' → k ≤ k')

module _ (key : Task → Option ℕ) (key_nobody : key nobody ≡ none) where
  -- the bound for t ∷ l, from the one at t and the one in l
  below : (t : Task) (l : List Task) (k : ℕ) → ((k' : ℕ) → key t ≡ some k' → k ≤ k') → ((j k' : ℕ) → key (at j l) ≡ some k' → k ≤ k')
      → (j k' : ℕ) → key (at j (t ∷ l)) ≡ some k' → k ≤ k'
  below t l k f g zero = f
  below t l k f g (suc j) = g j

  not_here : (o : Option ℕ) (k k' : ℕ) → o ≡ none → o ≡ some k' → k ≤ k'
  not_here o k k' p q = let z : ◌≡◌ {A = ℕ} 0 1 = cc in omega arith

  here : (o : Option ℕ) (k k' : ℕ) → o ≡ some k → o ≡ some k' → k ≡ k'
  here o k k' p q = cc

  better_is : (t : Task) (l : List Task) (o : Option ℕ) → key t ≡ o → (b : Best) → IsLeast key l b → IsLeast key (t ∷ l) (better o b)
  unfolding better
  better_is t l none e nope h = elim [ zero ↦ e | suc j ↦ h j ]
  better_is t l none e (best i k) h = (omega arith, h.1, below t l k (λ k'. not_here (key t) k k' e) h.2)
  better_is t l (some k) e nope h =
      (omega arith, e, below t l k (λ k' q. omega (arith, here (key t) k k' e q)) (λ j k' q. not_here (key (at j l)) k k' (h j) q))
  better_is t l (some k) e (best j k') h =
      if_by (IsLeast key (t ∷ l)) (leb k k') (leb_says k k')
      (λ a. (omega arith, e, below t l k (λ k'' q. omega (arith, here (key t) k k'' e q)) (λ j k'' q. omega (arith, h.2 j k'' q))))
      (λ a. (omega arith, h.1, below t l k' (λ k'' q. omega (arith, here (key t) k k'' e q)) h.2))

  pub least_is : (l : List Task) → IsLeast key l (least key l)
  unfolding least
  least_is [] = λ j. key_nobody
  least_is (t ∷ l) = better_is t l (key t) refl (least key l) (least_is l)

-- a fold over the places, by what holds after the first i of them
pub from_place : (f : List Task → ℕ → List Task) (n : ℕ) (Q : ℕ → List Task → Type 0) → ((i : ℕ) (l : List Task) → i < n → Q i l → Q (suc i) (f l i))
    → (k i : ℕ) → i + k ≡ n → (l : List Task) → Q i l → Q n (foldl f l (up_from i k))
unfolding up_from
from_place f n Q step zero i e l q = let e' : n ≡ i = omega arith in rw e' q
from_place f n Q step (suc k) i e l q = from_place f n Q step k (suc i) (omega arith) (f l i) (step i l (omega arith) q)

pub by_places : (f : List Task → ℕ → List Task) (n : ℕ) (Q : ℕ → List Task → Type 0) → ((i : ℕ) (l : List Task) → i < n → Q i l → Q (suc i) (f l i))
    → (l : List Task) → Q 0 l → Q n (foldl f l (up_from 0 n))
by_places f n Q step l q = from_place f n Q step n 0 (omega arith) l q
