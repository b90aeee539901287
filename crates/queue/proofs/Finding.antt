-- Finding a task's key in a list of entries, by sums over the list
use Rattle.std.specs.Prelude.{if◌then◌else◌}
use Prim.Native.Nat.{ℕ, zero, suc, ◌+◌, ◌≤◌, ◌<◌}
use mathlib.Core.Path.{◌≡◌, refl, sym, ap}
use mathlib.Core.Bool.{Bool, true, false}
use mathlib.Core.Logic.{◌≢◌}
use mathlib.Core.List.{List, [], ◌∷◌}
use mathlib.Core.Option.{Option, none, some}
use native.Mathlib.Nat.{not-suc-le-zero, le_of_suc-le-suc}
use native.Mathlib.Omega.{arith}
use borrow.Author.Tests.{eq-eqb, ne_eqb, eqb-true}
use lib.Dec.{eqb}
use lib.ListN.{length, get_or}
use Rattle.ground.specs.Sums.{sum_of}
use Rattle.ground.proofs.Sums.{sum_of_at}
use Rattle.queue.specs.Queues.{entry, blank, find, one}
use Rattle.queue.specs.declared.Entry.{Entry}

-- the key of an entry of task t, counted from 1
abbrev pub mark : ℕ → Entry → ℕ
mark t e = if eqb e.task t then suc e.key.0 else 0

abbrev pub unmark : ℕ → Option ℕ
unmark zero = none
unmark (suc k) = some k

pub one_self : (k t : ℕ) → one t (entry k t) ≡ 1
one_self k t = rw (eq-eqb t t refl)

pub one_other : (k t u : ℕ) → u ≢ t → one u (entry k t) ≡ 0
one_other k t u n = rw (ne_eqb t u (λ x. n (sym x)))

pub mark_self : (k t : ℕ) → mark t (entry k t) ≡ suc k
mark_self k t = rw (eq-eqb t t refl)

pub mark_other : (k t u : ℕ) → u ≢ t → mark u (entry k t) ≡ 0
mark_other k t u n = rw (ne_eqb t u (λ x. n (sym x)))

pub absent : (t : ℕ) (l : List Entry) → sum_of (one t) l ≡ 0 → sum_of (mark t) l ≡ 0
unfolding sum_of
absent t [] h = refl
absent t (e ∷ l) h = go (eqb e.task t) h (absent t l)
  where
    go : (b : Bool) → (if b then 1 else 0) + sum_of (one t) l ≡ 0 → (sum_of (one t) l ≡ 0 → sum_of (mark t) l ≡ 0)
        → (if b then suc e.key.0 else 0) + sum_of (mark t) l ≡ 0
    go true h ih = absurd (omega arith)
    go false h ih = omega (arith, ih (omega arith))

-- where a task is there once at most, what is found is what the sum says
pub found : (t : ℕ) (l : List Entry) → sum_of (one t) l ≤ 1 → find t l ≡ unmark (sum_of (mark t) l)
unfolding sum_of
found t [] h = refl
found t (e ∷ l) h = go (eqb e.task t) h (found t l)
  where
    go : (b : Bool) → (if b then 1 else 0) + sum_of (one t) l ≤ 1 → (sum_of (one t) l ≤ 1 → find t l ≡ unmark (sum_of (mark t) l))
        → (if b then some e.key.0 else find t l) ≡ unmark ((if b then suc e.key.0 else 0) + sum_of (mark t) l)
    go true h ih = let z : suc e.key.0 + sum_of (mark t) l ≡ suc e.key.0 = omega (arith, absent t l (omega arith)) in rw z
    go false h ih = let z : 0 + sum_of (mark t) l ≡ sum_of (mark t) l = omega arith in rw z (ih (omega arith))

pub not_found : (t : ℕ) (l : List Entry) → find t l ≡ none → sum_of (one t) l ≡ 0
unfolding sum_of
not_found t [] h = refl
not_found t (e ∷ l) h = go (eqb e.task t) h (not_found t l)
  where
    go : (b : Bool) → (if b then some e.key.0 else find t l) ≡ none → (find t l ≡ none → sum_of (one t) l ≡ 0) → (if b then 1 else 0) + sum_of (one t) l ≡ 0
    go true h ih = cc
    go false h ih = omega (arith, ih h)

-- where it was found
pub found_at : (t k : ℕ) (l : List Entry) → find t l ≡ some k → (j : ℕ) × (j < length l) × (get_or l j blank ≡ entry k t)
found_at t k [] h = (0, absurd (let z : ◌≡◌ {A = ℕ} 0 1 = cc in omega arith), cc)
found_at t k (e ∷ l) h = go (eqb e.task t) refl h (found_at t k l)
  where
    go : (b : Bool) → eqb e.task t ≡ b → (if b then some e.key.0 else find t l) ≡ some k
        → (find t l ≡ some k → (j : ℕ) × (j < length l) × (get_or l j blank ≡ entry k t))
        → (j : ℕ) × (j < length (e ∷ l)) × (get_or (e ∷ l) j blank ≡ entry k t)
    go true q h ih = let x : e.key.0 ≡ k = cc in let y : e.task ≡ t = eqb-true e.task t q in (0, omega arith, λ i. entry (x i) (y i))
    go false q h ih = let r = ih h in (suc r.0, omega (arith, r.1), r.2)

-- an entry counts for its task
counted : (l : List Entry) (j : ℕ) → j < length l → 1 ≤ sum_of (one (get_or l j blank).task) l
counted l j h = omega (arith, sum_of_at (one (get_or l j blank).task) l j blank h, one_self (get_or l j blank).key.0 (get_or l j blank).task)

-- every entry is found, by some key
pub has : (l : List Entry) (j : ℕ) → j < length l → find (get_or l j blank).task l ≡ none → ⊥
has l j h q = omega (arith, counted l j h, not_found (get_or l j blank).task l q)

-- an entry of a task that is there once is the one that is found
pub there : (l : List Entry) (j : ℕ) → j < length l → sum_of (one (get_or l j blank).task) l ≤ 1 → find (get_or l j blank).task l ≡ some (get_or l j blank).key.0
unfolding sum_of
there [] j h o = absurd (not-suc-le-zero h)
there (e ∷ l) zero h o = rw (eq-eqb e.task e.task refl)
there (e ∷ l) (suc j) h o = go (eqb e.task (get_or l j blank).task) o (there l j (le_of_suc-le-suc h)) (counted l j (le_of_suc-le-suc h))
  where
    go : (b : Bool) → (if b then 1 else 0) + sum_of (one (get_or l j blank).task) l ≤ 1
        → (sum_of (one (get_or l j blank).task) l ≤ 1 → find (get_or l j blank).task l ≡ some (get_or l j blank).key.0)
        → 1 ≤ sum_of (one (get_or l j blank).task) l → (if b then some e.key.0 else find (get_or l j blank).task l) ≡ some (get_or l j blank).key.0
    go true o ih c = absurd (omega arith)
    go false o ih c = ih (omega arith)

-- each task once, place by place
pub once_by : (l : List Entry) → ((j : ℕ) → j < length l → sum_of (one (get_or l j blank).task) l ≤ 1) → (t : ℕ) → sum_of (one t) l ≤ 1
once_by l h t = go (find t l) refl
  where
    go : (o : Option ℕ) → find t l ≡ o → sum_of (one t) l ≤ 1
    go none e = omega (arith, not_found t l e)
    go (some k) e = let r = found_at t k l e in rw (ap (λ (x : Entry). x.task) r.2) at (h r.0 r.1)
