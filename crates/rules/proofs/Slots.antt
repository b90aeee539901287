-- The record's slots: how many processors run a task, read off the record
use Rattle.std.specs.Prelude.{if◌then◌else◌}
use mathlib.Core.Path.{◌≡◌, refl, ◌∙◌}
use mathlib.Core.Bool.{Bool, true, false}
use mathlib.Core.Logic.{◌⊎◌, inl, inr}
use mathlib.Core.List.{List, [], ◌∷◌, map}
use Prim.Native.Nat.{ℕ, zero, suc, ◌+◌, ◌-◌, ◌≤◌, ◌<◌}
use native.Mathlib.Decide.{dec_lt}
use native.Mathlib.Omega.{arith}
use lib.Dec.{eqb}
use lib.ListN.{replicate}
use Rattle.ground.specs.Sums.{sum_of, up_from, same, times}
use Rattle.ground.specs.Tests.{Says}
use Rattle.ground.proofs.Sums.{sum_of_append, sum_of_at}
use Rattle.ground.proofs.Tests.{eqb_says}
use Rattle.ground.proofs.Times.{same_no, same_swap, up_once, by_same}
use Rattle.rules.specs.Record.{on_proc, slots_of}
use Rattle.rules.specs.State.{Cond, asleep, resting, running, waiting, Task, nobody, at, proc, runs, on}
use Rattle.rules.proofs.Cases.{proc_of, runs_of, on_of_lem}
use Rattle.rules.proofs.Places.{inside}
use Rattle.rules.proofs.Plane.{Fits}

none_on : (f : ℕ → ℕ) (l : List ℕ) → ((x : ℕ) → f x ≡ 0) → sum_of f l ≡ 0
unfolding sum_of
none_on f [] h = refl
none_on f (x ∷ l) h = omega (arith, h x, none_on f l h)

-- a task is on one processor of 1 .. m, or on none
pub on_all : (m : ℕ) (c : Cond) → runs_of c ≤ proc_of c → proc_of c ≤ m → sum_of (λ p. on_of_lem p c) (up_from 1 m) ≡ runs_of c
on_all m asleep lo hi = none_on (λ p. 0) (up_from 1 m) (λ x. refl)
on_all m resting lo hi = none_on (λ p. 0) (up_from 1 m) (λ x. refl)
on_all m (running p a) lo hi = up_once p 1 m (omega arith) (omega arith)
on_all m (waiting a) lo hi = none_on (λ p. 0) (up_from 1 m) (λ x. refl)

-- the first task on p
on_after : (p i : ℕ) (l : List Task) → (on_proc p i l ≡ 0) ⊎ (i ≤ on_proc p i l)
unfolding on_proc
on_after p i [] = inl refl
on_after p i (t ∷ l) = go (eqb (proc t) p) (on_after p (suc i) l)
  where
    go : (b : Bool) → (on_proc p (suc i) l ≡ 0) ⊎ (suc i ≤ on_proc p (suc i) l) → ((if b then i else on_proc p (suc i) l) ≡ 0) ⊎ (i ≤ (if b then i else on_proc p (suc i) l))
    go true h = inr (omega arith)
    go false (inl h) = inl h
    go false (inr h) = inr (omega arith)

on_of : (p : ℕ) (c : Cond) → 0 < p → on_of_lem p c ≡ same (proc_of c) p
on_of p asleep h = by_same (λ x. 0 ≡ x) 0 p (λ e. absurd (omega arith)) (λ e. refl)
on_of p resting h = by_same (λ x. 0 ≡ x) 0 p (λ e. absurd (omega arith)) (λ e. refl)
on_of p (running p' a) h = refl
on_of p (waiting a) h = by_same (λ x. 0 ≡ x) 0 p (λ e. absurd (omega arith)) (λ e. refl)

none_at : (p j : ℕ) (l : List Task) → sum_of (on p) l ≡ 0 → on p (at j l) ≡ 0
none_at p j l h = go (dec_lt 0 (on p (at j l)))
  where
    go : Dec (0 < on p (at j l)) → on p (at j l) ≡ 0
    go (yes q) = omega (arith, sum_of_at (on p) l j nobody (inside (on p) l j refl q))
    go (no q) = omega arith

pub on_proc_lem : (p : ℕ) → 0 < p → (l : List Task) → sum_of (on p) l ≤ 1 → (i j : ℕ) → 0 < i → same (on_proc p i l) (i + j) ≡ on p (at j l)
unfolding on_proc sum_of
on_proc_lem p hp [] h i j hi = by_same (λ x. x ≡ 0) 0 (i + j) (λ e. absurd (omega arith)) (λ e. refl)
on_proc_lem p hp (t ∷ l) h i j hi = go (eqb (proc t) p) (eqb_says (proc t) p) (on_of p t.cond hp) (λ j. on_proc_lem p hp l (omega arith) (suc i) j (omega arith)) j
  where
    go : (b : Bool) → Says (proc t ≡ p) b → on_of_lem p t.cond ≡ (if b then 1 else 0) → ((j : ℕ) → same (on_proc p (suc i) l) (suc i + j) ≡ on p (at j l)) → (j : ℕ) → same (if b then i else on_proc p (suc i) l) (i + j) ≡ on p (at j (t ∷ l))
    go true e o ih zero = by_same (λ x. x ≡ on_of_lem p t.cond) i (i + 0) (λ e. omega arith) (λ e. absurd (e (omega arith)))
    go true e o ih (suc j) = by_same (λ x. x ≡ on p (at j l)) i (i + suc j) (λ e. absurd (omega arith)) (λ e. omega (arith, none_at p j l (omega arith)))
    go false e o ih zero = by_same (λ x. x ≡ on_of_lem p t.cond) (on_proc p (suc i) l) (i + 0) (λ e. absurd (not_here e (on_after p (suc i) l))) (λ e. omega arith)
      where
        not_here : on_proc p (suc i) l ≡ i + 0 → (on_proc p (suc i) l ≡ 0) ⊎ (suc i ≤ on_proc p (suc i) l) → ⊥
        not_here e (inl z) = omega arith
        not_here e (inr z) = omega arith
    go false e o ih (suc j) = let s : i + suc j ≡ suc i + j = omega arith in rw s (ih j)

-- the slots hold a task once if it runs, and else not at all
slots_from : (l : List Task) (j : ℕ) → ((p : ℕ) → sum_of (on p) l ≤ 1) → (i n : ℕ) → 0 < i → times (suc j) (map (λ p. on_proc p 1 l) (up_from i n)) ≡ sum_of (λ p. on p (at j l)) (up_from i n)
unfolding sum_of up_from
slots_from l j h i zero hi = refl
slots_from l j h i (suc n) hi = let s : 1 + j ≡ suc j = omega arith in omega (arith, same_swap (suc j) (on_proc i 1 l), rw s at (on_proc_lem i hi l (h i) 1 j (omega arith)), slots_from l j h (suc i) n (omega arith))

-- zeros hold nobody
times_zeros : (j n : ℕ) → times (suc j) (replicate n 0) ≡ 0
unfolding sum_of
times_zeros j zero = refl
times_zeros j (suc n) = omega (arith, same_no (suc j) 0 (λ e. omega arith), times_zeros j n)

pub slots_ok : {c m scale R : ℕ} (l : List Task) → Fits c m scale R l → (j : ℕ) → times (suc j) (slots_of m l) ≡ runs (at j l)
unfolding slots_of
slots_ok {m = m} l F j =
    let first : List ℕ = map (λ p. on_proc p 1 l) (up_from 1 m) in
    sum_of_append (same (suc j)) first (replicate (16 - m) 0)
    ∙ (let a : times (suc j) first ≡ runs (at j l) = slots_from l j F.apart 1 m (omega arith) ∙ on_all m (at j l).cond (F.low j) (F.high j) in
    omega (arith, a, times_zeros j (16 - m)))
