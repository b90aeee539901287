-- Marks: each task of a list met once, and who was met
use mathlib.Core.Path.{◌≡◌, refl, sym, ◌∙◌, ap}
use mathlib.Core.Bool.{Bool, true, false, not, ◌&&◌, false≢true}
use mathlib.Core.Logic.{◌≢◌, ◌⊎◌, inl, inr}
use mathlib.Core.List.{List, [], ◌∷◌}
use Prim.Native.Nat.{ℕ, zero, suc, ◌+◌, ◌-◌, ◌≤◌, ◌<◌}
use native.Mathlib.Decide.{ℕ_discrete}
use native.Mathlib.Numerals.{add-one}
use native.Mathlib.Omega.{arith}
use borrow.Author.Tests.{ne_eqb}
use lib.Dec.{ltb}
use lib.ListN.{length, get_or, set, drop, length-set, drop_of_length-le}
use lib.Seq.{get_or-set_same, get_or-set_other, drop-cons}
use Rattle.ground.specs.Tests.{Says}
use Rattle.ground.proofs.Tests.{ltb_says, and_says, says_as}
use Rattle.state.specs.Sound.{fresh, mark, all_fresh, all_marked}

-- what a test says of itself, and of its opposite
pub is_says : (b : Bool) → Says (b ≡ true) b
is_says true = refl
is_says false = false≢true

pub not_is_says : (b : Bool) → Says (b ≡ false) (not b)
not_is_says true = λ e. false≢true (sym e)
not_is_says false = refl

-- ONE MARK
mark_suc : (marks : List Bool) (t : ℕ) → mark marks (suc t) ≡ set marks t true
mark_suc marks t = let z : suc t - 1 ≡ t = omega arith in rw (ne_eqb (suc t) 0 (λ y. omega arith), z)

mark_this : (marks : List Bool) (t : ℕ) → t < length marks → get_or (mark marks (suc t)) t false ≡ true
mark_this marks t h = rw (mark_suc marks t) (get_or-set_same marks t true false h)

mark_other : (marks : List Bool) (x t : ℕ) → x ≢ suc t → get_or (mark marks x) t false ≡ get_or marks t false
mark_other marks zero t n = refl
mark_other marks (suc u) t n = rw (mark_suc marks u) (get_or-set_other marks u t true false (λ z. n (ap suc (sym z))))

length_mark : (marks : List Bool) (x : ℕ) → length (mark marks x) ≡ length marks
length_mark marks zero = refl
length_mark marks (suc u) = rw (mark_suc marks u) (length-set marks u true)

-- MANY MARKS
marked_stays : (l : List ℕ) (marks : List Bool) (t : ℕ) → t < length marks → get_or marks t false ≡ true → get_or (all_marked l marks) t false ≡ true
unfolding all_marked
marked_stays [] marks t h e = e
marked_stays (x ∷ l) marks t h e = marked_stays l (mark marks x) t (rw (length_mark marks x) h) (go (ℕ_discrete x (suc t)))
  where
    go : Dec (x ≡ suc t) → get_or (mark marks x) t false ≡ true
    go (yes z) = rw z (mark_this marks t h)
    go (no z) = mark_other marks x t z ∙ e

pub length_marked : (l : List ℕ) (marks : List Bool) → length (all_marked l marks) ≡ length marks
unfolding all_marked
length_marked [] marks = refl
length_marked (x ∷ l) marks = length_marked l (mark marks x) ∙ length_mark marks x

-- who is in the list is marked, and nobody else
pub marked_in : (l : List ℕ) (marks : List Bool) (j t : ℕ) → t < length marks → get_or l j 0 ≡ suc t → get_or (all_marked l marks) t false ≡ true
unfolding all_marked
marked_in [] marks j t h e = absurd (omega arith)
marked_in (x ∷ l) marks zero t h e = marked_stays l (mark marks x) t (rw (length_mark marks x) h) (rw e (mark_this marks t h))
marked_in (x ∷ l) marks (suc j) t h e = marked_in l (mark marks x) j t (rw (length_mark marks x) h) e

pub marked_from : (l : List ℕ) (marks : List Bool) (t : ℕ) → get_or (all_marked l marks) t false ≡ true → (get_or marks t false ≡ true) ⊎ ((j : ℕ) × (get_or l j 0 ≡ suc t))
unfolding all_marked
marked_from [] marks t e = inl e
marked_from (x ∷ l) marks t e = go (ℕ_discrete x (suc t)) (marked_from l (mark marks x) t e)
  where
    go : Dec (x ≡ suc t) → (get_or (mark marks x) t false ≡ true) ⊎ ((j : ℕ) × (get_or l j 0 ≡ suc t)) → (get_or marks t false ≡ true) ⊎ ((j : ℕ) × (get_or (x ∷ l) j 0 ≡ suc t))
    go (yes z) r = inr (0, z)
    go (no z) (inl m) = inl (sym (mark_other marks x t z) ∙ m)
    go (no z) (inr r) = inr (suc r.0, r.1)

-- EACH ONCE
-- task x, if it is one, is among the n, passes, and has no mark
abbrev pub Fresh : ℕ → List Bool → List Bool → ℕ → Type 0
Fresh n ok marks x = (t : ℕ) → x ≡ suc t → (t < n) × ((get_or ok t false ≡ true) × (get_or marks t false ≡ false))

-- every task of the list does, and no two places have the same task
abbrev pub AllFresh : ℕ → List Bool → List ℕ → List Bool → Type 0
AllFresh n ok l marks = ((j : ℕ) → Fresh n ok marks (get_or l j 0)) × ((i j t : ℕ) → get_or l i 0 ≡ suc t → get_or l j 0 ≡ suc t → i ≡ j)

fresh_says : (n : ℕ) (ok marks : List Bool) (x : ℕ) → Says (Fresh n ok marks x) (fresh n ok marks x)
fresh_says n ok marks zero = λ t e. absurd (omega arith)
fresh_says n ok marks (suc u) =
    let z : suc u - 1 ≡ u = omega arith in
    rw (ne_eqb (suc u) 0 (λ y. omega arith), z)
    (says_as (ltb u n && (get_or ok u false && not (get_or marks u false))) to (λ f. f u refl)
    (and_says _ _ (ltb u n) _ (ltb_says u n) (and_says _ _ (get_or ok u false) _ (is_says (get_or ok u false)) (not_is_says (get_or marks u false)))))
  where
    to : (u < n) × ((get_or ok u false ≡ true) × (get_or marks u false ≡ false)) → Fresh n ok marks (suc u)
    to h t e = let z : u ≡ t = omega arith in rw z at h

pub all_fresh_says : (n : ℕ) (ok : List Bool) (l : List ℕ) (marks : List Bool) → n ≤ length marks → Says (AllFresh n ok l marks) (all_fresh n ok l marks)
unfolding all_fresh
all_fresh_says n ok [] marks h = ((λ j t e. absurd (omega arith)), λ i j t e. absurd (omega arith))
all_fresh_says n ok (x ∷ l) marks h =
    says_as (fresh n ok marks x && all_fresh n ok l (mark marks x)) to from
    (and_says _ _ (fresh n ok marks x) _ (fresh_says n ok marks x) (all_fresh_says n ok l (mark marks x) (rw (length_mark marks x) h)))
  where
    -- a task without a mark after x is another
    another : Fresh n ok marks x → (t : ℕ) → get_or (mark marks x) t false ≡ false → x ≢ suc t
    another f t e z = false≢true (sym e ∙ (rw z (mark_this marks t (omega (arith, (f t z).0)))))

    to : Fresh n ok marks x × AllFresh n ok l (mark marks x) → AllFresh n ok (x ∷ l) marks
    to r = (each, apart)
      where
        each : (j : ℕ) → Fresh n ok marks (get_or (x ∷ l) j 0)
        each zero = r.0
        each (suc j) = λ t e. let q = r.1.0 j t e in (q.0, (q.1.0, sym (mark_other marks x t (another r.0 t q.1.1)) ∙ q.1.1))

        apart : (i j t : ℕ) → get_or (x ∷ l) i 0 ≡ suc t → get_or (x ∷ l) j 0 ≡ suc t → i ≡ j
        apart zero zero t a b = refl
        apart zero (suc j) t a b = absurd (another r.0 t (r.1.0 j t b).1.1 a)
        apart (suc i) zero t a b = absurd (another r.0 t (r.1.0 i t a).1.1 b)
        apart (suc i) (suc j) t a b = ap suc (r.1.1 i j t a b)

    from : AllFresh n ok (x ∷ l) marks → Fresh n ok marks x × AllFresh n ok l (mark marks x)
    from r = (r.0 0, (each, λ i j t a b. let z = r.1 (suc i) (suc j) t a b in omega arith))
      where
        each : (j : ℕ) → Fresh n ok (mark marks x) (get_or l j 0)
        each j t e =
            let q = r.0 (suc j) t e in
            (q.0, (q.1.0, mark_other marks x t (λ z. let y = r.1 0 (suc j) t z e in omega arith) ∙ q.1.1))

-- the pass from place i on: one turn, and the end
pub fresh_turn : (n : ℕ) (ok : List Bool) (l : List ℕ) (marks : List Bool) (i : ℕ) → i < length l
    → all_fresh n ok (drop i l) marks ≡ (fresh n ok marks (get_or l i 0) && all_fresh n ok (drop (i + 1) l) (mark marks (get_or l i 0)))
unfolding all_fresh
fresh_turn n ok l marks i h = rw (drop-cons l i 0, add-one i)

pub fresh_end : (n : ℕ) (ok : List Bool) (l : List ℕ) (marks : List Bool) (i : ℕ) → length l ≤ i → all_fresh n ok (drop i l) marks ≡ true
unfolding all_fresh
fresh_end n ok l marks i h = rw (drop_of_length-le l h)

pub marked_turn : (l : List ℕ) (marks : List Bool) (i : ℕ) → i < length l → all_marked (drop i l) marks ≡ all_marked (drop (i + 1) l) (mark marks (get_or l i 0))
unfolding all_marked
marked_turn l marks i h = rw (drop-cons l i 0, add-one i)

pub marked_end : (l : List ℕ) (marks : List Bool) (i : ℕ) → length l ≤ i → all_marked (drop i l) marks ≡ marks
unfolding all_marked
marked_end l marks i h = rw (drop_of_length-le l h)
