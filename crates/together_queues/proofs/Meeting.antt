-- Tasks met one after another: what is left to meet, and one turn
use mathlib.Core.Path.{◌≡◌, refl, sym, ◌∙◌, ap}
use mathlib.Core.Bool.{Bool, true, false, ◌&&◌, not}
use mathlib.Core.List.{List, [], ◌∷◌}
use Prim.Native.Nat.{ℕ, ◌+◌, ◌≤◌, ◌<◌, zero, suc, ◌-◌}
use native.Mathlib.Omega.{arith}
use native.Mathlib.Numerals.{add-one}
use lib.ListN.{length, get_or, take, drop}
use lib.Seq.{drop-cons, drop-length, get_or-take, length-take-le}
use Rattle.state.specs.Sound.{fresh, mark, all_fresh, all_marked}
use Rattle.together_queues.specs.declared.Roll.{Roll}
use Rattle.together_queues.specs.Entries.{with_met}
use borrow.Author.Tests.{ltb-true, ne_eqb}
use lib.Dec.{ltb}
use Rattle.together_rows.proofs.Folds.{and_both}

-- i of the first n tasks were met, and the roll stands as they left it
pub record Meets (n : ℕ) (tasks : List ℕ) (r₀ : Roll) (i : ℕ) (r : Roll) : Type 0 where
  pub low : i ≤ n
  pub same : r ≡ with_met r₀ r.met
  pub rest : all_fresh r.count r.ok.now (drop i (take n tasks)) r.met ≡ all_fresh r₀.count r₀.ok.now (take n tasks) r₀.met
  pub marked : all_marked (drop i (take n tasks)) r.met ≡ all_marked (take n tasks) r₀.met

pub meets_from : (n : ℕ) (tasks : List ℕ) (r : Roll) → Meets n tasks r 0 r
meets_from n tasks r = record { low = omega arith; same = refl; rest = refl; marked = refl }

module _ {n : ℕ} {tasks : List ℕ} {r₀ : Roll} {i : ℕ} {r : Roll} (M : Meets n tasks r₀ i r) (room : n ≤ length tasks) where
  next : i < n → drop i (take n tasks) ≡ get_or tasks i 0 ∷ drop (i + 1) (take n tasks)
  next h =
      let b : i < length (take n tasks) = omega (arith, length-take-le n tasks room) in
      rw (add-one, ← get_or-take n tasks i 0 h) (drop-cons (take n tasks) i 0 b)

  pub meets_on : i < n → true ≡ fresh r.count r.ok.now r.met (get_or tasks i 0) → Meets n tasks r₀ (i + 1) (with_met r (mark r.met (get_or tasks i 0)))
  unfolding all_fresh all_marked
  meets_on h e =
      record {
        low = omega arith;
        same = ap (λ (x : Roll). with_met x (mark r.met (get_or tasks i 0))) M.same;
        rest =
            ap (λ (b : Bool). b && all_fresh r.count r.ok.now (drop (i + 1) (take n tasks)) (mark r.met (get_or tasks i 0))) e
            ∙ ap (λ (l : List ℕ). all_fresh r.count r.ok.now l r.met) (sym (next h)) ∙ M.rest;
        marked = ap (λ (l : List ℕ). all_marked l r.met) (sym (next h)) ∙ M.marked;
      }

  pub meets_fails : i < n → false ≡ fresh r.count r.ok.now r.met (get_or tasks i 0) → false ≡ all_fresh r₀.count r₀.ok.now (take n tasks) r₀.met
  unfolding all_fresh
  meets_fails h e =
      ap (λ (b : Bool). b && all_fresh r.count r.ok.now (drop (i + 1) (take n tasks)) (mark r.met (get_or tasks i 0))) e
      ∙ ap (λ (l : List ℕ). all_fresh r.count r.ok.now l r.met) (sym (next h)) ∙ M.rest

  none_left : n ≤ i → drop i (take n tasks) ≡ []
  none_left h =
      let e : i ≡ length (take n tasks) = omega (arith, M.low, length-take-le n tasks room) in
      ap (λ (k : ℕ). drop k (take n tasks)) e ∙ drop-length (take n tasks)

  pub meets_end : n ≤ i → (true ≡ all_fresh r₀.count r₀.ok.now (take n tasks) r₀.met) × (r ≡ with_met r₀ (all_marked (take n tasks) r₀.met))
  unfolding all_fresh all_marked
  meets_end h = (
    sym (ap (λ (l : List ℕ). all_fresh r.count r.ok.now l r.met) (none_left h)) ∙ M.rest,
    M.same ∙ ap (with_met r₀) (sym (ap (λ (l : List ℕ). all_marked l r.met) (none_left h)) ∙ M.marked),
  )

-- a fresh task has a place among the marks
pub fresh_low : (count : ℕ) (ok marks : List Bool) (t : ℕ) → count ≤ 128 → fresh count ok marks t ≡ true → t ≤ 128
fresh_low count ok marks zero h e = omega arith
fresh_low count ok marks (suc u) h e =
    let z : suc u - 1 ≡ u = omega arith in
    let f : ltb u count && (get_or ok u false && not (get_or marks u false)) ≡ true = rw (ne_eqb (suc u) 0 (λ y. omega arith), z) at e in
    omega (arith, ltb-true u count (and_both (ltb u count) _ f).0)
