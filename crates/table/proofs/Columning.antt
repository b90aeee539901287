-- Loops over the rows: what is left to do from a place on, and one turn of it
use mathlib.Core.Path.{◌≡◌, refl, ◌∙◌, ap}
use mathlib.Core.Bool.{true, false}
use mathlib.Core.List.{List, [], ◌∷◌, map}
use Prim.Native.Nat.{ℕ, zero, suc, ◌+◌, ◌-◌, ◌≤◌, ◌<◌}
use native.Mathlib.Nat.{sub-zero}
use native.Mathlib.Omega.{arith}
use lib.ListN.{set}
use lib.Seq.{sets}
use Rattle.ground.specs.Sums.{sum_of, up_from}
use Rattle.rules.specs.Table.{Row, shorter}
use Rattle.rules.specs.Scale.{lcm, scale_from}
use Rattle.rules.specs.Admission.{Verdict, fault_of, fault_from, plain}
use Rattle.rules.specs.Answers.{Answer, Done, is_done}
use Rattle.rules.specs.declared.Refusal.{Refusal}
use Rattle.std.specs.Prelude.{Err}
use Rattle.ground.proofs.Times.{up_turn, up_end}

module _ {A : Type 0} where
  -- f of the places from i on, below n
  abbrev pub left : (ℕ → A) → ℕ → ℕ → List A
  left f i n = map f (up_from i (n - i))

  pub left_start : (f : ℕ → A) (n : ℕ) → left f 0 n ≡ map f (up_from 0 n)
  left_start f n = ap (λ (k : ℕ). map f (up_from 0 k)) (sub-zero n)

  pub left_turn : (f : ℕ → A) (i n : ℕ) → i < n → left f i n ≡ f i ∷ left f (i + 1) n
  left_turn f i n h = ap (map f) (up_turn i n h)

  pub left_end : (f : ℕ → A) (i n : ℕ) → n ≤ i → left f i n ≡ []
  left_end f i n h = ap (map f) (up_end i n h)

  -- equal place by place
  pub held_same : (f g : ℕ → A) (i n : ℕ) → ((j : ℕ) → i ≤ j → j < i + n → f j ≡ g j) → map f (up_from i n) ≡ map g (up_from i n)
  unfolding up_from
  held_same f g i zero h = refl
  held_same f g i (suc n) h =
      ap (λ (x : A). x ∷ map f (up_from (suc i) n)) (h i (omega arith) (omega arith))
      ∙ ap (λ (l : List A). g i ∷ l) (held_same f g (suc i) n (λ j a b. h j (omega arith) (omega arith)))

-- one store, and none
pub store_turn : (l : List ℕ) (i v : ℕ) (vs ws : List ℕ) → vs ≡ v ∷ ws → sets l i vs ≡ sets (set l i v) (i + 1) ws
store_turn l i v vs ws e = let s : suc i ≡ i + 1 = omega arith in ap (sets l i) e ∙ ap (λ (k : ℕ). sets (set l i v) k ws) s

pub store_end : (l : List ℕ) (i : ℕ) (vs : List ℕ) → vs ≡ [] → sets l i vs ≡ l
store_end l i vs e = ap (sets l i) e

-- one summand, and none
pub sum_turn : (f : ℕ → ℕ) (i n : ℕ) → i < n → sum_of f (up_from i (n - i)) ≡ f i + sum_of f (up_from (i + 1) (n - (i + 1)))
unfolding sum_of
sum_turn f i n h = ap (sum_of f) (up_turn i n h)

pub sum_end : (f : ℕ → ℕ) (i n : ℕ) → n ≤ i → sum_of f (up_from i (n - i)) ≡ 0
unfolding sum_of
sum_end f i n h = ap (sum_of f) (up_end i n h)

-- one row without fault, a faulty row, and no row
pub fault_turn : (i : ℕ) (rows : List Row) (r : Row) (more : List Row) → rows ≡ r ∷ more → fault_of r ≡ Done → fault_from i rows ≡ fault_from (i + 1) more
unfolding fault_from
fault_turn i rows r more e d =
    let s : suc i ≡ i + 1 = omega arith in
    ap (fault_from i) e
    ∙ ap (λ (a : Answer). elim (is_done a) [ true ↦ fault_from (suc i) more | false ↦ record { answer = a; row = i } ]) d
    ∙ ap (λ (k : ℕ). fault_from k more) s

pub fault_found : (i : ℕ) (rows : List Row) (r : Row) (more : List Row) (w : Refusal) → rows ≡ r ∷ more → fault_of r ≡ Err w
    → fault_from i rows ≡ record { answer = Err w; row = i }
unfolding fault_from
fault_found i rows r more w e d =
    ap (fault_from i) e ∙ ap (λ (a : Answer). elim (is_done a) as (λ _. Verdict) [ true ↦ fault_from (suc i) more | false ↦ record { answer = a; row = i } ]) d

pub fault_end : (i : ℕ) (rows : List Row) → rows ≡ [] → fault_from i rows ≡ plain Done
unfolding fault_from
fault_end i rows e = ap (fault_from i) e

-- one q more in the scale, and none
pub scale_turn : (l : ℕ) (rows : List Row) (r : Row) (more : List Row) → rows ≡ r ∷ more → scale_from l rows ≡ scale_from (lcm l (shorter r)) more
unfolding scale_from
scale_turn l rows r more e = ap (scale_from l) e

pub scale_end : (l : ℕ) (rows : List Row) → rows ≡ [] → scale_from l rows ≡ l
unfolding scale_from
scale_end l rows e = ap (scale_from l) e
