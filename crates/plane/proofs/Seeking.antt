-- The search for a number among slots: the place that a processor counted from 1 has
use Rattle.std.specs.Prelude.{if◌then◌else◌, Option, None, Some, cond, nat_eq}
use Rattle.std.specs.Option.{unwrap_or}
use Rattle.std.specs.List.{position, position_from}
use Rattle.std.proofs.lemmas.Iterator.Adapters.{position_from-zero}
use mathlib.Core.Path.{◌≡◌, refl, sym, ◌∙◌, ap}
use mathlib.Core.Bool.{Bool, true, false}
use mathlib.Core.List.{List, [], ◌∷◌}
use Prim.Native.Nat.{ℕ, zero, suc, ◌+◌, ◌-◌, ◌≤◌, ◌<◌}
use native.Mathlib.Numerals.{add-one}
use native.Mathlib.Omega.{arith}
use lib.ListN.{length, take, get_or, drop}
use lib.Seq.{length-take-le, get_or-take}
use Rattle.state.specs.Work.{seat_from, seat, first_idle}
use Rattle.state.proofs.Seats.{seat_found, seat_turn, seat_past}
use Rattle.plane.specs.Lent.{place_of}
use mathlib.Core.Logic.{◌≢◌}
use borrow.Author.Tests.{eq-eqb, ne_eqb}

position_seat : (t p : ℕ) (l : List ℕ) → position_from (λ x. nat_eq x t) p l ≡ place_of (seat_from t (suc p) l)
position_seat t p [] = refl
position_seat t p (x ∷ l) = go (nat_eq x t) (rw add-one (position_seat t (suc p) l))
  where
    go : (b : Bool) → position_from (λ x. nat_eq x t) (p + 1) l ≡ place_of (seat_from t (suc (suc p)) l)
        → cond b (Some p) (position_from (λ x. nat_eq x t) (p + 1) l) ≡ place_of (if b then suc p else seat_from t (suc (suc p)) l)
    go true h = refl
    go false h = h

pub seat_position : (t : ℕ) (l : List ℕ) → position (λ x. nat_eq x t) l ≡ place_of (seat t l)
seat_position t l = position_from-zero (λ x. nat_eq x t) l ∙ position_seat t 0 l

pub first_place : {o : Option ℕ} {r : ℕ} (t : ℕ) (l : List ℕ) → o ≡ position (λ x. nat_eq x t) l → r ≡ unwrap_or o 0 → r ≡ seat t l - 1
first_place t l e z = z ∙ ap (λ (x : Option ℕ). unwrap_or x 0) (e ∙ seat_position t l) ∙ go (seat t l)
  where
    go : (s : ℕ) → unwrap_or (place_of s) 0 ≡ s - 1
    go zero = refl
    go (suc p) = omega arith

-- the lowest idle processor is one of the m
inside : (m : ℕ) (slots : List ℕ) → m ≤ length slots → (r : ℕ) → first_idle m slots ≡ suc r → r < m
inside m slots h r e = let f = seat_found 0 0 r (take m slots) e in omega (arith, f.1, f.2, length-take-le m slots h)

pub idle_inside : (m : ℕ) (slots : List ℕ) {o : Option ℕ} {p : ℕ} → m ≤ length slots → o ≡ place_of (first_idle m slots) → o ≡ Some p → p < m
idle_inside m slots {p = p} h e z = go (first_idle m slots) (inside m slots h) (sym e ∙ z)
  where
    go : (n : ℕ) → ((r : ℕ) → n ≡ suc r → r < m) → place_of n ≡ Some p → p < m
    go zero f e = absurd (let h : None ≡ Some p = e in cc)
    go (suc r) f e = let g : r ≡ p = cc in omega (arith, f r refl)

-- THE SEARCH, PLACE BY PLACE
-- the search for t in l has come to place i
pub record Seeks (t : ℕ) (l : List ℕ) (i : ℕ) : Type 0 where
  pub far : i ≤ length l
  pub left : seat_from t (i + 1) (drop i l) ≡ seat t l

pub seeks_from : (t : ℕ) (l : List ℕ) → Seeks t l 0
seeks_from t l = record { far = omega arith; left = refl }

module _ {t : ℕ} {l : List ℕ} {i : ℕ} (s : Seeks t l i) where
  pub seeks_found : i < length l → get_or l i 0 ≡ t → i + 1 ≡ seat t l
  seeks_found h e = sym (rw (eq-eqb (get_or l i 0) t e) at (seat_turn t i l h)) ∙ s.left

  pub seeks_on : i < length l → get_or l i 0 ≢ t → Seeks t l (i + 1)
  seeks_on h e = record { far = omega arith; left = sym (rw (ne_eqb (get_or l i 0) t e) at (seat_turn t i l h)) ∙ s.left }

  pub seeks_past : length l ≤ i → 0 ≡ seat t l
  seeks_past h = sym (seat_past t i l (omega (arith, s.far))) ∙ s.left

-- the first m slots
module _ (m : ℕ) (slots : List ℕ) (room : length slots ≡ 16) (most : m ≤ 16) where
  pub first_length : length (take m slots) ≡ m
  first_length = length-take-le m slots (omega arith)

  pub first_at : {i : ℕ} → i < m → get_or (take m slots) i 0 ≡ get_or slots i 0
  first_at {i} h = get_or-take m slots i 0 h
