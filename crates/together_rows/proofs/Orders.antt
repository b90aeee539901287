-- One loop over the kept order: every entry so far is a place of a row, each ahead of the next
use mathlib.Core.Path.{◌≡◌, refl, sym, ◌∙◌, ap}
use mathlib.Core.Bool.{Bool, true, false, ◌&&◌}
use mathlib.Core.List.{List}
use Prim.Native.Nat.{ℕ, ◌+◌, ◌-◌, ◌≤◌, ◌<◌}
use native.Mathlib.Omega.{arith}
use lib.Dec.{ltb}
use lib.ListN.{get_or}
use borrow.Author.Tests.{ltb-true, lt-ltb, le-ltb}
use Rattle.queue.specs.Below.{all_below}
use Rattle.together_rows.specs.Tables.{places_ok, ahead, falls_ok}
use Rattle.together_rows.proofs.Folds.{all_none, all_more, all_fails, all_whole, and_first, and_next, and_both, second_fails}
use Rattle.together_rows.proofs.Tables.{ahead_same}

-- the entries up to k stand, and the entry at k is i
pub record Falls (xs os : List ℕ) (n k i : ℕ) : Type 0 where
  pub places : all_below (k + 1) (λ j. ltb (get_or os j 0) n) ≡ true
  pub falls : all_below k (λ j. ahead xs (get_or os j 0) (get_or os (j + 1) 0)) ≡ true
  pub here : i ≡ get_or os k 0
  pub inside : i < n

module _ (xs os : List ℕ) (n : ℕ) where
  abbrev is_place : ℕ → Bool
  is_place j = ltb (get_or os j 0) n

  abbrev is_ahead : ℕ → Bool
  is_ahead j = ahead xs (get_or os j 0) (get_or os (j + 1) 0)

  pub falls_first : (i : ℕ) → i ≡ get_or os 0 0 → i < n → Falls xs os n 0 i
  falls_first i e h =
      record { places = all_more is_place 0 (all_none is_place) (lt-ltb (get_or os 0 0) n (omega arith)); falls = all_none is_ahead; here = e; inside = h }

  pub falls_outside : (i : ℕ) (z : Bool) → i ≡ get_or os 0 0 → 1 ≤ n → n ≤ i → places_ok os n && z ≡ false
  unfolding places_ok
  falls_outside i z e p h = and_first (places_ok os n) z (all_fails is_place n 0 (omega arith) (le-ltb (get_or os 0 0) n (omega arith)))

  module _ (k i j : ℕ) (F : Falls xs os n k i) (e : j ≡ get_or os (k + 1) 0) where
    same : ltb j n && ahead xs i j ≡ is_place (k + 1) && is_ahead k
    same =
        ap (λ (x : ℕ). ltb x n && ahead xs i j) e
        ∙ ap (λ (b : Bool). is_place (k + 1) && b) (ahead_same xs i (get_or os k 0) j (get_or os (k + 1) 0) F.here e)

    pub falls_stops : k < n - 1 → ltb j n && ahead xs i j ≡ false → places_ok os n && falls_ok xs os n ≡ false
    unfolding places_ok falls_ok
    falls_stops h f = go (is_place (k + 1)) refl
      where
        go : (a : Bool) → is_place (k + 1) ≡ a → places_ok os n && falls_ok xs os n ≡ false
        go false o = and_first (places_ok os n) (falls_ok xs os n) (all_fails is_place n (k + 1) (omega arith) o)
        go true o = second_fails (places_ok os n) (falls_ok xs os n) (all_fails is_ahead (n - 1) k h (sym (and_next (is_place (k + 1)) (is_ahead k) o) ∙ sym same ∙ f))

    pub falls_more : ltb j n && ahead xs i j ≡ true → Falls xs os n (k + 1) j
    falls_more t =
        let b = and_both (is_place (k + 1)) (is_ahead k) (sym same ∙ t) in
        let l = ltb-true (get_or os (k + 1) 0) n b.0 in
        record { places = all_more is_place (k + 1) F.places b.0; falls = all_more is_ahead k F.falls b.1; here = e; inside = omega arith }

  pub falls_end : (k i : ℕ) → Falls xs os n k i → 1 ≤ n → n - 1 ≤ k → true ≡ places_ok os n && falls_ok xs os n
  unfolding places_ok falls_ok
  falls_end k i F p h =
      sym (and_next (places_ok os n) (falls_ok xs os n) (all_whole is_place n (k + 1) (omega arith) F.places) ∙ all_whole is_ahead (n - 1) k h F.falls)
