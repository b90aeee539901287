-- Laws of numbers that are read
use Rattle.std.specs.Prelude.{Some, None, Result, Ok, Err, OkIff, MatchResult, nat_eq}
use Rattle.std.specs.List.{starts_with}
use Rattle.std.specs.Result.{result_ok}
use Rattle.std.specs.Str.{IsUtf8}
use Rattle.std.specs.Str.Parse.{ParsesUnsigned}
use Rattle.std.proofs.Common.{rules, tests}
use Rattle.std.proofs.lemmas.Option.{same_Some}
use Rattle.std.proofs.lemmas.Fmt.{IsAscii-from_digits}
use Rattle.std.proofs.lemmas.Str.{IsUtf8-from_ascii}
use Rattle.std.proofs.lemmas.Str.Parse.{IsDigitsTest, FoldsDigits, IsNumeralModel, numerals_by_fold, parse_plain}
use Prim.Native.Nat.{ℕ, ◌^◌, ◌≤◌, ◌<◌}
use mathlib.Core.Path.{◌≡◌, refl, sym, ap, subst}
use denote.Ref.{Bor}
use mathlib.Core.Bool.{Bool, true, false, ◌&&◌}
use mathlib.Core.List.{List, [], ◌∷◌}
use native.Mathlib.Omega.{arith}
use borrow.Author.Tests.{le-leb}
use lib.Dec.{leb}
use lib.ListN.{length, get_or}
use Rattle.ground.specs.Tests.{every, Says}
use Rattle.ground.proofs.Tests.{leb_says}
use Rattle.text.specs.Numbers.{most_number, is_digit, plain, spelled_after, spelled, numeral_of}

pub and_false : (t : Bool) → (t && false) ≡ false
and_false true = refl
and_false false = refl

pub not_digits : (p : List ℕ) → every is_digit p ≡ false → numeral_of p ≡ None
unfolding numeral_of
not_digits p e = rw (e, and_false (plain p))

pub too_large : (p : List ℕ) → leb (spelled p) most_number ≡ false → numeral_of p ≡ None
unfolding numeral_of
too_large p e = rw (e, and_false (every is_digit p), and_false (plain p))

pub a_number : (p : List ℕ) (v : ℕ) → plain p ≡ true → every is_digit p ≡ true → spelled p ≡ v → v ≤ most_number → numeral_of p ≡ Some v
unfolding numeral_of
a_number p v e d s h = rw (e, d, s, le-leb v most_number h)

-- our words for digits and their number are the library's
abbrev Digits : List ℕ → Type 0
Digits p = every is_digit p ≡ true

tells : IsDigitsTest Digits
unfolding every
tells = search rules

folds : FoldsDigits spelled_after
unfolding spelled_after
folds = search rules

own : IsNumeralModel Digits spelled
own = numerals_by_fold Digits tells spelled_after folds

-- what has no number: another encoding, a sign in front, a zero in front of others
not_text : (p : List ℕ) → ¬ (IsUtf8 p) → numeral_of p ≡ None
not_text p h = go (every is_digit p) refl
  where
    go : (t : Bool) → every is_digit p ≡ t → numeral_of p ≡ None
    go true e = absurd (h (IsUtf8-from_ascii p (IsAscii-from_digits p (own.to p e))))
    go false e = not_digits p e

-- what `from_utf8` and its `ok` answer
pub text_none : {S E : Type 0} (P : S → Type 0) (Q : E → Type 0) (p : List ℕ) (r : Result S E) → MatchResult r P (λ e. ¬ (IsUtf8 p) × Q e) → result_ok r ≡ None → numeral_of p ≡ None
text_none P Q p (Ok s) m e = absurd (cc)
text_none P Q p (Err x) m e = not_text p m.0

pub text_some : {E : Type 0} (Q : E → Type 0) (p : List ℕ) (s : Bor (List ℕ)) (r : Result (Bor (List ℕ)) E) → MatchResult r (λ s. (s.now ≡ p) × IsUtf8 p) Q → result_ok r ≡ Some s → s.now ≡ p
text_some Q p s (Ok t) m e = subst (λ (x : Bor (List ℕ)). x.now ≡ p) (same_Some t s e) m.0
text_some Q p s (Err x) m e = absurd (cc)

pub not_plain : (p : List ℕ) → plain p ≡ false → numeral_of p ≡ None
unfolding numeral_of
not_plain p e = rw e

pub plus_front : (p : List ℕ) → starts_with nat_eq p (43 ∷ []) ≡ true → numeral_of p ≡ None
unfolding every
plus_front [] h = not_plain [] refl
plus_front (b ∷ p) h = let e : b ≡ 43 = search (rules, tests) in not_digits (b ∷ p) (ap (λ (x : ℕ). is_digit x && every is_digit p) e)

no_plus : (p : List ℕ) → 0 < length p → starts_with nat_eq p (43 ∷ []) ≡ false → get_or p 0 0 ≡ 43 → ⊥
no_plus [] n h e = absurd (omega arith)
no_plus (b ∷ p) n h e = search (rules, tests)

plain_some : (p : List ℕ) → plain p ≡ true → 0 < length p
plain_some [] e = absurd (search rules)
plain_some (b ∷ p) e = omega arith

refused : (q : List ℕ) (t : Bool) → every is_digit q ≡ true → leb (spelled q) most_number ≡ t → Says (spelled q ≤ most_number) t
    → ¬ (Digits q × (0 < length q) × (spelled q < 2 ^ 32)) → numeral_of q ≡ None
unfolding numeral_of
refused [] t e f s n = refl
refused (b ∷ l) true e f s n = absurd (n (e, omega arith, omega arith))
refused (b ∷ l) false e f s n = too_large (b ∷ l) f

-- what `parse` answers otherwise
pub parsed : {E : Type 0} (p : List ℕ) (r : Result ℕ E) → starts_with nat_eq p (43 ∷ []) ≡ false → plain p ≡ true → ParsesUnsigned 32 10 p r → numeral_of p ≡ result_ok r
parsed {E} p r h k u = by_result r (parse_plain own 32 p r u (no_plus p (plain_some p k) h))
  where
    no_digits : (t : Bool) → every is_digit p ≡ t → ¬ (Digits p × (0 < length p) × (spelled p < 2 ^ 32)) → numeral_of p ≡ None
    no_digits true e n = refused p (leb (spelled p) most_number) e refl (leb_says (spelled p) most_number) n
    no_digits false e n = not_digits p e

    by_result : (r : Result ℕ E) → OkIff r (Digits p × (0 < length p) × (spelled p < 2 ^ 32)) (spelled p) → numeral_of p ≡ result_ok r
    by_result (Ok x) o = a_number p x k o.0.0 (sym o.1) (omega arith)
    by_result (Err e) o = no_digits (every is_digit p) refl o
