use Prim.Native.Nat.{ℕ, ◌+◌}
use mathlib.Core.Path.{◌≡◌, sym, ap, ◌∙◌}
use native.Mathlib.Omega.{arith}
use lib.ListN.{drop}
use Rattle.text.specs.Numbers.{is_digit, spelled, spelled_after}
use Rattle.text.proofs.Numerals.{not_plain, not_digits, a_number}
use Rattle.text.proofs.Digits.{every_on, every_stop, every_end, spelled_on, spelled_end, spelled_more, over_most}
use Rattle.text.proofs.number.Goals as goal

pub returns-then-not-is_plain : goal.returns-then-not-is_plain
returns-then-not-is_plain c = record { is = sym (not_plain c.args.part.now (sym c.is_plain.ensures.is ∙ c.if-not-is_plain.true)) }

pub returns-then-not-is_digit : goal.returns-then-not-is_digit
returns-then-not-is_digit c =
    record {
      is = let k = c.loop-i in
          let p = c.args.part.now in
          sym (not_digits p (sym k.invariant.2 ∙ every_stop is_digit p k.i c.loop-i-test.true (sym c.is_digit.ensures.is ∙ c.if-not-is_digit.true)));
    }

pub returns-then-v-gt-MOST_NUMBER : goal.returns-then-v-gt-MOST_NUMBER
returns-then-v-gt-MOST_NUMBER c =
    record {
      is = let k = c.loop-i in
          let p = c.args.part.now in
          let e : spelled_after c.with_digit-v.result (drop (k.i + 1) p) ≡ spelled p =
          ap (λ (n : ℕ). spelled_after n (drop (k.i + 1) p)) c.with_digit-v.ensures.is ∙ sym (spelled_on k.v p k.i c.loop-i-test.true) ∙ k.invariant.3 in
          sym (over_most p (omega (arith, spelled_more c.with_digit-v.result (drop (k.i + 1) p))));
    }

pub loop-i-preserved : goal.loop-i-preserved
loop-i-preserved c =
    let k = c.loop-i in
    let p = c.args.part.now in
    let d = sym c.is_digit.ensures.is ∙ c.if-not-is_digit.false in
    let e : spelled_after c.with_digit-v.result (drop (k.i + 1) p) ≡ spelled p =
    ap (λ (n : ℕ). spelled_after n (drop (k.i + 1) p)) c.with_digit-v.ensures.is ∙ sym (spelled_on k.v p k.i c.loop-i-test.true) ∙ k.invariant.3 in
    (c.if-v-gt-MOST_NUMBER.false, k.invariant.1, sym (every_on is_digit p k.i c.loop-i-test.true d) ∙ k.invariant.2, e)

pub returns : goal.returns
returns c =
    record {
      is = let k = c.loop-i in
          let p = c.args.part.now in
          sym (a_number p k.v k.invariant.1 (sym k.invariant.2 ∙ every_end is_digit p k.i (omega (arith, c.loop-i-test.false))) (sym k.invariant.3 ∙ spelled_end k.v p k.i (omega (arith, c.loop-i-test.false))) k.invariant.0);
    }
