use Rattle.std.proofs.Common.{◌≡◌, ℕ, ◌<◌, ◌≤◌, List, [], ◌++◌, length, take, Option, None, Some, Result, Ok, Err, IfSome, OnOk, Bool, true, false, nat_lt, refl, sym, ap, ◌∙◌, arith, append-nil, subst, take_all}
use Rattle.std.specs.Io.KnownBytes.{Consumes, Appends, IsAtEnd}
use Rattle.std.proofs.lemmas.Bool.Decides.{nat_tests}
use lib.Seq.{take-append-le}
use Rattle.output.specs.Output.{output_of}
use Rattle.listing.proofs.Chunks.{program}
use Rattle.program.proofs.list_from.Goals as goal

on_ok : {T E : Type 0} (r : Result T E) (P Q : Type 0) → (P → Q) → OnOk r P → OnOk r Q
on_ok (Ok x) P Q f p = f p
on_ok (Err e) P Q f p = tt

-- all of the text, or its first 65,537 bytes
whole_or_cut : (n : ℕ) (bytes text rest : List ℕ) → length bytes ≡ 65537 → n ≤ length bytes → text ≡ take n bytes ++ rest → (n < length bytes → rest ≡ [])
    → output_of (take n bytes) ≡ output_of text
whole_or_cut n bytes text rest long fits e ends = go (nat_lt n (length bytes)) refl
  where
    go : (b : Bool) → nat_lt n (length bytes) ≡ b → output_of (take n bytes) ≡ output_of text
    go true t =
        let none = ends (grind (arith, nat_tests)) in
        ap output_of (sym (e ∙ ap (λ l. take n bytes ++ l) none ∙ append-nil (take n bytes)))
    go false t =
        let all : take n bytes ≡ bytes = take_all n bytes (grind (arith, nat_tests)) in
        let same : take n bytes ≡ take 65537 text =
        all ∙ sym (take_all 65537 bytes (omega arith)) ∙ sym (take-append-le 65537 bytes rest (omega arith))
        ∙ ap (λ l. take 65537 (l ++ rest)) (sym all) ∙ sym (ap (take 65537) e) in
        ap output_of same ∙ program.cut text

read : (a b : Option (List ℕ)) (n : ℕ) (bytes : List ℕ) (P : List ℕ → Type 0) → length bytes ≡ 65537 → n ≤ length bytes
    → Consumes a b (take n bytes) → (n < length bytes → IsAtEnd b) → P (output_of (take n bytes)) → IfSome a (λ text. P (output_of text))
read None b n bytes P long fits e ends p = tt
read (Some text) None n bytes P long fits e ends p = absurd e
read (Some text) (Some rest) n bytes P long fits e ends p = subst P (whole_or_cut n bytes text rest long fits e ends) p

pub returns : goal.returns
returns g c = record {
  is = on_ok c.write_listing.result _ _
      (read _ _ c.in_ok-n.n c.read_full.new.bytes (Appends _ _) (omega arith) c.in_ok-n.ensures.within c.in_ok-n.ensures.read c.in_ok-n.ensures.ends)
      c.write_listing.ensures.is;
}
