-- The parts of a line, as `split` gives them one after another
use Rattle.std.specs.Prelude.{if◌then◌else◌, ◌==◌, Option, Some, None, is_some}
use Rattle.std.specs.Bool.{MatchBool}
use Rattle.std.specs.Fn.{ComputesKey, Called, CalledAt}
use Rattle.std.specs.List.{IsFirstMatchOrLen}
use Rattle.std.specs.declared.slice.Split.{Split}
use Rattle.std.specs.Slice.Iter.{split_steps, split_rest, split_done, split_callee}
use Rattle.std.proofs.Common.{rules}
use Rattle.std.proofs.lemmas.Fn.{always_returns_same}
use Prim.Native.Nat.{ℕ}
use mathlib.Core.Path.{◌≡◌, refl, sym, ap, subst, ◌∙◌}
use mathlib.Core.Bool.{Bool, true, false}
use mathlib.Core.List.{List, [], ◌∷◌, ◌++◌}
use denote.Ref.{Bor}
use denote.Param.Members.{Mut}
use lib.ListN.{length}
use Rattle.text.specs.Parts.{split_by, parts_of, space}
use Rattle.text.proofs.Splitting.{piece_then, piece_whole}

-- the first part and the rest, or the last part
cut : (l x r : List ℕ) (last : Bool) → MatchBool last (l ≡ x) ((y : ℕ) × (l ≡ x ++ (y ∷ r))) → IsFirstMatchOrLen (λ c. c == space) l (length x) → split_by space l ≡ x ∷ (if last then [] else split_by space r)
cut l x r true e f = piece_whole space l (subst (λ (q : List ℕ). IsFirstMatchOrLen (λ c. c == space) l (length q)) (sym e) f) ∙ ap (λ (q : List ℕ). q ∷ []) e
cut l x r false e f = piece_then space e.0 l x r e.1 f

-- the parts that are still to come
abbrev pub left : {F : Type 0} → Split ℕ F → List (List ℕ)
left s = if split_done s then [] else parts_of (split_rest s)

pub no_part : {F : Type 0} (s : Split ℕ F) → split_done s ≡ true → left s ≡ []
no_part s d = ap (λ (b : Bool). if b then [] else parts_of (split_rest s)) d

abbrev pub Cuts : {F : Type 0} → Mut F (Bor ℕ × Unit {0}) Bool → Split ℕ F → Type 0
Cuts g s = ComputesKey g (λ c. c == space) (split_callee s)

pub one_part : {F : Type 0} {g : Mut F (Bor ℕ × Unit {0}) Bool} (s t : Split ℕ F) (x : Bor (List ℕ)) → Cuts g s → split_steps g s (Some x) t → Cuts g t × (left s ≡ x.now ∷ left t)
one_part s t x h k =
    let m = k.2 (λ c. c == space) h in
    (m.0, ap (λ (b : Bool). if b then [] else parts_of (split_rest s)) k.0 ∙ cut (split_rest s) x.now (split_rest t) (split_done t) k.1 m.1)

-- the first part of a line: f is the closure, which is to answer whether its byte is a space
pub first_part : {F : Type 0} {g : Mut F (Bor ℕ × Unit {0}) Bool} (s t : Split ℕ F) (x : Bor (List ℕ)) (l : List ℕ) (f : F) → split_steps g s (Some x) t → split_rest s ≡ l → split_done s ≡ false → split_callee s ≡ f
    → ((x : ℕ) (b : Bool) (q : F) → CalledAt g f x b q → (q ≡ f) × (b ≡ (x == space))) → Cuts g t × (parts_of l ≡ x.now ∷ left t)
first_part {F} {g} s t x l f k e d i h =
    let one : (a : Bor ℕ × Unit {0}) (r : Bool) (q : F) → Called g f a r q → (r ≡ (a.0.now == space)) × (q ≡ f) = λ a r q k. let m = h a.0.now r q (record { shown = a.0; shows = refl; called = k }) in (m.1, m.0) in
    let m = one_part s t x (subst (ComputesKey g (λ c. c == space)) (sym i) (always_returns_same g (λ a r. r ≡ (a.0.now == space)) f one)) k in
    (m.0, sym (ap (λ (b : Bool). if b then [] else parts_of (split_rest s)) d ∙ ap parts_of e) ∙ m.1)

-- whether there is one more
pub more_part : {F : Type 0} {g : Mut F (Bor ℕ × Unit {0}) Bool} (s t : Split ℕ F) (r : Option (Bor (List ℕ))) → Cuts g s → split_steps g s r t → is_some r ≡ true → (x : List ℕ) × (left s ≡ x ∷ left t)
more_part s t (Some x) h k e = (x.now, (one_part s t x h k).1)
more_part s t None h k e = absurd (search rules)

pub no_more : {F : Type 0} (g : Mut F (Bor ℕ × Unit {0}) Bool) (s t : Split ℕ F) (r : Option (Bor (List ℕ))) → split_steps g s r t → is_some r ≡ false → left s ≡ []
no_more g s t (Some x) k e = absurd (search rules)
no_more g s t None k e = no_part s k.0
