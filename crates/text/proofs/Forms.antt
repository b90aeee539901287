-- Laws of the form and of the walk over the lines
use Rattle.std.specs.Prelude.{if◌then◌else◌, Option, Some, None}
use Prim.Native.Nat.{ℕ, ◌+◌, ◌-◌, ◌≤◌, ◌<◌}
use mathlib.Core.Path.{◌≡◌, refl, sym, ap, ◌∙◌}
use mathlib.Core.Bool.{Bool, true, false, ◌&&◌}
use mathlib.Core.List.{List, ◌∷◌}
use native.Mathlib.Omega.{arith}
use borrow.Author.Tests.{ne_eqb}
use lib.Dec.{ltb}
use lib.ListN.{length, take, drop, length-drop, length-take, drop_of_length-le}
use Rattle.ground.specs.Tests.{Says}
use Rattle.ground.proofs.Tests.{ltb_says}
use Rattle.text.specs.declared.Item.{Item}
use Rattle.text.specs.declared.Stage.{Stage}
use Rattle.text.specs.declared.Stage.TheVariants.{Start, Tasks, Arrivals, Ended}
use Rattle.text.specs.Parts.{split_by, newline, first_at}
use Rattle.text.specs.Lines.{item_of}
use Rattle.text.specs.Meaning.{end_at, line_at}
use Rattle.text.specs.Form.{Checked, good, broken, may_stand, stage_after, is_ended, form_from}
use Rattle.text.proofs.Splitting.{piece_more, piece_last, split_some}
use Rattle.text.proofs.Numerals.{and_false}
use Rattle.text.proofs.Walks.{whole_line, no_line, line_unended, line_whole}
use Rattle.text.specs.declared.Line.{Line}

-- the form from a line on, by what it says
abbrev pub form_by : Stage → ℕ → Option Item → List (List ℕ) → Checked
form_by stage n (Some x) ps = if may_stand stage x then form_from (stage_after x) (n + 1) ps else broken n
form_by stage n None ps = broken n

form_more : (stage : Stage) (n : ℕ) (p q : List ℕ) (ps : List (List ℕ)) → form_from stage n (p ∷ q ∷ ps) ≡ form_by stage n (item_of p) (q ∷ ps)
unfolding form_from
form_more stage n p q ps = go (item_of p)
  where
    go : (x : Option Item) → (elim x as (λ _. Checked) [ Some y ↦ if may_stand stage y then form_from (stage_after y) (n + 1) (q ∷ ps) else broken n | None ↦ broken n ]) ≡ form_by stage n x (q ∷ ps)
    go (Some y) = refl
    go None = refl

pub form_step : (s : List ℕ) (stage : Stage) (n at : ℕ) → at < length s
    → form_from stage n (split_by newline (drop at s)) ≡ form_by stage n (line_at s at).item (split_by newline (drop (line_at s at).next s))
unfolding line_at form_from
form_step s stage n at h = go (ltb (end_at s at) (length s)) (ltb_says (end_at s at) (length s))
  where
    go : (t : Bool) → Says (end_at s at < length s) t
        → form_from stage n (split_by newline (drop at s))
        ≡ form_by stage n (if t then whole_line s at (end_at s at) else no_line s).item (split_by newline (drop (if t then whole_line s at (end_at s at) else no_line s).next s))
    go true k =
        let p = take (end_at s at - at) (drop at s) in
        let t = split_some newline (drop (end_at s at + 1) s) in
        ap (form_from stage n) (piece_more newline s at (end_at s at) refl k ∙ ap (λ (l : List (List ℕ)). p ∷ l) t.2)
        ∙ form_more stage n p t.0 t.1
        ∙ ap (form_by stage n (item_of p)) (sym t.2)
    go false k =
        let p = take (end_at s at - at) (drop at s) in
        let l : length p ≡ 0 → ⊥ = λ z. omega (arith, length-take (end_at s at - at) (drop at s), length-drop at s) in
        ap (form_from stage n) (piece_last newline s at (end_at s at) refl (omega arith))
        ∙ rw (ne_eqb (length p) 0 l, and_false (is_ended stage))

-- after the last line
pub form_end : (s : List ℕ) (stage : Stage) (n at : ℕ) → length s ≤ at → form_from stage n (split_by newline (drop at s)) ≡ (if is_ended stage then good else broken n)
unfolding form_from split_by
form_end s stage n at h = rw (drop_of_length-le s h) (go (is_ended stage))
  where
    go : (t : Bool) → (if t && true then good else broken n) ≡ (if t then good else broken n)
    go true = refl
    go false = refl

pub not_ended : (x : Stage) → (x ≡ Ended → ⊥) → is_ended x ≡ false
not_ended Start h = refl
not_ended Tasks h = refl
not_ended Arrivals h = refl
not_ended Ended h = absurd (h refl)

-- THE SAME, CASE BY CASE
-- a line from `at` to its end e
module _ (s : List ℕ) (stage : Stage) (n at e : ℕ) (is : e ≡ at + first_at newline (drop at s)) where
  abbrev from_line : Line → Checked
  from_line l = form_by stage n l.item (split_by newline (drop l.next s))

  -- without a newline
  pub form_unended : at < length s → length s ≤ e → form_from stage n (split_by newline (drop at s)) ≡ broken n
  form_unended h k = form_step s stage n at h ∙ ap from_line (line_unended s at e is k)

  by_line : e < length s → form_from stage n (split_by newline (drop at s)) ≡ form_by stage n (item_of (take (e - at) (drop at s))) (split_by newline (drop (e + 1) s))
  by_line k = form_step s stage n at (omega (arith, is)) ∙ ap from_line (line_whole s at e is k)

  -- where it may not stand, or is no line of the form
  pub form_refused : e < length s → ((x : Item) → item_of (take (e - at) (drop at s)) ≡ Some x → may_stand stage x ≡ false) → form_from stage n (split_by newline (drop at s)) ≡ broken n
  form_refused k f = by_line k ∙ go (item_of (take (e - at) (drop at s))) f
    where
      go : (o : Option Item) → ((x : Item) → o ≡ Some x → may_stand stage x ≡ false) → form_by stage n o (split_by newline (drop (e + 1) s)) ≡ broken n
      go (Some x) f = ap (λ (t : Bool). if t then form_from (stage_after x) (n + 1) (split_by newline (drop (e + 1) s)) else broken n) (f x refl)
      go None f = refl

  -- where it may stand
  pub form_on : (x : Item) → e < length s → item_of (take (e - at) (drop at s)) ≡ Some x → may_stand stage x ≡ true
      → form_from stage n (split_by newline (drop at s)) ≡ form_from (stage_after x) (n + 1) (split_by newline (drop (e + 1) s))
  form_on x k i f =
      by_line k ∙ ap (λ (o : Option Item). form_by stage n o (split_by newline (drop (e + 1) s))) i
      ∙ ap (λ (t : Bool). if t then form_from (stage_after x) (n + 1) (split_by newline (drop (e + 1) s)) else broken n) f

-- after the last line
module _ (s : List ℕ) (stage : Stage) (n at : ℕ) (h : length s ≤ at) where
  pub form_good : stage ≡ Ended → form_from stage n (split_by newline (drop at s)) ≡ good
  form_good e = form_end s stage n at h ∙ ap (λ (x : Stage). if is_ended x then good else broken n) e

  pub form_short : (stage ≡ Ended → ⊥) → form_from stage n (split_by newline (drop at s)) ≡ broken n
  form_short e = form_end s stage n at h ∙ ap (λ (t : Bool). if t then good else broken n) (not_ended stage e)
