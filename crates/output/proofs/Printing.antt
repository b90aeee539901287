-- Entries are printed one after another
use mathlib.Core.Path.{◌≡◌, refl, sym, ◌∙◌, ap}
use mathlib.Core.List.{List, [], ◌∷◌, ◌++◌, append_assoc, append-nil}
use Prim.Native.Nat.{ℕ}
use Rattle.output.specs.Course.{Entry}
use Rattle.output.specs.Output.{line_of, printed}

pub printed_append : (a b : List Entry) → printed (a ++ b) ≡ printed a ++ printed b
unfolding printed
printed_append [] b = refl
printed_append (x ∷ a) b = ap (λ (l : List ℕ). line_of x ++ l) (printed_append a b) ∙ sym (append_assoc (line_of x) (printed a) (printed b))

pub printed_one : (x : Entry) → printed (x ∷ []) ≡ line_of x
unfolding printed
printed_one x = append-nil (line_of x)
