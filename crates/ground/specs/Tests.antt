-- Tests that compute, and what they say
use Rattle.std.specs.Prelude.{Bool, true, false, ◌&&◌, List, [], ◌∷◌}

-- a test with this value says P, or that P is false
abbrev pub Says : Type 0 → Bool → Type 0
Says P true = P
Says P false = ¬ P

-- every element passes
unfoldable pub every : {A : Type 0} → (A → Bool) → List A → Bool
every f [] = true
every f (x ∷ l) = f x && every f l
