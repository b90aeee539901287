-- BYTES, LINES AND PARTS
use Rattle.std.specs.Prelude.{Bool, true, false, ◌&&◌, List, [], ◌∷◌, ℕ, suc, eqb, if◌then◌else◌}

-- one byte more in front: does it split? Then an empty piece stands before it; if not, it joins the first piece
abbrev pub in_front : Bool → ℕ → List (List ℕ) → List (List ℕ)
in_front true x ps = [] ∷ ps
in_front false x [] = (x ∷ []) ∷ []
in_front false x (p ∷ ps) = (x ∷ p) ∷ ps

-- the pieces between one b and the next: one piece more than there are b's
unfoldable pub split_by : ℕ → List ℕ → List (List ℕ)
split_by b [] = [] ∷ []
split_by b (x ∷ l) = in_front (eqb x b) x (split_by b l)

-- the place of the first b, or the length where there is none
unfoldable pub first_at : ℕ → List ℕ → ℕ
first_at b [] = 0
first_at b (x ∷ l) = if eqb x b then 0 else suc (first_at b l)

-- the same bytes
unfoldable pub same : List ℕ → List ℕ → Bool
same [] [] = true
same [] (y ∷ m) = false
same (x ∷ l) [] = false
same (x ∷ l) (y ∷ m) = eqb x y && same l m

-- all but the last
unfoldable pub ended : List (List ℕ) → List (List ℕ)
ended [] = []
ended (p ∷ []) = []
ended (p ∷ q ∷ ps) = p ∷ ended (q ∷ ps)

abbrev pub newline : ℕ
newline = 10

abbrev pub space : ℕ
space = 32

-- "lines each ended by one newline"
unfoldable pub lines_of : List ℕ → List (List ℕ)
lines_of text = ended (split_by newline text)

-- "parts split by one space"
abbrev pub parts_of : List ℕ → List (List ℕ)
parts_of line = split_by space line
