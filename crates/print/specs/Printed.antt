-- THE OUTPUT LINES
use Rattle.std.specs.Prelude.{List, [], ◌∷◌, ◌++◌, ℕ, zero, suc, take, drop}
use Rattle.rules.specs.Record.{Record, read_record}
use Rattle.text.specs.Parts.{newline, space}
use Rattle.print.specs.Decimals.{decimal_of}

-- scale, a space
abbrev pub scale_word : List ℕ
scale_word = 115 ∷ 99 ∷ 97 ∷ 108 ∷ 101 ∷ space ∷ []

-- refused, a space
abbrev pub refused_word : List ℕ
refused_word = 114 ∷ 101 ∷ 102 ∷ 117 ∷ 115 ∷ 101 ∷ 100 ∷ space ∷ []

-- "it prints "scale L""
abbrev pub scale_line : ℕ → List ℕ
scale_line x = scale_word ++ decimal_of x ++ (newline ∷ [])

-- "the fixed word refused, a space, the number, a space and the text line"
abbrev pub refused_line : ℕ → ℕ → List ℕ
refused_line n line = refused_word ++ decimal_of n ++ (space ∷ decimal_of line) ++ (newline ∷ [])

-- a space and a number, for each
unfoldable pub spaced : List ℕ → List ℕ
spaced [] = []
spaced (x ∷ l) = (space ∷ decimal_of x) ++ spaced l

-- "from, to, then m task numbers, one space between"
abbrev pub record_line : ℕ → Record → List ℕ
record_line m r = decimal_of r.from ++ spaced (r.to ∷ take m r.slots) ++ (newline ∷ [])

-- the lines of n records, of 48 bytes each
unfoldable pub record_lines : ℕ → ℕ → List ℕ → List ℕ
record_lines m zero room = []
record_lines m (suc n) room = record_line m (read_record room) ++ record_lines m n (drop 48 room)
