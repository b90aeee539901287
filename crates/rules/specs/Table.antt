-- THE TABLE
use Rattle.std.specs.Prelude.{Bool, ◌&&◌, List, [], ◌∷◌, ◌++◌, map, ℕ, ◌+◌, ◌*◌, ◌/◌, min, leb, length, take, drop}
use Rattle.ground.specs.Sums.{up_from}
use Rattle.ground.specs.Bytes.{le, number}
use Rattle.rules.specs.Bounds.{most_ticks, row_size}

-- period p, execution e, relative deadline D, in ticks
pub record Row : Type 0 where
  pub period : ℕ
  pub exec : ℕ
  pub deadline : ℕ

-- "each 32 bits, least byte first": the four bytes from place i on
abbrev pub word_at : ℕ → List ℕ → ℕ
word_at i bytes = number (take 4 (drop i bytes))

abbrev pub row_at : List ℕ → ℕ → Row
row_at bytes i = record { period = word_at (row_size * i) bytes; exec = word_at (row_size * i + 4) bytes; deadline = word_at (row_size * i + 8) bytes }

-- "A table is rows of 12 bytes", numbered in row order
unfoldable pub rows_of : List ℕ → List Row
rows_of bytes = map (row_at bytes) (up_from 0 (length bytes / row_size))

-- the bytes of rows
abbrev pub row_bytes : Row → List ℕ
row_bytes r = le 4 r.period ++ le 4 r.exec ++ le 4 r.deadline

unfoldable pub table_bytes : List Row → List ℕ
table_bytes [] = []
table_bytes (r ∷ rs) = row_bytes r ++ table_bytes rs

-- "Write q for the shorter of p and D."
abbrev pub shorter : Row → ℕ
shorter r = min r.period r.deadline

-- "p, e, D each 1 to 1,048,576"
abbrev pub in_range : ℕ → Bool
in_range x = leb 1 x && leb x most_ticks

abbrev pub row_in_range : Row → Bool
row_in_range r = in_range r.period && (in_range r.exec && in_range r.deadline)
