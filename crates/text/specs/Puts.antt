-- WHAT IS PUT INTO LENT BYTES
use Rattle.std.specs.Prelude.{List, ◌≡◌, ℕ, ◌+◌, ◌*◌, ◌-◌, ◌≤◌, length, take}
use Rattle.ground.specs.Bytes.{pasted}
use Rattle.rules.specs.Table.{Row, table_bytes}

-- v was put at a place: what the list is then, and the next place
abbrev pub Put : List ℕ → ℕ → List ℕ → List ℕ → ℕ → Type 0
Put l at v l' next = (l' ≡ pasted l at v) × (next ≡ at + length v)

-- n counts bytes at the start of a list; the second part follows from the first, and is there for `&out[..n]`
abbrev pub Counts : ℕ → List ℕ → Type 0
Counts n l = (n ≤ length l) × (n ≡ length (take n l))

-- rows were put after the first k rows, as long as there are fewer than 129: what the list is then, and the number of rows
abbrev pub RowsPut : List ℕ → ℕ → List Row → List ℕ → ℕ → Type 0
RowsPut l k rows l' next = (l' ≡ pasted l (12 * k) (table_bytes (take (129 - k) rows))) × (next ≡ k + length (take (129 - k) rows))
