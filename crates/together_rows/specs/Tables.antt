-- THE TABLE'S PART: "table, m, L and shares pass admission", over the columns of a table
use Rattle.std.specs.Prelude.{Bool, ◌&&◌, ◌||◌, List, ℕ, zero, suc, ◌+◌, ◌*◌, ◌-◌, ◌/◌, min, leb, ltb, eqb, get_or}
use Rattle.rules.specs.Table.{row_in_range}
use Rattle.rules.specs.Scale.{gcd}
use Rattle.rules.specs.Admission.{processors_ok}
use Rattle.queue.specs.Below.{all_below}
use Rattle.table.specs.declared.Table.{Table}
use Rattle.table.specs.Rows.{share_sum_of}
use Rattle.rules.specs.Bounds.{most_scale}

-- ROWS
-- p, e and D are in range, and e is at most q
abbrev pub row_ok : ℕ → ℕ → ℕ → Bool
row_ok p e d = row_in_range (record { period = p; exec = e; deadline = d }) && leb e (min p d)

-- so it is in each of the first n rows
unfoldable pub rows_ok : List ℕ → List ℕ → List ℕ → ℕ → Bool
rows_ok ps es ds n = all_below n (λ i. row_ok (get_or ps i 0) (get_or es i 0) (get_or ds i 0))

-- SCALE AND SHARES
-- "L at most 134,217,728"
abbrev pub scale_in_range : ℕ → Bool
scale_in_range l = leb 1 l && leb l most_scale

-- L is a multiple of q, and "A task's share is e times L/q"
abbrev pub share_ok : ℕ → ℕ → ℕ → ℕ → Bool
share_ok l q e x = eqb (l / q * q) l && eqb x (e * (l / q))

-- so it is in each of the first n rows
unfoldable pub shares_ok : ℕ → List ℕ → List ℕ → List ℕ → List ℕ → ℕ → Bool
shares_ok l ps es ds xs n = all_below n (λ i. share_ok l (min (get_or ps i 0) (get_or ds i 0)) (get_or es i 0) (get_or xs i 0))

-- the greatest common divisor of L and of L/q of the first n rows
unfoldable pub common_below : ℕ → List ℕ → List ℕ → ℕ → ℕ
common_below l ps ds zero = l
common_below l ps ds (suc n) = gcd (common_below l ps ds n) (l / min (get_or ps n 0) (get_or ds n 0))

-- "The scale L is the least common multiple of all q": every q divides it, and no divisor is common to all L/q
unfoldable pub scale_ok : ℕ → List ℕ → List ℕ → List ℕ → List ℕ → ℕ → Bool
scale_ok l ps es ds xs n = shares_ok l ps es ds xs n && eqb (common_below l ps ds n) 1

-- "table, m, L and shares pass admission"
unfoldable pub table_ok : Table → Bool
table_ok t =
    processors_ok t.m && ((leb 1 t.count && leb t.count 128) && (rows_ok t.period t.exec t.deadline t.count
    && (scale_in_range t.scale && (scale_ok t.scale t.period t.exec t.deadline t.share t.count && leb (share_sum_of t.share t.count) (t.m * t.scale)))))

-- THE KEPT ORDER
-- each of the first n entries is a place below n
unfoldable pub places_ok : List ℕ → ℕ → Bool
places_ok os n = all_below n (λ k. ltb (get_or os k 0) n)

-- place i comes ahead of place j: "In falling order of share (equal shares: lower number first)"
abbrev pub ahead : List ℕ → ℕ → ℕ → Bool
ahead xs i j = ltb (get_or xs j 0) (get_or xs i 0) || (eqb (get_or xs i 0) (get_or xs j 0) && ltb i j)

-- each of the first n entries comes ahead of the next
unfoldable pub falls_ok : List ℕ → List ℕ → ℕ → Bool
falls_ok xs os n = all_below (n - 1) (λ k. ahead xs (get_or os k 0) (get_or os (k + 1) 0))

-- the order in which the queues are filled stands
unfoldable pub order_ok : Table → Bool
order_ok t = places_ok t.order t.count && falls_ok t.share t.order t.count
