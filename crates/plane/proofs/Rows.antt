-- The loops over the rows of the table: a plane's end, and its closing
use Rattle.std.specs.Prelude.{if◌then◌else◌}
use mathlib.Core.Path.{◌≡◌, refl, sym, ◌∙◌, ap}
use mathlib.Core.Bool.{Bool, true, false, false≢true, ◌&&◌}
use mathlib.Core.List.{List, [], ◌∷◌, foldl}
use Prim.Native.Nat.{ℕ, zero, suc, ◌+◌, ◌-◌, min, ◌≤◌, ◌<◌}
use native.Mathlib.Omega.{arith}
use lib.Dec.{eqb}
use lib.ListN.{get_or, set}
use Rattle.ground.specs.Sums.{up_from}
use Rattle.ground.proofs.Times.{up_turn, up_end}
use Rattle.table.specs.declared.Table.{Table}
use Rattle.state.specs.declared.Jobs.{Jobs}
use Rattle.state.specs.Machine.{shorter_at, limit_at, least_limit, plane_end, sleep_row, sleep_all}
use Rattle.plane.specs.Rows.{rows, jobs, Came, CameAt}

-- ONLY SOME COLUMNS ARE LOOKED AT
pub end_of_rows : (t : Table) (j : Jobs) (tick : ℕ) → plane_end (rows t.period t.deadline t.count) (jobs j.awake j.last) tick ≡ plane_end t j tick
unfolding plane_end least_limit
end_of_rows t j tick = refl

pub sleep_of_rows : (t : Table) (last : List ℕ) (tick : ℕ) (awake : List Bool) → sleep_all (rows t.period t.deadline t.count) last tick awake ≡ sleep_all t last tick awake
unfolding sleep_all sleep_row
sleep_of_rows t last tick awake = refl

-- WHAT A ROW ASKS
pub came_at : {awake : List Bool} {last : List ℕ} {n tick i : ℕ} → Came awake last n tick → i < n → CameAt awake last tick i
came_at {i = i} k h = record { inside = omega (arith, k.few); past = k.past i h; small = k.small }

-- THE END
-- the least of e and the limits from row i on is the plane's end
pub record Ending (t : Table) (j : Jobs) (tick e i : ℕ) : Type 0 where
  pub left : least_limit t j tick e (up_from i (t.count - i)) ≡ plane_end t j tick

module _ {t : Table} {j : Jobs} {tick : ℕ} where
  pub ending_from : {e : ℕ} → e ≡ limit_at t j tick 0 → Ending t j tick e 1
  unfolding plane_end
  ending_from z = record { left = ap (λ (x : ℕ). least_limit t j tick x (up_from 1 (t.count - 1))) z }

  pub ending_on : {e i f : ℕ} → i < t.count → Ending t j tick e i → f ≡ min e (limit_at t j tick i) → Ending t j tick f (i + 1)
  unfolding least_limit
  ending_on {e} {i} {f} h E z =
      record { left = ap (λ (x : ℕ). least_limit t j tick x (up_from (i + 1) (t.count - (i + 1)))) z ∙ sym (ap (least_limit t j tick e) (up_turn i t.count h)) ∙ E.left }

  pub ending_end : {e i : ℕ} → t.count ≤ i → Ending t j tick e i → e ≡ plane_end t j tick
  unfolding least_limit
  ending_end {e} {i} h E = sym (ap (least_limit t j tick e) (up_end i t.count h)) ∙ E.left

-- CLOSING
-- who is awake once one fell asleep was awake
fell : (a : List Bool) (i x : ℕ) → get_or (set a i false) x false ≡ true → get_or a x false ≡ true
fell [] i x e = e
fell (b ∷ a) zero zero e = absurd (false≢true e)
fell (b ∷ a) zero (suc x) e = e
fell (b ∷ a) (suc i) zero e = e
fell (b ∷ a) (suc i) (suc x) e = fell a i x e

-- the rows from i on fall asleep, and all did that were to
pub record Sleeping (t : Table) (last : List ℕ) (tick : ℕ) (a₀ a : List Bool) (i : ℕ) : Type 0 where
  pub came : Came a last t.count tick
  pub left : foldl (sleep_row t last tick) a (up_from i (t.count - i)) ≡ sleep_all t last tick a₀

pub sleeping_from : (t : Table) {last : List ℕ} {tick : ℕ} {a : List Bool} → Came a last t.count tick → Sleeping t last tick a a 0
unfolding sleep_all
sleeping_from t {last} {tick} {a} k = record { came = k; left = let z : t.count - 0 ≡ t.count = omega arith in ap (λ (n : ℕ). foldl (sleep_row t last tick) a (up_from 0 n)) z }

came_on : (t : Table) {last : List ℕ} {tick : ℕ} {a : List Bool} (i : ℕ) → Came a last t.count tick → Came (sleep_row t last tick a i) last t.count tick
unfolding sleep_row
came_on t {last} {tick} {a} i k = go (get_or a i false && eqb (get_or last i 0 + shorter_at t i) tick)
  where
    go : (b : Bool) → Came (if b then set a i false else a) last t.count tick
    go true = record { few = k.few; past = λ x h e. k.past x h (fell a i x e); small = k.small }
    go false = k

pub sleeping_on : {t : Table} {last : List ℕ} {tick : ℕ} {a₀ a b : List Bool} {i : ℕ} → i < t.count → Sleeping t last tick a₀ a i → b ≡ sleep_row t last tick a i → Sleeping t last tick a₀ b (i + 1)
sleeping_on {t} {last} {tick} {a₀} {a} {b} {i} h s z =
    rw z (record { came = came_on t i s.came; left = sym (ap (foldl (sleep_row t last tick) a) (up_turn i t.count h)) ∙ s.left })

pub sleeping_end : {t : Table} {last : List ℕ} {tick : ℕ} {a₀ a : List Bool} {i : ℕ} → t.count ≤ i → Sleeping t last tick a₀ a i → a ≡ sleep_all t last tick a₀
sleeping_end {t} {last} {tick} {a₀} {a} {i} h s = sym (ap (foldl (sleep_row t last tick) a) (up_end i t.count h)) ∙ s.left
