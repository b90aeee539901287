-- Plane ends, read off the arrivals: they rise, and later arrivals leave the earlier ones alone
use Rattle.std.specs.Prelude.{if◌then◌else◌}
use mathlib.Core.Path.{◌≡◌, refl, sym, ◌∙◌}
use mathlib.Core.Bool.{Bool, true, false, ◌&&◌}
use mathlib.Core.Option.{Option, none, some}
use mathlib.Core.Logic.{◌⊎◌, inl, inr}
use mathlib.Core.List.{List, [], ◌∷◌, ◌++◌}
use Prim.Native.Nat.{ℕ, zero, suc, ◌+◌, ◌*◌, ◌≤◌, ◌<◌}
use native.Mathlib.Nat.{mul-le-mul_right}
use native.Mathlib.Decide.{dec_le}
use native.Mathlib.Omega.{arith}
use lib.Dec.{leb, ltb, eqb}
use lib.ListN.{length, get_or}
use Rattle.ground.proofs.Tests.{leb_says, ltb_says, is_false, if_by}
use Rattle.rules.specs.History.{EndsAt, came_by, limit_by, limits_by, earliest, plane_end}
use Rattle.rules.specs.Planes.{limit, end_of}
use Rattle.rules.specs.Record.{Record}
use Rattle.rules.specs.Run.{Arrival}
use Rattle.rules.specs.State.{Task, no_row, at, short}
use Rattle.rules.specs.Table.{Row, shorter}

-- SEAMS
pub ends_more : (to : ℕ) (rs : List Record) (r : Record) → EndsAt to rs → EndsAt to (rs ++ (r ∷ []))
ends_more to [] r h = absurd h
ends_more to (x ∷ rs) r (inl e) = inl e
ends_more to (x ∷ rs) r (inr h) = inr (ends_more to rs r h)

pub ends_last : (to : ℕ) (rs : List Record) (r : Record) → r.to ≡ to → EndsAt to (rs ++ (r ∷ []))
ends_last to [] r e = inl e
ends_last to (x ∷ rs) r e = inr (ends_last to rs r e)

-- THE ENDS RISE
limit_above : (q tick : ℕ) → 0 < q → (o : Option ℕ) → tick < limit_by q tick o
limit_above q tick h none = omega arith
limit_above q tick h (some a) = if_by (λ x. tick < x) (ltb tick (a + q)) (ltb_says tick (a + q)) (λ k. k) (λ _. omega arith)

earliest_above : (n : ℕ) (rows : List Row) (xs : List Arrival) (tick : ℕ) → 0 < length rows → ((j : ℕ) → j < length rows → 0 < shorter (get_or rows j no_row))
    → tick < earliest (limits_by n rows xs tick)
unfolding limits_by earliest
earliest_above n [] xs tick h f = absurd (omega arith)
earliest_above n (r ∷ []) xs tick h f = limit_above (shorter r) tick (f 0 (omega arith)) (came_by n tick xs)
earliest_above n (r ∷ u ∷ rs) xs tick h f =
    omega (arith, limit_above (shorter r) tick (f 0 (omega arith)) (came_by n tick xs), earliest_above (suc n) (u ∷ rs) xs tick (omega arith) (λ j hj. f (suc j) (omega arith)))

pub end_next : (rows : List Row) (xs : List Arrival) (k : ℕ) → plane_end rows xs (suc k) ≡ earliest (limits_by 1 rows xs (plane_end rows xs k))
unfolding plane_end
end_next rows xs k = refl

-- ONE MORE ARRIVAL
came_before_it : (n t : ℕ) (x : Arrival) (xs : List Arrival) → t < x.tick → came_by n t (x ∷ xs) ≡ came_by n t xs
unfolding came_by
came_before_it n t x xs h = by (eqb x.task n) (leb x.tick t) (is_false (leb x.tick t) (leb_says x.tick t) (λ k. omega arith))
  where
    by : (a b : Bool) → b ≡ false → (if a && b then some x.tick else came_by n t xs) ≡ came_by n t xs
    by true b e = rw e
    by false b e = refl

limits_before : (n : ℕ) (rows : List Row) (x : Arrival) (xs : List Arrival) (t : ℕ) → t < x.tick → limits_by n rows (x ∷ xs) t ≡ limits_by n rows xs t
unfolding limits_by
limits_before n [] x xs t h = refl
limits_before n (r ∷ rs) x xs t h = rw (came_before_it n t x xs h, limits_before (suc n) rs x xs t h)

module _ (rows : List Row) (some_row : 0 < length rows) (some_q : (j : ℕ) → j < length rows → 0 < shorter (get_or rows j no_row)) where
  pub end_rises : (xs : List Arrival) (k : ℕ) → plane_end rows xs k < plane_end rows xs (suc k)
  unfolding plane_end
  end_rises xs k = earliest_above 1 rows xs (plane_end rows xs k) some_row some_q

  pub ends_rise : (xs : List Arrival) (i k : ℕ) → i ≤ k → plane_end rows xs i ≤ plane_end rows xs k
  ends_rise xs i zero h = let e : i ≡ 0 = omega arith in rw e (omega arith)
  ends_rise xs i (suc k) h = go (ends_rise xs i k) (dec_le i k)
    where
      go : (i ≤ k → plane_end rows xs i ≤ plane_end rows xs k) → Dec (i ≤ k) → plane_end rows xs i ≤ plane_end rows xs (suc k)
      go ih (yes le) = omega (arith, ih le, end_rises xs k)
      go ih (no gt) = let e : i ≡ suc k = omega arith in rw e (omega arith)

  -- the end after one that lies before the arrival
  pub end_kept : (x : Arrival) (xs : List Arrival) (k : ℕ) → plane_end rows (x ∷ xs) k ≡ plane_end rows xs k → plane_end rows xs k < x.tick
      → plane_end rows (x ∷ xs) (suc k) ≡ plane_end rows xs (suc k)
  unfolding plane_end
  end_kept x xs k e h = rw (e, limits_before 1 rows x xs (plane_end rows xs k) h)

  -- every end up to the arrival
  pub ends_kept : (x : Arrival) (xs : List Arrival) (k : ℕ) → plane_end rows (x ∷ xs) k ≤ x.tick → plane_end rows (x ∷ xs) k ≡ plane_end rows xs k
  ends_kept x xs zero h = unfold plane_end in refl
  ends_kept x xs (suc k) h =
      let up = end_rises (x ∷ xs) k in
      let e = ends_kept x xs k (omega arith) in
      end_kept x xs k e (omega arith)

  pub ends_kept_from : (x : Arrival) (xs : List Arrival) (k : ℕ) → plane_end rows xs k ≤ x.tick → plane_end rows (x ∷ xs) k ≡ plane_end rows xs k
  ends_kept_from x xs zero h = unfold plane_end in refl
  ends_kept_from x xs (suc k) h =
      let up = end_rises xs k in
      end_kept x xs k (ends_kept_from x xs k (omega arith)) (omega arith)

  -- between two ends that follow one another there is none
  pub no_end_between : (xs : List Arrival) (L now k i e : ℕ) → 0 < L → plane_end rows xs k * L ≤ now → plane_end rows xs (suc k) ≡ e → plane_end rows xs i ≤ e
      → (plane_end rows xs i * L ≤ now) ⊎ (plane_end rows xs i ≡ e)
  no_end_between xs L now k i e pos h q le = go (dec_le i k)
    where
      go : Dec (i ≤ k) → (plane_end rows xs i * L ≤ now) ⊎ (plane_end rows xs i ≡ e)
      go (yes a) = inl (omega (arith, mul-le-mul_right L (ends_rise xs i k a)))
      go (no a) = inr (omega (arith, ends_rise xs (suc k) i (omega arith)))

-- THE RULES' PLANE END IS THE NEXT ONE
end_is_earliest : (tick : ℕ) (l : List Task) (ms : List ℕ) → length ms ≡ length l → ((j : ℕ) → j < length l → get_or ms j 0 ≡ limit tick (at j l)) → 0 < length l → end_of tick l ≡ earliest ms
unfolding end_of earliest
end_is_earliest tick [] ms n f h = absurd (omega arith)
end_is_earliest tick (t ∷ []) [] n f h = absurd (omega arith)
end_is_earliest tick (t ∷ []) (x ∷ []) n f h = sym (f 0 (omega arith))
end_is_earliest tick (t ∷ []) (x ∷ y ∷ ms) n f h = absurd (omega arith)
end_is_earliest tick (t ∷ u ∷ l) [] n f h = absurd (omega arith)
end_is_earliest tick (t ∷ u ∷ l) (x ∷ []) n f h = absurd (omega arith)
end_is_earliest tick (t ∷ u ∷ l) (x ∷ y ∷ ms) n f h =
    rw (end_is_earliest tick (u ∷ l) (y ∷ ms) (omega arith) (λ j hj. f (suc j) (omega arith)) (omega arith), f 0 (omega arith))

limits_length : (n : ℕ) (rows : List Row) (xs : List Arrival) (tick : ℕ) → length (limits_by n rows xs tick) ≡ length rows
unfolding limits_by
limits_length n [] xs tick = refl
limits_length n (r ∷ rs) xs tick = omega (arith, limits_length (suc n) rs xs tick)

limits_at : (n : ℕ) (rows : List Row) (xs : List Arrival) (tick j : ℕ) → j < length rows
    → get_or (limits_by n rows xs tick) j 0 ≡ limit_by (shorter (get_or rows j no_row)) tick (came_by (n + j) tick xs)
unfolding limits_by
limits_at n [] xs tick j h = absurd (omega arith)
limits_at n (r ∷ rs) xs tick zero h = let z : n + 0 ≡ n = omega arith in rw z refl
limits_at n (r ∷ rs) xs tick (suc j) h = let z : n + suc j ≡ suc n + j = omega arith in rw z (limits_at (suc n) rs xs tick j (omega arith))

pub end_is : (tick : ℕ) (l : List Task) (xs : List Arrival) → 0 < length l
    → ((j : ℕ) → j < length l → limit_by (short (at j l)) tick (came_by (suc j) tick xs) ≡ limit tick (at j l))
    → (rows : List Row) → length rows ≡ length l → ((j : ℕ) → get_or rows j no_row ≡ (at j l).row)
    → end_of tick l ≡ earliest (limits_by 1 rows xs tick)
end_is tick l xs h f rows n r =
    end_is_earliest tick l (limits_by 1 rows xs tick) (limits_length 1 rows xs tick ∙ n)
    (λ j hj. let z : 1 + j ≡ suc j = omega arith in limits_at 1 rows xs tick j (omega arith) ∙ rw (r j, z) (f j hj)) h
