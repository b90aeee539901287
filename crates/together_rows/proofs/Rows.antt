-- One loop over the rows: every row so far passes, and the sums so far
use Rattle.std.specs.Prelude.{if◌then◌else◌}
use mathlib.Core.Path.{◌≡◌, refl, sym, ◌∙◌, ap}
use mathlib.Core.Bool.{Bool, true, false, ◌&&◌, ◌||◌}
use Prim.Native.Nat.{ℕ, ◌+◌, ◌*◌, ◌/◌, ◌≤◌, ◌<◌, min}
use native.Mathlib.Omega.{arith}
use lib.Dec.{eqb}
use lib.ListN.{get_or}
use borrow.Author.Tests.{eqb-true}
use Rattle.rules.specs.Bounds.{most_scale}
use Rattle.rules.specs.Scale.{gcd}
use Rattle.table.specs.declared.Table.{Table}
use Rattle.together_rows.specs.declared.Jobs.{Jobs}
use Rattle.together_rows.specs.declared.Times.{Times}
use Rattle.together_rows.specs.Tables.{row_ok, share_ok, common_below}
use Rattle.together_rows.specs.Front.{job_ok, each_ok, Summed}
use Rattle.together_rows.proofs.Bounds.{share_within, sum_fits, if_small, awake_small}
use Rattle.together_rows.proofs.Folds.{all_none, all_more, all_at, all_fails, and_first, and_next, and_both, second_fails, sum_none, sum_more}
use Rattle.together_rows.proofs.Tables.{common_more, common_one, gcd_with_one}

-- A ROW
-- a test that fails gives 0
pub fails_first : (a b : Bool) (d : ℕ) → a ≡ false → 0 ≡ (if a && b then d else 0)
fails_first true b d e = let z : ◌≡◌ {A = ℕ} 0 1 = cc in absurd (omega arith)
fails_first false b d e = refl

pub fails_next : (a b : Bool) (d : ℕ) → b ≡ false → 0 ≡ (if a && b then d else 0)
fails_next true true d e = let z : ◌≡◌ {A = ℕ} 0 1 = cc in absurd (omega arith)
fails_next true false d e = refl
fails_next false b d e = refl

pub holds_both : (a b : Bool) (d : ℕ) → a ≡ true → b ≡ true → d ≡ (if a && b then d else 0)
holds_both true true d e f = refl
holds_both true false d e f = let z : ◌≡◌ {A = ℕ} 0 1 = cc in absurd (omega arith)
holds_both false b d e f = let z : ◌≡◌ {A = ℕ} 0 1 = cc in absurd (omega arith)

-- no quotient, since the row or its share fails: L is above 0
stops : (a b : Bool) (d r : ℕ) → r ≡ (if a && b then d else 0) → r ≡ 0 → (b ≡ true → ¬ (d ≡ 0)) → a && b ≡ false
stops true true d r e z h = absurd (h refl (sym e ∙ z))
stops true false d r e z h = refl
stops false b d r e z h = refl

some_quotient : (l q e x : ℕ) → 0 < l → share_ok l q e x ≡ true → ¬ (l / q ≡ 0)
some_quotient l q e x p s z =
    let m = eqb-true (l / q * q) l (and_both (eqb (l / q * q) l) _ s).0 in
    omega (arith, ap (λ (d : ℕ). d * q) z)

-- THE LOOP
module _ (t : Table) (jobs : Jobs) (times : Times) where
  abbrev quotient_at : ℕ → ℕ
  quotient_at i = t.scale / min (get_or t.period i 0) (get_or t.deadline i 0)

  abbrev pub row_at : ℕ → Bool
  row_at i = row_ok (get_or t.period i 0) (get_or t.exec i 0) (get_or t.deadline i 0)

  abbrev pub share_at : ℕ → Bool
  share_at i = share_ok t.scale (min (get_or t.period i 0) (get_or t.deadline i 0)) (get_or t.exec i 0) (get_or t.share i 0)

  abbrev pub job_at : ℕ → Bool
  job_at i =
      job_ok (get_or jobs.arrived.now i false) (get_or jobs.awake.now i false) (get_or jobs.last.now i 0) (get_or t.period i 0) (get_or t.deadline i 0)
      times.tick times.ceil times.reach

  abbrev share_up : ℕ → ℕ
  share_up i = if get_or jobs.awake.now i false then get_or t.share i 0 else 0

  -- i rows passed, with what they add up to
  pub record Passed (i : ℕ) (whole : Bool) (total shares : ℕ) : Type 0 where
    pub rows : each_ok t jobs times i ≡ true
    pub sums : Summed t jobs.awake.now i whole total shares

  pub passed_none : Passed 0 false 0 0
  unfolding each_ok
  passed_none =
      record {
        rows = all_none _;
        sums = record { least = λ e. cc; all = sym (sum_none (λ j. get_or t.share j 0)); up = sym (sum_none share_up) };
      }

  -- the row, or its share, or its job, that stops the loop
  pub row_stops : (n i : ℕ) → i < n → false ≡ row_at i → each_ok t jobs times n ≡ false
  unfolding each_ok
  row_stops n i h e = all_fails (λ j. (row_at j && share_at j) && job_at j) n i h (and_first (row_at i && share_at i) _ (and_first (row_at i) _ (sym e)))

  pub quotient_stops : (n i r : ℕ) → r ≡ (if row_at i && share_at i then quotient_at i else 0) → 0 < t.scale → i < n → r ≡ 0 → each_ok t jobs times n ≡ false
  unfolding each_ok
  quotient_stops n i r is p h e =
      all_fails (λ j. (row_at j && share_at j) && job_at j) n i h
      (and_first (row_at i && share_at i) _
      (stops (row_at i) (share_at i) (quotient_at i) r is e (some_quotient t.scale (min (get_or t.period i 0) (get_or t.deadline i 0)) (get_or t.exec i 0) (get_or t.share i 0) p)))

  pub share_stops : (n i : ℕ) → i < n → false ≡ share_at i → each_ok t jobs times n ≡ false
  unfolding each_ok
  share_stops n i h e = all_fails (λ j. (row_at j && share_at j) && job_at j) n i h (and_first (row_at i && share_at i) _ (second_fails (row_at i) _ (sym e)))

  pub job_stops : (n i : ℕ) → i < n → false ≡ job_at i → each_ok t jobs times n ≡ false
  unfolding each_ok
  job_stops n i h e = all_fails (λ j. (row_at j && share_at j) && job_at j) n i h (second_fails (row_at i && share_at i) _ (sym e))

  -- a share that passed is at most L
  share_low : (n i : ℕ) → each_ok t jobs times n ≡ true → i < n → get_or t.share i 0 ≤ t.scale
  unfolding each_ok
  share_low n i e h =
      let a = (and_both (row_at i && share_at i) (job_at i) (all_at (λ j. (row_at j && share_at j) && job_at j) n i e h)).0 in
      let b = and_both (row_at i) (share_at i) a in
      share_within t.scale (get_or t.period i 0) (get_or t.exec i 0) (get_or t.deadline i 0) (get_or t.share i 0) b.0 b.1

  -- one row more
  module _ {i : ℕ} {whole : Bool} {total shares : ℕ} (P : Passed i whole total shares) (row : true ≡ row_at i) (share : true ≡ share_at i) (job : true ≡ job_at i) where
    more_rows : each_ok t jobs times (i + 1) ≡ true
    unfolding each_ok
    more_rows =
        all_more (λ k. (row_at k && share_at k) && job_at k) i P.rows
        (and_next (row_at i && share_at i) (job_at i) (and_next (row_at i) (share_at i) (sym row) ∙ sym share) ∙ sym job)

    pub total_fits : t.scale ≤ most_scale → i < 128 → total + get_or t.share i 0 ≤ 128 * most_scale
    total_fits m h =
        let a = P.sums.all in
        omega (arith, sum_fits (λ k. get_or t.share k 0) most_scale i h (λ k q. let s = share_low (i + 1) k more_rows q in omega arith))

    pub shares_fit : t.scale ≤ most_scale → i < 128 → shares + share_up i ≤ 128 * most_scale
    shares_fit m h =
        let a = P.sums.all in
        let u = P.sums.up in
        omega (arith, total_fits m h, awake_small jobs.awake.now t.share i, if_small (get_or jobs.awake.now i false) (get_or t.share i 0))

    common_next : (d : ℕ) → d ≡ quotient_at i → (whole || eqb d 1) ≡ true → common_below t.scale t.period t.deadline (i + 1) ≡ 1
    common_next d is = go whole refl (eqb d 1) refl
      where
        go : (w : Bool) → whole ≡ w → (a : Bool) → eqb d 1 ≡ a → (w || a) ≡ true → common_below t.scale t.period t.deadline (i + 1) ≡ 1
        go true f a e q = common_one t.scale t.period t.deadline i (P.sums.least f)
        go false f true e q =
            common_more t.scale t.period t.deadline i ∙ ap (λ (x : ℕ). gcd (common_below t.scale t.period t.deadline i) x) (sym is ∙ eqb-true d 1 e) ∙ gcd_with_one _
        go false f false e q = cc

    pub passed_more : (d : ℕ) (whole' : Bool) (shares' : ℕ) → d ≡ quotient_at i → whole' ≡ (whole || eqb d 1) → shares' ≡ shares + share_up i
        → Passed (i + 1) whole' (total + get_or t.share i 0) shares'
    passed_more d whole' shares' is w s =
        record {
          rows = more_rows;
          sums = record {
            least = λ e. common_next d is (sym w ∙ e);
            all = let y = P.sums.all in omega (arith, sum_more (λ k. get_or t.share k 0) i);
            up = let y = P.sums.up in omega (arith, sum_more share_up i);
          };
        }
