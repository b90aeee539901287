-- An admitted table gives a state that holds together
use mathlib.Core.Path.{◌≡◌, refl, sym, ◌∙◌, ap, subst}
use mathlib.Core.List.{List, [], ◌∷◌, map}
use Prim.Native.Nat.{ℕ, zero, suc, ◌+◌, ◌*◌, ◌/◌, ◌≤◌, ◌<◌}
use native.Mathlib.Omega.{arith, none}
use lib.ListN.{length, get_or, length-map}
use Rattle.rules.specs.Bounds.{most_scale}
use Rattle.rules.specs.Answers.{Answer, Done}
use Rattle.ground.specs.Sums.{sum_of, up_from}
use Rattle.ground.proofs.Sums.{sum_of_map}
use Rattle.ground.proofs.Times.{up_length}
use Rattle.rules.specs.Admission.{admit_verdict, admit}
use Rattle.rules.specs.Reasons.{LengthOk, RowsOk, AdmitReason}
use Rattle.rules.specs.Scale.{scale_of, share_of}
use Rattle.rules.specs.State.{asleep, Task, no_row, at, is_awake, runs, waits, fresh, admitted, Cond}
use Rattle.rules.specs.Table.{Row, row_at, rows_of}
use Rattle.rules.proofs.Together.{Awake, Together}
use Rattle.rules.proofs.Keeping.{not_both, idle_seats}
use Rattle.rules.proofs.Refusing.{admit_answers}
use Rattle.rules.proofs.Cases.{runs_of, waits_of}
use Rattle.rules.proofs.Lasts.{never}
use mathlib.Core.Option.{none}

-- ADMITTED
-- the rows of an admitted table pass
pub record Passes (m : ℕ) (rs : List Row) : Type 0 where
  pub processors : (1 ≤ m) × (m ≤ 16)
  pub size : (1 ≤ length rs) × (length rs ≤ 128)
  pub rows : RowsOk rs
  pub scale_most : scale_of rs ≤ most_scale
  pub sum : sum_of (share_of (scale_of rs)) rs ≤ m * scale_of rs

pub at_fresh : (l : ℕ) (rs : List Row) (j : ℕ) → j < length rs → at j (map (fresh l) rs) ≡ fresh l (get_or rs j no_row)
at_fresh l [] j h = absurd (omega arith)
at_fresh l (r ∷ rs) zero h = refl
at_fresh l (r ∷ rs) (suc j) h = at_fresh l rs j (omega arith)

pub all_asleep : (l : ℕ) (rs : List Row) (j : ℕ) → ((at j (map (fresh l) rs)).cond ≡ asleep) × ((at j (map (fresh l) rs)).last ≡ none)
all_asleep l [] j = (refl, refl)
all_asleep l (r ∷ rs) zero = (refl, refl)
all_asleep l (r ∷ rs) (suc j) = all_asleep l rs j

pub rows_back : (l : ℕ) (rs : List Row) → map (λ (t : Task). t.row) (map (fresh l) rs) ≡ rs
rows_back l [] = refl
rows_back l (r ∷ rs) = ap (λ (x : List Row). r ∷ x) (rows_back l rs)

pub admitted_together : (m : ℕ) (rs : List Row) → Passes m rs → Together (admitted m rs)
admitted_together m rs P =
    let l = scale_of rs in
    let k = map (fresh l) rs in
    let n : length k ≡ length rs = length-map rs (fresh l) in
    let none' : (X : Type 0) (j : ℕ) → Awake (at j k) → X = λ X j w. not_both X (sym (ap is_awake (all_asleep l rs j).0) ∙ w) in
    let idle : (j : ℕ) → runs (at j k) + waits (at j k) ≡ 0 = λ j. ap (λ (c : Cond). runs_of c + waits_of c) (all_asleep l rs j).0 in
    record {
      table = record {
        processors = P.processors;
        size = (omega (arith, P.size), omega (arith, P.size));
        ranges = λ j h. let hj : j < length rs = omega arith in rw (at_fresh l rs j hj) (P.rows j (omega arith)).0;
        exec = λ j h. let hj : j < length rs = omega arith in rw (at_fresh l rs j hj) (P.rows j (omega arith)).1;
        scale_is = ap scale_of (sym (rows_back l rs));
        scale_most = P.scale_most;
        share_is = λ j h. let hj : j < length rs = omega arith in rw (at_fresh l rs j hj);
        sum = omega (arith, P.sum, sum_of_map (λ (t : Task). t.share) (fresh l) rs);
      };
      clock = omega arith;
      seats = idle_seats m k idle;
      lasts = record { known = λ j w. none' _ j w; came = λ j a e. never (sym (all_asleep l rs j).1 ∙ e) };
      plane = record { whole = omega (arith, zero_tick l); idle = idle; due = λ j w. none' _ j w };
    }
  where
    zero_tick : (l : ℕ) → 0 / l * l ≤ 0
    zero_tick l = native.Mathlib.Nat.div-mul-le_self 0 l

rows_count : (n : ℕ) → LengthOk n → (1 ≤ n / 12) × (n / 12 ≤ 128)
rows_count n h =
    let d = native.Mathlib.Nat.div-add-mod' n 12 in
    (omega (arith, h), omega (arith, h))

pub admit_passes : (bytes : List ℕ) (m : ℕ) → (admit bytes m).answer ≡ Done → Passes m (rows_of bytes)
unfolding admit rows_of
admit_passes bytes m d =
    let R = subst (λ (a : Answer). AdmitReason bytes m a (admit_verdict bytes m).row) d (admit_answers bytes m) in
    let n : length (rows_of bytes) ≡ length bytes / 12 = length-map (up_from 0 (length bytes / 12)) (row_at bytes) ∙ up_length 0 (length bytes / 12) in
    let c = rows_count (length bytes) R.2 in
    record { processors = R.1; size = (omega (arith, c.0), omega (arith, c.1)); rows = R.3; scale_most = R.4; sum = R.5 }
