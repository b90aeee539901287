-- A queue of distinct tasks among 1 .. n, one absent, has room
use Rattle.std.specs.Prelude.{if◌then◌else◌}
use Prim.Native.Nat.{ℕ, zero, suc, ◌+◌, ◌≤◌, ◌<◌}
use mathlib.Core.Path.{◌≡◌, refl, sym, ap, ◌∙◌}
use mathlib.Core.List.{List, [], ◌∷◌}
use mathlib.Core.Option.{Option, none, some}
use native.Mathlib.Decide.{ℕ_discrete}
use native.Mathlib.Omega.{arith}
use borrow.Author.Tests.{eq-eqb, ne_eqb}
use lib.Dec.{eqb}
use lib.ListN.{length, get_or}
use Rattle.ground.specs.Sums.{sum_of, up_from}
use Rattle.ground.proofs.Sums.{sum_of_mono, sum_of_add, sum_of_const}
use Rattle.queue.specs.Queues.{blank, held, find, key_in, one, Good}
use Rattle.queue.specs.declared.Queue.{Queue}
use Rattle.queue.specs.declared.Entry.{Entry}
use Rattle.queue.proofs.Finding.{not_found, has}
use Rattle.queue.proofs.Keys.{length_held}

-- a sum over tasks of sums over entries, the other way round
swap_sums : (ts : List ℕ) (l : List Entry) → sum_of (λ t. sum_of (one t) l) ts ≡ sum_of (λ e. sum_of (λ t. one t e) ts) l
unfolding sum_of
swap_sums ts [] = omega (arith, sum_of_const 0 ts)
swap_sums ts (e ∷ l) = sum_of_add (λ t. one t e) (λ t. sum_of (one t) l) ts ∙ omega (arith, swap_sums ts l)

-- 1 where u is t
abbrev is : ℕ → ℕ → ℕ
is u t = if eqb u t then 1 else 0

-- a number is there once, if it is in the range
among : (u i n : ℕ) → (u < i → sum_of (is u) (up_from i n) ≡ 0) × (i ≤ u → u < i + n → sum_of (is u) (up_from i n) ≡ 1)
unfolding sum_of up_from
among u i zero = ((λ h. refl), λ h h'. absurd (omega arith))
among u i (suc n) = go (ℕ_discrete u i) (among u (suc i) n)
  where
    go : Dec (u ≡ i) → (u < suc i → sum_of (is u) (up_from (suc i) n) ≡ 0) × (suc i ≤ u → u < suc i + n → sum_of (is u) (up_from (suc i) n) ≡ 1)
        → (u < i → is u i + sum_of (is u) (up_from (suc i) n) ≡ 0) × (i ≤ u → u < i + suc n → is u i + sum_of (is u) (up_from (suc i) n) ≡ 1)
    go (yes e) r = rw (eq-eqb u i e) ((λ h. absurd (omega arith)), λ h h'. omega (arith, r.0 (omega arith)))
    go (no e) r = rw (ne_eqb u i e) ((λ h. omega (arith, r.0 (omega arith))), λ h h'. omega (arith, r.1 (omega arith) (omega arith)))

length_up : (i n : ℕ) → length (up_from i n) ≡ n
unfolding up_from
length_up i zero = refl
length_up i (suc n) = ap suc (length_up (suc i) n)

pub has_room : (q : Queue) (n : ℕ) → Good q → ((t k : ℕ) → key_in q t ≡ some k → (0 < t) × (t ≤ n)) → (t : ℕ) → 0 < t → t ≤ n → key_in q t ≡ none → q.len < n
unfolding key_in
has_room q n g inside t h0 hn e =
    let a = sum_of_mono (λ _. 1) (λ x. sum_of (λ u. one u x) (up_from 1 n)) blank (held q) (λ i hi. omega (arith, covered i hi)) in
    let b = sum_of_mono (λ u. sum_of (one u) (held q) + is t u) (λ _. 1) 0 (up_from 1 n) (λ i hi. pointwise (get_or (up_from 1 n) i 0) (ℕ_discrete (get_or (up_from 1 n) i 0) t)) in
    omega (
      arith,
      a,
      b,
      sum_of_const 1 (held q),
      sum_of_const 1 (up_from 1 n),
      length_up 1 n,
      length_held q g,
      swap_sums (up_from 1 n) (held q),
      sum_of_add (λ u. sum_of (one u) (held q)) (λ u. is t u) (up_from 1 n),
      (among t 1 n).1 (omega arith) (omega arith),
    )
  where
    pointwise : (u : ℕ) → Dec (u ≡ t) → sum_of (one u) (held q) + is t u ≤ 1
    pointwise u (yes z) = rw (z, eq-eqb t t refl) (omega (arith, not_found t (held q) e))
    pointwise u (no z) = rw (ne_eqb t u (λ x. z (sym x))) (omega (arith, g.once u))

    covered : (i : ℕ) → i < length (held q) → sum_of (λ u. one u (get_or (held q) i blank)) (up_from 1 n) ≡ 1
    covered i hi = go (find (get_or (held q) i blank).task (held q)) refl
      where
        go : (o : Option ℕ) → find (get_or (held q) i blank).task (held q) ≡ o → sum_of (λ u. one u (get_or (held q) i blank)) (up_from 1 n) ≡ 1
        go none z = absurd (has (held q) i hi z)
        go (some k) z = let r = inside (get_or (held q) i blank).task k z in (among (get_or (held q) i blank).task 1 n).1 (omega arith) (omega arith)
