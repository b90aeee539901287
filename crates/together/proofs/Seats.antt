-- The processors of a sound work's tasks: each runs on one of the m, and no two on the same
use Rattle.std.specs.Prelude.{if◌then◌else◌}
use mathlib.Core.Path.{◌≡◌, refl, ◌∙◌, ap, subst}
use mathlib.Core.Bool.{Bool, true, false}
use mathlib.Core.Option.{Option, none, some}
use mathlib.Core.List.{List, [], ◌∷◌}
use Prim.Native.Nat.{ℕ, suc, ◌+◌, ◌-◌, ◌≤◌, ◌<◌}
use native.Mathlib.Decide.{dec_lt}
use native.Mathlib.Omega.{arith}
use lib.Dec.{eqb}
use lib.ListN.{length, get_or}
use Rattle.ground.specs.Sums.{sum_of}
use Rattle.ground.specs.Tests.{Says}
use Rattle.ground.proofs.Sums.{sum_of_none}
use Rattle.ground.proofs.Tests.{eqb_says}
use Rattle.rules.specs.State.{Cond, asleep, resting, running, waiting, Task, nobody, at, proc, runs, on}
use Rattle.rules.proofs.Together.{Seats}
use Rattle.rules.proofs.Cases.{proc_of, runs_of, on_of_lem}
use Rattle.rules.proofs.Places.{anywhere}
use Rattle.rules.proofs.Plane.{not_running}
use Rattle.queue.specs.Queues.{key_in}
use Rattle.state.specs.Work.{Work, seat}
use Rattle.state.proofs.Seats.{sits_in}
use Rattle.state.proofs.Shows.{Crew, Is, run_cond, run_key_at}

-- where at most one element counts, and counts one, the sum is at most one
one_at_most : (f : Task → ℕ) (l : List Task) → ((j : ℕ) → j < length l → f (at j l) ≤ 1) → ((i j : ℕ) → i < length l → j < length l → 0 < f (at i l) → 0 < f (at j l) → i ≡ j) → sum_of f l ≤ 1
unfolding sum_of
one_at_most f [] h u = omega arith
one_at_most f (t ∷ l) h u = go (dec_lt 0 (f t)) (one_at_most f l (λ j q. h (suc j) (omega arith)) (λ i j a b p q. let z = u (suc i) (suc j) (omega arith) (omega arith) p q in omega arith))
  where
    alone : 0 < f t → (j : ℕ) → j < length l → f (at j l) ≡ 0
    alone p j q = by (dec_lt 0 (f (at j l)))
      where
        by : Dec (0 < f (at j l)) → f (at j l) ≡ 0
        by (yes r) = absurd (omega (arith, u 0 (suc j) (omega arith) (omega arith) p r))
        by (no r) = omega arith

    go : Dec (0 < f t) → sum_of f l ≤ 1 → f t + sum_of f l ≤ 1
    go (yes p) ih = omega (arith, h 0 (omega arith), sum_of_none f nobody l (alone p))
    go (no p) ih = omega arith

no_proc : (c : Cond) → runs_of c ≡ 0 → proc_of c ≡ 0
no_proc asleep e = refl
no_proc resting e = refl
no_proc (running p a) e = absurd (omega arith)
no_proc (waiting a) e = refl

on_no : (p : ℕ) (c : Cond) → runs_of c ≡ 0 → on_of_lem p c ≡ 0
on_no p asleep e = refl
on_no p resting e = refl
on_no p (running p' a) e = absurd (omega arith)
on_no p (waiting a) e = refl

on_few : (p : ℕ) (c : Cond) → on_of_lem p c ≤ 1
on_few p asleep = omega arith
on_few p resting = omega arith
on_few p (running p' a) = go (eqb p' p)
  where
    go : (b : Bool) → (if b then 1 else 0) ≤ 1
    go true = omega arith
    go false = omega arith
on_few p (waiting a) = omega arith

-- who counts on p runs there
on_this : (p p' a : ℕ) → 0 < on_of_lem p (running p' a) → p' ≡ p
on_this p p' a = go (eqb p' p) (eqb_says p' p)
  where
    go : (b : Bool) → Says (p' ≡ p) b → 0 < (if b then 1 else 0) → p' ≡ p
    go true s h = s
    go false s h = absurd (omega arith)

module _ {c : Crew} {w : Work} {l : List Task} (I : Is c w l) where
  seat_ok : (j : ℕ) → j < length l → (runs (at j l) ≤ proc (at j l)) × (proc (at j l) ≤ w.m)
  seat_ok j h = go (key_in w.running (suc j)) refl
    where
      b : j < c.count
      b = omega (arith, I.shows.size)

      go : (o : Option ℕ) → key_in w.running (suc j) ≡ o → (runs (at j l) ≤ proc (at j l)) × (proc (at j l) ≤ w.m)
      go none e = let r = not_running w.now (at j l).cond (run_key_at I j b ∙ e) in (omega arith, omega (arith, no_proc (at j l).cond r))
      go (some k) e =
          let o = sits_in I.tidy.seats j k e in
          let z = run_cond I j k b e in
          (omega (arith, ap runs_of z, ap proc_of z, o.is), omega (arith, ap proc_of z, o.is, o.low))

  -- who runs on p stands in its slot
  on_slot : (p j : ℕ) → j < length l → 0 < on p (at j l) → get_or w.slots (p - 1) 0 ≡ suc j
  on_slot p j h q = go (key_in w.running (suc j)) refl
    where
      b : j < c.count
      b = omega (arith, I.shows.size)

      go : (o : Option ℕ) → key_in w.running (suc j) ≡ o → get_or w.slots (p - 1) 0 ≡ suc j
      go none e = absurd (omega (arith, q, on_no p (at j l).cond (not_running w.now (at j l).cond (run_key_at I j b ∙ e))))
      go (some k) e =
          let o = sits_in I.tidy.seats j k e in
          let y : seat (suc j) w.slots ≡ p = on_this p (seat (suc j) w.slots) (k - w.now) (subst (λ (d : Cond). 0 < on_of_lem p d) (run_cond I j k b e) q) in
          let z : p - 1 ≡ o.place = omega (arith, o.is) in
          rw z o.holds

  pub seats_of : Seats w.m l
  seats_of =
      record {
        low = λ j. (all j).0;
        high = λ j. (all j).1;
        apart = λ p. one_at_most (on p) l (λ j h. on_few p (at j l).cond)
            (λ i j hi hj a b. let x = on_slot p i hi a in let y = on_slot p j hj b in omega arith);
      }
    where
      all : (j : ℕ) → (runs (at j l) ≤ proc (at j l)) × (proc (at j l) ≤ w.m)
      all = anywhere (λ t. (runs t ≤ proc t) × (proc t ≤ w.m)) l (omega arith, omega arith) seat_ok
