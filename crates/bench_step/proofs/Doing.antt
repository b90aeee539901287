-- One call in place after another
use Rattle.std.specs.Prelude.{if◌then◌else◌}
use mathlib.Core.Path.{◌≡◌, refl, sym, ◌∙◌, ap, subst}
use mathlib.Core.Bool.{Bool, true, false}
use mathlib.Core.List.{List, ◌∷◌}
use Prim.Native.Nat.{ℕ, suc, ◌+◌, ◌*◌, ◌-◌, ◌≤◌, ◌<◌}
use native.Mathlib.Numerals.{add-one}
use native.Mathlib.Omega.{arith}
use lib.Dec.{ltb}
use lib.ListN.{length, get_or, drop}
use lib.Seq.{drop-cons, drop-length}
use Rattle.ground.proofs.Tests.{ltb_says, is_true, is_false}
use Rattle.rules.specs.Reasons.{Comes}
use Rattle.state.specs.declared.State.{State}
use Rattle.state.specs.Machine.{moved_of, arrived_of}
use Rattle.state.specs.View.{view}
use Rattle.moves.specs.Whole.{Whole}
use Rattle.moves.proofs.Keeping.{step_whole, arrive_whole}
use Rattle.inplace.proofs.Table.{arrived_table, moved_table}
use Rattle.bench_step.specs.Held.{Taken, done_of, AllTaken, done_all}

module _ (s : State) (call : ℕ) where
  arrives : call < 4294967296 → ltb call 4294967296 ≡ true
  arrives h = is_true (ltb call 4294967296) (ltb_says call 4294967296) h

  steps : 4294967296 ≤ call → ltb call 4294967296 ≡ false
  steps h = is_false (ltb call 4294967296) (ltb_says call 4294967296) (λ z. omega arith)

  -- an arrival
  pub taken_arrives : call < 4294967296 → Taken s call → (0 < call) × Comes (view s) (call - 1)
  unfolding Taken
  taken_arrives h T = rw (Taken, arrives h) at T

  pub done_arrives : call < 4294967296 → arrived_of s (call - 1) ≡ done_of s call
  unfolding done_of
  done_arrives h = rw (arrives h)

  -- a step
  pub taken_steps : 4294967296 ≤ call → Taken s call → (s.now.0 < (call - 4294967296) * s.table.scale) × (call - 4294967296 ≤ 4294967295)
  unfolding Taken
  taken_steps h T = rw (Taken, steps h) at T

  pub done_steps : 4294967296 ≤ call → (moved_of s (call - 4294967296)).state ≡ done_of s call
  unfolding done_of
  done_steps h = rw (steps h)

  pub done_whole : Whole s → Taken s call → Whole (done_of s call)
  unfolding Taken done_of
  done_whole W = go (ltb call 4294967296)
    where
      go : (b : Bool)
          → (elim b as (λ _. Type 0) [ true ↦ (0 < call) × Comes (view s) (call - 1) | false ↦ (s.now.0 < (call - 4294967296) * s.table.scale) × (call - 4294967296 ≤ 4294967295) ])
          → Whole (if b then arrived_of s (call - 1) else (moved_of s (call - 4294967296)).state)
      go true T = (arrive_whole s (call - 1) W T.1).whole
      go false T = (step_whole s (call - 4294967296) W T.0 T.1).whole

  done_table : (done_of s call).table ≡ s.table
  unfolding done_of
  done_table = go (ltb call 4294967296)
    where
      go : (b : Bool) → (if b then arrived_of s (call - 1) else (moved_of s (call - 4294967296)).state).table ≡ s.table
      go true = arrived_table s (call - 1)
      go false = moved_table s (call - 4294967296)

-- what is done up to place i, and what is left
pub record Doing (s₀ : State) (list : List ℕ) (s : State) (i : ℕ) : Type 0 where
  pub whole : Whole s
  pub table : s.table ≡ s₀.table
  pub within : i ≤ length list
  pub taken : AllTaken s (drop i list)
  pub same : done_all s (drop i list) ≡ done_all s₀ list

pub doing_from : (s : State) (list : List ℕ) → Whole s → AllTaken s list → Doing s list s 0
doing_from s list W T = record { whole = W; table = refl; within = omega arith; taken = T; same = refl }

module _ (s₀ : State) (list : List ℕ) (s : State) (i : ℕ) (D : Doing s₀ list s i) where
  next : i < length list → AllTaken s (get_or list i 0 ∷ drop (suc i) list)
  next h = subst (AllTaken s) (drop-cons list i 0 h) D.taken

  pub doing_taken : i < length list → Taken s (get_or list i 0)
  unfolding AllTaken
  doing_taken h = (next h).0

  pub doing_on : i < length list → (k : State) → k ≡ done_of s (get_or list i 0) → Doing s₀ list k (i + 1)
  unfolding AllTaken done_all
  doing_on h k e =
      rw (e, add-one i)
      (record {
        whole = done_whole s (get_or list i 0) D.whole (next h).0;
        table = done_table s (get_or list i 0) ∙ D.table;
        within = omega arith;
        taken = (next h).1;
        same = sym (ap (done_all s) (drop-cons list i 0 h)) ∙ D.same;
      })

  pub doing_end : length list ≤ i → s ≡ done_all s₀ list
  unfolding done_all
  doing_end h = let e : i ≡ length list = omega (arith, D.within) in sym (ap (λ (n : ℕ). done_all s (drop n list)) e ∙ ap (done_all s) (drop-length list)) ∙ D.same
