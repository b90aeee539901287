-- No call changes the table
use Rattle.std.specs.Prelude.{if◌then◌else◌}
use mathlib.Core.Path.{◌≡◌, refl, ◌∙◌}
use mathlib.Core.Bool.{Bool, true, false}
use mathlib.Core.List.{[]}
use Prim.Native.Nat.{ℕ, zero, suc, ◌*◌, ◌-◌, ◌/◌}
use lib.Dec.{eqb, ltb}
use Rattle.rules.specs.Answers.{is_done}
use Rattle.state.specs.declared.State.{State}
use Rattle.state.specs.Machine.{end_at, tick_at, plane_end, work_of, with_work, woken, joined, opens_to, closed_of, opened_of, move_to, moved_of, arrived_of}
use Rattle.state.specs.Work.{at_time, events_of}
use Rattle.refusals.specs.Arrive.{arrive_answer_of}
use Rattle.refusals.specs.Step.{step_answer_of}
use Rattle.inplace.specs.Arrive.{arrive_state_of}
use Rattle.inplace.specs.Step.{step_state_of}
use Rattle.inplace.specs.Run.{Went, went, run_state_of}

move_table : (s : State) (to : ℕ) → (move_to s to).state.table ≡ s.table
unfolding move_to closed_of
move_table s to = go (eqb to (end_at s))
  where
    go : (b : Bool) → (if b then closed_of s to else with_work s (events_of (at_time to (work_of s)))).table ≡ s.table
    go true = refl
    go false = refl

open_table : (s : State) → (opened_of s).table ≡ s.table
unfolding opened_of opens_to
open_table s = go s.going
  where
    go : (b : Bool) → (if b then s else opens_to s (tick_at s) (plane_end s.table s.jobs (tick_at s))).table ≡ s.table
    go true = refl
    go false = refl

pub moved_table : (s : State) (h : ℕ) → (moved_of s h).state.table ≡ s.table
unfolding moved_of
moved_table s h = move_table (opened_of s) _ ∙ open_table s

pub arrived_table : (s : State) (i : ℕ) → (arrived_of s i).table ≡ s.table
unfolding arrived_of joined
arrived_table s i = go s.going
  where
    go : (b : Bool) → (if b then joined (woken s i (tick_at s)) i else woken s i (tick_at s)).table ≡ s.table
    go true = refl
    go false = refl

went_table : (n h : ℕ) (s : State) → (went n h s).state.table ≡ s.table
unfolding went
went_table zero h s = refl
went_table (suc n) h s = go (ltb s.now.0 (h * s.table.scale)) _ (went_table n h (moved_of s h).state ∙ moved_table s h)
  where
    go : (b : Bool) (x : Went) → x.state.table ≡ s.table → (elim b as (λ _. Went) [ true ↦ x | false ↦ record { state = s; records = 0; bytes = [] } ]).state.table ≡ s.table
    go true x e = e
    go false x e = refl

module _ (s : State) where
  by_done : (b : Bool) (k : State) → k.table ≡ s.table → (if b then k else s).table ≡ s.table
  by_done true k e = e
  by_done false k e = refl

  pub arrive_table : (task : ℕ) → (arrive_state_of s task).table ≡ s.table
  arrive_table task = by_done (is_done (arrive_answer_of s task)) _ (arrived_table s (task - 1))

  module _ (h n : ℕ) where
    pub step_table : (step_state_of s h n).table ≡ s.table
    step_table = by_done (is_done (step_answer_of s h n)) _ (moved_table s h)

    pub run_table : (run_state_of s h n).table ≡ s.table
    run_table = by_done (is_done (step_answer_of s h n)) _ (went_table (n / 48) h s)
