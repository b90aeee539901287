-- A run goes as the rules' steps towards its tick
use mathlib.Core.Path.{◌≡◌, refl, sym, ◌∙◌, ap, subst}
use mathlib.Core.Bool.{false}
use mathlib.Core.List.{List, [], ◌∷◌, map}
use Prim.Native.Nat.{ℕ, zero, suc}
use lib.ListN.{length, replicate, length-replicate}
use Rattle.rules.specs.Answers.{is_done}
use Rattle.rules.specs.Calls as Rule
use Rattle.rules.specs.Run.{Run, perform, perform_all, starting}
use Rattle.rules.specs.Listings.{towards, steps_to}
use Rattle.state.specs.declared.State.{State}
use Rattle.state.specs.View.{view}
use Rattle.moves.specs.Whole.{Whole}
use Rattle.calls.specs.Run.{run_of}
use Rattle.inplace.specs.Run.{run_room}
use Rattle.demands.specs.Demands as Say
use Rattle.demands.specs.Demands.{Calls, calling, calling_all, read_records, one_step}
use Rattle.demands.proofs.Runs.{run_called}
use Rattle.demands.proofs.Serving.{Together-run, plain, all_together}
use Rattle.output.proofs.Reaching.{by_step, steps_more, steps_none}

-- a refused step leaves the run as it was
refused_step : (r : Run) (tick : ℕ) → is_done (Rule.step_answer r.state tick 48) ≡ false → perform r (towards tick) ≡ r
unfolding perform Rule.step
refused_step r tick e =
    let n : length (replicate {A = ℕ} 48 0) ≡ 48 = length-replicate {A = ℕ} 48 0 in
    rw (n, e)

refused_steps : (k : ℕ) (r : Run) (tick : ℕ) → is_done (Rule.step_answer r.state tick 48) ≡ false → perform_all r (replicate k (towards tick)) ≡ r
unfolding perform_all
refused_steps zero r tick e = refl
refused_steps (suc k) r tick e = ap (λ (x : Run). perform_all x (replicate k (towards tick))) (refused_step r tick e) ∙ refused_steps k r tick e

-- steps, one after another
steps_all : (k : ℕ) (r : Run) (tick : ℕ) → perform_all r (replicate k (towards tick)) ≡ steps_to k tick r
unfolding perform_all steps_to
steps_all zero r tick = refl
steps_all (suc k) r tick =
    by_step _ r.state tick
    (λ d. steps_all k (perform r (towards tick)) tick ∙ sym (steps_more k tick r (ap is_done d)))
    (λ e. refused_steps (suc k) r tick e ∙ sym (steps_none (suc k) tick r e))

plain_steps : (k : ℕ) (tick : ℕ) → map plain (replicate k (towards tick)) ≡ replicate k (one_step tick)
plain_steps zero tick = refl
plain_steps (suc k) tick = ap (λ (l : List Say.Call). one_step tick ∷ l) (plain_steps k tick)

-- a run on a state that holds together: its records are the first of the steps towards the tick, and its state is theirs
pub record Follows (s : State) (tick : ℕ) (room : List ℕ) : Type 0 where
  pub whole : Whole (run_of s tick (length room)).state
  pub state : view (run_of s tick (length room)).state ≡ (steps_to (run_of s tick (length room)).records tick (starting (view s))).state
  pub records : read_records (run_of s tick (length room)).records (run_room s tick room) ≡ (steps_to (run_of s tick (length room)).records tick (starting (view s))).records

abbrev begun : State → Calls
begun s = record { state = s; records = []; arrivals = [] }

pub run_follows : (s : State) (tick : ℕ) (room : List ℕ) → Whole s → Follows s tick room
unfolding calling
run_follows s tick room W =
    let k = (run_of s tick (length room)).records in
    let T : Together-run (begun s) (starting (view s)) = record { whole = W; same = refl; records = refl; arrivals = refl } in
    let A = all_together (replicate k (towards tick)) (begun s) (starting (view s)) T in
    let e : calling (begun s) (Say.run_call tick room) ≡ calling_all (begun s) (map plain (replicate k (towards tick))) =
    run_called (begun s) tick room W ∙ ap (calling_all (begun s)) (sym (plain_steps k tick)) in
    let f = steps_all k (starting (view s)) tick in
    record {
      whole = subst (λ (x : Calls). Whole x.state) (sym e) A.whole;
      state = ap (λ (x : Calls). view x.state) e ∙ A.same ∙ ap (λ (x : Run). x.state) f;
      records = ap (λ (x : Calls). x.records) e ∙ A.records ∙ ap (λ (x : Run). x.records) f;
    }
