-- Each call is the rules' call, seen through the view
use Rattle.std.specs.Prelude.{if◌then◌else◌}
use mathlib.Core.Path.{◌≡◌, refl, sym, ◌∙◌, ap, subst}
use mathlib.Core.List.{List, ◌++◌}
use Prim.Native.Nat.{ℕ, ◌-◌}
use lib.ListN.{length, drop}
use Rattle.rules.specs.Answers.{Answer, Done, is_done}
use Rattle.state.specs.declared.State.{State}
use Rattle.rules.specs.State as Rules
use Rattle.rules.specs.Calls as Rule
use Rattle.rules.specs.Calls.{moving}
use Rattle.rules.specs.Reasons.{ArriveReason, StepReason, Comes}
use Rattle.rules.specs.Record.{Record, record_bytes}
use Rattle.rules.proofs.Jobs.{done_comes, by_answer}
use Rattle.rules.proofs.Refusing.{arrive_answers, step_answers}
use Rattle.state.specs.Machine.{moved_of, arrived_of}
use Rattle.state.specs.View.{view}
use Rattle.moves.specs.Whole.{Whole}
use Rattle.moves.proofs.Keeping.{step_whole, arrive_whole}
use Rattle.refusals.specs.Arrive.{arrive_answer_of}
use Rattle.refusals.specs.Step.{step_answer_of}
use Rattle.refusals.proofs.Agreeing.{arrive_same, step_same}
use Rattle.inplace.specs.Step.{step_room}
use Rattle.calls.specs.Arrive.{arrive_of}
use Rattle.calls.specs.Step.{step_of}

-- ARRIVE
arrive_reason : (s : State) (task : ℕ) → Whole s → arrive_answer_of s task ≡ Done → Comes (view s) (task - 1)
arrive_reason s task W d = done_comes (view s) task (subst (ArriveReason (view s) task) (sym (arrive_same s task W) ∙ d) (arrive_answers (view s) task))

arrive_state : (s : State) (task : ℕ) (a : Answer) → arrive_answer_of s task ≡ a → (arrive_of s task).state ≡ (if is_done a then arrived_of s (task - 1) else s)
unfolding arrive_of
arrive_state s task a e = ap (λ (x : Answer). if is_done x then arrived_of s (task - 1) else s) e

rule_arrive : (r : Rules.State) (task : ℕ) (a : Answer) → Rule.arrive_answer r task ≡ a → (Rule.arrive r task).state ≡ (if is_done a then Rule.arriving r (task - 1) else r)
unfolding Rule.arrive
rule_arrive r task a e = ap (λ (x : Answer). if is_done x then Rule.arriving r (task - 1) else r) e

-- the state handed back is whole and shows the rules'
pub record Kept (k : State) (r : Rules.State) : Type 0 where
  pub whole : Whole k
  pub same : view k ≡ r

pub arrive_kept : (s : State) (task : ℕ) → Whole s → Kept (arrive_of s task).state (Rule.arrive (view s) task).state
arrive_kept s task W =
    by_answer _ (arrive_answer_of s task)
    (λ d.
    let A = arrive_whole s (task - 1) W (arrive_reason s task W d) in
    let e = arrive_state s task Done d in
    let f = rule_arrive (view s) task Done (sym (arrive_same s task W) ∙ d) in
    record { whole = subst Whole (sym e) A.whole; same = ap view e ∙ A.view_is ∙ sym f })
    (λ n.
    let a = arrive_answer_of s task in
    let e : (arrive_of s task).state ≡ s = arrive_state s task a refl ∙ ap (λ b. if b then arrived_of s (task - 1) else s) n in
    let f : (Rule.arrive (view s) task).state ≡ view s = rule_arrive (view s) task a (sym (arrive_same s task W)) ∙ ap (λ b. if b then Rule.arriving (view s) (task - 1) else view s) n in
    record { whole = subst Whole (sym e) W; same = ap view e ∙ sym f })

-- STEP
step_reason : (s : State) (h n : ℕ) → Whole s → step_answer_of s h n ≡ Done → StepReason (view s) h n Done
step_reason s h n W d = subst (StepReason (view s) h n) (sym (step_same s h n W) ∙ d) (step_answers (view s) h n)

step_state : (s : State) (h n : ℕ) (a : Answer) → step_answer_of s h n ≡ a → (step_of s h n).state ≡ (if is_done a then (moved_of s h).state else s)
unfolding step_of
step_state s h n a e = ap (λ (x : Answer). if is_done x then (moved_of s h).state else s) e

step_room_lem : (s : State) (h : ℕ) (room : List ℕ) (a : Answer) → step_answer_of s h (length room) ≡ a → step_room s h room ≡ (if is_done a then record_bytes (moved_of s h).rec ++ drop 48 room else room)
unfolding step_room
step_room_lem s h room a e = ap (λ (x : Answer). if is_done x then record_bytes (moved_of s h).rec ++ drop 48 room else room) e

rule_step : (r : Rules.State) (h : ℕ) (room : List ℕ) (a : Answer) → Rule.step_answer r h (length room) ≡ a
    → ((Rule.step r h room).state ≡ (if is_done a then (moving r h).state else r)) × ((Rule.step r h room).room ≡ (if is_done a then record_bytes (moving r h).rec ++ drop 48 room else room))
unfolding Rule.step
rule_step r h room a e = (ap (λ (x : Answer). if is_done x then (moving r h).state else r) e, ap (λ (x : Answer). if is_done x then record_bytes (moving r h).rec ++ drop 48 room else room) e)

pub record Went-on (s : State) (h : ℕ) (room : List ℕ) : Type 0 where
  pub kept : Kept (step_of s h (length room)).state (Rule.step (view s) h room).state
  pub room_same : step_room s h room ≡ (Rule.step (view s) h room).room

pub step_kept : (s : State) (h : ℕ) (room : List ℕ) → Whole s → Went-on s h room
step_kept s h room W =
    by_answer _ (step_answer_of s h n)
    (λ d.
    let R = step_reason s h n W d in
    let M = step_whole s h W R.3 R.2 in
    let e = step_state s h n Done d in
    let f = rule_step (view s) h room Done (sym (step_same s h n W) ∙ d) in
    record {
      kept = record { whole = subst Whole (sym e) M.whole; same = ap view e ∙ M.view_is ∙ sym f.0 };
      room_same = step_room_lem s h room Done d ∙ ap (λ (x : Record). record_bytes x ++ drop 48 room) M.rec_is ∙ sym f.1;
    })
    (λ q.
    let a = step_answer_of s h n in
    let e : (step_of s h n).state ≡ s = step_state s h n a refl ∙ ap (λ b. if b then (moved_of s h).state else s) q in
    let f = rule_step (view s) h room a (sym (step_same s h n W)) in
    let f0 : (Rule.step (view s) h room).state ≡ view s = f.0 ∙ ap (λ b. if b then (moving (view s) h).state else view s) q in
    let f1 : (Rule.step (view s) h room).room ≡ room = f.1 ∙ ap (λ b. if b then record_bytes (moving (view s) h).rec ++ drop 48 room else room) q in
    record {
      kept = record { whole = subst Whole (sym e) W; same = ap view e ∙ sym f0 };
      room_same = step_room_lem s h room a refl ∙ ap (λ b. if b then record_bytes (moved_of s h).rec ++ drop 48 room else room) q ∙ sym f1;
    })
  where
    n : ℕ
    n = length room
