-- The answer to a step, and what it says
use Rattle.std.specs.Prelude.{OnOk, if◌then◌else◌}
use mathlib.Core.Path.{◌≡◌, sym, ◌∙◌, ap, subst}
use mathlib.Core.Bool.{true, false}
use Prim.Native.Nat.{ℕ}
use Rattle.rules.specs.Answers.{Answer, NotTogether, is_done}
use Rattle.rules.specs.Reasons.{StepReason}
use Rattle.rules.proofs.Jobs.{done_is}
use Rattle.rules.proofs.Refusing.{step_answers}
use Rattle.state.specs.declared.State.{State}
use Rattle.state.specs.View.{view}
use Rattle.together.specs.Holds.{holds_of}
use Rattle.moves.specs.Whole.{Whole}
use Rattle.refusals.specs.Step.{moves_answer, step_answer_of, Ahead}
use Rattle.refusals.proofs.Checking.{whole_holds, on_done}
use Rattle.refusals.proofs.Agreeing.{step_same}

-- THE NUMBER
pub step_13 : (s : State) (horizon room : ℕ) → holds_of s ≡ false → NotTogether ≡ step_answer_of s horizon room
unfolding step_answer_of
step_13 s horizon room h = rw h

module _ (s : State) (horizon room : ℕ) (W : Whole s) (a : Answer) (e : a ≡ moves_answer s horizon room) where
  pub step_by : a ≡ step_answer_of s horizon room
  unfolding step_answer_of
  step_by = e ∙ sym (ap (λ b. if b then moves_answer s horizon room else NotTogether) (whole_holds s W))

  pub step_ahead : is_done a ≡ true → Ahead s horizon room
  step_ahead d =
      let R = subst (StepReason (view s) horizon room) (sym (step_same s horizon room W) ∙ sym step_by ∙ done_is a d) (step_answers (view s) horizon room) in
      record { whole = W; ahead = R.3; clock = R.2; space = R.1 }

  pub step_may : OnOk a (Ahead s horizon room)
  step_may = on_done _ a step_ahead
