-- The answer to an arrival, and what it says
use Rattle.std.specs.Prelude.{OnOk, if◌then◌else◌}
use mathlib.Core.Path.{◌≡◌, sym, ◌∙◌, ap, subst}
use mathlib.Core.Bool.{true, false}
use Prim.Native.Nat.{ℕ}
use lib.ListN.{get_or}
use Rattle.rules.specs.Answers.{Answer, NotTogether, is_done}
use native.Mathlib.Nat.{le_of_mul-le-mul_right}
use native.Mathlib.Omega.{arith}
use Rattle.rules.specs.Reasons.{ArriveReason}
use Rattle.rules.proofs.Jobs.{done_comes, done_is}
use Rattle.rules.proofs.Refusing.{arrive_answers}
use Rattle.rules.proofs.Standing.{facts}
use Rattle.state.specs.declared.State.{State}
use Rattle.state.specs.View.{tasks_at, view}
use Rattle.state.proofs.Lasts.{last_some}
use Rattle.state.proofs.Views.{sound_is}
use Rattle.together.specs.Holds.{holds_of}
use Rattle.moves.specs.Whole.{Whole}
use Rattle.moves.proofs.Keeping.{together_of}
use Rattle.refusals.specs.Arrive.{comes_answer, Dated, MayCome, arrive_answer_of}
use Rattle.refusals.proofs.Checking.{whole_holds, on_done}
use Rattle.refusals.proofs.Agreeing.{arrive_same}

-- a state that holds together is dated
pub whole_dated : (s : State) → Whole s → Dated s.table.count s.table.scale s.jobs.arrived s.jobs.last
whole_dated s W =
    let F = facts (tasks_at s) (together_of W).table in
    record {
      few = W.sound.few;
      scale_pos = F.scale_pos;
      dates = λ i h a.
          let came = (together_of W).lasts.came i (get_or s.jobs.last i 0) (last_some s (tasks_at s) (sound_is s W.sound) i h a) in
          le_of_mul-le-mul_right (omega (arith, came, (together_of W).clock)) F.scale_pos;
    }

-- THE NUMBER
pub arrive_13 : (s : State) (task : ℕ) → holds_of s ≡ false → NotTogether ≡ arrive_answer_of s task
unfolding arrive_answer_of
arrive_13 s task e = rw e

module _ (s : State) (task : ℕ) (W : Whole s) (a : Answer) (e : a ≡ comes_answer s task) where
  pub arrive_by : a ≡ arrive_answer_of s task
  unfolding arrive_answer_of
  arrive_by = e ∙ sym (ap (λ b. if b then comes_answer s task else NotTogether) (whole_holds s W))

  pub arrive_comes : is_done a ≡ true → MayCome s task
  arrive_comes d =
      let R = subst (ArriveReason (view s) task) (sym (arrive_same s task W) ∙ sym arrive_by ∙ done_is a d) (arrive_answers (view s) task) in
      record { number = R.1.0; comes = done_comes (view s) task R }

  pub arrive_may : OnOk a (Whole s × MayCome s task)
  arrive_may = on_done _ a (λ d. (W, arrive_comes d))
