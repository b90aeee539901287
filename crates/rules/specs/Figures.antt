-- FIGURES TO CHECK AGAINST: P1 to P10 of document 01, and what they leave open. One list
use Rattle.std.specs.Prelude.{◌≡◌, true, [], ◌∷◌, ℕ, ◌+◌, ◌*◌, ◌-◌, ◌≤◌, ◌<◌, min, length}
use Rattle.std.proofs.Math.Option.{some}
use Rattle.rules.specs.Answers.{number_of}
use Rattle.rules.specs.State.{State, at, period}
use Rattle.rules.specs.Reasons.{InRange, ProcessorsOk}
use Rattle.rules.specs.Holds.{holds}
use Rattle.rules.specs.Calls.{arrive_answer}
use Rattle.rules.specs.Handed.{Handed}
use Rattle.rules.specs.Answered.{admits, Answered}
use Rattle.rules.specs.Histories.{Histories}
use Rattle.rules.specs.Listings.{row, scale_in, Listings}

-- in a state that holds together, the task arrived this many ticks ago, and the present is a whole tick
pub record ArrivedAgo (s : State) (task ticks : ℕ) : Type 0 where
  pub together : holds s ≡ true
  pub known : (1 ≤ task) × (task ≤ length s.tasks)
  pub came : (a : ℕ) × ((at (task - 1) s.tasks).last ≡ some a) × (s.now ≡ (a + ticks) * s.scale)

pub record Figures : Type 0 where
  -- those with numbers hold by computation: P1, P3 and P4 stand in the listings, P2 in the answers
  pub listings : Listings
  pub handed : Handed
  pub answered : Answered
  pub histories : Histories
  -- P5 and P6, for every m, and every p and D whose shorter is the q
  pub p5 : (m p d p' d' : ℕ) → ProcessorsOk m → InRange p → InRange d → InRange p' → InRange d' → min p d ≡ 1048576 → min p' d' ≡ 127
      → (admits (row p 1 d ∷ row p' 1 d' ∷ []) m ≡ (0, 0)) × (scale_in (row p 1 d ∷ row p' 1 d' ∷ []) m ≡ 133169152)
  pub p6 : (m p d p' d' : ℕ) → ProcessorsOk m → InRange p → InRange d → InRange p' → InRange d' → min p d ≡ 1048576 → min p' d' ≡ 129
      → admits (row p 1 d ∷ row p' 1 d' ∷ []) m ≡ (5, 0)
  -- P7 and P8, for every p and D; P8 for every m
  pub p7 : (p d : ℕ) → InRange p → InRange d → admits (row p (min p d) d ∷ []) 1 ≡ (0, 0)
  pub p8 : (m p d : ℕ) → ProcessorsOk m → InRange p → InRange d → min p d < 1048576 → admits (row p (min p d + 1) d ∷ []) m ≡ (4, 1)
  -- P9 and P10, in every state
  pub p9 : (s : State) (task : ℕ) → ArrivedAgo s task (period (at (task - 1) s.tasks)) → number_of (arrive_answer s task) ≡ 0
  pub p10 : (s : State) (task : ℕ) → ArrivedAgo s task (period (at (task - 1) s.tasks) - 1) → number_of (arrive_answer s task) ≡ 9
