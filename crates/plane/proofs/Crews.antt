-- The places of a crew
use mathlib.Core.Path.{refl, ◌∙◌}
use Rattle.queue.proofs.Lent.{same_lane}
use Rattle.state.specs.Lent.{SameCrew}
use Rattle.state.specs.declared.Crew.{Crew}

pub same_self : (a : Crew) → SameCrew a a
same_self a = record { running = record { keys = refl; tasks = refl }; waiting = record { keys = refl; tasks = refl }; slots = refl }

-- what is the same twice over is the same
pub same_crew : {a b c : Crew} → SameCrew a b → SameCrew b c → SameCrew a c
same_crew x y = record { running = same_lane x.running y.running; waiting = same_lane x.waiting y.waiting; slots = y.slots ∙ x.slots }
