-- The check and what it says
use Rattle.std.specs.Prelude.{Err, OnOk}
use mathlib.Core.Path.{◌≡◌, refl}
use mathlib.Core.Bool.{true}
use Rattle.ground.proofs.Tests.{is_true, of_true}
use Rattle.rules.specs.Answers.{Answer, Done, is_done}
use Rattle.rules.specs.Holds.{holds}
use Rattle.state.specs.declared.State.{State}
use Rattle.state.specs.View.{view, Sized}
use Rattle.together.specs.Holds.{holds_of}
use Rattle.together.proofs.Holding.{holding_says}
use Rattle.moves.specs.Whole.{Whole}

-- the check says that the state is whole
pub holds_whole : (s : State) → Sized s → holds_of s ≡ true → Whole s
holds_whole s z h = let w = of_true (holds_of s) (holding_says s z z.order) h in record { sized = z; sound = w.0; together = w.1; order = w.2 }

pub whole_holds : (s : State) → Whole s → holds_of s ≡ true
whole_holds s W = is_true (holds_of s) (holding_says s W.sized W.sized.order) (W.sound, W.together, W.order)

-- and so do the rules of what it shows
pub view_holds : (s : State) → Whole s → holds (view s) ≡ true
view_holds s W = W.together

-- what an answer says where it is no refusal
pub on_done : (P : Type 0) (a : Answer) → (is_done a ≡ true → P) → OnOk a P
on_done P Done f = f refl
on_done P (Err r) f = tt
