-- 13: "the state does not hold together"
use Rattle.std.specs.Prelude.{◌≡◌, Bool, true}
use Rattle.state.specs.declared.State.{State}
use Rattle.moves.specs.Whole.{Whole}
use Rattle.together.specs.Holds.{holds_of}

-- does the state hold together, and what that says of it
pub record Checked (s : State) (r : Bool) : Type 0 where
  pub holds : r ≡ holds_of s
  pub whole : r ≡ true → Whole s
