-- What the moves and the events leave alone: m, the present and the end
use Rattle.std.specs.Prelude.{if◌then◌else◌}
use mathlib.Core.Path.{◌≡◌, refl, ◌∙◌}
use mathlib.Core.Bool.{Bool, true, false}
use Rattle.state.specs.Work.{Work}

pub record Frame (w v : Work) : Type 0 where
  pub m : v.m ≡ w.m
  pub now : v.now ≡ w.now
  pub end : v.end ≡ w.end

pub frame_self : (w : Work) → Frame w w
frame_self w = record { m = refl; now = refl; end = refl }

pub frame_then : {u v w : Work} → Frame u v → Frame v w → Frame u w
frame_then a b = record { m = b.m ∙ a.m; now = b.now ∙ a.now; end = b.end ∙ a.end }

pub frame_if : {w : Work} (b : Bool) {u v : Work} → Frame w u → Frame w v → Frame w (if b then u else v)
frame_if true f g = f
frame_if false f g = g
