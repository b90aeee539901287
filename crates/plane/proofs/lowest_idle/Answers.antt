use mathlib.Core.Path.{◌∙◌}
use lib.ListN.{take}
use Rattle.plane.proofs.Seeking.{seat_position}
use Rattle.plane.proofs.lowest_idle.Goals as goal

pub returns : goal.returns
returns c = record { is = c.seat_of.ensures.is ∙ seat_position 0 (take c.args.m c.args.slots.now) }
