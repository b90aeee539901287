use mathlib.Core.Path.{sym, ◌∙◌}
use Rattle.state.specs.View.{Sized}
use Rattle.refusals.proofs.Checking.{holds_whole}
use Rattle.refusals.proofs.check.Goals as goal

pub returns : goal.returns
returns c =
    let e = c.holds.ensures.is in
    let p = c.places.ensures.is in
    let size : Sized _ = record {
      order = p.0;
      awake = p.1;
      arrived = c.told-arrived;
      last = c.told-last;
      running_keys = c.measure.ensures.is.0;
      running_tasks = c.measure.ensures.is.1;
      waiting_keys = c.measure-2.ensures.is.0;
      waiting_tasks = c.measure-2.ensures.is.1;
      slots = p.2;
    } in
    record { is = record { holds = e; whole = λ r. holds_whole _ size (sym e ∙ r) } }
