use mathlib.Core.Path.{sym, ◌∙◌, refl, subst}
use native.Mathlib.Omega.{arith}
use Rattle.state.specs.Fit.{Fit}
use Rattle.state.proofs.Fit.{top_seat}
use Rattle.plane.proofs.Works.{rest_is}
use Rattle.plane.proofs.Turns.{fits_rest}
use Rattle.plane.proofs.b_one.Goals as goal

pub rest_top-requires : goal.rest_top-requires
rest_top-requires c =
    record {
      held = let f = c.requires.fit.1.timely in
          (c.requires.fit.0, f.tidy.running.fits, omega (arith, c.top_place-p.ensures.is, (top_seat f c.requires.fit.0).1));
    }

pub give_top-requires : goal.give_top-requires
give_top-requires c =
    record {
      fit = let q = c.requires.fit in
          let a = c.args.plane in
          let e = c.top_place-p.ensures.is in (
            omega (arith, e, (top_seat q.1.timely q.0).1),
            subst Fit (sym (c.rest_top.ensures.is a.m a.now.0 a.close.0 ∙ rest_is e refl)) (fits_rest q.1 q.0),
          );
    }
