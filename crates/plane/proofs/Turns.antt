-- The loops of the B events and of the C events: what is left to do is all there was to do
use mathlib.Core.Path.{◌≡◌, refl, sym, ◌∙◌, ap, subst}
use mathlib.Core.Bool.{Bool, true, false}
use Prim.Native.Nat.{ℕ, zero, suc, ◌≤◌, ◌<◌}
use native.Mathlib.Omega.{arith}
use Rattle.state.specs.Fit.{Fit, Yields, Yielding, Eventful}
use Rattle.state.specs.Work.{Work, top_place, rest_top, unqueue, b_one, c_one, b_due, c_due, size, b_turns, b_all, c_turns, c_all}
use Rattle.state.proofs.Fit.{fit_rest, fit_unqueue, fit_b, fit_c}
use Rattle.state.proofs.Giving.{due_some, size_b, turns_end, turns_on}
use Rattle.state.proofs.Seizing.{c_stays, c_goes}
use Rattle.plane.specs.Lent.{Critical}

-- A WORK THAT FITS, WHOEVER ITS TASKS ARE
module _ {w : Work} (f : Fit w) where
  pub fits_rest : 0 < w.running.len → Fit (rest_top (top_place w) w)
  fits_rest h = record { count = f.count; awake = f.awake; timely = fit_rest f.timely h }

  pub fits_unqueue : 0 < w.waiting.len → Fit (unqueue w)
  fits_unqueue h = record { count = f.count; awake = f.awake; timely = fit_unqueue f.timely h }

  pub fits_b : 0 < w.running.len → Fit (b_one w)
  fits_b h = record { count = f.count; awake = f.awake; timely = fit_b f.timely h }

  pub fits_c : 0 < w.waiting.len → Yields w → Fit (c_one w)
  fits_c h y = record { count = f.count; awake = f.awake; timely = fit_c f.timely h y }

-- somebody runs, or waits, where somebody is due
pub b_some : (w : Work) → b_due w ≡ true → 0 < w.running.len
b_some w e = (due_some w.running.keys w.running.len w.now e).0

pub c_some : (w : Work) → c_due w ≡ true → 0 < w.waiting.len
c_some w e = (due_some w.waiting.keys w.waiting.len w.now e).0

-- THE B EVENTS
pub record Turning (w₀ w : Work) : Type 0 where
  pub fit : Fit w
  pub fuel : ℕ
  pub enough : size w ≤ fuel
  pub left : b_turns fuel w ≡ b_all w₀

pub turning_from : {w : Work} → Fit w → Turning w w
unfolding b_all
turning_from {w} f = record { fit = f; fuel = size w; enough = omega arith; left = refl }

module _ {w₀ w : Work} (t : Turning w₀ w) where
  turn : b_due w ≡ true → Turning w₀ (b_one w)
  turn e =
      let on = turns_on t.fuel w t.enough e in
      record { fit = fits_b t.fit (b_some w e); fuel = on.0; enough = on.1; left = sym on.2 ∙ t.left }

  pub turning_on : {v : Work} → b_due w ≡ true → v ≡ b_one w → Turning w₀ v
  turning_on e v = subst (λ (x : Work). Turning w₀ x) (sym v) (turn e)

  pub turning_end : b_due w ≡ false → w ≡ b_all w₀
  turning_end e = sym (turns_end t.fuel w e) ∙ t.left

-- the work fits after any number of turns
fits_turns : (n : ℕ) (w : Work) → Fit w → Fit (b_turns n w)
unfolding b_turns
fits_turns zero w f = f
fits_turns (suc n) w f = go (b_due w) refl (fits_turns n (b_one w))
  where
    go : (b : Bool) → b_due w ≡ b → (Fit (b_one w) → Fit (b_turns n (b_one w))) → Fit (elim b [ true ↦ b_turns n (b_one w) | false ↦ w ])
    go true e g = g (fits_b f (b_some w e))
    go false e g = f

pub fits_b_all : {w : Work} → Fit w → Fit (b_all w)
unfolding b_all
fits_b_all {w} f = fits_turns (size w) w f

-- fewer run or wait after a turn
pub turn_less : (w v : Work) → b_due w ≡ true → v ≡ b_one w → size v < size w
turn_less w v e z = omega (arith, size_b w (b_some w e), ap (λ (x : Work). size x) z)

-- THE C EVENTS, with n turns left
pub record Seizing (w₀ w : Work) (n : ℕ) : Type 0 where
  pub fit : Fit w
  pub yields : Yielding n w
  pub left : c_turns n w ≡ c_all w₀

pub seizing_from : {w : Work} {n : ℕ} → Critical w → n ≡ w.waiting.len → Seizing w w n
unfolding c_all
seizing_from {w} k e = rw e (record { fit = k.fit; yields = k.yields; left = refl })

module _ {w₀ w : Work} where
  pub seizing_yields : (n : ℕ) → 0 < n → Seizing w₀ w n → c_due w ≡ true → Yields w
  seizing_yields zero h t e = absurd (omega arith)
  seizing_yields (suc n) h t e = (t.yields e).0

  on : (n : ℕ) → Seizing w₀ w (suc n) → c_due w ≡ true → Seizing w₀ (c_one w) n
  on n t e = record { fit = fits_c t.fit (c_some w e) (t.yields e).0; yields = (t.yields e).1; left = sym (c_goes n w e) ∙ t.left }

  pub seizing_on : {n k : ℕ} → n ≡ suc k → Seizing w₀ w n → c_due w ≡ true → {v : Work} → v ≡ c_one w → Seizing w₀ v k
  seizing_on {n} {k} z t e v = subst (λ (x : Work). Seizing w₀ x k) (sym v) (on k (subst (λ (x : ℕ). Seizing w₀ w x) z t) e)

  pub seizing_stays : (n : ℕ) → Seizing w₀ w n → c_due w ≡ false → w ≡ c_all w₀
  seizing_stays n t e = sym (c_stays n w e) ∙ t.left

  pub seizing_out : (n : ℕ) → n ≡ 0 → Seizing w₀ w n → w ≡ c_all w₀
  unfolding c_turns
  seizing_out zero e t = t.left
  seizing_out (suc n) e t = absurd (omega arith)

-- after the B events, the C events find what they need
pub after_b : {w v : Work} → Eventful w → v ≡ b_all w → Critical v
after_b e b = subst (λ (x : Work). Critical x) (sym b) (record { fit = fits_b_all e.fit; yields = e.yields })
