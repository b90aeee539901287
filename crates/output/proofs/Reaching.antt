-- Steps with one horizon: a run of a + b records is a run of a, then of b; and none is left once the horizon is reached
use mathlib.Core.Path.{◌≡◌, refl, sym, ◌∙◌, ap, subst}
use mathlib.Core.Bool.{true, false}
use mathlib.Core.List.{List, [], ◌∷◌, ◌++◌, append_assoc, append-nil}
use Prim.Native.Nat.{ℕ, zero, suc, ◌+◌, ◌*◌, ◌≤◌, ◌<◌}
use native.Mathlib.Omega.{arith}
use lib.ListN.{length, replicate, length-replicate}
use Rattle.rules.specs.Answers.{Done, is_done}
use Rattle.rules.specs.State.{State}
use Rattle.rules.specs.Record.{Record, read_record}
use Rattle.rules.proofs.Holding.{together_is}
use Rattle.rules.proofs.Together.{Together}
use Rattle.rules.specs.Reasons.{StepReason}
use Rattle.rules.specs.Calls.{moving, step_answer, step, Stepped}
use Rattle.rules.specs.Run.{Arrival, Run, perform, starting}
use Rattle.rules.specs.Listings.{towards, steps_to, reach}
use Rattle.rules.proofs.Calls.{moving_keeps, moving_moves}
use Rattle.rules.proofs.Jobs.{by_answer}
use Rattle.rules.proofs.Refusing.{step_answers}

-- ONE STEP
pub steps_more : (n tick : ℕ) (r : Run) → is_done (step_answer r.state tick 48) ≡ true → steps_to (suc n) tick r ≡ steps_to n tick (perform r (towards tick))
unfolding steps_to
steps_more n tick r d = rw (steps_to, d)

pub steps_none : (n tick : ℕ) (r : Run) → is_done (step_answer r.state tick 48) ≡ false → steps_to n tick r ≡ r
unfolding steps_to
steps_none zero tick r d = refl
steps_none (suc n) tick r d = rw (steps_to, d)

-- done or refused
pub by_step : (P : Type 0) (s : State) (tick : ℕ) → (step_answer s tick 48 ≡ Done → P) → (is_done (step_answer s tick 48) ≡ false → P) → P
by_step P s tick f g = by_answer P (step_answer s tick 48) f g

-- A RUN OF a + b RECORDS IS A RUN OF a, THEN OF b
pub steps_split : (a b tick : ℕ) (r : Run) → steps_to (a + b) tick r ≡ steps_to b tick (steps_to a tick r)
unfolding steps_to
steps_split zero b tick r = let e : 0 + b ≡ b = omega arith in ap (λ (x : ℕ). steps_to x tick r) e
steps_split (suc a) b tick r =
    let c : suc a + b ≡ suc (a + b) = omega arith in
    ap (λ (x : ℕ). steps_to x tick r) c ∙ by_step _ r.state tick
    (λ d. steps_more (a + b) tick r (ap is_done d) ∙ steps_split a b tick (perform r (towards tick)) ∙ ap (steps_to b tick) (sym (steps_more a tick r (ap is_done d))))
    (λ e. steps_none (suc (a + b)) tick r e ∙ sym (steps_none b tick r e) ∙ ap (steps_to b tick) (sym (steps_none (suc a) tick r e)))

-- THE RECORDS SO FAR
abbrev pub from : Run → List Record → Run
from r rs = record { state = r.state; records = rs ++ r.records; arrivals = r.arrivals }

-- a step with room for one record
abbrev stepped : State → ℕ → Stepped
stepped s tick = step s tick (replicate 48 0)

pub perform_step : (r : Run) (tick : ℕ) → step_answer r.state tick 48 ≡ Done
    → perform r (towards tick) ≡ record { state = (moving r.state tick).state; records = r.records ++ (read_record (stepped r.state tick).room ∷ []); arrivals = r.arrivals }
unfolding perform step
perform_step r tick d =
    let n : length (replicate {A = ℕ} 48 0) ≡ 48 = length-replicate {A = ℕ} 48 0 in
    rw (n, d)

-- what stands before a run's records stays there
perform_from : (rs : List Record) (r : Run) (tick : ℕ) → step_answer r.state tick 48 ≡ Done → perform (from r rs) (towards tick) ≡ from (perform r (towards tick)) rs
perform_from rs r tick d =
    perform_step (from r rs) tick d
    ∙ ap (λ (l : List Record). record { state = (moving r.state tick).state; records = l; arrivals = r.arrivals }) (append_assoc rs r.records (read_record (stepped r.state tick).room ∷ []))
    ∙ ap (λ (x : Run). from x rs) (sym (perform_step r tick d))

pub steps_from : (n tick : ℕ) (rs : List Record) (r : Run) → steps_to n tick (from r rs) ≡ from (steps_to n tick r) rs
unfolding steps_to
steps_from zero tick rs r = refl
steps_from (suc n) tick rs r =
    by_step _ r.state tick
    (λ d. steps_more n tick (from r rs) (ap is_done d) ∙ ap (steps_to n tick) (perform_from rs r tick d) ∙ steps_from n tick rs (perform r (towards tick))
    ∙ ap (λ (x : Run). from x rs) (sym (steps_more n tick r (ap is_done d))))
    (λ e. steps_none (suc n) tick (from r rs) e ∙ ap (λ (x : Run). from x rs) (sym (steps_none (suc n) tick r e)))

-- ONCE THE HORIZON IS REACHED, NO STEP IS LEFT
-- a step that is taken moves on, and what holds together still does
pub record Onward (s k : State) : Type 0 where
  pub together : Together k
  pub later : s.now < k.now
  pub scale : k.scale ≡ s.scale
  pub m : k.m ≡ s.m

pub step_onward : (s : State) (tick : ℕ) → step_answer s tick 48 ≡ Done → Onward s (moving s tick).state
step_onward s tick d =
    let R = subst (StepReason s tick 48) d (step_answers s tick 48) in
    let T = together_is s R.0 in
    let M = moving_moves s tick T R.3 in
    record { together = moving_keeps s tick T R.3 R.2; later = omega (arith, M.from_now, M.later, M.arrives); scale = M.same_scale; m = M.same_m }

-- refused at or past the horizon
past : (s : State) (tick : ℕ) → tick * s.scale ≤ s.now → is_done (step_answer s tick 48) ≡ false
past s tick h = by_step _ s tick (λ d. let R = subst (StepReason s tick 48) d (step_answers s tick 48) in absurd (omega (arith, R.3))) (λ e. e)

-- as many steps as sub-ticks are left are enough
pub steps_stop : (n tick : ℕ) (r : Run) → tick * r.state.scale ≤ r.state.now + n → is_done (step_answer (steps_to n tick r).state tick 48) ≡ false
unfolding steps_to
steps_stop zero tick r h = past r.state tick (omega (arith, h))
steps_stop (suc n) tick r h =
    by_step _ r.state tick
    (λ d.
    let O = step_onward r.state tick d in
    let e = perform_step r tick d in
    let s : (perform r (towards tick)).state ≡ (moving r.state tick).state = ap (λ (x : Run). x.state) e in
    let now : (perform r (towards tick)).state.now ≡ (moving r.state tick).state.now = ap (λ (x : State). x.now) s in
    let scale : tick * (perform r (towards tick)).state.scale ≡ tick * r.state.scale = ap (λ (x : State). tick * x.scale) s ∙ ap (λ (k : ℕ). tick * k) O.scale in
    subst (λ (x : Run). is_done (step_answer x.state tick 48) ≡ false) (sym (steps_more n tick r (ap is_done d)))
    (steps_stop n tick (perform r (towards tick)) (omega (arith, h, O.later, now, scale))))
    (λ e. subst (λ (x : Run). is_done (step_answer x.state tick 48) ≡ false) (sym (steps_none (suc n) tick r e)) e)

-- more steps change nothing
pub steps_enough : (n k tick : ℕ) (r : Run) → tick * r.state.scale ≤ r.state.now + n → steps_to (n + k) tick r ≡ steps_to n tick r
steps_enough n k tick r h = steps_split n k tick r ∙ steps_none k tick (steps_to n tick r) (steps_stop n tick r h)

-- the scale and m of a run stay
pub steps_keep : (n tick : ℕ) (r : Run) → ((steps_to n tick r).state.scale ≡ r.state.scale) × ((steps_to n tick r).state.m ≡ r.state.m)
unfolding steps_to
steps_keep zero tick r = (refl, refl)
steps_keep (suc n) tick r =
    by_step _ r.state tick
    (λ d.
    let O = step_onward r.state tick d in
    let s : (perform r (towards tick)).state ≡ (moving r.state tick).state = ap (λ (x : Run). x.state) (perform_step r tick d) in
    let k = steps_keep n tick (perform r (towards tick)) in
    let e = steps_more n tick r (ap is_done d) in
    (ap (λ (x : Run). x.state.scale) e ∙ k.0 ∙ ap (λ (x : State). x.scale) s ∙ O.scale, ap (λ (x : Run). x.state.m) e ∙ k.1 ∙ ap (λ (x : State). x.m) s ∙ O.m))
    (λ f. let e = steps_none (suc n) tick r f in (ap (λ (x : Run). x.state.scale) e, ap (λ (x : Run). x.state.m) e))

-- REACHING A TICK, after some records on the way
pub reach_on : (n tick : ℕ) (s : State)
    → reach tick (starting s) ≡ from (reach tick (starting (steps_to n tick (starting s)).state)) (steps_to n tick (starting s)).records
reach_on n tick s =
    let r = starting s in
    let g = steps_to n tick r in
    let f = suc (tick * s.scale) in
    let k = starting g.state in
    let sc : tick * g.state.scale ≡ tick * s.scale = ap (λ (x : ℕ). tick * x) (steps_keep n tick r).0 in
    let same : from k g.records ≡ g = went_of g (arrivals n tick r refl) in
    let comm : f + n ≡ n + f = omega arith in
    sym (steps_enough f n tick r (omega arith))
    ∙ ap (λ (x : ℕ). steps_to x tick r) comm
    ∙ steps_split n f tick r
    ∙ ap (steps_to f tick) (sym same)
    ∙ steps_from f tick g.records k
    ∙ ap (λ (x : ℕ). from (steps_to (suc x) tick k) g.records) (sym sc)
  where
    went_of : (g : Run) → g.arrivals ≡ [] → from (starting g.state) g.records ≡ g
    went_of g e = ap (λ (l : List Record). record { state = g.state; records = l; arrivals = [] }) (append-nil g.records) ∙ ap (λ (l : List Arrival). record { state = g.state; records = g.records; arrivals = l }) (sym e)

    arrivals : (n tick : ℕ) (r : Run) → r.arrivals ≡ [] → (steps_to n tick r).arrivals ≡ []
    arrivals zero tick r e = unfold steps_to in e
    arrivals (suc n) tick r e =
        by_step _ r.state tick
        (λ d. ap (λ (x : Run). x.arrivals) (steps_more n tick r (ap is_done d)) ∙ arrivals n tick (perform r (towards tick)) (ap (λ (x : Run). x.arrivals) (perform_step r tick d) ∙ e))
        (λ f. ap (λ (x : Run). x.arrivals) (steps_none (suc n) tick r f) ∙ e)

-- at the tick, or past it, no step is taken
pub reach_none : (tick : ℕ) (s : State) → tick * s.scale ≤ s.now → reach tick (starting s) ≡ starting s
reach_none tick s h = steps_none (suc (tick * s.scale)) tick (starting s) (past s tick h)
