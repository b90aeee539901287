-- The opened state is whole too, and what the code asks of it
use Rattle.std.specs.Prelude.{if◌then◌else◌}
use mathlib.Core.Path.{◌≡◌, refl, sym, ◌∙◌, ap, subst}
use mathlib.Core.Bool.{Bool, true, false}
use mathlib.Core.Option.{Option, none, some}
use mathlib.Core.List.{List}
use Prim.Native.Nat.{ℕ, ◌+◌, ◌*◌, ◌-◌, ◌≤◌, ◌<◌}
use native.Mathlib.Nat.{mul-le-mul_right, mul-le-mul_left, le_of_mul-le-mul_right}
use native.Mathlib.Omega.{arith}
use lib.Dec.{lit≤, lit<}
use lib.ListN.{length, take}
use Rattle.table.specs.declared.Table.{Table}
use Rattle.state.specs.declared.Jobs.{Jobs}
use Rattle.state.specs.declared.State.{State}
use Rattle.rules.specs.State as Rules
use Rattle.plane.specs.Rows as Cols
use Rattle.plane.specs.Rows.{rows}
use Rattle.plane.proofs.Rows.{end_of_rows}
use Rattle.state.specs.Work.{Work, enter_all}
use Rattle.rules.specs.Planes.{end_of, open_tasks, opened}
use Rattle.rules.specs.State.{Task, at, short, is_awake, last_of}
use Rattle.rules.proofs.Together.{Together}
use Rattle.rules.proofs.Calls.{shut_parts}
use Rattle.rules.proofs.Keeping.{Running, not_both, end_later, opens_plane}
use Rattle.rules.proofs.Standing.{Facts, facts}
use Rattle.state.specs.Fit.{Opens}
use Rattle.state.specs.Machine.{with_work, opens_to, tick_at, work_of, plane_end, begun, opened_of}
use Rattle.state.specs.View.{tasks_at, plane_of, view}
use Rattle.state.proofs.Opening.{end_same}
use Rattle.state.proofs.Step.{opened_view}
use Rattle.state.proofs.Views.{sound_is}
use Rattle.plane.specs.Rows.{Came}
use Rattle.plane.proofs.Ready.{came_ready, open_ready}
use Rattle.moves.specs.Whole.{Whole}
use Rattle.moves.proofs.Keeping.{tasks_count, order_kept, opened_table, sized_by, shares_fit, can_step, together_of}
use Rattle.rules.specs.Bounds.{clock, most_scale, most_ticks}
use Rattle.rules.proofs.Cases.{open_case}
use Rattle.rules.proofs.Lasts.{awake_last}
use Rattle.rules.proofs.Holding.{holds_as}

-- BOUNDS
-- a plane's end lies at most two periods past the clock
pub end_small : {m scale now e : ℕ} (l : List Task) → Running m scale now e l → now ≤ clock * scale → e ≤ 4297064447
end_small {m} {scale} {now} {e} l P h = go (is_awake (at 0 l).cond) refl
  where
    F : Facts m scale l
    F = facts l P.table

    inside : 0 < length l
    inside = F.size

    q_small : short (at 0 l) ≤ most_ticks
    q_small = let r = P.table.ranges 0 inside in let a = r.0.1 in omega arith

    last_small : (a : ℕ) → (at 0 l).last ≡ some a → a ≤ clock
    last_small a q = le_of_mul-le-mul_right (omega (arith, P.lasts.came 0 a q)) F.scale_pos

    go : (b : Bool) → is_awake (at 0 l).cond ≡ b → e ≤ 4297064447
    go true w = omega (arith, P.going.due 0 w, last_small (last_of (at 0 l)) (awake_last P.lasts 0 w), q_small)
    go false w =
        let p_small = (P.table.ranges 0 inside).0.1 in
        let t = clock + most_ticks in
        let late : now ≤ t * scale = let le : clock ≤ clock + most_ticks = lit≤ tt in omega (arith, mul-le-mul_right scale le) in
        omega (arith, P.going.free 0 inside (λ v. not_both ⊥ (sym w ∙ v)) t late (λ a q. omega (arith, last_small a q, p_small)), q_small)

-- so its end as an instant fits 64 bits
pub instant_small : (e scale : ℕ) → e ≤ 4297064447 → scale ≤ most_scale → e * scale < 18446744073709551616
instant_small e scale h k =
    let b : 4297064447 * most_scale < 18446744073709551616 = lit< tt in
    omega (arith, mul-le-mul_right scale h, mul-le-mul_left 4297064447 k)

-- OPENED
pub opened_together : (r : Rules.State) → Together r → Together (opened r)
unfolding opened
opened_together r H = go r.plane refl
  where
    go : (p : Option ℕ) → r.plane ≡ p → Together (open_case r p)
    go none q = (
        let O = (opens_plane r.tasks (shut_parts r H q)).running in
        record { table = O.table; clock = H.clock; seats = O.seats; lasts = O.lasts; plane = O.going })
    go (some e) q = H

pub open_whole : (s : State) → Whole s → Whole (opened_of s) × ((opened_of s).going ≡ true)
open_whole s W =
    let O = opened_view s W.sound (can_step s W) in
    let K = opened_table s in
    let o = opened_of s in (
      record {
        sized = sized_by o O.sound (ap (λ (t : Table). length t.order) K.0 ∙ W.sized.order) (ap (λ (j : Jobs). length j.awake) K.1 ∙ W.sized.awake)
            (ap (λ (j : Jobs). length j.arrived) K.1 ∙ W.sized.arrived) (ap (λ (j : Jobs). length j.last) K.1 ∙ W.sized.last);
        sound = O.sound;
        together = holds_as O.same (opened_together (view s) (together_of W));
        order = order_kept s o K.0 W.order;
      },
      O.on,
    )

-- WHAT THE OPENING ASKS
pub record CanOpen (s : State) (tick e : ℕ) : Type 0 where
  pub scale_pos : 0 < s.table.scale
  pub some_row : 0 < s.table.count
  pub came : Came s.jobs.awake s.jobs.last s.table.count tick
  pub later : tick ≤ e
  pub small : e * s.table.scale < 18446744073709551616
  pub ready : Opens (work_of (begun s e)) s.table.order s.table.share s.table.count (e - tick)

pub can_open : (s : State) → Whole s → s.going ≡ false → CanOpen s (tick_at s) (plane_end s.table s.jobs (tick_at s))
can_open s W off =
    let l = tasks_at s in
    let H = together_of W in
    let q : plane_of s ≡ none = ap (λ b. if b then some s.end else none) off in
    let R = shut_parts (view s) H q in
    let F = facts l H.table in
    let I = sound_is s W.sound in
    let tick = tick_at s in
    let e = plane_end s.table s.jobs tick in
    let n : 0 < s.table.count = omega (arith, F.size, tasks_count s) in
    let same : end_of tick l ≡ e = end_same s l I H.lasts.known tick n in
    let O = (opens_plane l R).running in
    let lt = end_later l R in
    let small : end_of tick l ≤ 4297064447 = end_small (open_tasks s.table.m (end_of tick l - tick) l) O H.clock in
    let fits : e * s.table.scale < 18446744073709551616 = instant_small e s.table.scale (omega arith) H.table.scale_most in
    let whole : s.now.0 ≡ tick * s.table.scale = sym R.shut.whole in
    record {
      scale_pos = F.scale_pos;
      some_row = n;
      came = came_ready s l I F.scale_pos H.lasts tick (omega arith) (omega arith);
      later = omega arith;
      small = fits;
      ready = open_ready s l I tick e whole (omega arith) fits (λ i h. (shares_fit s W i h).1) W.sized.order W.order;
    }

-- an open plane stays
pub opened_on : (s : State) → s.going ≡ true → s ≡ opened_of s
unfolding opened_of
opened_on s on = sym (ap (λ (b : Bool). if b then s else opens_to s (tick_at s) (plane_end s.table s.jobs (tick_at s))) on)

-- a new plane, by the work that was put into it
pub opened_off : (s : State) → s.going ≡ false → (e : ℕ) → e ≡ plane_end (rows s.table.period s.table.deadline s.table.count) (Cols.jobs s.jobs.awake s.jobs.last) (tick_at s)
    → (w : Work) → w ≡ enter_all s.jobs.awake s.table.share (e - tick_at s) (take s.table.count s.table.order) (work_of (begun s e)) → with_work (begun s e) w ≡ opened_of s
unfolding opened_of opens_to
opened_off s off e q w h =
    let tick = tick_at s in
    let z : e ≡ plane_end s.table s.jobs tick = q ∙ end_of_rows s.table s.jobs tick in
    ap (λ (x : Work). with_work (begun s e) x) h
    ∙ ap (λ (x : ℕ). with_work (begun s x) (enter_all s.jobs.awake s.table.share (x - tick) (take s.table.count s.table.order) (work_of (begun s x)))) z
    ∙ sym (ap (λ (b : Bool). if b then s else with_work (begun s (plane_end s.table s.jobs tick)) (enter_all s.jobs.awake s.table.share (plane_end s.table s.jobs tick - tick) (take s.table.count s.table.order) (work_of (begun s (plane_end s.table s.jobs tick))))) off)

-- the same of an end that the code has found
pub can_open_to : (s : State) → Whole s → s.going ≡ false → (e : ℕ) → e ≡ plane_end (rows s.table.period s.table.deadline s.table.count) (Cols.jobs s.jobs.awake s.jobs.last) (tick_at s)
    → CanOpen s (tick_at s) e
can_open_to s W off e q = subst (CanOpen s (tick_at s)) (sym (q ∙ end_of_rows s.table s.jobs (tick_at s))) (can_open s W off)
