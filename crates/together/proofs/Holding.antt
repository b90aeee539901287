-- The test of a state says that it holds together; the blank state fails it, and an admitted one passes
use Rattle.std.specs.Prelude.{if◌then◌else◌}
use mathlib.Core.Path.{◌≡◌, refl, sym, ◌∙◌, ap, subst}
use mathlib.Core.Bool.{Bool, true, false}
use mathlib.Core.Option.{none, some}
use mathlib.Core.List.{List, [], ◌∷◌, map}
use Prim.Native.Nat.{ℕ, ◌*◌, ◌≤◌, ◌<◌}
use native.Mathlib.Omega.{arith}
use lib.ListN.{length}
use Rattle.state.specs.declared.State.{State}
use Rattle.ground.specs.Sums.{up_from}
use Rattle.ground.specs.Tests.{Says}
use Rattle.ground.proofs.Sums.{sum_of_map}
use Rattle.ground.proofs.Tests.{leb_says, and_says, says_as}
use Rattle.rules.specs.Holds.{plane_holds}
use Rattle.rules.specs.Planes.{falling, shares_of}
use Rattle.rules.specs.Scale.{scale_of}
use Rattle.rules.specs.State.{Task, at}
use Rattle.rules.proofs.Together.{Lasts, Plane}
use Rattle.rules.proofs.Together as Said
use Rattle.rules.proofs.Holding.{lasts_says, shut_says, going_says, together_is, holds_is}
use Rattle.state.specs.Machine.{work_of}
use Rattle.state.specs.Sound.{sound_of}
use Rattle.state.specs.View.{task_at, tasks_at, view, Sound, Sized}
use Rattle.state.proofs.Lasts.{Known}
use Rattle.state.proofs.Shows.{shows_all}
use Rattle.state.proofs.Sound.{sound_says}
use Rattle.state.proofs.Views.{crew, sound_is}
use Rattle.together.specs.Holds.{clock_ok, plane_ok, arrivals_ok, holds_of, rows_in, shares_in, TableOk, OrderOk, Holding}
use Rattle.together_rows.specs.Tables.{table_ok}
use Rattle.together.proofs.Clauses.{lasts_same, plane_same}
use Rattle.together_rows.proofs.Folds.{and_then, and_after}
use Rattle.together.proofs.Seats.{seats_of}
use Rattle.together.proofs.Tables.{scale_low, table_ok_says, order_ok_says}
use Rattle.rules.specs.Bounds.{clock}

-- THE TABLE, AS THE RULES SEE IT
map_map : {A B C : Type 0} (f : B → C) (g : A → B) (l : List A) → map f (map g l) ≡ map (λ x. f (g x)) l
map_map f g [] = refl
map_map f g (x ∷ l) = ap (λ (k : List _). f (g x) ∷ k) (map_map f g l)

module _ (s : State) where
  size : length (tasks_at s) ≡ s.table.count
  size = (shows_all (crew s) (work_of s)).size

  task : (i : ℕ) → i < s.table.count → at i (tasks_at s) ≡ task_at s i
  task = (shows_all (crew s) (work_of s)).each

  rows_same : map (λ (t : Task). t.row) (tasks_at s) ≡ rows_in s.table
  rows_same = map_map (λ (t : Task). t.row) (task_at s) (up_from 0 s.table.count)

  pub shares_same : shares_of (tasks_at s) ≡ shares_in s.table
  shares_same = map_map (λ (t : Task). t.share) (task_at s) (up_from 0 s.table.count)

  pub table_rules : TableOk s.table → Said.Table s.table.m s.table.scale (tasks_at s)
  table_rules T =
      record {
        processors = T.processors;
        size = (omega (arith, size, T.size), omega (arith, size, T.size));
        ranges = λ j h. let b : j < s.table.count = omega (arith, size) in rw (task j b) (T.rows j b).0;
        exec = λ j h. let b : j < s.table.count = omega (arith, size) in rw (task j b) (T.rows j b).1;
        scale_is = T.scale_is ∙ ap scale_of (sym rows_same);
        scale_most = T.scale_most;
        share_is = λ j h. let b : j < s.table.count = omega (arith, size) in rw (task j b) (T.share_is j b);
        sum = omega (arith, T.sum, sum_of_map (λ (t : Task). t.share) (task_at s) (up_from 0 s.table.count));
      }

  pub rules_table : Said.Table s.table.m s.table.scale (tasks_at s) → TableOk s.table
  rules_table T =
      record {
        processors = T.processors;
        size = (omega (arith, size, T.size), omega (arith, size, T.size));
        rows = λ i h. (rw (task i h) at (T.ranges i (omega (arith, size))), rw (task i h) at (T.exec i (omega (arith, size))));
        scale_is = T.scale_is ∙ ap scale_of rows_same;
        scale_most = T.scale_most;
        share_is = λ i h. rw (task i h) at (T.share_is i (omega (arith, size)));
        sum = omega (arith, T.sum, sum_of_map (λ (t : Task). t.share) (task_at s) (up_from 0 s.table.count));
      }

  -- the rules' tests of the plane and of the last arrivals say their parts
  plane_says : Sound s → Known (tasks_at s) → 0 < s.table.scale → Says (Plane (view s) (view s).plane) (plane_ok s)
  plane_says S K p = subst (Says (Plane (view s) (view s).plane)) (plane_same s S K p) (go s.going)
    where
      go : (b : Bool) → Says (Plane (view s) (if b then some s.end else none)) (plane_holds (view s) (if b then some s.end else none))
      go true = going_says (view s) s.end p
      go false = shut_says (view s)

  arrivals_says : Sound s → 0 < s.table.scale → Says (Lasts s.table.scale s.now.0 (tasks_at s)) (arrivals_ok s)
  arrivals_says S p = subst (Says (Lasts s.table.scale s.now.0 (tasks_at s))) (lasts_same s S p) (lasts_says (view s))

  -- THE LAW
  pub holding_says : Sized s → length s.table.order ≡ 128 → Says (Holding s) (holds_of s)
  unfolding holds_of
  holding_says z o =
      says_as (holds_of s) to from
      (and_then (TableOk s.table) _ (table_ok s.table) _ (table_ok_says s.table) (λ T.
      (and_says _ _ (clock_ok s) _ (leb_says s.now.0 (clock * s.table.scale))
      (and_then (Sound s) _ (sound_of s) _ (sound_says s z) (λ S.
      (and_after (Plane (view s) (view s).plane) _ (plane_ok s) _ (λ L. plane_says S L.0.known (scale_low s.table T))
      (and_says _ _ (arrivals_ok s) _ (arrivals_says S (scale_low s.table T)) (order_ok_says s.table T.size.1 o))))))))
    where
      Parts : Type 0
      Parts =
          TableOk s.table × ((s.now.0 ≤ clock * s.table.scale) × (Sound s × (Plane (view s) (view s).plane × (Lasts s.table.scale s.now.0 (tasks_at s) × OrderOk s.table))))

      to : Parts → Holding s
      to h =
          let S = h.1.1.0 in (
            S,
            holds_is (view s) (record { table = table_rules h.0; clock = h.1.0; seats = seats_of (sound_is s S); lasts = h.1.1.1.1.0; plane = h.1.1.1.0 }),
            h.1.1.1.1.1 ∙ ap falling (sym shares_same),
          )

      from : Holding s → Parts
      from h =
          let T = together_is (view s) h.1 in
          (rules_table T.table, (T.clock, (h.0, (T.plane, (T.lasts, h.2 ∙ ap falling shares_same)))))
