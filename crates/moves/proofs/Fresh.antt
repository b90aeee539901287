-- An admitted table's state at instant 0 is whole, and shows the rules' first state
use Rattle.std.specs.Prelude.{if◌then◌else◌}
use mathlib.Core.Path.{◌≡◌, refl, sym, ◌∙◌, ap}
use mathlib.Core.Bool.{Bool, false}
use mathlib.Core.Option.{Option, none, some}
use mathlib.Core.List.{List, [], ◌∷◌, map}
use Prim.Native.Nat.{ℕ, suc, ◌+◌, ◌*◌, ◌≤◌, ◌<◌}
use native.Mathlib.Omega.{arith}
use lib.ListN.{length, get_or, take, replicate, length-map, length-replicate}
use lib.Seq.{ext_get_or}
use Rattle.table.specs.declared.Table.{Table}
use Rattle.rules.specs.State as Rules
use Rattle.ground.proofs.Ranges.{at_up, all_one}
use Rattle.rules.specs.Planes.{falling, shares_of}
use Rattle.rules.specs.Scale.{scale_of, share_of}
use Rattle.rules.specs.State.{no_row, nobody}
use Rattle.rules.specs.Table.{Row}
use Rattle.rules.proofs.Starting.{Passes, at_fresh, admitted_together}
use Rattle.rules.proofs.Falling.{falling_length}
use Rattle.rules.proofs.Holding.{holds_as}
use Rattle.queue.specs.Queues.{empty_queue, key_in}
use Rattle.queue.proofs.Keys.{none_empty, empty_good}
use Rattle.table.specs.Rows.{row_in, padded}
use Rattle.table.specs.Tabled.{shares_from, table_from}
use Rattle.table.proofs.Admitted.{rows_in_table, share_in_table, order_in_table}
use Rattle.table.proofs.Padding.{padded_take, padded_length}
use Rattle.state.specs.Machine.{work_of, no_slots}
use Rattle.state.specs.View.{Sound, cond_of, cond_in, last_at, task_at, tasks_at, view}
use Rattle.state.specs.Work.{seat}
use Rattle.state.proofs.Closing.{empty_tidy}
use Rattle.moves.specs.Fresh.{fresh_state}
use Rattle.moves.specs.Whole.{Whole}
use Rattle.moves.proofs.Keeping.{tasks_count, task_at_lem, sized_by}

-- the task in a row of a fresh state is a fresh task
fresh_task : (m : ℕ) (rows : List Row) (i : ℕ) → i < length rows → task_at (fresh_state (table_from m rows)) i ≡ Rules.fresh (scale_of rows) (get_or rows i no_row)
unfolding cond_in
fresh_task m rows i h =
    let t = table_from m rows in
    let r : row_in t.period t.exec t.deadline i ≡ get_or rows i no_row =
    sym (at_up (row_in t.period t.exec t.deadline) no_row 0 (length rows) i h ∙ (let z : 0 + i ≡ i = omega arith in ap (row_in t.period t.exec t.deadline) z)) ∙ ap (λ (l : List Row). get_or l i no_row) (rows_in_table m rows) in
    let s = share_in_table m rows i h in
    let k = none_empty empty_queue refl (suc i) in
    let c : cond_of 0 (0 * scale_of rows) (key_in empty_queue (suc i)) (key_in empty_queue (suc i)) (seat (suc i) no_slots) (get_or (replicate 128 false) i false) ≡ Rules.asleep =
    rw (k, all_one false 128 i) in
    let a : last_at (fresh_state t).jobs i ≡ none = ap (λ (b : Bool). if◌then◌else◌ {A = Option ℕ} b (some (get_or (fresh_state t).jobs.last i 0)) none) (all_one false 128 i) in
    (λ x. record { row = r x; share = s x; cond = c x; last = a x })

fresh_tasks : (m : ℕ) (rows : List Row) → tasks_at (fresh_state (table_from m rows)) ≡ map (Rules.fresh (scale_of rows)) rows
fresh_tasks m rows =
    let s = fresh_state (table_from m rows) in
    let n = tasks_count s in
    ext_get_or nobody (tasks_at s) (map (Rules.fresh (scale_of rows)) rows) (n ∙ sym (length-map rows (Rules.fresh (scale_of rows))))
    (λ i h. let b : i < length rows = omega arith in task_at_lem s i b ∙ fresh_task m rows i b ∙ sym (at_fresh (scale_of rows) rows i b))

pub fresh_view : (m : ℕ) (rows : List Row) → view (fresh_state (table_from m rows)) ≡ Rules.admitted m rows
fresh_view m rows x = record { m = m; scale = scale_of rows; now = 0; plane = none; tasks = fresh_tasks m rows x }

pub fresh_sound : (t : Table) → t.count ≤ 128 → t.m ≤ 16 → Sound (fresh_state t)
fresh_sound t few most = empty_tidy t.count (replicate 128 false) (work_of (fresh_state t)) few most empty_good empty_good refl refl refl

pub fresh_whole : (m : ℕ) (rows : List Row) → Passes m rows → Whole (fresh_state (table_from m rows))
fresh_whole m rows P =
    let s = fresh_state (table_from m rows) in
    let S = fresh_sound (table_from m rows) P.size.1 P.processors.1 in
    record {
      sized = sized_by s S (order_room (falling (shares_from rows)) (falling_length (shares_from rows) ∙ length-map rows (share_of (scale_of rows))) P.size.1) (length-replicate {A = Bool} 128 false) (length-replicate {A = Bool} 128 false) (length-replicate {A = ℕ} 128 0);
      sound = S;
      together = holds_as (fresh_view m rows) (admitted_together m rows P);
      order = order_in_table m rows ∙ ap falling (take_shares m rows);
    }
  where
    order_room : {n : ℕ} (v : List ℕ) → length v ≡ n → n ≤ 128 → length (padded v) ≡ 128
    order_room v e h = padded_length v (omega arith)

    take_shares : (m : ℕ) (rows : List Row) → take (length rows) (table_from m rows).share ≡ shares_of (tasks_at (fresh_state (table_from m rows)))
    take_shares m rows =
        let l = scale_of rows in
        padded_take (shares_from rows) (length rows) (length-map rows (share_of l)) ∙ sym (shares_of_lem rows) ∙ ap shares_of (sym (fresh_tasks m rows))
      where
        shares_of_lem : (rs : List Row) → shares_of (map (Rules.fresh (scale_of rows)) rs) ≡ map (share_of (scale_of rows)) rs
        shares_of_lem [] = refl
        shares_of_lem (r ∷ rs) = ap (λ (x : List ℕ). share_of (scale_of rows) r ∷ x) (shares_of_lem rs)
