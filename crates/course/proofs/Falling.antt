-- Each turn leaves less to do
use Rattle.std.specs.Prelude.{if◌then◌else◌, Option, Some, None, Ok, Err}
use mathlib.Core.Path.{◌≡◌, sym, subst}
use mathlib.Core.Bool.{Bool, true, false}
use mathlib.Core.List.{List}
use Prim.Native.Nat.{ℕ, ◌+◌, ◌*◌, ◌<◌}
use native.Mathlib.Omega.{arith}
use lib.Dec.{ltb, eqb}
use lib.ListN.{length}
use Rattle.ground.specs.Tests.{Says}
use Rattle.ground.proofs.Tests.{ltb_says}
use Rattle.rules.specs.Answers.{Answer}
use Rattle.rules.proofs.Keeping.{not_both}
use Rattle.state.specs.declared.State.{State}
use Rattle.admission.specs.declared.Admitted.{Admitted}
use Rattle.calls.specs.declared.Arrived.{Arrived}
use Rattle.calls.specs.declared.Ran.{Ran}
use Rattle.admission.specs.Admit.{admit_of}
use Rattle.calls.specs.Arrive.{arrive_of}
use Rattle.calls.specs.Run.{run_of}
use Rattle.text.specs.declared.Item.{Item}
use Rattle.text.specs.declared.Item.TheVariants.{Processors, Task, Arrive, Until}
use Rattle.text.specs.Form.{Checked, form_of}
use Rattle.text.specs.Meaning.{items_of, line_at, processors_in, table_of}
use Rattle.text.proofs.Walks.{next_later, next_within}
use Rattle.course.specs.declared.Stage.{Stage}
use Rattle.course.specs.declared.Stage.TheVariants.{Start, Lines, Ended}
use Rattle.course.specs.declared.Cursor.{Cursor}
use Rattle.course.specs.declared.Deed.TheVariants.{Run, Arrival, Finish}
use Rattle.course.specs.declared.Turned.{Turned}
use Rattle.course.specs.Turns.{turned, is_ended, line_after, admitted_on, admitted_of, start_by, start_of, arrival_on, arrival_of, ran_on, ran_of, item_deed, line_deed, deed_by, turn_by, turn_of}
use Rattle.course.specs.Moves.{Moves, instants, left_by, left, Falls}

-- what is left after a turn, of a text so long
abbrev pub left_after : ℕ → Turned → ℕ
left_after len t = left_by t.cursor.stage len t.cursor.at t.cursor.state.now.0

-- from the beginning
pub start_falls : (text : List ℕ) (c : Cursor) → left_after (length text) (start_of text c) < left_by Start (length text) c.at c.state.now.0
unfolding start_of admitted_of
start_falls text c = go (form_of text)
  where
    a : Admitted
    a = admit_of (table_of text) (processors_in (items_of text))

    by : (x : Answer) → left_after (length text) (admitted_on text c a.state a.row x) < (length text + 1) * instants + 2
    by (Ok u) = omega arith
    by (Err refusal) = omega arith

    go : (f : Checked) → left_after (length text) (start_by text c f) < (length text + 1) * instants + 2
    go (Ok u) = unfold admitted_of in (by a.answer)
    go (Err flaw) = omega arith

-- on a line
module _ (text : List ℕ) (c : Cursor) (n : ℕ) (small : c.state.now.0 < instants) (on : c.at < length text) where
  -- the next line
  next_less : (s : State) (line : ℕ) → left_after (length text) (turned s (line_at text c.at).next line Lines None) < left_by Lines (length text) c.at c.state.now.0
  next_less s line = omega (arith, next_later text c.at on, next_within text c.at, small, on)

  ran_less : (tick : ℕ) → Moves c (ran_of c tick n) n → left_after (length text) (ran_of c tick n) < left_by Lines (length text) c.at c.state.now.0
  unfolding ran_of
  ran_less tick = by (run_of c.state tick n).answer
    where
      r : Ran
      r = run_of c.state tick n

      by : (x : Answer) → Moves c (ran_on c r.state r.records x) n → left_after (length text) (ran_on c r.state r.records x) < left_by Lines (length text) c.at c.state.now.0
      by (Ok u) M = omega (arith, M.2, small)
      by (Err refusal) M = omega arith

  arrival_less : (task : ℕ) → left_after (length text) (arrival_of c task (line_at text c.at).next) < left_by Lines (length text) c.at c.state.now.0
  unfolding arrival_of
  arrival_less task = by (arrive_of c.state task).answer
    where
      a : Arrived
      a = arrive_of c.state task

      by : (x : Answer) → left_after (length text) (arrival_on c (line_at text c.at).next a.state x) < left_by Lines (length text) c.at c.state.now.0
      by (Ok u) = next_less a.state (line_after c.line)
      by (Err refusal) = omega arith

  item_less : (x : Option Item) → Moves c (turn_by (item_deed x (line_at text c.at).next c.state.now.0 c.state.table.scale) text c n) n
      → left_after (length text) (turn_by (item_deed x (line_at text c.at).next c.state.now.0 c.state.table.scale) text c n) < left_by Lines (length text) c.at c.state.now.0
  item_less (Some (Processors m)) M = next_less c.state (line_after c.line)
  item_less (Some (Task p e d)) M = next_less c.state (line_after c.line)
  item_less (Some (Arrive tick task)) M = by (eqb c.state.now.0 (tick * c.state.table.scale)) M
    where
      by : (b : Bool) → Moves c (turn_by (if b then Arrival task (line_at text c.at).next else Run tick) text c n) n
          → left_after (length text) (turn_by (if b then Arrival task (line_at text c.at).next else Run tick) text c n) < left_by Lines (length text) c.at c.state.now.0
      by true M = arrival_less task
      by false M = ran_less tick M
  item_less (Some (Until tick)) M = by (eqb c.state.now.0 (tick * c.state.table.scale)) M
    where
      by : (b : Bool) → Moves c (turn_by (if b then Finish else Run tick) text c n) n → left_after (length text) (turn_by (if b then Finish else Run tick) text c n) < left_by Lines (length text) c.at c.state.now.0
      by true M = omega arith
      by false M = ran_less tick M
  item_less None M = next_less c.state (line_after c.line)

pub line_falls : (text : List ℕ) (c : Cursor) (n : ℕ) → c.state.now.0 < instants → Moves c (turn_by (line_deed text c.at c.state.now.0 c.state.table.scale) text c n) n
    → left_after (length text) (turn_by (line_deed text c.at c.state.now.0 c.state.table.scale) text c n) < left_by Lines (length text) c.at c.state.now.0
line_falls text c n small = go (ltb c.at (length text)) (ltb_says c.at (length text))
  where
    go : (b : Bool) → Says (c.at < length text) b → Moves c (turn_by (if b then item_deed (line_at text c.at).item (line_at text c.at).next c.state.now.0 c.state.table.scale else Finish) text c n) n
        → left_after (length text) (turn_by (if b then item_deed (line_at text c.at).item (line_at text c.at).next c.state.now.0 c.state.table.scale else Finish) text c n) < left_by Lines (length text) c.at c.state.now.0
    go true h M = item_less text c n small h (line_at text c.at).item M
    go false h M = omega arith

pub falls : (text : List ℕ) (c : Cursor) (n : ℕ) (t : Turned) → t ≡ turn_of text c n → c.state.now.0 < instants → Moves c t n → Falls text c t.cursor
unfolding turn_of left
falls text c n t e small M = subst (λ (x : Turned). Falls text c x.cursor) (sym e) (go c.stage (subst (λ (x : Turned). Moves c x n) e M))
  where
    go : (stage : Stage) → Moves c (turn_by (deed_by stage text c.at c.state.now.0 c.state.table.scale) text c n) n → is_ended stage ≡ false
        → left_after (length text) (turn_by (deed_by stage text c.at c.state.now.0 c.state.table.scale) text c n) < left_by stage (length text) c.at c.state.now.0
    go Start M q = start_falls text c
    go Lines M q = line_falls text c n small M
    go Ended M q = not_both _ (sym q)
