-- Of a cursor that this code made each turn leaves less to do, by the definitions alone
use Rattle.std.specs.Prelude.{if◌then◌else◌, Option, Some, None}
use mathlib.Core.Path.{◌≡◌, refl, sym, ◌∙◌, subst}
use mathlib.Core.Bool.{Bool, true, false}
use mathlib.Core.List.{List}
use Prim.Native.Nat.{ℕ, ◌*◌, ◌<◌}
use native.Mathlib.Omega.{arith}
use lib.Dec.{ltb, eqb}
use lib.ListN.{length}
use Rattle.moves.proofs.Keeping.{together_of}
use Rattle.rules.specs.Answers.{Done, is_done}
use Rattle.rules.specs.Bounds.{clock}
use Rattle.rules.specs.Reasons.{StepReason}
use Rattle.rules.proofs.Keeping.{not_both}
use Rattle.rules.proofs.Refusing.{step_answers}
use Rattle.state.specs.declared.State.{State}
use Rattle.state.specs.View.{view}
use Rattle.moves.specs.Whole.{Whole}
use Rattle.moves.proofs.Moving.{stop_fits}
use Rattle.refusals.specs.Step.{Ahead, step_answer_of}
use Rattle.calls.specs.Run.{run_of}
use Rattle.rules.proofs.Jobs.{done_is}
use Rattle.refusals.proofs.Agreeing.{step_same}
use Rattle.text.specs.declared.Item.{Item}
use Rattle.text.specs.declared.Item.TheVariants.{Processors, Task, Arrive, Until}
use Rattle.text.specs.Meaning.{line_at}
use Rattle.course.specs.declared.Stage.{Stage}
use Rattle.course.specs.declared.Stage.TheVariants.{Start, Lines, Ended}
use Rattle.course.specs.declared.Cursor.{Cursor}
use Rattle.course.specs.declared.Deed.TheVariants.{Run, Arrival, Finish}
use Rattle.course.specs.Turns.{is_ended, item_deed, line_deed, deed_by, turn_by, turn_of}
use Rattle.course.specs.Moves.{Moves, instants, left_by, left}
use Rattle.course.specs.Owed.{MadeBy, Made}
use Rattle.course.proofs.Turning.{arrival_moves, ran_moves}
use Rattle.course.proofs.Falling.{left_after, start_falls, line_falls}

-- a run that is not refused lies ahead
run_ahead : (s : State) (tick n : ℕ) → Whole s → is_done (run_of s tick n).answer ≡ true → Ahead s tick n
unfolding run_of
run_ahead s tick n W d =
    let e : step_answer_of s tick n ≡ Done = done_is (step_answer_of s tick n) d in
    let R = subst (StepReason (view s) tick n) (sym (step_same s tick n W) ∙ e) (step_answers (view s) tick n) in
    record { whole = W; ahead = R.3; clock = R.2; space = R.1 }

item_moves : (text : List ℕ) (x : Option Item) (next : ℕ) (c : Cursor) (n : ℕ) → Whole c.state → Moves c (turn_by (item_deed x next c.state.now.0 c.state.table.scale) text c n) n
item_moves text (Some (Processors m)) next c n W = tt
item_moves text (Some (Task p e d)) next c n W = tt
item_moves text (Some (Arrive tick task)) next c n W = go (eqb c.state.now.0 (tick * c.state.table.scale))
  where
    go : (b : Bool) → Moves c (turn_by (if b then Arrival task next else Run tick) text c n) n
    go true = arrival_moves c task next n
    go false = ran_moves c tick n (run_ahead c.state tick n W)
item_moves text (Some (Until tick)) next c n W = go (eqb c.state.now.0 (tick * c.state.table.scale))
  where
    go : (b : Bool) → Moves c (turn_by (if b then Finish else Run tick) text c n) n
    go true = tt
    go false = ran_moves c tick n (run_ahead c.state tick n W)
item_moves text None next c n W = tt

line_moves : (text : List ℕ) (c : Cursor) (n : ℕ) → Whole c.state → Moves c (turn_by (line_deed text c.at c.state.now.0 c.state.table.scale) text c n) n
line_moves text c n W = go (ltb c.at (length text))
  where
    go : (b : Bool) → Moves c (turn_by (if b then item_deed (line_at text c.at).item (line_at text c.at).next c.state.now.0 c.state.table.scale else Finish) text c n) n
    go true = item_moves text (line_at text c.at).item (line_at text c.at).next c n W
    go false = tt

small : (s : State) → Whole s → s.now.0 < instants
small s W = omega (arith, (together_of W).clock, stop_fits s clock W (omega arith))

pub made_falls : (text : List ℕ) (c : Cursor) (n : ℕ) → Made text c → is_ended c.stage ≡ false → left text (turn_of text c n).cursor < left text c
unfolding turn_of left
made_falls text c n M = go c.stage M
  where
    go : (stage : Stage) → MadeBy stage text c → is_ended stage ≡ false → left_after (length text) (turn_by (deed_by stage text c.at c.state.now.0 c.state.table.scale) text c n) < left_by stage (length text) c.at c.state.now.0
    go Start M e = start_falls text c
    go Lines M e = line_falls text c n (small c.state M.whole) (line_moves text c n M.whole)
    go Ended M e = not_both _ (sym e)

-- the end stays the end
pub ended_stays : (text : List ℕ) (c : Cursor) (n : ℕ) → is_ended c.stage ≡ true → left text (turn_of text c n).cursor ≡ 0
unfolding turn_of left
ended_stays text c n = go c.stage
  where
    go : (stage : Stage) → is_ended stage ≡ true → left_after (length text) (turn_by (deed_by stage text c.at c.state.now.0 c.state.table.scale) text c n) ≡ 0
    go Start e = not_both _ e
    go Lines e = not_both _ e
    go Ended e = refl
