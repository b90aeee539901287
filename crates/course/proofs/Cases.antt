-- A turn, case by case: refused or taken, and what is due
use Rattle.std.specs.Prelude.{Option, Some, None, Err, if◌then◌else◌}
use mathlib.Core.Path.{◌≡◌, refl, sym, ◌∙◌, ap, subst}
use mathlib.Core.Bool.{Bool, true, false}
use mathlib.Core.List.{List}
use Prim.Native.Nat.{ℕ}
use lib.Dec.{ltb}
use lib.ListN.{length}
use Rattle.rules.specs.declared.Refusal.{Refusal}
use Rattle.rules.specs.Answers.{Done, is_done}
use Rattle.rules.proofs.Jobs.{done_is}
use Rattle.rules.proofs.Keeping.{not_both}
use Rattle.admission.specs.declared.Admitted.{Admitted}
use Rattle.admission.specs.Admit.{admit_of}
use Rattle.calls.specs.declared.Arrived.{Arrived}
use Rattle.calls.specs.declared.Ran.{Ran}
use Rattle.calls.specs.Arrive.{arrive_of}
use Rattle.calls.specs.Run.{run_of}
use Rattle.refusals.specs.Step.{Ahead}
use Rattle.text.specs.declared.Item.{Item}
use Rattle.text.specs.declared.Line.{Line}
use Rattle.text.specs.Form.{Checked, form_of}
use Rattle.text.specs.Meaning.{items_of, line_at, processors_in, row_line_of, table_of}
use Rattle.course.specs.declared.Stage.{Stage}
use Rattle.course.specs.declared.Stage.TheVariants.{Lines}
use Rattle.course.specs.declared.Cursor.{Cursor}
use Rattle.course.specs.declared.Deed.{Deed}
use Rattle.course.specs.declared.Deed.TheVariants.{Finish}
use Rattle.course.specs.declared.Part.TheVariants.{Scale, Records}
use Rattle.course.specs.declared.Turned.{Turned}
use Rattle.course.specs.Turns.{turned, ended_at, refused_at, line_after, skipped_of, admitted_of, start_by, start_of, arrival_of, ran_of, item_deed, line_deed, deed_by, deed_of, turn_by, room_by, turn_of, turn_room}
use Rattle.course.specs.Moves.{Moves}
use Rattle.course.proofs.Turning.{admitted_is, start_is, arrival_is, arrival_moves, ran_is}

-- ADMISSION
module _ (text : List ℕ) (c : Cursor) (a : Admitted) (b : List ℕ) (m : ℕ) (e : a ≡ admit_of b m) (eb : b ≡ table_of text) (em : m ≡ processors_in (items_of text)) where
  pub admitted_no : (refusal : Refusal) → a.answer ≡ Err refusal → (line : ℕ) → line ≡ row_line_of text a.row → (t : Turned) → t ≡ refused_at c refusal line → t ≡ admitted_of text c
  admitted_no refusal d line el t et = et ∙ ap (refused_at c refusal) el ∙ admitted_is text c a (Err refusal) b m e eb em d

  pub admitted_yes : is_done a.answer ≡ true → turned a.state 0 1 Lines (Some (Scale a.state.table.scale)) ≡ admitted_of text c
  admitted_yes d = admitted_is text c a Done b m e eb em (done_is a.answer d)

-- THE FORM
pub start_by_lem : (text : List ℕ) (c : Cursor) (f : Checked) (t : Turned) → f ≡ form_of text → t ≡ start_by text c f → t ≡ start_of text c
start_by_lem text c f t e q = q ∙ start_is text c f f e refl

-- AN ARRIVAL
module _ (c : Cursor) (task next : ℕ) (a : Arrived) (e : a ≡ arrive_of c.state task) where
  pub arrival_no : (refusal : Refusal) → a.answer ≡ Err refusal → (t : Turned) → t ≡ refused_at c refusal c.line → t ≡ arrival_of c task next
  arrival_no refusal d t et = et ∙ arrival_is c task next a (Err refusal) e d

  pub arrival_yes : is_done a.answer ≡ true → (l : ℕ) → l ≡ line_after c.line → turned a.state next l Lines None ≡ arrival_of c task next
  arrival_yes d l el = ap (λ (k : ℕ). turned a.state next k Lines None) el ∙ arrival_is c task next a Done e (done_is a.answer d)

-- A RUN
module _ (c : Cursor) (tick n : ℕ) (r : Ran) (e : r ≡ run_of c.state tick n) where
  pub ran_no : (refusal : Refusal) → r.answer ≡ Err refusal → (t : Turned) → t ≡ refused_at c refusal c.line → (t ≡ ran_of c tick n) × Moves c t n
  ran_no refusal d t et =
      let k = ran_is c tick n r (Err refusal) e d (λ q. not_both _ (sym (ap is_done d) ∙ q)) in
      (et ∙ k.0, subst (λ (x : Turned). Moves c x n) (sym et) k.1)

  pub ran_yes : is_done r.answer ≡ true → Ahead c.state tick n
      → (turned r.state c.at c.line Lines (Some (Records r.records c.state.table.m)) ≡ ran_of c tick n) × Moves c (turned r.state c.at c.line Lines (Some (Records r.records c.state.table.m))) n
  ran_yes d A = ran_is c tick n r Done e (done_is r.answer d) (λ q. A)

-- WHAT IS DUE
pub due_there : (test : Bool) (b : Bool) (x y r : Deed) → test ≡ b → b ≡ true → r ≡ x → r ≡ (if test then x else y)
due_there test b x y r e h q = q ∙ sym (ap (λ t. if t then x else y) (e ∙ h))

pub due_away : (test : Bool) (b : Bool) (x y r : Deed) → test ≡ b → b ≡ false → r ≡ y → r ≡ (if test then x else y)
due_away test b x y r e h q = q ∙ sym (ap (λ t. if t then x else y) (e ∙ h))

pub item_as : (next present scale : ℕ) (r : Deed) (x y : Option Item) → x ≡ y → r ≡ item_deed y next present scale → r ≡ item_deed x next present scale
item_as next present scale r x y e p = p ∙ ap (λ (z : Option Item). item_deed z next present scale) (sym e)

pub line_past : (text : List ℕ) (at present scale : ℕ) → ltb at (length text) ≡ false → Finish ≡ line_deed text at present scale
line_past text at present scale h = sym (ap (λ b. if b then item_deed (line_at text at).item (line_at text at).next present scale else Finish) h)

pub line_on : (text : List ℕ) (at present scale : ℕ) (l : Line) (r : Deed) → l ≡ line_at text at → ltb at (length text) ≡ true → r ≡ item_deed l.item l.next present scale → r ≡ line_deed text at present scale
line_on text at present scale l r e h p =
    p ∙ ap (λ (x : Line). item_deed x.item x.next present scale) e
    ∙ sym (ap (λ b. if b then item_deed (line_at text at).item (line_at text at).next present scale else Finish) h)

pub stage_as : (text : List ℕ) (at present scale : ℕ) (r : Deed) (x y : Stage) → x ≡ y → r ≡ deed_by y text at present scale → r ≡ deed_by x text at present scale
stage_as text at present scale r x y e p = p ∙ ap (λ (z : Stage). deed_by z text at present scale) (sym e)

-- WHAT MOVES THE PRESENT
pub ended_moves : (c : Cursor) (n : ℕ) (t : Turned) → t ≡ ended_at c None → Moves c t n
ended_moves c n t e = subst (λ (x : Turned). Moves c x n) (sym e) tt

pub skipped_moves : (c : Cursor) (next n : ℕ) (t : Turned) → t ≡ skipped_of c next → Moves c t n
skipped_moves c next n t e = subst (λ (x : Turned). Moves c x n) (sym e) tt

pub taken_moves : (c : Cursor) (task next n : ℕ) (t : Turned) → t ≡ arrival_of c task next → Moves c t n
taken_moves c task next n t e = subst (λ (x : Turned). Moves c x n) (sym e) (arrival_moves c task next n)

-- WHATEVER IS DUE
pub turn_by_lem : (text : List ℕ) (c : Cursor) (room room' : List ℕ) (due d : Deed) (t : Turned) → due ≡ deed_of text c → due ≡ d
    → (t ≡ turn_by d text c (length room)) × (room' ≡ room_by d c room) → (t ≡ turn_of text c (length room)) × (room' ≡ turn_room text c room)
unfolding turn_of turn_room
turn_by_lem text c room room' due d t e f p =
    (p.0 ∙ ap (λ (x : Deed). turn_by x text c (length room)) (sym f ∙ e), p.1 ∙ ap (λ (x : Deed). room_by x c room) (sym f ∙ e))
