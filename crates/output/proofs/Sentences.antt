-- What document 01 says of every output
use Rattle.std.specs.Prelude.{if◌then◌else◌, Option, Some, None, Ok, Err}
use mathlib.Core.Path.{◌≡◌, refl, sym, ◌∙◌, ap, subst}
use mathlib.Core.Bool.{Bool, true, false}
use mathlib.Core.List.{List, [], ◌∷◌, ◌++◌, map}
use Prim.Native.Nat.{ℕ, zero, suc, ◌+◌, ◌*◌, ◌-◌, ◌≤◌, ◌<◌}
use native.Mathlib.Omega.{arith}
use lib.ListN.{length, get_or}
use Rattle.ground.specs.Tests.{Says}
use Rattle.ground.proofs.Tests.{eqb_says}
use Rattle.rules.specs.Answers.{Answer, is_done, Done, Processors, TableLength, RowRange, RowExecution, Scale, Shares, TaskNumber, BetweenTicks, TooSoon, HorizonPastClock, HorizonNotLater, RoomTooShort, NotTogether, TextForm}
use Rattle.rules.specs.Bounds.{clock}
use Rattle.rules.specs.Table.{Row, rows_of, table_bytes}
use Rattle.rules.specs.Admission.{Admitted, admit_verdict, admit}
use Rattle.rules.specs.State.{State}
use Rattle.rules.specs.Holds.{holds}
use Rattle.rules.specs.Record.{Record}
use Rattle.rules.specs.Reasons.{AdmitReason, ArriveReason, StepReason, OnTick}
use Rattle.rules.specs.Calls.{arrive_answer, arrive, arriving, moving, step_answer}
use Rattle.rules.specs.Run.{Run, perform, starting}
use Rattle.rules.specs.Listings.{towards, steps_to, reach}
use Rattle.rules.proofs.Calls.{tick_of_lem, moving_moves, arriving_keeps}
use Rattle.rules.proofs.Demands.{start_good}
use Rattle.rules.proofs.Holding.{together_is, holds_is}
use Rattle.rules.proofs.Jobs.{done_comes, done_is}
use Rattle.rules.proofs.Keeping.{not_both}
use Rattle.rules.proofs.Standing.{facts}
use Rattle.rules.proofs.Reading.{table_rows}
use Rattle.rules.proofs.Refusing.{admit_answers, arrive_answers, step_answers}
use Rattle.rules.proofs.Together.{Together}
use Rattle.text.specs.declared.Item.{Item}
use Rattle.text.specs.declared.Item.TheVariants as Items
use Rattle.text.specs.Form.{Checked, flaw_line, form_of}
use Rattle.text.specs.Meaning.{items_of, processors_in, rows_in, row_lines_in, row_line_of, turns_in}
use Rattle.text.proofs.Tables.{text_rows_fit}
use Rattle.output.specs.Course as Course
use Rattle.output.specs.Course.{Entry, scale_entry, record_entry, refused_entry, refusal, is_at, reached, reaching, turns_course, admission_course, course_by, course_of}
use Rattle.output.specs.Sentences.{Printable, Closes, Sentences}
use Rattle.output.proofs.Cutting.{long_form}
use Rattle.output.proofs.Reaching.{steps_more, steps_none, by_step, perform_step, step_onward, steps_stop, steps_keep, reach_none}

-- STEPS KEEP A STATE TOGETHER, and do not pass the horizon
pub record Within (tick : ℕ) (s : State) : Type 0 where
  pub together : Together s
  pub before : s.now ≤ tick * s.scale

steps_together : (n tick : ℕ) (r : Run) → Together r.state → Together (steps_to n tick r).state
unfolding steps_to
steps_together zero tick r H = H
steps_together (suc n) tick r H =
    by_step _ r.state tick
    (λ d. subst (λ (x : Run). Together x.state) (sym (steps_more n tick r (ap is_done d)))
    (steps_together n tick (perform r (towards tick)) (subst (λ (x : Run). Together x.state) (sym (perform_step r tick d)) (step_onward r.state tick d).together)))
    (λ f. subst (λ (x : Run). Together x.state) (sym (steps_none (suc n) tick r f)) H)

steps_within : (n tick : ℕ) (r : Run) → Within tick r.state → Within tick (steps_to n tick r).state
unfolding steps_to
steps_within zero tick r W = W
steps_within (suc n) tick r W =
    by_step _ r.state tick
    (λ d.
    let s = r.state in
    let R = subst (StepReason s tick 48) d (step_answers s tick 48) in
    let M = moving_moves s tick W.together R.3 in
    let e : tick * (moving s tick).state.scale ≡ tick * s.scale = ap (λ (k : ℕ). tick * k) M.same_scale in
    let within : Within tick (moving s tick).state = record { together = (step_onward s tick d).together; before = omega (arith, e, M.arrives, M.by_horizon) } in
    subst (λ (x : Run). Within tick x.state) (sym (steps_more n tick r (ap is_done d)))
    (steps_within n tick (perform r (towards tick)) (subst (λ (x : Run). Within tick x.state) (sym (perform_step r tick d)) within)))
    (λ f. subst (λ (x : Run). Within tick x.state) (sym (steps_none (suc n) tick r f)) W)

-- a step that is refused, of a state that holds together and within the clock, has its horizon behind
refused_past : (s : State) (tick : ℕ) → holds s ≡ true → tick ≤ clock → is_done (step_answer s tick 48) ≡ false → tick * s.scale ≤ s.now
refused_past s tick h c = go (step_answer s tick 48) (step_answers s tick 48)
  where
    go : (a : Answer) → StepReason s tick 48 a → is_done a ≡ false → tick * s.scale ≤ s.now
    go Done R f = not_both _ (sym f)
    go HorizonNotLater R f = R.3
    go NotTogether R f = not_both _ (sym R ∙ h)
    go RoomTooShort R f = absurd (omega (arith, R.1))
    go HorizonPastClock R f = absurd (omega (arith, R.2, c))
    go Processors R f = absurd R
    go TableLength R f = absurd R
    go RowRange R f = absurd R
    go RowExecution R f = absurd R
    go Scale R f = absurd R
    go Shares R f = absurd R
    go TaskNumber R f = absurd R
    go BetweenTicks R f = absurd R
    go TooSoon R f = absurd R
    go TextForm R f = absurd R

reach_at : (s : State) (tick : ℕ) → holds s ≡ true → tick ≤ clock → s.now ≤ tick * s.scale → (reach tick (starting s)).state.now ≡ tick * s.scale
reach_at s tick h c b =
    let n = suc (tick * s.scale) in
    let g = steps_to n tick (starting s) in
    let W = steps_within n tick (starting s) (record { together = together_is s h; before = b }) in
    let e : tick * g.state.scale ≡ tick * s.scale = ap (λ (k : ℕ). tick * k) (steps_keep n tick (starting s)).0 in
    let p = refused_past g.state tick (holds_is g.state W.together) c (steps_stop n tick (starting s) (omega arith)) in
    let w = W.before in
    omega (arith, e, p, w)

-- A REFUSAL IS LAST
records_close : (m : ℕ) (rs : List Record) (es : List Entry) → Closes es → Closes (map (record_entry m) rs ++ es)
unfolding Closes
records_close m [] es c = c
records_close m (r ∷ rs) es c = records_close m rs es c

refusal_closes : (a : Answer) (line : ℕ) → Printable a line → Closes (refusal a line)
unfolding Closes
refusal_closes a line p = (p, refl)

reaching_closes : (s : State) (tick line : ℕ) (follows : State → List Entry) → Together s → 1 ≤ line → ((k : State) → Together k → is_at k tick ≡ true → Closes (follows k)) → Closes (reaching s tick line follows)
reaching_closes s tick line follows H l f =
    let g = reach tick (starting s) in
    records_close s.m g.records (reached g tick line follows) (go (is_at g.state tick) refl)
  where
    there : State
    there = (reach tick (starting s)).state

    go : (b : Bool) → is_at there tick ≡ b → Closes (elim b as (λ _. List Entry) [ true ↦ follows there | false ↦ refusal HorizonNotLater line ])
    go true e = f there (steps_together (suc (tick * s.scale)) tick (starting s) H) e
    go false e = refusal_closes HorizonNotLater line l

-- an arrival at a tick is refused by 7 or 9 only
arrival_printable : (s : State) (tick task line : ℕ) → Together s → is_at s tick ≡ true → 1 ≤ line → is_done (arrive_answer s task) ≡ false → Printable (arrive_answer s task) line
arrival_printable s tick task line H at l = go (arrive_answer s task) (arrive_answers s task)
  where
    whole : OnTick s
    whole =
        let e = subst (Says (s.now ≡ tick * s.scale)) at (eqb_says s.now (tick * s.scale)) in
        e ∙ ap (λ (k : ℕ). k * s.scale) (sym (tick_of_lem s.now s.scale tick (facts s.tasks H.table).scale_pos e))

    go : (a : Answer) → ArriveReason s task a → is_done a ≡ false → Printable a line
    go Done R f = not_both _ (sym f)
    go TaskNumber R f = l
    go TooSoon R f = l
    go NotTogether R f = not_both _ (sym R ∙ holds_is s H)
    go BetweenTicks R f = absurd (R.2 whole)
    go Processors R f = absurd R
    go TableLength R f = absurd R
    go RowRange R f = absurd R
    go RowExecution R f = absurd R
    go Scale R f = absurd R
    go Shares R f = absurd R
    go HorizonPastClock R f = absurd R
    go HorizonNotLater R f = absurd R
    go RoomTooShort R f = absurd R
    go TextForm R f = absurd R

-- an arrival that is taken leaves a state that holds together
taken_together : (s : State) (task : ℕ) → Together s → is_done (arrive_answer s task) ≡ true → Together (arrive s task).state
unfolding arrive
taken_together s task H d =
    let R = subst (ArriveReason s task) (done_is (arrive_answer s task) d) (arrive_answers s task) in
    subst (λ (b : Bool). Together (if b then arriving s (task - 1) else s)) (sym d) (arriving_keeps s (task - 1) H (done_comes s task R))

arriving_closes : (s : State) (tick task line : ℕ) (follows : State → List Entry) → Together s → is_at s tick ≡ true → 1 ≤ line
    → ((k : State) → Together k → Closes (follows k)) → Closes (Course.arriving (arrive s task) line follows)
unfolding arrive
arriving_closes s tick task line follows H at l f = go (is_done (arrive_answer s task)) refl
  where
    go : (b : Bool) → is_done (arrive_answer s task) ≡ b → Closes (elim b as (λ _. List Entry) [ true ↦ follows (arrive s task).state | false ↦ refusal (arrive_answer s task) line ])
    go true e = f (arrive s task).state (taken_together s task H e)
    go false e = refusal_closes (arrive_answer s task) line (arrival_printable s tick task line H at l e)

turns_close : (s : State) (n : ℕ) (items : List (Option Item)) → Together s → 1 ≤ n → Closes (turns_course s (turns_in n items))
unfolding turns_course turns_in Closes
turns_close s n [] H l = tt
turns_close s n (Some (Items.Arrive tick task) ∷ items) H l =
    reaching_closes s tick n (λ (there : State). Course.arriving (arrive there task) n (λ (after : State). turns_course after (turns_in (n + 1) items))) H l
    (λ k K at. arriving_closes k tick task n (λ (after : State). turns_course after (turns_in (n + 1) items)) K at l (λ j J. turns_close j (n + 1) items J (omega (arith, l))))
turns_close s n (Some (Items.Until tick) ∷ items) H l = reaching_closes s tick n (λ (there : State). []) H l (λ k K at. tt)
turns_close s n (Some (Items.Processors m) ∷ items) H l = turns_close s (n + 1) items H (omega (arith, l))
turns_close s n (Some (Items.Task p e d) ∷ items) H l = turns_close s (n + 1) items H (omega (arith, l))
turns_close s n (None ∷ items) H l = turns_close s (n + 1) items H (omega (arith, l))

-- THE LINES OF ROWS: one for each row, none below the first
one_each : (n : ℕ) (items : List (Option Item)) → length (row_lines_in n items) ≡ length (rows_in items)
unfolding row_lines_in rows_in
one_each n [] = refl
one_each n (Some (Items.Task p e d) ∷ items) = ap suc (one_each (n + 1) items)
one_each n (Some (Items.Processors m) ∷ items) = one_each (n + 1) items
one_each n (Some (Items.Arrive tick task) ∷ items) = one_each (n + 1) items
one_each n (Some (Items.Until tick) ∷ items) = one_each (n + 1) items
one_each n (None ∷ items) = one_each (n + 1) items

no_less : (n : ℕ) (items : List (Option Item)) (i : ℕ) → i < length (row_lines_in n items) → n ≤ get_or (row_lines_in n items) i 0
unfolding row_lines_in
no_less n [] i h = absurd (omega (arith, h))
no_less n (Some (Items.Task p e d) ∷ items) zero h = omega arith
no_less n (Some (Items.Task p e d) ∷ items) (suc i) h = let z = no_less (n + 1) items i (omega (arith, h)) in omega (arith, z)
no_less n (Some (Items.Processors m) ∷ items) i h = let z = no_less (n + 1) items i h in omega (arith, z)
no_less n (Some (Items.Arrive tick task) ∷ items) i h = let z = no_less (n + 1) items i h in omega (arith, z)
no_less n (Some (Items.Until tick) ∷ items) i h = let z = no_less (n + 1) items i h in omega (arith, z)
no_less n (None ∷ items) i h = let z = no_less (n + 1) items i h in omega (arith, z)

-- the table of a text
abbrev whole_table : List ℕ → List ℕ
whole_table text = table_bytes (rows_in (items_of text))

row_line : (text : List ℕ) (row : ℕ) → 1 ≤ row → row ≤ length (rows_of (whole_table text)) → 1 ≤ get_or (0 ∷ row_lines_in 1 (items_of text)) row 0
row_line text zero lo hi = absurd (omega (arith, lo))
row_line text (suc i) lo hi =
    let e = ap (λ (l : List Row). length l) (table_rows (rows_in (items_of text)) (text_rows_fit text)) in
    no_less 1 (items_of text) i (omega (arith, hi, e, one_each 1 (items_of text)))

-- a refused table: 1 to 6, and no row for 1, 2, 5 and 6
table_printable : (text : List ℕ) (m : ℕ) → is_done (admit_verdict (whole_table text) m).answer ≡ false → Printable (admit_verdict (whole_table text) m).answer (row_line_of text (admit_verdict (whole_table text) m).row)
unfolding row_line_of
table_printable text m = go (admit_verdict bytes m).answer (admit_verdict bytes m).row (admit_answers bytes m)
  where
    bytes : List ℕ
    bytes = whole_table text

    none : (row : ℕ) → row ≡ 0 → get_or (0 ∷ row_lines_in 1 (items_of text)) row 0 ≡ 0
    none row e = rw e refl

    go : (a : Answer) (row : ℕ) → AdmitReason bytes m a row → is_done a ≡ false → Printable a (get_or (0 ∷ row_lines_in 1 (items_of text)) row 0)
    go Done row R f = not_both _ (sym f)
    go Processors row R f = none row R.0
    go TableLength row R f = none row R.0
    go RowRange row R f = row_line text row R.0 R.1
    go RowExecution row R f = row_line text row R.0 R.1
    go Scale row R f = none row R.0
    go Shares row R f = none row R.0
    go TaskNumber row R f = absurd R
    go BetweenTicks row R f = absurd R
    go TooSoon row R f = absurd R
    go HorizonPastClock row R f = absurd R
    go HorizonNotLater row R f = absurd R
    go RoomTooShort row R f = absurd R
    go NotTogether row R f = absurd R
    go TextForm row R f = absurd R

admission_closes : (text : List ℕ) (m : ℕ) → Closes (admission_course text (admit (whole_table text) m))
admission_closes text m = go (is_done (admit (whole_table text) m).answer) refl
  where
    a : Admitted
    a = admit (whole_table text) m

    refused : is_done (admit (whole_table text) m).answer ≡ false → Printable (admit (whole_table text) m).answer (row_line_of text (admit (whole_table text) m).row)
    refused f = unfold admit in table_printable text m (unfold admit in f)

    go : (b : Bool) → is_done a.answer ≡ b → Closes (elim b as (λ _. List Entry) [
      | true ↦ scale_entry a.state.scale ∷ turns_course a.state (turns_in 1 (items_of text))
      | false ↦ refusal a.answer (row_line_of text a.row)
    ])
    go true e = unfold Closes in turns_close a.state 1 (items_of text) (start_good (whole_table text) m (done_is a.answer e)).together (omega arith)
    go false e = refusal_closes a.answer (row_line_of text a.row) (refused e)

course_closes : (text : List ℕ) → Closes (course_of text)
unfolding course_of
course_closes text = go (form_of text)
  where
    go : (c : Checked) → Closes (course_by text c)
    go (Ok u) = admission_closes text (processors_in (items_of text))
    go (Err flaw) = refusal_closes TextForm (flaw_line flaw) tt

too_long : (text : List ℕ) → 65536 < length text → course_of text ≡ refusal TextForm 0
unfolding course_of
too_long text h = ap (course_by text) (long_form text h)

pub sentences : Sentences
sentences = record {
  closes = course_closes;
  long = too_long;
  reaches = reach_at;
  stays = λ s tick h. reach_none tick s h;
}
