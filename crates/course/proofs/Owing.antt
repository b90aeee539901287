-- What a turn hands out, followed by what the cursor owes after it, is what the cursor owed before
use Rattle.std.specs.Prelude.{if◌then◌else◌, Option, Some, None, Ok, Err}
use mathlib.Core.Path.{◌≡◌, refl, sym, ◌∙◌, ap, subst}
use mathlib.Core.Bool.{Bool, true, false}
use mathlib.Core.List.{List, [], ◌∷◌, ◌++◌, map, map-append, append_assoc}
use Prim.Native.Nat.{ℕ, ◌+◌, ◌*◌, ◌≤◌, ◌<◌}
use native.Mathlib.Omega.{arith}
use borrow.Author.Tests.{le-leb}
use lib.Dec.{ltb, eqb}
use lib.ListN.{length, drop}
use Rattle.ground.specs.Tests.{Says}
use Rattle.ground.proofs.Tests.{eqb_says, ltb_says, of_true, of_false}
use Rattle.rules.specs.declared.Refusal.{Refusal}
use Rattle.rules.specs.Answers.{Answer, Done, HorizonNotLater, is_done}
use Rattle.rules.specs.Bounds.{clock}
use Rattle.rules.specs.Record.{Record}
use Rattle.rules.specs.State as Rules
use Rattle.rules.specs.Calls as Rule
use Rattle.rules.specs.Admission as Admission
use Rattle.rules.specs.Run as Runs
use Rattle.rules.specs.Run.{starting}
use Rattle.rules.specs.Listings.{steps_to, reach}
use Rattle.rules.proofs.Keeping.{not_both}
use Rattle.rules.proofs.Refusing.{step_exact}
use Rattle.state.specs.declared.State.{State}
use Rattle.state.specs.View.{view}
use Rattle.moves.specs.Whole.{Whole}
use Rattle.admission.specs.Admit.{admit_of}
use Rattle.calls.specs.Arrive.{arrive_of}
use Rattle.refusals.specs.Step.{step_answer_of}
use Rattle.inplace.specs.Run.{run_room}
use Rattle.calls.specs.Run.{run_of}
use Rattle.refusals.proofs.Agreeing.{arrive_same, step_same}
use Rattle.calls.proofs.Refining.{arrive_kept}
use Rattle.demands.specs.Demands.{read_records}
use Rattle.demands.proofs.Demands.{admits, admit_whole}
use Rattle.text.specs.declared.Item.{Item}
use Rattle.text.specs.declared.Item.TheVariants.{Processors, Task, Arrive, Until}
use Rattle.text.specs.Parts.{split_by, newline}
use Rattle.text.specs.declared.Flaw.TheVariants.{TooLong}
use Rattle.text.specs.declared.Stage.TheVariants as texts
use Rattle.text.specs.Form.{Checked, good, form_from, form_of}
use Rattle.text.specs.Meaning.{items_of, line_at, processors_in, row_line_of, Turn, turn_by, turns_in, table_of}
use Rattle.text.proofs.Tables.{ItemFits, line_fits}
use Rattle.text.proofs.Walks.{items_none, turns_walk, next_later}
use Rattle.output.specs.Course.{Entry, scale_entry, record_entry, refusal, is_at, reached, reaching, arriving, turns_course, admission_course, course_by, course_of}
use Rattle.output.proofs.Reaching.{steps_keep, reach_on, reach_none}
use Rattle.output.proofs.Cutting.{rows_cut}
use Rattle.course.specs.declared.Stage.{Stage}
use Rattle.course.specs.declared.Stage.TheVariants.{Start, Lines, Ended}
use Rattle.course.specs.declared.Cursor.{Cursor}
use Rattle.course.specs.declared.Deed.{Deed}
use Rattle.course.specs.declared.Deed.TheVariants.{Run, Arrival, Finish}
use Rattle.course.specs.declared.Part.TheVariants.{Records}
use Rattle.course.specs.declared.Turned.{Turned}
use Rattle.course.specs.Turns.{turned, ended_at, refused_at, line_after, skipped_of, admitted_on, admitted_of, start_by, start_of, arrival_on, arrival_of, ran_on, ran_of, item_deed, line_deed, deed_by, room_by, turn_of, turn_room}
use Rattle.course.specs.Turns as Turns
use Rattle.course.specs.Owed.{entries_of, owes_by, owes, OnItsWay, MadeBy, Made}
use Rattle.course.proofs.Following.{run_follows}

-- a turn hands out its part of what is wanted, owes the rest, and its cursor is one that this code made
pub record Owed (text room : List ℕ) (t : Turned) (want : List Entry) : Type 0 where
  pub entries : entries_of t.part room ++ owes text t.cursor ≡ want
  pub made : Made text t.cursor

by_bool : (P : Type 0) (b : Bool) → (b ≡ true → P) → (b ≡ false → P) → P
by_bool P true f g = f refl
by_bool P false f g = g refl

-- TOWARDS A TICK
module _ (tick line : ℕ) (follows : Rules.State → List Entry) where
  from_entries : (m : ℕ) (g : Runs.Run) (rs : List Record)
      → map (record_entry m) (rs ++ g.records) ++ reached g tick line follows ≡ map (record_entry m) rs ++ (map (record_entry m) g.records ++ reached g tick line follows)
  from_entries m g rs =
      ap (λ (l : List Entry). l ++ reached g tick line follows) (map-append (record_entry m) rs g.records)
      ∙ append_assoc (map (record_entry m) rs) (map (record_entry m) g.records) (reached g tick line follows)

  -- some records on the way
  pub reaching_on : (k : ℕ) (s k' : Rules.State) (rs : List Record) → k' ≡ (steps_to k tick (starting s)).state → rs ≡ (steps_to k tick (starting s)).records
      → map (record_entry (s.m)) rs ++ reaching k' tick line follows ≡ reaching s tick line follows
  reaching_on k s k' rs e f =
      let q = steps_to k tick (starting s) in
      let g = reach tick (starting q.state) in
      let m : q.state.m ≡ s.m = (steps_keep k tick (starting s)).1 in
      ap (λ (x : Rules.State). map (record_entry (s.m)) rs ++ reaching x tick line follows) e
      ∙ ap (λ (n : ℕ). map (record_entry (s.m)) rs ++ (map (record_entry n) g.records ++ reached g tick line follows)) m
      ∙ ap (λ (l : List Record). map (record_entry (s.m)) l ++ (map (record_entry (s.m)) g.records ++ reached g tick line follows)) f
      ∙ sym (from_entries (s.m) g q.records)
      ∙ ap (λ (x : Runs.Run). map (record_entry (s.m)) x.records ++ reached x tick line follows) (sym (reach_on k tick s))

  -- at the tick
  pub reaching_there : (s : Rules.State) → is_at s tick ≡ true → reaching s tick line follows ≡ follows s
  reaching_there s h =
      let e = of_true (eqb s.now (tick * s.scale)) (eqb_says s.now (tick * s.scale)) h in
      ap (λ (x : Runs.Run). map (record_entry (s.m)) x.records ++ reached x tick line follows) (reach_none tick s (omega (arith, e)))
      ∙ ap (λ b. elim b as (λ _. List Entry) [ true ↦ follows s | false ↦ refusal HorizonNotLater line ]) h

  -- past it
  pub reaching_past : (s : Rules.State) → is_at s tick ≡ false → tick * s.scale ≤ s.now → reaching s tick line follows ≡ refusal HorizonNotLater line
  reaching_past s h p =
      ap (λ (x : Runs.Run). map (record_entry (s.m)) x.records ++ reached x tick line follows) (reach_none tick s p)
      ∙ ap (λ b. elim b as (λ _. List Entry) [ true ↦ follows s | false ↦ refusal HorizonNotLater line ]) h

-- a run is refused only past its tick
module _ (s : State) (tick n : ℕ) (W : Whole s) (hc : tick ≤ clock) (space : 48 ≤ n) where
  run_answer : (run_of s tick n).answer ≡ step_answer_of s tick n
  unfolding run_of
  run_answer = refl

  past_by : ltb s.now.0 (tick * s.table.scale) ≡ false → (tick * s.table.scale ≤ s.now.0) × ((run_of s tick n).answer ≡ HorizonNotLater)
  past_by e =
      let h = of_false (ltb s.now.0 (tick * s.table.scale)) (ltb_says s.now.0 (tick * s.table.scale)) e in
      let le : tick * s.table.scale ≤ s.now.0 = omega (arith, h) in
      (le, run_answer ∙ step_same s tick n W ∙ step_exact (view s) tick n HorizonNotLater (W.together, space, hc, le))

  pub refused_past : is_done (run_of s tick n).answer ≡ false → (tick * s.table.scale ≤ s.now.0) × ((run_of s tick n).answer ≡ HorizonNotLater)
  refused_past d =
      by_bool _ (ltb s.now.0 (tick * s.table.scale))
      (λ e.
      let lt = of_true (ltb s.now.0 (tick * s.table.scale)) (ltb_says s.now.0 (tick * s.table.scale)) e in
      let done : (run_of s tick n).answer ≡ Done = run_answer ∙ step_same s tick n W ∙ step_exact (view s) tick n Done (W.together, space, hc, lt) in
      not_both _ (sym d ∙ ap is_done done))
      past_by

-- A TURN ON A LINE
module _ (text : List ℕ) (c : Cursor) (room : List ℕ) (O : OnItsWay text c) (space : 48 ≤ length room) (on : c.at < length text) where
  line_is : line_after c.line ≡ c.line + 1
  line_is = rw (le-leb c.line 65536 (omega (arith, O.line, O.short, on)))

  next_made : (k : State) → Whole k → OnItsWay text (record { state = k; at = (line_at text c.at).next; line = line_after c.line; stage = Lines })
  next_made k W = record { whole = W; short = O.short; line = omega (arith, line_is, O.line, next_later text c.at on) }

  -- the lines after this one
  abbrev pub later : List Turn
  later = turns_in (c.line + 1) (items_of (drop (line_at text c.at).next text))

  next_owes : (k : State)
      → owes text (record { state = k; at = (line_at text c.at).next; line = line_after c.line; stage = Lines }) ≡ turns_course (view k) later
  unfolding owes
  next_owes k = ap (λ (n : ℕ). turns_course (view k) (turns_in n (items_of (drop (line_at text c.at).next text)))) line_is

  skip_owes : Owed text room (skipped_of c (line_at text c.at).next) (turns_course (view c.state) later)
  skip_owes = record { entries = next_owes c.state; made = next_made c.state O.whole }

  -- the end, with a refusal or without
  refused_owes : (r : Refusal) → Owed text room (refused_at c r c.line) (refusal (Err r) c.line)
  unfolding owes
  refused_owes r = record { entries = refl; made = tt }

  ended_owes : Owed text room (ended_at c None) []
  unfolding owes
  ended_owes = record { entries = refl; made = tt }

  -- an arrival
  module _ (task : ℕ) where
    abbrev wanted : List Entry
    wanted = arriving (Rule.arrive (view c.state) task) c.line (λ (after : Rules.State). turns_course after later)

    answers : (arrive_of c.state task).answer ≡ (Rule.arrive (view c.state) task).answer
    unfolding arrive_of Rule.arrive
    answers = arrive_same c.state task O.whole

    arriving_is : (b : Bool) → is_done (arrive_of c.state task).answer ≡ b
        → wanted
        ≡ (elim b as (λ _. List Entry) [ true ↦ turns_course (Rule.arrive (view c.state) task).state later | false ↦ refusal (Rule.arrive (view c.state) task).answer c.line ])
    arriving_is b e =
        ap (λ x. elim x as (λ _. List Entry) [ true ↦ turns_course (Rule.arrive (view c.state) task).state later | false ↦ refusal (Rule.arrive (view c.state) task).answer c.line ])
        (ap is_done (sym answers) ∙ e)

    taken_owes : is_done (arrive_of c.state task).answer ≡ true
        → Owed text room (turned (arrive_of c.state task).state (line_at text c.at).next (line_after c.line) Lines None)
        wanted
    taken_owes d =
        let K = arrive_kept c.state task O.whole in
        record {
          entries = next_owes (arrive_of c.state task).state
              ∙ ap (λ (x : Rules.State). turns_course x later) K.same
              ∙ sym (arriving_is true d);
          made = next_made (arrive_of c.state task).state K.whole;
        }

    untaken_owes : (r : Refusal) → (arrive_of c.state task).answer ≡ Err r
        → Owed text room (refused_at c r c.line)
        wanted
    untaken_owes r e =
        subst (Owed text room (refused_at c r c.line)) (ap (λ (a : Answer). refusal a c.line) (sym e ∙ answers) ∙ sym (arriving_is false (ap is_done e))) (refused_owes r)

    arrival_owes : Owed text room (arrival_of c task (line_at text c.at).next)
        wanted
    unfolding arrival_of
    arrival_owes = go (arrive_of c.state task).answer refl
      where
        go : (x : Answer) → (arrive_of c.state task).answer ≡ x
            → Owed text room (arrival_on c (line_at text c.at).next (arrive_of c.state task).state x)
            wanted
        go (Ok u) e = taken_owes (ap is_done e)
        go (Err r) e = untaken_owes r e

  -- a run, whatever follows it
  module _ (tick : ℕ) (hc : tick ≤ clock) (away : eqb c.state.now.0 (tick * c.state.table.scale) ≡ false) (follows : Rules.State → List Entry)
      (same : (k : Rules.State) → turns_course k (turns_in c.line (items_of (drop c.at text))) ≡ reaching k tick c.line follows) where
    some_owes : is_done (run_of c.state tick (length room)).answer ≡ true
        → Owed text (run_room c.state tick room)
        (turned (run_of c.state tick (length room)).state c.at c.line Lines (Some (Records (run_of c.state tick (length room)).records c.state.table.m)))
        (reaching (view c.state) tick c.line follows)
    unfolding owes
    some_owes d =
        let F = run_follows c.state tick room O.whole in
        record {
          entries =
              ap (λ (l : List Entry). map (record_entry c.state.table.m) (read_records (run_of c.state tick (length room)).records (run_room c.state tick room)) ++ l)
              (same (view (run_of c.state tick (length room)).state))
              ∙ reaching_on tick c.line follows (run_of c.state tick (length room)).records (view c.state) (view (run_of c.state tick (length room)).state)
              (read_records (run_of c.state tick (length room)).records (run_room c.state tick room)) F.state F.records;
          made = record { whole = F.whole; short = O.short; line = O.line };
        }

    none_owes : (r : Refusal) → (run_of c.state tick (length room)).answer ≡ Err r → Owed text (run_room c.state tick room) (refused_at c r c.line) (reaching (view c.state) tick c.line follows)
    unfolding owes
    none_owes r e =
        let p = refused_past c.state tick (length room) O.whole hc space (ap is_done e) in
        record { entries = ap (λ (a : Answer). refusal a c.line) (sym e ∙ p.1) ∙ sym (reaching_past tick c.line follows (view c.state) away p.0); made = tt }

    pub ran_owes : Owed text (run_room c.state tick room) (ran_of c tick (length room)) (reaching (view c.state) tick c.line follows)
    unfolding ran_of
    ran_owes = go (run_of c.state tick (length room)).answer refl
      where
        go : (x : Answer) → (run_of c.state tick (length room)).answer ≡ x
            → Owed text (run_room c.state tick room) (ran_on c (run_of c.state tick (length room)).state (run_of c.state tick (length room)).records x) (reaching (view c.state) tick c.line follows)
        go (Ok u) e = some_owes (ap is_done e)
        go (Err r) e = none_owes r e

  -- what an arrive line and the until line give
  arrive_course : (k : Rules.State) (n tick task : ℕ) (ts : List Turn)
      → turns_course k (record { line = n; item = Arrive tick task } ∷ ts) ≡ reaching k tick n (λ (there : Rules.State). arriving (Rule.arrive there task) n (λ (after : Rules.State). turns_course after ts))
  unfolding turns_course
  arrive_course k n tick task ts = refl

  until_course : (k : Rules.State) (n tick : ℕ) (ts : List Turn) → turns_course k (record { line = n; item = Until tick } ∷ ts) ≡ reaching k tick n (λ (there : Rules.State). [])
  unfolding turns_course
  until_course k n tick ts = refl

  -- the cursor's own line, then the later ones
  walked : (x : Option Item) → (line_at text c.at).item ≡ x → (k : Rules.State)
      → turns_course k (turns_in c.line (items_of (drop c.at text))) ≡ turns_course k (turn_by c.line x ++ later)
  walked x e k =
      ap (turns_course k) (turns_walk text c.at c.line)
      ∙ ap (λ (y : Option Item). turns_course k (turn_by c.line y ++ later)) e

  pub item_owes : (x : Option Item) → (line_at text c.at).item ≡ x → ItemFits x
      → Owed text (room_by (item_deed x (line_at text c.at).next c.state.now.0 c.state.table.scale) c room) (Turns.turn_by (item_deed x (line_at text c.at).next c.state.now.0 c.state.table.scale) text c (length room)) (turns_course (view c.state) (turns_in c.line (items_of (drop c.at text))))
  item_owes (Some (Processors m)) e f = subst (Owed text room (skipped_of c (line_at text c.at).next)) (sym (walked (Some (Processors m)) e (view c.state))) skip_owes
  item_owes (Some (Task p x d)) e f = subst (Owed text room (skipped_of c (line_at text c.at).next)) (sym (walked (Some (Task p x d)) e (view c.state))) skip_owes
  item_owes None e f = subst (Owed text room (skipped_of c (line_at text c.at).next)) (sym (walked None e (view c.state))) skip_owes
  item_owes (Some (Arrive tick task)) e f =
      let follows : Rules.State → List Entry = λ there. arriving (Rule.arrive there task) c.line (λ (after : Rules.State). turns_course after later) in
      let same : (k : Rules.State) → turns_course k (turns_in c.line (items_of (drop c.at text))) ≡ reaching k tick c.line follows =
      λ k. walked (Some (Arrive tick task)) e k ∙ arrive_course k c.line tick task later in
      let Want : Bool → Type 0 = λ b. Owed text (room_by (if b then Arrival task (line_at text c.at).next else Run tick) c room) (Turns.turn_by (if b then Arrival task (line_at text c.at).next else Run tick) text c (length room)) (turns_course (view c.state) (turns_in c.line (items_of (drop c.at text)))) in
      by_bool _ (eqb c.state.now.0 (tick * c.state.table.scale))
      (λ h. subst Want (sym h) (subst (Owed text room (arrival_of c task (line_at text c.at).next)) (sym (same (view c.state) ∙ reaching_there tick c.line follows (view c.state) h)) (arrival_owes task)))
      (λ h. subst Want (sym h) (subst (Owed text (run_room c.state tick room) (ran_of c tick (length room))) (sym (same (view c.state))) (ran_owes tick f.0 h follows same)))
  item_owes (Some (Until tick)) e f =
      let follows : Rules.State → List Entry = λ there. [] in
      let same : (k : Rules.State) → turns_course k (turns_in c.line (items_of (drop c.at text))) ≡ reaching k tick c.line follows =
      λ k. walked (Some (Until tick)) e k ∙ until_course k c.line tick later in
      let Want : Bool → Type 0 = λ b. Owed text (room_by (if b then Finish else Run tick) c room) (Turns.turn_by (if b then Finish else Run tick) text c (length room)) (turns_course (view c.state) (turns_in c.line (items_of (drop c.at text)))) in
      by_bool _ (eqb c.state.now.0 (tick * c.state.table.scale))
      (λ h. subst Want (sym h) (subst (Owed text room (ended_at c None)) (sym (same (view c.state) ∙ reaching_there tick c.line follows (view c.state) h)) ended_owes))
      (λ h. subst Want (sym h) (subst (Owed text (run_room c.state tick room) (ran_of c tick (length room))) (sym (same (view c.state))) (ran_owes tick f h follows same)))

-- past the last line nothing is owed
none_left : (text : List ℕ) (c : Cursor) → length text ≤ c.at → turns_course (view c.state) (turns_in c.line (items_of (drop c.at text))) ≡ []
unfolding turns_course turns_in
none_left text c h = ap (λ (l : List (Option Item)). turns_course (view c.state) (turns_in c.line l)) (items_none text c.at h)

past_owes : (text : List ℕ) (c : Cursor) (room : List ℕ) → length text ≤ c.at → Owed text room (ended_at c None) (turns_course (view c.state) (turns_in c.line (items_of (drop c.at text))))
unfolding owes
past_owes text c room h = record { entries = sym (none_left text c h); made = tt }

line_owes : (text : List ℕ) (c : Cursor) (room : List ℕ) → OnItsWay text c → 48 ≤ length room
    → Owed text (room_by (line_deed text c.at c.state.now.0 c.state.table.scale) c room) (Turns.turn_by (line_deed text c.at c.state.now.0 c.state.table.scale) text c (length room)) (turns_course (view c.state) (turns_in c.line (items_of (drop c.at text))))
line_owes text c room O space =
    let due : Bool → Deed = λ b. if b then item_deed (line_at text c.at).item (line_at text c.at).next c.state.now.0 c.state.table.scale else Finish in
    let Want : Bool → Type 0 = λ b. Owed text (room_by (due b) c room) (Turns.turn_by (due b) text c (length room)) (turns_course (view c.state) (turns_in c.line (items_of (drop c.at text)))) in
    by_bool _ (ltb c.at (length text))
    (λ h. subst Want (sym h) (item_owes text c room O space (of_true (ltb c.at (length text)) (ltb_says c.at (length text)) h) (line_at text c.at).item refl (line_fits text c.at)))
    (λ h. let n = of_false (ltb c.at (length text)) (ltb_says c.at (length text)) h in subst Want (sym h) (past_owes text c room (omega (arith, n))))

-- THE BEGINNING
good_short : (text : List ℕ) → form_of text ≡ good → length text ≤ 65536
unfolding form_of
good_short text e = go (ltb 65536 (length text)) (ltb_says 65536 (length text)) e
  where
    go : (b : Bool) → Says (65536 < length text) b → (if b then Err TooLong else form_from texts.Start 1 (split_by newline text)) ≡ good → length text ≤ 65536
    go true h e = absurd (cc)
    go false h e = omega (arith, h)

module _ (text : List ℕ) (c : Cursor) (room : List ℕ) (well : form_of text ≡ good) where
  admitted_owes : Owed text room (admitted_of text c) (admission_course text (Admission.admit (table_of text) (processors_in (items_of text))))
  unfolding admitted_of owes
  admitted_owes = go (admit_of b m).answer refl
    where
      b : List ℕ
      b = table_of text

      m : ℕ
      m = processors_in (items_of text)

      R : Admission.Admitted
      R = Admission.admit (table_of text) (processors_in (items_of text))

      Course : Bool → List Entry
      Course x = elim x as (λ _. List Entry) [ true ↦ scale_entry R.state.scale ∷ turns_course R.state (turns_in 1 (items_of text)) | false ↦ refusal R.answer (row_line_of text R.row) ]

      go : (x : Answer) → (admit_of b m).answer ≡ x → Owed text room (admitted_on text c (admit_of b m).state (admit_of b m).row x) (Course (is_done R.answer))
      go (Ok u) e =
          let w = admit_whole b m e in
          subst (λ y. Owed text room (admitted_on text c (admit_of b m).state (admit_of b m).row (Ok u)) (Course y)) (ap is_done (sym e ∙ (admits b m).answer))
          (record {
            entries = ap (λ (x : Rules.State). scale_entry x.scale ∷ turns_course x (turns_in 1 (items_of text))) w.1;
            made = record { whole = w.0; short = good_short text well; line = omega arith };
          })
      go (Err r) e =
          subst (λ y. Owed text room (admitted_on text c (admit_of b m).state (admit_of b m).row (Err r)) (Course y)) (ap is_done (sym e ∙ (admits b m).answer))
          (record {
            entries = ap (λ (a : Answer). refusal a (row_line_of text (admit_of b m).row)) (sym e ∙ (admits b m).answer) ∙ ap (λ (n : ℕ). refusal R.answer (row_line_of text n)) (admits b m).row;
            made = tt;
          })

start_owes : (text : List ℕ) (c : Cursor) (room : List ℕ) → Owed text room (start_of text c) (course_of text)
unfolding start_of course_of owes
start_owes text c room = go (form_of text) refl
  where
    go : (f : Checked) → form_of text ≡ f → Owed text room (start_by text c f) (course_by text f)
    go (Ok u) e = subst (λ (a : Admission.Admitted). Owed text room (admitted_of text c) (admission_course text a)) (rows_cut text (processors_in (items_of text))) (admitted_owes text c room e)
    go (Err flaw) e = unfold owes in (record { entries = refl; made = tt })

-- ANY TURN
pub turn_owes : (text : List ℕ) (c : Cursor) (room : List ℕ) → Made text c → 48 ≤ length room → Owed text (turn_room text c room) (turn_of text c (length room)) (owes text c)
unfolding turn_of turn_room owes
turn_owes text c room M space = go c.stage M
  where
    go : (stage : Stage) → MadeBy stage text c → Owed text (room_by (deed_by stage text c.at c.state.now.0 c.state.table.scale) c room) (Turns.turn_by (deed_by stage text c.at c.state.now.0 c.state.table.scale) text c (length room)) (owes_by stage text c)
    go Start M = start_owes text c room
    go Lines M = line_owes text c room M space
    go Ended M = unfold owes in (record { entries = refl; made = tt })
