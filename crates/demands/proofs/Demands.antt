-- The three demands hold of the calls
use Rattle.std.specs.Prelude.{if◌then◌else◌}
use mathlib.Core.Path.{◌≡◌, refl, sym, ◌∙◌, ap, subst}
use mathlib.Core.Bool.{Bool, true, false, not}
use mathlib.Core.Logic.{◌≢◌, inl, inr}
use mathlib.Core.List.{List, [], ◌∷◌, ◌++◌, map}
use Prim.Native.Nat.{ℕ, suc, ◌*◌, ◌-◌, ◌/◌}
use native.Mathlib.Omega.{arith}
use lib.Dec.{leb, ltb}
use lib.ListN.{length, take, drop, length-replicate}
use Rattle.rules.specs.Answers.{Answer, Done, Processors, TableLength, RowRange, RowExecution, Scale, Shares, TaskNumber, BetweenTicks, TooSoon, HorizonPastClock, HorizonNotLater, RoomTooShort, NotTogether, number_of, is_done}
use Rattle.state.specs.declared.State.{State}
use Rattle.rules.specs.State as Rules
use Rattle.rules.specs.Run as Rule
use Rattle.rules.specs.Calls as RuleCalls
use Rattle.demands.specs.Demands as Say
use Rattle.rules.specs.Admission.{admit_verdict, admit}
use Rattle.rules.specs.Reasons.{AdmitReason, StepReason}
use Rattle.rules.specs.Record.{Record, record_bytes}
use Rattle.rules.proofs.Computed.{computed}
use Rattle.rules.specs.Listings.{table_p1, towards, line, listing}
use Rattle.rules.proofs.Figures.{figures}
use Rattle.rules.specs.Table.{rows_of, table_bytes}
use Rattle.rules.proofs.Jobs.{by_answer, Good}
use Rattle.rules.proofs.Starting.{admit_passes}
use Rattle.rules.proofs.Demands.{start_good, start_manned, job_of, course_of, others_stay}
use Rattle.rules.specs.Demands.{Untouched}
use Rattle.rules.proofs.Keeping.{not_both}
use Rattle.rules.proofs.Refusing.{step_answers, admit_answers}
use Rattle.table.specs.Tabled.{table_from, blank_table, tabled_of}
use Rattle.table.proofs.Admitted.{tabled_refused, tabled_done}
use Rattle.state.specs.Machine.{tick_at, moved_of, arrived_of}
use Rattle.state.specs.View.{tasks_at, view, Sized}
use Rattle.together.specs.Holds.{holds_of}
use Rattle.together.proofs.Holding.{holding_says}
use Rattle.moves.specs.Fresh.{fresh_state}
use Rattle.moves.specs.Whole.{Whole}
use Rattle.moves.proofs.Fresh.{fresh_view, fresh_sound, fresh_whole}
use Rattle.moves.proofs.Keeping.{sized_by, together_of}
use Rattle.admission.specs.Admit.{blank_state, admit_of}
use Rattle.refusals.specs.Arrive.{task_in, whole_tick, soon_again, arrive_answer_of}
use Rattle.calls.specs.Arrive.{arrive_of}
use Rattle.demands.specs.Demands.{OneOf, calling_all, starting, seen}
use Rattle.inplace.specs.Run.{went, run_room}
use Rattle.calls.specs.Run.{run_of}
use Rattle.refusals.specs.Step.{moves_by, step_answer_of}
use Rattle.calls.specs.Step.{step_of}
use Rattle.inplace.specs.Step.{step_room}
use Rattle.calls.proofs.Refining.{arrive_kept, step_kept}
use Rattle.refusals.proofs.Agreeing.{arrive_same, step_same}
use Rattle.refusals.proofs.Checking.{holds_whole, whole_holds}
use Rattle.demands.proofs.Runs.{run_steps}
use Rattle.demands.proofs.Serving.{Followed, plain, all_together, calls_followed, seen_good, seen_within, seen_next, taken_in}
use Rattle.inplace.proofs.RunSteps.{went_whole}
use Rattle.rules.specs.Bounds.{clock}

-- EACH CALL IS THE RULES' CALL
pub arrives : (s : State) (task : ℕ) → Sized s → holds_of s ≡ true → Say.Arrives s task
unfolding RuleCalls.arrive arrive_of
arrives s task z h =
    let W = holds_whole s z h in
    let K = arrive_kept s task W in
    record { answer = arrive_same s task W; state = K.same; holds = whole_holds (arrive_of s task).state K.whole }

pub steps : (s : State) (h : ℕ) (room : List ℕ) → Sized s → holds_of s ≡ true → Say.Steps s h room
unfolding RuleCalls.step step_of
steps s h room z q =
    let W = holds_whole s z q in
    let K = step_kept s h room W in
    record {
      answer = step_same s h (length room) W;
      state = K.kept.same;
      bytes = K.room_same;
      holds = whole_holds (step_of s h (length room)).state K.kept.whole;
    }

-- DONE OR NOT
not_done : (a : Answer) → ¬ (a ≡ Done) → is_done a ≡ false
not_done a n = by_answer _ a (λ e. absurd (n e)) (λ e. e)

-- ADMIT
admit_state : (bytes : List ℕ) (m : ℕ) → (admit_of bytes m).answer ≡ Done → (admit_of bytes m).state ≡ fresh_state (table_from m (rows_of bytes))
unfolding admit_of tabled_of
admit_state bytes m d = ap fresh_state (tabled_done bytes m (ap is_done d))

rules_state : (bytes : List ℕ) (m : ℕ) → (admit bytes m).answer ≡ Done → (admit bytes m).state ≡ Rules.admitted m (rows_of bytes)
unfolding admit
rules_state bytes m d = ap (λ (a : Answer). if is_done a then Rules.admitted m (rows_of bytes) else Rules.blank) d

answer_same : (bytes : List ℕ) (m : ℕ) → ((admit_of bytes m).answer ≡ (admit bytes m).answer) × ((admit_of bytes m).row ≡ (admit bytes m).row)
unfolding admit_of tabled_of admit
answer_same bytes m = (refl, refl)

pub admit_whole : (bytes : List ℕ) (m : ℕ) → (admit_of bytes m).answer ≡ Done → Whole (admit_of bytes m).state × (view (admit_of bytes m).state ≡ (admit bytes m).state)
admit_whole bytes m d =
    let r : (admit bytes m).answer ≡ Done = sym (answer_same bytes m).0 ∙ d in
    let P = admit_passes bytes m r in
    let e = admit_state bytes m d in
    (subst Whole (sym e) (fresh_whole m (rows_of bytes) P), ap view e ∙ fresh_view m (rows_of bytes) ∙ sym (rules_state bytes m r))

pub admits : (bytes : List ℕ) (m : ℕ) → Say.Admits bytes m
admits bytes m = record {
  answer = (answer_same bytes m).0;
  row = (answer_same bytes m).1;
  state = λ d. let w = admit_whole bytes m d in (w.1, whole_holds (admit_of bytes m).state w.0);
}

-- DEMAND 3
start_followed : (bytes : List ℕ) (m : ℕ) → (admit_of bytes m).answer ≡ Done → Followed (rows_of bytes) m (starting bytes m)
start_followed bytes m d =
    let w = admit_whole bytes m d in
    (Rule.starting (admit bytes m).state, record { whole = w.0; same = w.1; records = refl; arrivals = refl }, start_good bytes m (sym (answer_same bytes m).0 ∙ d), start_manned bytes m (sym (answer_same bytes m).0 ∙ d))

followed : (bytes : List ℕ) (m : ℕ) → (admit_of bytes m).answer ≡ Done → (cs : List Say.Call) → Followed (rows_of bytes) m (calling_all (starting bytes m) cs)
followed bytes m d cs = calls_followed (rows_of bytes) m cs (starting bytes m) (start_followed bytes m d)

calls_good : (bytes : List ℕ) (m : ℕ) → (admit_of bytes m).answer ≡ Done → (cs : List Say.Call) → Good (rows_of bytes) (seen (calling_all (starting bytes m) cs))
calls_good bytes m d cs = seen_good (rows_of bytes) m (calling_all (starting bytes m) cs) (followed bytes m d cs)

arrive_13 : (s : State) (task : ℕ) → holds_of s ≡ false → (arrive_of s task).answer ≡ NotTogether
unfolding arrive_of arrive_answer_of
arrive_13 s task e = rw e

-- an arrival is taken only from a state that holds together
taken_holds : (s : State) (task : ℕ) → (arrive_of s task).answer ≡ Done → holds_of s ≡ true
taken_holds s task d = go (holds_of s) refl
  where
    go : (b : Bool) → holds_of s ≡ b → b ≡ true
    go true e = refl
    go false e = let z : Done ≡ NotTogether = sym d ∙ arrive_13 s task e in let y : ◌≡◌ {A = ℕ} 0 13 = ap number_of z in absurd (omega arith)

pub demand_3 : Say.Demand3
demand_3 = record {
  jobs = λ bytes m d before task a later.
      let h = calling_all (starting bytes m) (before ++ Say.arrive_call task ∷ later) in
      job_of (rows_of bytes) (seen h) (calls_good bytes m d (before ++ Say.arrive_call task ∷ later)) _ (taken_in (starting bytes m) before task a later);
  courses = λ bytes m d calls. course_of (rows_of bytes) m (seen (calling_all (starting bytes m) calls)) (calls_good bytes m d calls) (seen_within (rows_of bytes) m (calling_all (starting bytes m) calls) (followed bytes m d calls));
  nexts = λ bytes m d calls. seen_next (rows_of bytes) m (calling_all (starting bytes m) calls) (followed bytes m d calls);
  others = others;
}
  where
    others : (s : State) (task : ℕ) → Sized s → (arrive_of s task).answer ≡ Done → (j : ℕ) → suc j ≢ task → Untouched (Rules.at j (tasks_at s)) (Rules.at j (tasks_at (arrive_of s task).state))
    others s task z d j n =
        let a = arrives s task z (taken_holds s task d) in
        subst (λ (x : Rules.State). Untouched (Rules.at j (tasks_at s)) (Rules.at j x.tasks)) (sym a.state) (others_stay (view s) task (sym a.answer ∙ d) j n)

-- arrivals and steps hand out the rules' records
records_same : (bytes : List ℕ) (m : ℕ) → (admit_of bytes m).answer ≡ Done → (cs : List Rule.Call) → (calling_all (starting bytes m) (map plain cs)).records ≡ (Rule.run_of bytes m cs).records
unfolding Rule.run_of
records_same bytes m d cs =
    let w = admit_whole bytes m d in
    (all_together cs (starting bytes m) (Rule.starting (admit bytes m).state) (record { whole = w.0; same = w.1; records = refl; arrivals = refl })).records

-- P1's table is admitted
admitted_p1 : (admit (table_bytes table_p1) 2).answer ≡ Done
unfolding computed
admitted_p1 = refl

abbrev rule_calls_p1 : List Rule.Call
rule_calls_p1 = Rule.arrive_call 1 ∷ Rule.arrive_call 2 ∷ Rule.arrive_call 3 ∷ Rule.arrive_call 4 ∷ towards 3 ∷ towards 3 ∷ towards 3 ∷ towards 3 ∷ []

pub met : Say.Met
unfolding listing
met =
    let d = (answer_same (table_bytes table_p1) 2).0 ∙ admitted_p1 in
    record {
      admitted = d;
      records = ap (map (λ (r : Record). line r.from r.to (take 2 r.slots))) (records_same (table_bytes table_p1) 2 d rule_calls_p1) ∙ figures.listings.p1;
    }

-- DEMAND 2
-- 13, and nothing else, where the state does not hold together
moves_13 : (s : State) (h n : ℕ) → holds_of s ≡ false → step_answer_of s h n ≡ NotTogether
unfolding step_answer_of
moves_13 s h n e = rw e

step_13 : (s : State) (h n : ℕ) → holds_of s ≡ false → (step_of s h n).answer ≡ NotTogether
unfolding step_of
step_13 s h n e = moves_13 s h n e

run_is_steps : (s : State) (h : ℕ) (room : List ℕ) → Sized s → Say.RunSteps s h room
unfolding run_of run_room step_of
run_is_steps s h room z = record {
  answer = refl;
  done = λ d.
      let W = whole_of s h (length room) z d in
      let R = subst (StepReason (view s) h (length room)) (sym (step_same s h (length room) W) ∙ d) (step_answers (view s) h (length room)) in
      let e = run_steps (length room / 48) h s W R.2 in
      (rw (d, e), rw (d, e), rw (d, e), rw d (whole_holds (went (length room / 48) h s).state (went_whole (length room / 48) h s W R.2)));
}
  where
    whole_of : (s : State) (h n : ℕ) → Sized s → step_answer_of s h n ≡ Done → Whole s
    whole_of s h n z d = go (holds_of s) refl
      where
        go : (b : Bool) → holds_of s ≡ b → Whole s
        go true e = holds_whole s z e
        go false e = let q : NotTogether ≡ Done = sym (moves_13 s h n e) ∙ d in not_both _ (ap is_done q)

pub demand_2 : Say.Demand2
demand_2 = record {
  together = λ s z. holding_says s z z.order;
  admits = admits;
  arrives = λ s task z. (arrives s task z, arrive_13 s task);
  steps = λ s h room z. (steps s h room z, step_13 s h (length room));
  runs = run_is_steps;
}

-- DEMAND 1
arrive_listed : (s : State) (task : ℕ) → OneOf (number_of (arrive_of s task).answer) (0 ∷ 7 ∷ 8 ∷ 9 ∷ 13 ∷ [])
unfolding arrive_of arrive_answer_of
arrive_listed s task = go (holds_of s) (task_in s.table.count task) (whole_tick s.table.scale s.now.0) (soon_again (tick_at s) s.table.period s.jobs.arrived s.jobs.last (task - 1))
  where
    go : (a b c d : Bool) → OneOf (number_of (if a then (if not b then TaskNumber else (if not c then BetweenTicks else (if d then TooSoon else Done))) else NotTogether)) (0 ∷ 7 ∷ 8 ∷ 9 ∷ 13 ∷ [])
    go false b c d = inr (inr (inr (inr (inl refl))))
    go true false c d = inr (inl refl)
    go true true false d = inr (inr (inl refl))
    go true true true true = inr (inr (inr (inl refl)))
    go true true true false = inl refl

step_listed : (s : State) (h n : ℕ) → OneOf (number_of (step_answer_of s h n)) (0 ∷ 10 ∷ 11 ∷ 12 ∷ 13 ∷ [])
unfolding step_answer_of moves_by
step_listed s h n = go (holds_of s) (ltb n 48) (ltb clock h) (leb (h * s.table.scale) s.now.0)
  where
    go : (a b c d : Bool) → OneOf (number_of (if a then (if b then RoomTooShort else (if c then HorizonPastClock else (if d then HorizonNotLater else Done))) else NotTogether)) (0 ∷ 10 ∷ 11 ∷ 12 ∷ 13 ∷ [])
    go false b c d = inr (inr (inr (inr (inl refl))))
    go true true c d = inr (inr (inr (inl refl)))
    go true false true d = inr (inl refl)
    go true false false true = inr (inr (inl refl))
    go true false false false = inl refl

admit_listed : (bytes : List ℕ) (m : ℕ) → OneOf (number_of (admit bytes m).answer) (0 ∷ 1 ∷ 2 ∷ 3 ∷ 4 ∷ 5 ∷ 6 ∷ [])
unfolding admit
admit_listed bytes m = go (admit_verdict bytes m).answer (admit_verdict bytes m).row (admit_answers bytes m)
  where
    go : (a : Answer) (i : ℕ) → AdmitReason bytes m a i → OneOf (number_of a) (0 ∷ 1 ∷ 2 ∷ 3 ∷ 4 ∷ 5 ∷ 6 ∷ [])
    go Done i h = inl refl
    go Processors i h = inr (inl refl)
    go TableLength i h = inr (inr (inl refl))
    go RowRange i h = inr (inr (inr (inl refl)))
    go RowExecution i h = inr (inr (inr (inr (inl refl))))
    go Scale i h = inr (inr (inr (inr (inr (inl refl)))))
    go Shares i h = inr (inr (inr (inr (inr (inr (inl refl))))))
    go other i h = absurd h

blank_refused : holds_of blank_state ≡ false
blank_refused = go (holds_of blank_state) refl
  where
    go : (b : Bool) → holds_of blank_state ≡ b → holds_of blank_state ≡ false
    go false e = e
    go true e = let W = holds_whole blank_state blank_sized e in absurd (omega (arith, (together_of W).table.processors.0))
      where
        blank_sized : Sized blank_state
        blank_sized = let S = fresh_sound blank_table (omega arith) (omega arith) in sized_by blank_state S (length-replicate {A = ℕ} 128 0) (length-replicate {A = Bool} 128 false) (length-replicate {A = Bool} 128 false) (length-replicate {A = ℕ} 128 0)

refused_blank : (bytes : List ℕ) (m : ℕ) → ¬ ((admit_of bytes m).answer ≡ Done) → (admit_of bytes m).state ≡ blank_state
unfolding admit_of tabled_of
refused_blank bytes m n = ap fresh_state (tabled_refused bytes m (not_done (admit_verdict bytes m).answer n))

pub demand_1 : Say.Demand1
demand_1 = record {
  admits = λ bytes m. record {
    listed = subst (λ (a : Answer). OneOf (number_of a) (0 ∷ 1 ∷ 2 ∷ 3 ∷ 4 ∷ 5 ∷ 6 ∷ [])) (sym (answer_same bytes m).0) (admit_listed bytes m);
    refused = λ n. let e = refused_blank bytes m n in (e, ap holds_of e ∙ blank_refused);
  };
  arrives = λ s task. record { listed = arrive_listed s task; refused = λ n. arrive_unchanged s task n };
  steps = λ s h room. record { listed = unfold step_of in (step_listed s h (length room)); refused = λ n. step_unchanged s h room n };
  runs = λ s h room. record { listed = unfold run_of in (step_listed s h (length room)); refused = λ n. run_unchanged s h room n };
}
  where
    arrive_unchanged : (s : State) (task : ℕ) → ¬ ((arrive_of s task).answer ≡ Done) → (arrive_of s task).state ≡ s
    arrive_unchanged s task n = unfold arrive_of in (ap (λ b. if b then arrived_of s (task - 1) else s) (not_done (arrive_answer_of s task) (unfold arrive_of in n)))

    step_unchanged : (s : State) (h : ℕ) (room : List ℕ) → ¬ ((step_of s h (length room)).answer ≡ Done) → ((step_of s h (length room)).state ≡ s) × (step_room s h room ≡ room)
    step_unchanged s h room n = unfold step_of step_room in (
        let e = not_done (step_answer_of s h (length room)) n in
        (ap (λ b. if b then (moved_of s h).state else s) e, ap (λ b. if b then record_bytes (moved_of s h).rec ++ drop 48 room else room) e))

    run_unchanged : (s : State) (h : ℕ) (room : List ℕ) → ¬ ((run_of s h (length room)).answer ≡ Done)
        → ((run_of s h (length room)).state ≡ s) × ((run_of s h (length room)).records ≡ 0) × (run_room s h room ≡ room)
    run_unchanged s h room n = unfold run_of run_room in (
        let e = not_done (step_answer_of s h (length room)) n in
        (rw e, rw e, rw e))

-- TIGHT
pub tight : Say.Tight
tight = record {
  admits = λ bytes m a b e f. e ∙ sym f;
  arrives = λ s task a b e f. e ∙ sym f;
  steps = λ s h room a b u v e f. (e.0 ∙ sym f.0, e.1 ∙ sym f.1);
  runs = λ s h room a b u v e f. (e.0 ∙ sym f.0, e.1 ∙ sym f.1);
}
