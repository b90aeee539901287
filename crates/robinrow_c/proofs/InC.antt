-- Any calls on the struct are the calls on the state
use Rattle.std.specs.Prelude.{if◌then◌else◌}
use mathlib.Core.Path.{◌≡◌, refl, sym, ap, ◌∙◌, subst}
use mathlib.Core.List.{List, [], ◌∷◌, ◌++◌, foldl}
use mathlib.Core.Logic.{◌≢◌}
use Prim.Native.Nat.{ℕ, suc, ◌*◌, ◌≤◌, ◌<◌}
use native.Mathlib.Omega.{arith}
use lib.Dec.{eqb}
use lib.ListN.{length}
use Rattle.std.specs.Prelude.{Ok, Err}
use Rattle.rules.specs.Answers.{Answer, Done, number_of, is_done}
use mathlib.Core.Bool.{Bool}
use Rattle.rules.specs.Record.{Record}
use Rattle.rules.specs.Run.{Arrival, Run}
use Rattle.rules.specs.Table.{Row, rows_of}
use Rattle.rules.specs.Scale.{scale_of}
use Rattle.rules.specs.State.{at}
use Rattle.rules.specs.Demands.{Job, Course, Untouched}
use Rattle.rules.proofs.Jobs.{done_is}
use Rattle.state.specs.declared.State.{State}
use Rattle.state.specs.Machine.{tick_at}
use Rattle.state.specs.View.{tasks_at, view, Sized}
use Rattle.inplace.specs.Step.{step_room}
use Rattle.inplace.specs.Run.{run_room}
use Rattle.calls.specs.Arrive.{arrive_of}
use Rattle.calls.specs.Step.{step_of}
use Rattle.calls.specs.Run.{run_of}
use Rattle.demands.specs.Demands.{Call, Calls, calling, calling_all, starting, seen, NextOf}
use Rattle.demands.specs.Demands.Call.{arrive_call, step_call, run_call}
use Rattle.demands.proofs.Demands.{demand_3}
use Rattle.robinrow_c.specs.Struct.{Struct, state_of, struct_of}
use Rattle.robinrow_c.specs.Exports.{arrive_number, arrive_struct, step_number, step_struct, step_record, run_count, run_struct, run_records, Held, holding, holding_all, seen_in, NextInC, InC, run_number}
use Rattle.robinrow_c.proofs.Struct.{struct_flagged, struct_state}
use Rattle.robinrow_c.proofs.Refusals.{by_flags}

-- ONE CALL on the struct of a state
module _ (s : State) where
  pub arrive_number_lem : (task : ℕ) → arrive_number (struct_of s) task ≡ number_of (arrive_of s task).answer
  unfolding arrive_number
  arrive_number_lem task = ap (λ b. if b then number_of (arrive_of (state_of (struct_of s)) task).answer else 13) (struct_flagged s) ∙ ap (λ x. number_of (arrive_of x task).answer) (struct_state s)

  pub arrive_struct_lem : (task : ℕ) → arrive_struct (struct_of s) task ≡ struct_of (arrive_of s task).state
  unfolding arrive_struct
  arrive_struct_lem task = ap (λ b. if b then struct_of (arrive_of (state_of (struct_of s)) task).state else struct_of s) (struct_flagged s) ∙ ap (λ x. struct_of (arrive_of x task).state) (struct_state s)

  module _ (h : ℕ) (room : List ℕ) where
    pub step_number_lem : step_number (struct_of s) h room ≡ number_of (step_of s h (length room)).answer
    unfolding step_number
    step_number_lem = ap (λ b. if b then number_of (step_of (state_of (struct_of s)) h (length room)).answer else 13) (struct_flagged s) ∙ ap (λ x. number_of (step_of x h (length room)).answer) (struct_state s)

    pub step_struct_lem : step_struct (struct_of s) h room ≡ struct_of (step_of s h (length room)).state
    unfolding step_struct
    step_struct_lem = ap (λ b. if b then struct_of (step_of (state_of (struct_of s)) h (length room)).state else struct_of s) (struct_flagged s) ∙ ap (λ x. struct_of (step_of x h (length room)).state) (struct_state s)

    pub step_record_lem : step_record (struct_of s) h room ≡ step_room s h room
    unfolding step_record
    step_record_lem = ap (λ b. if b then step_room (state_of (struct_of s)) h room else room) (struct_flagged s) ∙ ap (λ x. step_room x h room) (struct_state s)

    pub run_number_lem : run_number (struct_of s) h room ≡ number_of (run_of s h (length room)).answer
    unfolding run_number
    run_number_lem = ap (λ b. if b then number_of (run_of (state_of (struct_of s)) h (length room)).answer else 13) (struct_flagged s) ∙ ap (λ x. number_of (run_of x h (length room)).answer) (struct_state s)

    pub run_struct_lem : run_struct (struct_of s) h room ≡ struct_of (run_of s h (length room)).state
    unfolding run_struct
    run_struct_lem = ap (λ b. if b then struct_of (run_of (state_of (struct_of s)) h (length room)).state else struct_of s) (struct_flagged s) ∙ ap (λ x. struct_of (run_of x h (length room)).state) (struct_state s)

    run_count_lem : run_count (struct_of s) h room ≡ (run_of s h (length room)).records
    unfolding run_count
    run_count_lem = ap (λ b. if b then (run_of (state_of (struct_of s)) h (length room)).records else 0) (struct_flagged s) ∙ ap (λ x. (run_of x h (length room)).records) (struct_state s)

    run_records_lem : run_records (struct_of s) h room ≡ run_room s h room
    unfolding run_records
    run_records_lem = ap (λ b. if b then run_room (state_of (struct_of s)) h room else room) (struct_flagged s) ∙ ap (λ x. run_room x h room) (struct_state s)

-- number 0 is Done
number_done : (a : Answer) → eqb (number_of a) 0 ≡ is_done a
number_done (Ok u) = refl
number_done (Err r) = grind arith

pub zero_done : (a : Answer) → number_of a ≡ 0 → a ≡ Done
zero_done a e = done_is a (sym (number_done a) ∙ ap (λ n. eqb n 0) e)

-- calls with the struct of their state
abbrev held : Calls → Held
held r = record { struct = struct_of r.state; records = r.records; arrivals = r.arrivals }

-- what an arrival leaves, by its parts
arrival_parts : (rs : List Record) (xs : List Arrival) (task : ℕ) (c c' : Struct) (d d' : Bool) (tick tick' : ℕ) → c ≡ c' → d ≡ d' → tick ≡ tick'
    → ◌≡◌ {A = Held} (record { struct = c; records = rs; arrivals = if d then record { task = task; tick = tick } ∷ xs else xs })
    (record { struct = c'; records = rs; arrivals = if d' then record { task = task; tick = tick' } ∷ xs else xs })
arrival_parts rs xs task c c' d d' tick tick' e f g = rw (e, f, g)

module _ (s : State) where
  arrive_done : (task : ℕ) → eqb (arrive_number (struct_of s) task) 0 ≡ is_done (arrive_of s task).answer
  arrive_done task = ap (λ n. eqb n 0) (arrive_number_lem s task) ∙ number_done (arrive_of s task).answer

  step_done : (h : ℕ) (room : List ℕ) → eqb (step_number (struct_of s) h room) 0 ≡ is_done (step_of s h (length room)).answer
  step_done h room = ap (λ n. eqb n 0) (step_number_lem s h room) ∙ number_done (step_of s h (length room)).answer

one : (r : Calls) (c : Call) → holding (held r) c ≡ held (calling r c)
unfolding holding calling
one r (arrive_call task) = arrival_parts r.records r.arrivals task _ _ _ _ _ _ (arrive_struct_lem r.state task) (arrive_done r.state task) (ap tick_at (struct_state r.state))
one r (step_call h room) = rw (step_struct_lem r.state h room, step_done r.state h room, step_record_lem r.state h room)
one r (run_call h room) = rw (run_struct_lem r.state h room, run_count_lem r.state h room, run_records_lem r.state h room)

all : (r : Calls) (cs : List Call) → foldl holding (held r) cs ≡ held (foldl calling r cs)
all r [] = refl
all r (c ∷ cs) = ap (λ x. foldl holding x cs) (one r c) ∙ all (calling r c) cs

module _ (bytes : List ℕ) (m : ℕ) (cs : List Call) where
  -- the struct is that of the state
  held_is : holding_all bytes m cs ≡ held (calling_all (starting bytes m) cs)
  unfolding holding_all calling_all
  held_is = all (starting bytes m) cs

  struct_is : state_of (holding_all bytes m cs).struct ≡ (calling_all (starting bytes m) cs).state
  struct_is = ap (λ (x : Held). state_of x.struct) held_is ∙ struct_state (calling_all (starting bytes m) cs).state

  same : seen_in (holding_all bytes m cs) ≡ seen (calling_all (starting bytes m) cs)
  same = ap seen_in held_is ∙ ap (λ (x : State). record { state = view x; records = (calling_all (starting bytes m) cs).records; arrivals = (calling_all (starting bytes m) cs).arrivals }) (struct_state (calling_all (starting bytes m) cs).state)

-- WHAT THE NEXT CALL IS ANSWERED
next_held : (rows : List Row) (r : Calls) → NextOf rows r → NextInC rows (held r)
next_held rows r N =
    record {
      takes = λ task tick lo hi e.
          let x = N.takes task tick lo hi e in
          let n = arrive_number_lem r.state task in ((λ d. x.0 (zero_done _ (sym n ∙ d))), (λ f. n ∙ ap number_of (x.1 f)));
      moves = λ h room l k b.
          let x = N.moves h room l k b in
          let n = ap (λ (c : Struct). c.now) (step_struct_lem r.state h room) in
          (step_number_lem r.state h room ∙ ap number_of x.0, subst (λ (i : ℕ). r.state.now.0 < i) (sym n) x.1, subst (λ (i : ℕ). i ≤ h * scale_of rows) (sym n) x.2);
    }

-- AN ARRIVAL LEAVES THE OTHERS: it is taken only where the flags are 0 or 1
others_held : (c : Struct) (task : ℕ) → Sized (state_of c) → arrive_number c task ≡ 0 → (j : ℕ) → suc j ≢ task → Untouched (at j (tasks_at (state_of c))) (at j (tasks_at (state_of (arrive_struct c task))))
unfolding arrive_number arrive_struct
others_held c task z =
    let r = arrive_of (state_of c) task in
    by_flags c
    (λ b. (if b then number_of r.answer else 13) ≡ 0 → (j : ℕ) → suc j ≢ task → Untouched (at j (tasks_at (state_of c))) (at j (tasks_at (state_of (if b then struct_of r.state else c)))))
    (λ ok d j n. subst (λ (s : State). Untouched (at j (tasks_at (state_of c))) (at j (tasks_at s))) (sym (struct_state r.state)) (demand_3.others (state_of c) task z (zero_done _ d) j n))
    (λ d. absurd (omega (arith, d)))

pub in_c : InC
in_c = record {
  same = same;
  jobs = λ bytes m a before task t later.
      let b = calling_all (starting bytes m) before in
      let d : (arrive_of b.state task).answer ≡ Done = zero_done _ (sym (ap (λ (x : Held). arrive_number x.struct task) (held_is bytes m before) ∙ arrive_number_lem b.state task) ∙ t) in
      let j = demand_3.jobs bytes m (zero_done _ a) before task d later in
      subst (λ (x : Run). Job (rows_of bytes) x task (tick_at (state_of (holding_all bytes m before).struct))) (sym (same bytes m (before ++ arrive_call task ∷ later)))
      (subst (λ (x : State). Job (rows_of bytes) (seen (calling_all (starting bytes m) (before ++ arrive_call task ∷ later))) task (tick_at x)) (sym (struct_is bytes m before)) j);
  courses = λ bytes m a cs. subst (Course (rows_of bytes) m) (sym (same bytes m cs)) (demand_3.courses bytes m (zero_done _ a) cs);
  nexts = λ bytes m a cs. subst (NextInC (rows_of bytes)) (sym (held_is bytes m cs)) (next_held (rows_of bytes) (calling_all (starting bytes m) cs) (demand_3.nexts bytes m (zero_done _ a) cs));
  others = others_held;
}
