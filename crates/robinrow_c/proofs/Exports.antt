-- Each export is its definition
use mathlib.Core.Path.{◌≡◌, refl, sym, ap, ◌∙◌}
use mathlib.Core.Bool.{Bool, true, false}
use mathlib.Core.List.{List, map}
use Prim.Native.Nat.{ℕ}
use lib.ListN.{length}
use Rattle.rules.specs.Answers.{Answer, number_of, NotTogether}
use Rattle.flags.specs.Flags.{bit, flag}
use Rattle.state.specs.declared.State.{State}
use Rattle.refusals.specs.Arrive.{arrive_answer_of}
use Rattle.refusals.specs.Step.{step_answer_of}
use Rattle.inplace.specs.Arrive.{arrive_state_of}
use Rattle.inplace.specs.Step.{step_state_of, step_room}
use Rattle.inplace.specs.Run.{run_state_of, run_records_of, run_room}
use Rattle.calls.specs.Arrive.{arrive_of}
use Rattle.calls.specs.Step.{step_of}
use Rattle.calls.specs.Run.{run_of}
use Rattle.robinrow_c.specs.Struct.{Struct, flagged, state_with, state_of, struct_of}
use Rattle.robinrow_c.specs.Exports.{arrive_number, arrive_struct, step_number, step_struct, step_record, run_number, run_count, run_struct, run_records, admit_number, admit_struct}
use Rattle.robinrow_c.proofs.Struct.{arrive_stands, going_back, arrived_back}
use Rattle.admission.specs.declared.Admitted.{Admitted}
use Rattle.admission.specs.Admit.{admit_of}

-- ADMISSION, by what it leaves in the lent arrays
pub admit_good : (bytes : List ℕ) (m : ℕ) (x : Admitted) → x ≡ admit_of bytes m → (n : ℕ) → n ≡ number_of x.answer → (awake arrived : List ℕ) → awake ≡ map bit x.state.jobs.awake → arrived ≡ map bit x.state.jobs.arrived
    → (n ≡ admit_number bytes m) × (x.row ≡ (admit_of bytes m).row)
    × (record {
      table = x.state.table;
      now = x.state.now.0;
      going = bit x.state.going;
      end = x.state.end;
      awake = awake;
      arrived = arrived;
      last = x.state.jobs.last;
      running = x.state.running;
      waiting = x.state.waiting;
      slots = x.state.slots;
    }
    ≡ admit_struct bytes m)
admit_good bytes m x e n en awake arrived e4 e5 =
    (en ∙ ap (λ (y : Admitted). number_of y.answer) e, ap (λ (y : Admitted). y.row) e, ap (λ l. with_flags l arrived) e4 ∙ ap (λ l. with_flags (map bit x.state.jobs.awake) l) e5 ∙ ap (λ (y : Admitted). struct_of y.state) e)
  where
    with_flags : List ℕ → List ℕ → Struct
    with_flags a b = record { table = x.state.table; now = x.state.now.0; going = bit x.state.going; end = x.state.end; awake = a; arrived = b; last = x.state.jobs.last; running = x.state.running; waiting = x.state.waiting; slots = x.state.slots }

-- A STRUCT WITH OTHER BYTES FOR FLAGS
module _ (c : Struct) (bad : flagged c ≡ false) (n : ℕ) (e : n ≡ number_of NotTogether) where
  pub arrive_bad : (task : ℕ) → (n ≡ arrive_number c task) × (c ≡ arrive_struct c task)
  unfolding arrive_number arrive_struct
  arrive_bad task = (rw (bad, e), rw bad)

  pub step_bad : (horizon : ℕ) (room : List ℕ) → (n ≡ step_number c horizon room) × (c ≡ step_struct c horizon room) × (room ≡ step_record c horizon room)
  unfolding step_number step_struct step_record
  step_bad horizon room = (rw (bad, e), rw bad, rw bad)

  pub run_bad : (horizon : ℕ) (room : List ℕ) → (n ≡ run_number c horizon room) × (c ≡ run_struct c horizon room) × (0 ≡ run_count c horizon room) × (room ≡ run_records c horizon room)
  unfolding run_number run_struct run_count run_records
  run_bad horizon room = (rw (bad, e), rw bad, rw bad, rw bad)

-- the flags that were read
module _ (c : Struct) (up came : List Bool) (eu : up ≡ map flag c.awake) (ec : came ≡ map flag c.arrived) where
  same : state_with c up came ≡ state_of c
  same = ap (λ l. state_with c l came) eu ∙ ap (λ l. state_with c (map flag c.awake) l) ec

  module _ (ok : flagged c ≡ true) (n : ℕ) (a : Answer) (en : n ≡ number_of a) (k : State) where
    -- the struct handed back: its flags are written, the rest is where it was worked on
    put_back : (present going end : ℕ) (awake arrived : List ℕ) → present ≡ k.now.0 → going ≡ bit k.going → end ≡ k.end → awake ≡ map bit k.jobs.awake → arrived ≡ map bit k.jobs.arrived
        → record { table = k.table; now = present; going = going; end = end; awake = awake; arrived = arrived; last = k.jobs.last; running = k.running; waiting = k.waiting; slots = k.slots } ≡ struct_of k
    put_back present going end awake arrived e1 e2 e3 e4 e5 = rw (e1, e2, e3, e4, e5)

    pub arrive_good : (task : ℕ) → (a ≡ arrive_answer_of (state_with c up came) task) × (k ≡ arrive_state_of (state_with c up came) task) → (awake arrived : List ℕ) → awake ≡ map bit k.jobs.awake → arrived ≡ map bit k.jobs.arrived
        → (n ≡ arrive_number c task)
        × (record { table = k.table; now = c.now; going = c.going; end = c.end; awake = awake; arrived = arrived; last = k.jobs.last; running = k.running; waiting = k.waiting; slots = k.slots } ≡ arrive_struct c task)
    unfolding arrive_number arrive_struct arrive_of
    arrive_good task e awake arrived e4 e5 =
        let st = arrive_stands (state_with c up came) task in
        let e1 : c.now ≡ k.now.0 = sym (ap (λ (x : State). x.now.0) e.1 ∙ st.present) in
        let e2 : c.going ≡ bit k.going = sym (ap (λ (x : State). bit x.going) e.1 ∙ ap bit st.going ∙ going_back c ok) in
        let e3 : c.end ≡ k.end = sym (ap (λ (x : State). x.end) e.1 ∙ st.end) in
        let s : arrive_answer_of (state_with c up came) task ≡ arrive_answer_of (state_of c) task = ap (λ x. arrive_answer_of x task) same in
        let t : k ≡ arrive_state_of (state_of c) task = e.1 ∙ ap (λ (x : State). arrive_state_of x task) same in
        let z : n ≡ number_of (arrive_answer_of (state_of c) task) = en ∙ ap number_of (e.0 ∙ s) in
        (rw (ok, z), put_back c.now c.going c.end awake arrived e1 e2 e3 e4 e5 ∙ rw (ok, t))

    -- a step or a run only reads the arrivals
    arrived_same : k.jobs.arrived ≡ came → c.arrived ≡ map bit k.jobs.arrived
    arrived_same e = sym (ap (map bit) (e ∙ ec) ∙ arrived_back c ok)

    module _ (horizon : ℕ) (room : List ℕ) (going : ℕ) (awake : List ℕ) (eg : going ≡ bit k.going) (ea : awake ≡ map bit k.jobs.awake) (er : k.jobs.arrived ≡ came)
        (e : a ≡ step_answer_of (state_with c up came) horizon (length room)) where
      -- the struct handed back
      put : record { table = k.table; now = k.now.0; going = going; end = k.end; awake = awake; arrived = c.arrived; last = k.jobs.last; running = k.running; waiting = k.waiting; slots = k.slots }
          ≡ struct_of k
      put = put_back k.now.0 going k.end awake c.arrived refl eg refl ea (arrived_same er)

      told : n ≡ number_of (step_answer_of (state_of c) horizon (length room))
      told = en ∙ ap number_of (e ∙ ap (λ x. step_answer_of x horizon (length room)) same)

      pub step_good : k ≡ step_state_of (state_with c up came) horizon (length room) → (l : List ℕ) → l ≡ step_room (state_with c up came) horizon room
          → (n ≡ step_number c horizon room)
          × (record { table = k.table; now = k.now.0; going = going; end = k.end; awake = awake; arrived = c.arrived; last = k.jobs.last; running = k.running; waiting = k.waiting; slots = k.slots }
          ≡ step_struct c horizon room)
          × (l ≡ step_record c horizon room)
      unfolding step_number step_struct step_record step_of
      step_good f l g =
          let t : k ≡ step_state_of (state_of c) horizon (length room) = f ∙ ap (λ (x : State). step_state_of x horizon (length room)) same in
          let u : l ≡ step_room (state_of c) horizon room = g ∙ ap (λ (x : State). step_room x horizon room) same in
          (rw (ok, told), put ∙ rw (ok, t), rw (ok, u))

      pub run_good : k ≡ run_state_of (state_with c up came) horizon (length room) → (r : ℕ) → r ≡ run_records_of (state_with c up came) horizon (length room)
          → (l : List ℕ) → l ≡ run_room (state_with c up came) horizon room
          → (n ≡ run_number c horizon room)
          × (record { table = k.table; now = k.now.0; going = going; end = k.end; awake = awake; arrived = c.arrived; last = k.jobs.last; running = k.running; waiting = k.waiting; slots = k.slots }
          ≡ run_struct c horizon room)
          × (r ≡ run_count c horizon room)
          × (l ≡ run_records c horizon room)
      unfolding run_number run_struct run_count run_records run_of
      run_good f r h l g =
          let t : k ≡ run_state_of (state_of c) horizon (length room) = f ∙ ap (λ (x : State). run_state_of x horizon (length room)) same in
          let u : l ≡ run_room (state_of c) horizon room = g ∙ ap (λ (x : State). run_room x horizon room) same in
          let v : r ≡ run_records_of (state_of c) horizon (length room) = h ∙ ap (λ (x : State). run_records_of x horizon (length room)) same in
          (rw (ok, told), put ∙ rw (ok, t), rw (ok, v), rw (ok, u))
