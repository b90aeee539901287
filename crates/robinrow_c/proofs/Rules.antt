-- Each export answers a listed number, and is the rules' call on a struct that holds together
use Rattle.std.specs.Prelude.{if◌then◌else◌}
use mathlib.Core.Path.{◌≡◌, refl, sym, ap, ◌∙◌, subst}
use mathlib.Core.Bool.{true, false, ◌&&◌}
use mathlib.Core.List.{List, [], ◌∷◌}
use mathlib.Core.Logic.{inl, inr}
use Prim.Native.Nat.{ℕ}
use native.Mathlib.Omega.{arith}
use lib.ListN.{length}
use Rattle.rules.specs.Answers.{Answer, number_of}
use Rattle.rules.specs.Admission.{admit}
use Rattle.rules.specs.Calls.{arrive, step}
use Rattle.state.specs.declared.State.{State}
use Rattle.state.specs.View.{view, Sized}
use Rattle.together.specs.Holds.{holds_of}
use Rattle.admission.specs.Admit.{admit_of}
use Rattle.calls.specs.Arrive.{arrive_of}
use Rattle.calls.specs.Step.{step_of}
use Rattle.calls.specs.Run.{run_of}
use Rattle.demands.specs.Demands.{OneOf}
use Rattle.demands.proofs.Demands.{demand_1, demand_2}
use Rattle.robinrow_c.specs.Struct.{Struct, flagged, state_of, struct_of}
use Rattle.robinrow_c.specs.Exports.{admit_number, admit_struct, arrive_number, step_number, run_number, run_struct, Numbers, together, ArrivesInC, StepsInC, RulesInC}
use Rattle.flags.proofs.Flags.{both}
use Rattle.robinrow_c.proofs.Struct.{struct_flagged, struct_state, state_struct}
use Rattle.robinrow_c.proofs.Refusals.{by_flags, not_done}
use Rattle.robinrow_c.proofs.InC.{arrive_number_lem, arrive_struct_lem, step_number_lem, step_struct_lem, step_record_lem, zero_done}

-- LISTED NUMBERS
arrive_listed : (c : Struct) (task : ℕ) → OneOf (arrive_number c task) (0 ∷ 7 ∷ 8 ∷ 9 ∷ 13 ∷ [])
unfolding arrive_number
arrive_listed c task =
    by_flags c (λ b. OneOf (if b then number_of (arrive_of (state_of c) task).answer else 13) (0 ∷ 7 ∷ 8 ∷ 9 ∷ 13 ∷ [])) (λ ok. (demand_1.arrives (state_of c) task).listed) (inr (inr (inr (inr (inl refl)))))

step_listed : (c : Struct) (h : ℕ) (room : List ℕ) → OneOf (step_number c h room) (0 ∷ 10 ∷ 11 ∷ 12 ∷ 13 ∷ [])
unfolding step_number
step_listed c h room =
    by_flags c (λ b. OneOf (if b then number_of (step_of (state_of c) h (length room)).answer else 13) (0 ∷ 10 ∷ 11 ∷ 12 ∷ 13 ∷ [])) (λ ok. (demand_1.steps (state_of c) h room).listed) (inr (inr (inr (inr (inl refl)))))

run_listed : (c : Struct) (h : ℕ) (room : List ℕ) → OneOf (run_number c h room) (0 ∷ 10 ∷ 11 ∷ 12 ∷ 13 ∷ [])
unfolding run_number
run_listed c h room =
    by_flags c (λ b. OneOf (if b then number_of (run_of (state_of c) h (length room)).answer else 13) (0 ∷ 10 ∷ 11 ∷ 12 ∷ 13 ∷ [])) (λ ok. (demand_1.runs (state_of c) h room).listed) (inr (inr (inr (inr (inl refl)))))

pub numbers : Numbers
numbers = record {
  admit = λ table m. (demand_1.admits table m).listed;
  arrive = arrive_listed;
  step = step_listed;
  run = run_listed;
}

-- THE STRUCT OF A STATE holds together exactly where the state does
struct_together : (s : State) → together (struct_of s) ≡ holds_of s
unfolding together
struct_together s = ap (λ b. b && holds_of (state_of (struct_of s))) (struct_flagged s) ∙ ap holds_of (struct_state s)

together_flags : (c : Struct) → together c ≡ true → flagged c ≡ true
unfolding together
together_flags c e = (both (flagged c) (holds_of (state_of c)) e).0

-- what is true of the struct of any state is true of a struct with flags
by_state : (c : Struct) (P : Struct → Type 0) → flagged c ≡ true → P (struct_of (state_of c)) → P c
by_state c P ok p = subst P (state_struct c ok) p

-- ARRIVE
arrives_struct : (s : State) (task : ℕ) → Sized s → together (struct_of s) ≡ true → ArrivesInC (struct_of s) task
arrives_struct s task z t =
    let v = struct_state s in
    let a = (demand_2.arrives s task z).0 (sym (struct_together s) ∙ t) in
    record {
      number = arrive_number_lem s task ∙ ap number_of a.answer ∙ ap (λ (x : State). number_of (arrive (view x) task).answer) (sym v);
      state = ap (λ (c : Struct). view (state_of c)) (arrive_struct_lem s task) ∙ ap view (struct_state (arrive_of s task).state) ∙ a.state ∙ ap (λ (x : State). (arrive (view x) task).state) (sym v);
      again = ap together (arrive_struct_lem s task) ∙ struct_together (arrive_of s task).state ∙ a.holds;
    }

arrive_13 : (c : Struct) (task : ℕ) → Sized (state_of c) → together c ≡ false → arrive_number c task ≡ 13
unfolding arrive_number together
arrive_13 c task z =
    by_flags c (λ b. (b && holds_of (state_of c)) ≡ false → (if b then number_of (arrive_of (state_of c) task).answer else 13) ≡ 13) (λ ok e. ap number_of ((demand_2.arrives (state_of c) task z).1 e)) (λ e. refl)

-- STEP
steps_struct : (s : State) (h : ℕ) (room : List ℕ) → Sized s → together (struct_of s) ≡ true → StepsInC (struct_of s) h room
steps_struct s h room z t =
    let v = struct_state s in
    let a = (demand_2.steps s h room z).0 (sym (struct_together s) ∙ t) in
    record {
      number = step_number_lem s h room ∙ ap number_of a.answer ∙ ap (λ (x : State). number_of (step (view x) h room).answer) (sym v);
      state = ap (λ (c : Struct). view (state_of c)) (step_struct_lem s h room) ∙ ap view (struct_state (step_of s h (length room)).state) ∙ a.state ∙ ap (λ (x : State). (step (view x) h room).state) (sym v);
      bytes = step_record_lem s h room ∙ a.bytes ∙ ap (λ (x : State). (step (view x) h room).room) (sym v);
      again = ap together (step_struct_lem s h room) ∙ struct_together (step_of s h (length room)).state ∙ a.holds;
    }

step_13 : (c : Struct) (h : ℕ) (room : List ℕ) → Sized (state_of c) → together c ≡ false → step_number c h room ≡ 13
unfolding step_number together
step_13 c h room z =
    by_flags c (λ b. (b && holds_of (state_of c)) ≡ false → (if b then number_of (step_of (state_of c) h (length room)).answer else 13) ≡ 13) (λ ok e. ap number_of ((demand_2.steps (state_of c) h room z).1 e)) (λ e. refl)

-- RUN
run_as_step : (c : Struct) (h : ℕ) (room : List ℕ) → Sized (state_of c) → run_number c h room ≡ step_number c h room
unfolding run_number step_number
run_as_step c h room z = ap (λ (a : Answer). if flagged c then number_of a else 13) (demand_2.runs (state_of c) h room z).answer

run_again : (c : Struct) (h : ℕ) (room : List ℕ) → Sized (state_of c) → run_number c h room ≡ 0 → together (run_struct c h room) ≡ true
unfolding run_number run_struct
run_again c h room z =
    let r = run_of (state_of c) h (length room) in
    by_flags c (λ b. (if b then number_of r.answer else 13) ≡ 0 → together (if b then struct_of r.state else c) ≡ true)
    (λ ok d. struct_together r.state ∙ ((demand_2.runs (state_of c) h room z).done (zero_done _ d)).3)
    (λ d. absurd (omega (arith, d)))

-- ADMIT
admitted_in : (table : List ℕ) (m : ℕ) → admit_number table m ≡ 0 → (view (state_of (admit_struct table m)) ≡ (admit table m).state) × (together (admit_struct table m) ≡ true)
admitted_in table m d =
    let s = (admit_of table m).state in
    let a = (demand_2.admits table m).state (zero_done _ d) in
    (ap view (struct_state s) ∙ a.0, struct_together s ∙ a.1)

pub rules_in_c : RulesInC
rules_in_c = record {
  admits = λ table m. ap number_of (demand_2.admits table m).answer;
  admitted = admitted_in;
  blank = λ table m n. struct_together (admit_of table m).state ∙ ((demand_1.admits table m).refused (not_done _ n)).1;
  arrives = λ c task z. (
    (λ t. by_state c (λ (x : Struct). Sized (state_of x) → together x ≡ true → ArrivesInC x task) (together_flags c t)
        (λ y u. arrives_struct (state_of c) task (subst Sized (struct_state (state_of c)) y) u) z t),
    arrive_13 c task z,
  );
  steps = λ c h room z. (
    (λ t. by_state c (λ (x : Struct). Sized (state_of x) → together x ≡ true → StepsInC x h room) (together_flags c t)
        (λ y u. steps_struct (state_of c) h room (subst Sized (struct_state (state_of c)) y) u) z t),
    step_13 c h room z,
  );
  runs = λ c h room z. (run_as_step c h room z, run_again c h room z);
}
