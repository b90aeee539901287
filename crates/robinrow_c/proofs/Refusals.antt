-- A refusal changes nothing
use Rattle.std.specs.Prelude.{if◌then◌else◌}
use mathlib.Core.Path.{◌≡◌, refl, ap, ◌∙◌}
use mathlib.Core.Bool.{Bool, true, false}
use mathlib.Core.List.{List}
use Prim.Native.Nat.{ℕ}
use lib.ListN.{length}
use Rattle.rules.specs.Answers.{Answer, Done, number_of}
use Rattle.admission.specs.Admit.{admit_of}
use Rattle.inplace.specs.Step.{step_room}
use Rattle.inplace.specs.Run.{run_room}
use Rattle.calls.specs.Arrive.{arrive_of}
use Rattle.calls.specs.Step.{step_of}
use Rattle.calls.specs.Run.{run_of}
use Rattle.demands.proofs.Demands.{demand_1}
use Rattle.robinrow_c.specs.Struct.{Struct, flagged, state_of, struct_of}
use Rattle.robinrow_c.specs.Exports.{arrive_number, arrive_struct, step_number, step_struct, step_record, run_number, run_count, run_struct, run_records, Refusals}
use Rattle.robinrow_c.proofs.Struct.{state_struct}

-- an answer whose number is not 0 is not Done
pub not_done : (a : Answer) → ¬ (number_of a ≡ 0) → ¬ (a ≡ Done)
not_done a n e = n (ap number_of e)

-- flags or not
pub by_flags : (c : Struct) (P : Bool → Type 0) → (flagged c ≡ true → P true) → P false → P (flagged c)
by_flags c P f g = go (flagged c) refl
  where
    go : (b : Bool) → flagged c ≡ b → P b
    go true e = f e
    go false e = g

arrive_kept : (c : Struct) (task : ℕ) → ¬ (arrive_number c task ≡ 0) → arrive_struct c task ≡ c
unfolding arrive_number arrive_struct
arrive_kept c task =
    let r = arrive_of (state_of c) task in
    by_flags c (λ b. ¬ ((if b then number_of r.answer else 13) ≡ 0) → (if b then struct_of r.state else c) ≡ c)
    (λ ok n. ap struct_of ((demand_1.arrives (state_of c) task).refused (not_done r.answer n)) ∙ state_struct c ok)
    (λ n. refl)

step_kept : (c : Struct) (h : ℕ) (room : List ℕ) → ¬ (step_number c h room ≡ 0) → (step_struct c h room ≡ c) × (step_record c h room ≡ room)
unfolding step_number step_struct step_record
step_kept c h room =
    let r = step_of (state_of c) h (length room) in
    by_flags c (λ b. ¬ ((if b then number_of r.answer else 13) ≡ 0) → ((if b then struct_of r.state else c) ≡ c) × ((if b then step_room (state_of c) h room else room) ≡ room))
    (λ ok n. let k = (demand_1.steps (state_of c) h room).refused (not_done r.answer n) in (ap struct_of k.0 ∙ state_struct c ok, k.1))
    (λ n. (refl, refl))

run_kept : (c : Struct) (h : ℕ) (room : List ℕ) → ¬ (run_number c h room ≡ 0) → (run_struct c h room ≡ c) × (run_records c h room ≡ room) × (run_count c h room ≡ 0)
unfolding run_number run_struct run_records run_count
run_kept c h room =
    let r = run_of (state_of c) h (length room) in
    by_flags c
    (λ b. ¬ ((if b then number_of r.answer else 13) ≡ 0)
    → ((if b then struct_of r.state else c) ≡ c) × ((if b then run_room (state_of c) h room else room) ≡ room) × ((if b then r.records else 0) ≡ 0))
    (λ ok n. let k = (demand_1.runs (state_of c) h room).refused (not_done r.answer n) in (ap struct_of k.0 ∙ state_struct c ok, k.2, k.1))
    (λ n. (refl, refl, refl))

pub refusals : Refusals
refusals = record {
  admit = λ table m n. ap struct_of ((demand_1.admits table m).refused (not_done (admit_of table m).answer n)).0;
  arrive = arrive_kept;
  step = step_kept;
  run = run_kept;
}
