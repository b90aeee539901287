-- The refusals are given exactly when their reasons hold, and the scale is the least common multiple
use mathlib.Core.Path.{◌≡◌, ap, subst}
use mathlib.Core.Logic.{◌↔◌}
use mathlib.Core.List.{List}
use Prim.Native.Nat.{ℕ, ◌≤◌, ◌<◌}
use native.Mathlib.Nat.{le_of_dvd}
use native.Mathlib.Omega.{arith}
use lib.ListN.{length, get_or}
use Rattle.rules.specs.Answers.{Answer}
use Rattle.rules.specs.Admission.{Verdict, admit_verdict, admit}
use Rattle.rules.specs.Calls.{arrive, step}
use Rattle.rules.specs.Exactly.{ExactlyWhen, Multiple, Measures}
use Rattle.rules.specs.Reasons.{RowsOk, AdmitReason, ArriveReason, StepReason}
use Rattle.rules.specs.Scale.{scale_of}
use Rattle.rules.specs.State.{State, no_row}
use Rattle.rules.specs.Table.{Row}
use Rattle.rules.proofs.Refusing.{admit_answers, admit_exact, arrive_answers, arrive_exact, step_answers, step_exact}
use Rattle.rules.proofs.Scale.{Positive, scale_positive, scale_multiple, scale_least, share_exact, share_at_most, share_positive}

pub exactly_when : ExactlyWhen
exactly_when = record { admits = admits; arrives = arrives; steps = steps }
  where
    admits : (bytes : List ℕ) (m : ℕ) (a : Answer) (i : ℕ) → (((admit bytes m).answer ≡ a) × ((admit bytes m).row ≡ i)) ↔ AdmitReason bytes m a i
    admits bytes m a i = unfold admit in (
      (λ e. subst (λ (x : Answer). AdmitReason bytes m x i) e.0 (subst (AdmitReason bytes m (admit_verdict bytes m).answer) e.1 (admit_answers bytes m))),
      (λ R. let e = admit_exact bytes m a i R in (ap (λ (v : Verdict). v.answer) e, ap (λ (v : Verdict). v.row) e)),
    )

    arrives : (s : State) (task : ℕ) (a : Answer) → ((arrive s task).answer ≡ a) ↔ ArriveReason s task a
    arrives s task a = unfold arrive in ((λ e. subst (ArriveReason s task) e (arrive_answers s task)), arrive_exact s task a)

    steps : (s : State) (horizon : ℕ) (room : List ℕ) (a : Answer) → ((step s horizon room).answer ≡ a) ↔ StepReason s horizon (length room) a
    steps s h room a = unfold step in ((λ e. subst (StepReason s h (length room)) e (step_answers s h (length room))), step_exact s h (length room) a)

positive : (rows : List Row) → RowsOk rows → Positive rows
positive rows ok i h = let r = (ok i h).0 in let a = r.0.0 in let b = r.2.0 in omega arith

pub measures : Measures
measures = record {
  scale = λ rows ok.
      let pos = scale_positive rows (positive rows ok) in
      let least : (c : ℕ) → 0 < c → Multiple rows c → scale_of rows ≤ c = λ c h k. le_of_dvd h (scale_least rows c k) in
      record {
        common = scale_multiple rows;
        least = least;
        unique = λ l h k small. omega (arith, least l h k, small (scale_of rows) pos (scale_multiple rows));
      };
  shares = λ rows ok i h.
      let pos = scale_positive rows (positive rows ok) in
      let d = scale_multiple rows i h in
      let r = get_or rows i no_row in
      record {
        low = share_positive (scale_of rows) r pos d (ok i h).0.1.0;
        high = share_at_most (scale_of rows) r (ok i h).1;
        unrounded = share_exact (scale_of rows) r d;
      };
}
