-- Run is step after step, and its records are theirs
use Rattle.std.specs.Prelude.{if◌then◌else◌}
use mathlib.Core.Path.{◌≡◌, refl, sym, ◌∙◌, ap, subst}
use mathlib.Core.Bool.{Bool, true, false}
use mathlib.Core.List.{List, [], ◌∷◌, ◌++◌, append-nil, append_assoc}
use Prim.Native.Nat.{ℕ, zero, suc, ◌*◌, ◌/◌, ◌≤◌, ◌<◌}
use native.Mathlib.Omega.{arith}
use lib.Dec.{ltb}
use lib.ListN.{length, drop, replicate, length-replicate}
use lib.Seq.{take_at, drop_at}
use Rattle.rules.specs.Answers.{Answer, Done, HorizonNotLater, is_done}
use Rattle.state.specs.declared.State.{State}
use Rattle.ground.specs.Tests.{Says}
use Rattle.ground.proofs.Tests.{ltb_says}
use Rattle.rules.specs.Run.{Arrival}
use Rattle.rules.specs.Record.{Record, record_bytes, read_record}
use Rattle.rules.specs.Reasons.{StepReason}
use Rattle.rules.proofs.Jobs.{by_answer}
use Rattle.rules.proofs.Refusing.{step_exact, step_answers}
use Rattle.state.specs.Machine.{moved_of}
use Rattle.state.specs.View.{view}
use Rattle.inplace.specs.Run.{Went, went, goes_on, run_room}
use Rattle.calls.specs.Run.{steps, run_of}
use Rattle.demands.specs.Demands.{Calls, calling, calling_all, run_call, read_records, one_step}
use Rattle.refusals.specs.Step.{step_answer_of}
use Rattle.calls.specs.Step.{step_of}
use Rattle.inplace.specs.Step.{step_room}
use Rattle.moves.specs.Whole.{Whole}
use Rattle.moves.proofs.Keeping.{step_whole}
use Rattle.refusals.proofs.Agreeing.{step_same}
use Rattle.inplace.proofs.RunSteps.{goes_none, goes_more, went_more, went_none, by_going, record_48}
use Rattle.rules.specs.Bounds.{clock}

-- with a horizon that lies ahead, step does not refuse; with one that does not, it refuses by 11
ahead : (s : State) (h : ℕ) → Whole s → h ≤ clock → s.now.0 < h * s.table.scale → step_answer_of s h 48 ≡ Done
ahead s h W hc lt = step_same s h 48 W ∙ step_exact (view s) h 48 Done (W.together, omega arith, hc, lt)

behind : (s : State) (h : ℕ) → Whole s → h ≤ clock → ¬ (s.now.0 < h * s.table.scale) → step_answer_of s h 48 ≡ HorizonNotLater
behind s h W hc n = step_same s h 48 W ∙ step_exact (view s) h 48 HorizonNotLater (W.together, omega arith, hc, omega arith)

-- the record fills the room
full_room : (s : State) (h : ℕ) → step_answer_of s h 48 ≡ Done → step_room s h (replicate 48 0) ≡ record_bytes (moved_of s h).rec
unfolding step_room
full_room s h d =
    let n : length (replicate {A = ℕ} 48 0) ≡ 48 = length-replicate {A = ℕ} 48 0 in
    ap (λ k. if is_done (step_answer_of s h k) then record_bytes (moved_of s h).rec ++ drop 48 (replicate 48 0) else replicate 48 0) n
    ∙ ap (λ (a : Answer). if is_done a then record_bytes (moved_of s h).rec ++ drop 48 (replicate 48 0) else replicate 48 0) d
    ∙ append-nil (record_bytes (moved_of s h).rec)

stepped : (s : State) (h : ℕ) → step_answer_of s h 48 ≡ Done → (step_of s h 48).state ≡ (moved_of s h).state
unfolding step_of
stepped s h d = ap (λ (a : Answer). if is_done a then (moved_of s h).state else s) d

abbrev still : State → Went
still s = record { state = s; records = 0; bytes = [] }

abbrev more : List ℕ → Went → Went
more b r = record { state = r.state; records = suc r.records; bytes = b ++ r.bytes }

pub run_steps : (n h : ℕ) (s : State) → Whole s → h ≤ clock → went n h s ≡ steps n h s
unfolding went steps
run_steps zero h s W hc = refl
run_steps (suc n) h s W hc = go (ltb s.now.0 (h * s.table.scale)) (ltb_says s.now.0 (h * s.table.scale)) (λ k K. run_steps n h k K hc)
  where
    answer : (a : Answer) → step_answer_of s h 48 ≡ a → is_done (step_of s h 48).answer ≡ is_done a
    answer a e = unfold step_of in (ap is_done e)

    go : (b : Bool) → Says (s.now.0 < h * s.table.scale) b → ((k : State) → Whole k → went n h k ≡ steps n h k)
        → ◌≡◌ {A = Went} (elim b as (λ _. Went) [ true ↦ more (record_bytes (moved_of s h).rec) (went n h (moved_of s h).state) | false ↦ still s ])
        (elim (is_done (step_of s h 48).answer) as (λ _. Went) [ true ↦ more (step_room s h (replicate 48 0)) (steps n h (step_of s h 48).state) | false ↦ still s ])
    go true lt ih =
        let d = ahead s h W hc lt in
        let M = step_whole s h W lt hc in
        rw (answer Done d, stepped s h d, full_room s h d, ih (moved_of s h).state M.whole)
    go false q ih = rw (answer HorizonNotLater (behind s h W hc q))

-- THE RECORDS
abbrev at : List Arrival → State → List Record → Calls
at xs s rs = record { state = s; records = rs; arrivals = xs }

-- a step with room for one record
one_called : (xs : List Arrival) (s : State) (h : ℕ) (rs : List Record) → step_answer_of s h 48 ≡ Done
    → calling (at xs s rs) (one_step h) ≡ at xs (moved_of s h).state (rs ++ (read_record (record_bytes (moved_of s h).rec) ∷ []))
unfolding calling step_of
one_called xs s h rs d =
    let n : length (replicate {A = ℕ} 48 0) ≡ 48 = length-replicate {A = ℕ} 48 0 in
    rw (n, d, full_room s h d)

-- the first record, and the rest
read_more : (n : ℕ) (b l rest : List ℕ) (rs : List Record) → length b ≡ 48
    → (rs ++ (read_record b ∷ [])) ++ read_records n (l ++ rest) ≡ rs ++ read_records (suc n) ((b ++ l) ++ rest)
unfolding read_records
read_more n b l rest rs e =
    append_assoc rs (read_record b ∷ []) (read_records n (l ++ rest))
    ∙ rw (append_assoc b l rest, take_at b (l ++ rest) 48 e, drop_at b (l ++ rest) 48 e)

abbrev Called : List Arrival → ℕ → ℕ → State → List Record → List ℕ → Type 0
Called xs n h s rs rest = calling_all (at xs s rs) (replicate (went n h s).records (one_step h)) ≡ at xs (went n h s).state (rs ++ read_records (went n h s).records ((went n h s).bytes ++ rest))

called_none : (xs : List Arrival) (n h : ℕ) (s : State) (rs : List Record) (rest : List ℕ) → goes_on n s.now.0 (h * s.table.scale) ≡ false → Called xs n h s rs rest
unfolding calling_all read_records
called_none xs n h s rs rest e = rw (went_none n h s e, append-nil rs)

called_more : (xs : List Arrival) (n h : ℕ) (s : State) (rs : List Record) (rest : List ℕ) → Whole s → h ≤ clock → s.now.0 < h * s.table.scale
    → Called xs n h (moved_of s h).state (rs ++ (read_record (record_bytes (moved_of s h).rec) ∷ [])) rest → Called xs (suc n) h s rs rest
unfolding calling_all
called_more xs n h s rs rest W hc lt ih =
    let x = went n h (moved_of s h).state in
    let b = record_bytes (moved_of s h).rec in
    rw (went_more n h s lt)
    (ap (λ (c : Calls). calling_all c (replicate x.records (one_step h))) (one_called xs s h rs (ahead s h W hc lt))
    ∙ ih ∙ ap (at xs x.state) (read_more x.records b x.bytes rest rs (record_48 s h W)))

went_called : (xs : List Arrival) (n h : ℕ) (s : State) (rs : List Record) (rest : List ℕ) → Whole s → h ≤ clock → Called xs n h s rs rest
went_called xs zero h s rs rest W hc = called_none xs zero h s rs rest (goes_none s.now.0 (h * s.table.scale))
went_called xs (suc n) h s rs rest W hc =
    by_going _ (suc n) h s
    (λ e.
    let lt = (goes_more (suc n) s.now.0 (h * s.table.scale) e).1 in
    called_more xs n h s rs rest W hc lt (went_called xs n h (moved_of s h).state (rs ++ (read_record (record_bytes (moved_of s h).rec) ∷ [])) rest (step_whole s h W lt hc).whole hc))
    (λ e. called_none xs (suc n) h s rs rest e)

-- a run hands out the records of as many steps
pub run_called : (r : Calls) (h : ℕ) (room : List ℕ) → Whole r.state
    → calling r (run_call h room) ≡ calling_all r (replicate (run_of r.state h (length room)).records (one_step h))
unfolding calling calling_all read_records run_of run_room
run_called r h room W =
    let s = r.state in
    by_answer _ (step_answer_of s h (length room))
    (λ d.
    let R = subst (StepReason (view s) h (length room)) (sym (step_same s h (length room) W) ∙ d) (step_answers (view s) h (length room)) in
    let b = (went (length room / 48) h s).bytes in
    rw d (sym (went_called r.arrivals (length room / 48) h s r.records (drop (length b) room) W R.2)))
    (λ e. rw e (ap (at r.arrivals s) (append-nil r.records)))
