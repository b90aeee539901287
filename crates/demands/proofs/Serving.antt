-- Demand 3 of the calls: their run is the rules' run, seen through the view
use Rattle.std.specs.Prelude.{if◌then◌else◌}
use mathlib.Core.Path.{◌≡◌, refl, sym, ◌∙◌, ap, subst}
use mathlib.Core.Bool.{Bool, true, false}
use mathlib.Core.Logic.{inl, inr}
use mathlib.Core.List.{List, [], ◌∷◌, ◌++◌, map}
use Prim.Native.Nat.{ℕ, zero, suc}
use native.Mathlib.Omega.{arith}
use lib.ListN.{length, replicate}
use Rattle.rules.specs.Answers.{Answer, Done, is_done}
use Rattle.state.specs.declared.State.{State}
use Rattle.rules.specs.State as Rules
use Rattle.rules.specs.Calls as Rule
use Rattle.rules.specs.Run as Runs
use Rattle.rules.specs.Record.{Record, read_record}
use Rattle.rules.specs.Run.{perform, perform_all}
use Rattle.rules.specs.Table.{Row}
use Rattle.rules.specs.History.{In, Within}
use Rattle.rules.proofs.Jobs.{Good, perform_good, all_split}
use Rattle.rules.proofs.Demands.{Manned, manned_on, next_of}
use Rattle.state.specs.Machine.{tick_at}
use Rattle.state.specs.View.{view}
use Rattle.demands.specs.Demands.{Call, arrive_call, step_call, run_call, Calls, calling, calling_all, seen, NextOf, one_step}
use Rattle.calls.specs.Arrive.{arrive_of}
use Rattle.calls.specs.Step.{step_of}
use Rattle.inplace.specs.Step.{step_room}
use Rattle.calls.specs.Run.{run_of}
use Rattle.moves.specs.Whole.{Whole}
use Rattle.refusals.proofs.Agreeing.{arrive_same, step_same}
use Rattle.calls.proofs.Refining.{arrive_kept, step_kept}
use Rattle.demands.proofs.Runs.{run_called}

-- THE TWO RUNS GO TOGETHER
pub record Together-run (r : Calls) (q : Runs.Run) : Type 0 where
  pub whole : Whole r.state
  pub same : view r.state ≡ q.state
  pub records : r.records ≡ q.records
  pub arrivals : r.arrivals ≡ q.arrivals

-- the rules' answers
arrive_answered : (s : State) (task : ℕ) → Whole s → (arrive_of s task).answer ≡ (Rule.arrive (view s) task).answer
unfolding arrive_of Rule.arrive
arrive_answered s task W = arrive_same s task W

step_answered : (s : State) (h : ℕ) (room : List ℕ) → Whole s → (step_of s h (length room)).answer ≡ (Rule.step (view s) h room).answer
unfolding step_of Rule.step
step_answered s h room W = step_same s h (length room) W

arrive_together : (r : Calls) (q : Runs.Run) (task : ℕ) → Together-run r q → Together-run (calling r (arrive_call task)) (perform q (Runs.arrive_call task))
unfolding calling perform
arrive_together r q task T =
    let s = r.state in
    let K = arrive_kept s task T.whole in
    let a : (arrive_of s task).answer ≡ (Rule.arrive q.state task).answer = arrive_answered s task T.whole ∙ ap (λ (x : Rules.State). (Rule.arrive x task).answer) T.same in
    record {
      whole = K.whole;
      same = K.same ∙ ap (λ (x : Rules.State). (Rule.arrive x task).state) T.same;
      records = T.records;
      arrivals = more (arrive_of s task).answer (Rule.arrive q.state task).answer r.arrivals q.arrivals (tick_at s) (Rules.tick_of q.state) a T.arrivals (ap Rules.tick_of T.same);
    }
  where
    more : (x y : Answer) (xs ys : List Runs.Arrival) (t u : ℕ) → x ≡ y → xs ≡ ys → t ≡ u
        → (if is_done x then record { task = task; tick = t } ∷ xs else xs) ≡ (if is_done y then record { task = task; tick = u } ∷ ys else ys)
    more x y xs ys t u e f g = rw (e, f, g)

step_together : (r : Calls) (q : Runs.Run) (h : ℕ) (room : List ℕ) → Together-run r q → Together-run (calling r (step_call h room)) (perform q (Runs.step_call h room))
unfolding calling perform
step_together r q h room T =
    let s = r.state in
    let K = step_kept s h room T.whole in
    let a : (step_of s h (length room)).answer ≡ (Rule.step q.state h room).answer = step_answered s h room T.whole ∙ ap (λ (x : Rules.State). (Rule.step x h room).answer) T.same in
    let b : step_room s h room ≡ (Rule.step q.state h room).room = K.room_same ∙ ap (λ (x : Rules.State). (Rule.step x h room).room) T.same in
    record {
      whole = K.kept.whole;
      same = K.kept.same ∙ ap (λ (x : Rules.State). (Rule.step x h room).state) T.same;
      records = more (step_of s h (length room)).answer (Rule.step q.state h room).answer r.records q.records (step_room s h room) (Rule.step q.state h room).room a T.records b;
      arrivals = T.arrivals;
    }
  where
    more : (x y : Answer) (rs qs : List Record) (u v : List ℕ) → x ≡ y → rs ≡ qs → u ≡ v
        → (if is_done x then rs ++ (read_record u ∷ []) else rs) ≡ (if is_done y then qs ++ (read_record v ∷ []) else qs)
    more x y rs qs u v e f g = rw (e, f, g)

-- arrive and step, as the rules' calls
abbrev pub plain : Runs.Call → Call
plain (Runs.arrive_call task) = arrive_call task
plain (Runs.step_call h room) = step_call h room

plain_together : (r : Calls) (q : Runs.Run) (c : Runs.Call) → Together-run r q → Together-run (calling r (plain c)) (perform q c)
plain_together r q (Runs.arrive_call task) T = arrive_together r q task T
plain_together r q (Runs.step_call h room) T = step_together r q h room T

pub all_together : (cs : List Runs.Call) (r : Calls) (q : Runs.Run) → Together-run r q → Together-run (calling_all r (map plain cs)) (perform_all q cs)
unfolding calling_all perform_all
all_together [] r q T = T
all_together (c ∷ cs) r q T = all_together cs (calling r (plain c)) (perform q c) (plain_together r q c T)

-- some run of the rules goes with the calls, and it is good
abbrev pub Followed : List Row → ℕ → Calls → Type 0
Followed rows m r = (q : Runs.Run) × Together-run r q × Good rows q × Manned m q

module _ (rows : List Row) (m : ℕ) where
  step_followed : (r : Calls) (h : ℕ) (room : List ℕ) → Followed rows m r → Followed rows m (calling r (step_call h room))
  step_followed r h room F = (perform F.0 (Runs.step_call h room), step_together r F.0 h room F.1, perform_good rows F.0 (Runs.step_call h room) F.2, manned_on rows m F.0 (Runs.step_call h room) F.2 F.3)

  steps_followed : (n h : ℕ) (r : Calls) → Followed rows m r → Followed rows m (calling_all r (replicate n (one_step h)))
  unfolding calling_all
  steps_followed zero h r F = F
  steps_followed (suc n) h r F = steps_followed n h (calling r (one_step h)) (step_followed r h (replicate 48 0) F)

  call_followed : (r : Calls) (c : Call) → Followed rows m r → Followed rows m (calling r c)
  call_followed r (arrive_call task) F = (perform F.0 (Runs.arrive_call task), arrive_together r F.0 task F.1, perform_good rows F.0 (Runs.arrive_call task) F.2, manned_on rows m F.0 (Runs.arrive_call task) F.2 F.3)
  call_followed r (step_call h room) F = step_followed r h room F
  call_followed r (run_call h room) F =
      subst (Followed rows m) (sym (run_called r h room F.1.whole)) (steps_followed (run_of r.state h (length room)).records h r F)

  pub calls_followed : (cs : List Call) (r : Calls) → Followed rows m r → Followed rows m (calling_all r cs)
  unfolding calling_all
  calls_followed [] r F = F
  calls_followed (c ∷ cs) r F = calls_followed cs (calling r c) (call_followed r c F)

  -- what the rules serve the calls serve
  pub seen_good : (r : Calls) → Followed rows m r → Good rows (seen r)
  seen_good r F = subst (Good rows) (sym (same F.1.same F.1.records F.1.arrivals)) F.2
    where
      same : {a b : Rules.State} {rs qs : List Record} {xs ys : List Runs.Arrival} → a ≡ b → rs ≡ qs → xs ≡ ys
          → ◌≡◌ {A = Runs.Run} (record { state = a; records = rs; arrivals = xs }) (record { state = b; records = qs; arrivals = ys })
      same p q r = rw (p, q, r)

  pub seen_within : (r : Calls) → Followed rows m r → Within m r.records
  seen_within r F = subst (Within m) (sym F.1.records) F.3.1

  pub seen_next : (r : Calls) → Followed rows m r → NextOf rows r
  seen_next r F =
      let N = next_of rows (seen r) (seen_good r F) in
      let W = F.1.whole in
      record {
        takes = λ task tick lo hi e. let x = N.takes task tick lo hi e in let a = arrive_answered r.state task W in ((λ d. x.0 (sym a ∙ d)), (λ f. a ∙ x.1 f));
        moves = λ h room a b c.
            let x = N.moves h room a b c in
            let n = ap (λ (s : Rules.State). s.now) (step_kept r.state h room W).kept.same in
            (step_answered r.state h room W ∙ x.0, omega (arith, n, x.1), omega (arith, n, x.2));
      }

-- an arrival once taken stays among the arrivals
still_in : (x : Runs.Arrival) (r : Calls) (c : Call) → In x r.arrivals → In x (calling r c).arrivals
unfolding calling
still_in x r (step_call h room) i = i
still_in x r (run_call h room) i = i
still_in x r (arrive_call task) i = go (is_done (arrive_of r.state task).answer)
  where
    go : (b : Bool) → In x (if b then record { task = task; tick = tick_at r.state } ∷ r.arrivals else r.arrivals)
    go true = inr i
    go false = i

all_in : (x : Runs.Arrival) (cs : List Call) (r : Calls) → In x r.arrivals → In x (calling_all r cs).arrivals
unfolding calling_all
all_in x [] r i = i
all_in x (c ∷ cs) r i = all_in x cs (calling r c) (still_in x r c i)

pub taken_in : (start : Calls) (before : List Call) (task : ℕ) → (arrive_of (calling_all start before).state task).answer ≡ Done → (later : List Call)
    → In (record { task = task; tick = tick_at (calling_all start before).state }) (calling_all start (before ++ arrive_call task ∷ later)).arrivals
taken_in start before task d later =
    unfold calling_all in (subst (λ (r : Calls). In x r.arrivals) (sym (all_split calling start before (arrive_call task ∷ later))) (all_in x later (calling r (arrive_call task)) here))
  where
    r : Calls
    r = calling_all start before

    x : Runs.Arrival
    x = record { task = task; tick = tick_at (calling_all start before).state }

    here : In x (calling (calling_all start before) (arrive_call task)).arrivals
    here = unfold calling in (rw d (inl refl))
