-- What n steps come to
use Rattle.std.specs.Prelude.{if◌then◌else◌}
use mathlib.Core.Path.{◌≡◌, refl, sym, ◌∙◌, ap}
use mathlib.Core.Bool.{Bool, true, false}
use mathlib.Core.List.{[], ◌++◌}
use Prim.Native.Nat.{ℕ, zero, suc, ◌*◌, ◌/◌, ◌≤◌, ◌<◌}
use native.Mathlib.Omega.{arith}
use lib.Dec.{ltb}
use lib.ListN.{length, length-append}
use Rattle.ground.proofs.Tests.{ltb_says, is_true, is_false, of_true}
use Rattle.rules.proofs.Keeping.{not_both}
use Rattle.ground.specs.Bytes.{le}
use Rattle.ground.proofs.Bytes.{length_le}
use Rattle.rules.specs.Record.{slot_bytes, record_bytes}
use Rattle.record.proofs.Slots.{length_slots}
use Rattle.moves.proofs.Opening.{open_whole}
use Rattle.state.specs.declared.State.{State}
use Rattle.state.specs.Machine.{opened_of, move_to, moved_of}
use Rattle.moves.specs.Whole.{Whole}
use Rattle.moves.proofs.Keeping.{step_whole, together_of}
use Rattle.state.specs.View.{view}
use Rattle.rules.specs.State as Rules
use Rattle.rules.proofs.Calls.{moving_moves}
use Rattle.rules.specs.Answers.{is_done}
use Rattle.refusals.specs.Step.{Ahead, step_answer_of}
use Rattle.inplace.specs.Run.{Went, went, goes_on, run_records_of}
use Rattle.rules.specs.Bounds.{clock}

pub goes_yes : (left now stop : ℕ) → 0 < left → ltb now stop ≡ goes_on left now stop
unfolding goes_on
goes_yes left now stop h = rw (is_true (ltb 0 left) (ltb_says 0 left) h)

pub goes_no : (left now stop : ℕ) → left ≤ 0 → false ≡ goes_on left now stop
unfolding goes_on
goes_no left now stop h = rw (is_false (ltb 0 left) (ltb_says 0 left) (λ z. omega arith))

pub goes_none : (now stop : ℕ) → goes_on 0 now stop ≡ false
goes_none now stop = sym (goes_no 0 now stop (omega arith))

-- another step
pub goes_more : (left now stop : ℕ) → goes_on left now stop ≡ true → (0 < left) × (now < stop)
unfolding goes_on
goes_more zero now stop e = not_both _ e
goes_more (suc n) now stop e = (omega arith, of_true (ltb now stop) (ltb_says now stop) (goes_yes (suc n) now stop (omega arith) ∙ e))

-- one step of what is left
pub went_more : (n h : ℕ) (s : State) → s.now.0 < h * s.table.scale
    → went (suc n) h s ≡ record { state = (went n h (moved_of s h).state).state; records = suc (went n h (moved_of s h).state).records; bytes = record_bytes (moved_of s h).rec ++ (went n h (moved_of s h).state).bytes }
unfolding went
went_more n h s lt = rw (went, is_true (ltb s.now.0 (h * s.table.scale)) (ltb_says s.now.0 (h * s.table.scale)) lt)

-- nothing is left
pub went_none : (n h : ℕ) (s : State) → goes_on n s.now.0 (h * s.table.scale) ≡ false → went n h s ≡ record { state = s; records = 0; bytes = [] }
unfolding went
went_none zero h s e = refl
went_none (suc n) h s e = rw (went, goes_yes (suc n) s.now.0 (h * s.table.scale) (omega arith) ∙ e)

-- the horizon is not ahead
pub went_past : (n h : ℕ) (s : State) → h * s.table.scale ≤ s.now.0 → went n h s ≡ record { state = s; records = 0; bytes = [] }
unfolding went
went_past zero h s p = refl
went_past (suc n) h s p = rw (went, is_false (ltb s.now.0 (h * s.table.scale)) (ltb_says s.now.0 (h * s.table.scale)) (λ z. omega arith))

-- no room is left
pub went_full : (n h : ℕ) (s : State) → n ≡ 0 → went n h s ≡ record { state = s; records = 0; bytes = [] }
unfolding went
went_full n h s e = rw e

-- a record has 48 bytes
pub record_48 : (s : State) (h : ℕ) → Whole s → length (record_bytes (moved_of s h).rec) ≡ 48
unfolding moved_of move_to record_bytes
record_48 s h W =
    let o = opened_of s in
    let r = (moved_of s h).rec in
    omega (arith, length-append (le 8 r.from ++ le 8 r.to) (slot_bytes o.slots), length-append (le 8 r.from) (le 8 r.to), length_le 8 r.from, length_le 8 r.to, length_slots o.slots, (open_whole s W).0.sized.slots)

-- another step, or none
pub by_going : (P : Type 0) (n h : ℕ) (s : State) → (goes_on n s.now.0 (h * s.table.scale) ≡ true → P) → (goes_on n s.now.0 (h * s.table.scale) ≡ false → P) → P
by_going P n h s f g = go (goes_on n s.now.0 (h * s.table.scale)) refl
  where
    go : (b : Bool) → goes_on n s.now.0 (h * s.table.scale) ≡ b → P
    go true e = f e
    go false e = g e

-- a state that holds together still does
pub went_whole : (n h : ℕ) (s : State) → Whole s → h ≤ clock → Whole (went n h s).state
went_whole zero h s W hc = rw (went_none zero h s (goes_none s.now.0 (h * s.table.scale))) W
went_whole (suc n) h s W hc =
    by_going _ (suc n) h s
    (λ e. let lt = (goes_more (suc n) s.now.0 (h * s.table.scale) e).1 in
    rw (went_more n h s lt) (went_whole n h (moved_of s h).state (step_whole s h W lt hc).whole hc))
    (λ e. rw (went_none (suc n) h s e) W)

-- TIME
pub record Later (s k : State) : Type 0 where
  pub later : s.now.0 ≤ k.now.0
  pub scale : k.table.scale ≡ s.table.scale

-- a step moves the present on
pub step_later : (s : State) (h : ℕ) → Whole s → s.now.0 < h * s.table.scale → h ≤ clock → (s.now.0 < (moved_of s h).state.now.0) × ((moved_of s h).state.table.scale ≡ s.table.scale)
step_later s h W lt hc =
    let M = moving_moves (view s) h (together_of W) lt in
    let e = (step_whole s h W lt hc).view_is in
    (omega (arith, ap (λ (x : Rules.State). x.now) e, M.arrives, M.later, M.from_now), ap (λ (x : Rules.State). x.scale) e ∙ M.same_scale)

went_later : (n h : ℕ) (s : State) → Whole s → h ≤ clock → Later s (went n h s).state
went_later zero h s W hc = rw (went_none zero h s (goes_none s.now.0 (h * s.table.scale))) (record { later = omega arith; scale = refl })
went_later (suc n) h s W hc =
    by_going _ (suc n) h s
    (λ e.
    let lt = (goes_more (suc n) s.now.0 (h * s.table.scale) e).1 in
    let one = step_later s h W lt hc in
    let on = went_later n h (moved_of s h).state (step_whole s h W lt hc).whole hc in
    rw (went_more n h s lt) (record { later = omega (arith, one.0, on.later); scale = on.scale ∙ one.1 }))
    (λ e. rw (went_none (suc n) h s e) (record { later = omega arith; scale = refl }))

-- a run that has room for a record moves the present on
pub run_later : (h n : ℕ) (s : State) → Ahead s h n → (s.now.0 < (went (n / 48) h s).state.now.0) × ((went (n / 48) h s).state.table.scale ≡ s.table.scale)
run_later h n s A = go (n / 48) (omega (arith, A.space))
  where
    go : (k : ℕ) → 0 < k → (s.now.0 < (went k h s).state.now.0) × ((went k h s).state.table.scale ≡ s.table.scale)
    go zero p = let z : ⊥ = omega arith in absurd z
    go (suc k) p =
        let one = step_later s h A.whole A.ahead A.clock in
        let on = went_later k h (moved_of s h).state (step_whole s h A.whole A.ahead A.clock).whole A.clock in
        rw (went_more k h s A.ahead) (omega (arith, one.0, on.later), on.scale ∙ one.1)

-- HOW MANY RECORDS
-- a record for each step
went_by : (b : Bool) (n : ℕ) (x y : Went) → x.records ≤ n → y.records ≤ n → (elim b as (λ _. Went) [ true ↦ x | false ↦ y ]).records ≤ n
went_by true n x y p q = p
went_by false n x y p q = q

went_most : (n h : ℕ) (s : State) → (went n h s).records ≤ n
unfolding went
went_most zero h s = omega arith
went_most (suc n) h s = went_by (ltb s.now.0 (h * s.table.scale)) (suc n) _ _ (omega (arith, went_most n h (moved_of s h).state)) (omega arith)

-- a run has no more records than its room has places
pub run_most : (s : State) (h room : ℕ) → run_records_of s h room ≤ room / 48
run_most s h room = by_test (is_done (step_answer_of s h room))
  where
    by_test : (b : Bool) → (if b then (went (room / 48) h s).records else 0) ≤ room / 48
    by_test true = went_most (room / 48) h s
    by_test false = omega arith
