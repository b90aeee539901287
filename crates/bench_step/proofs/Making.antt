-- One call after another
use mathlib.Core.Path.{◌≡◌, refl, sym, ◌∙◌, ap, subst}
use mathlib.Core.Bool.{true, false}
use mathlib.Core.List.{List}
use Prim.Native.Nat.{ℕ, ◌+◌, ◌-◌, ◌≤◌, ◌<◌}
use native.Mathlib.Numerals.{add-one}
use native.Mathlib.Omega.{arith}
use lib.Dec.{ltb}
use lib.ListN.{length, get_or, drop}
use lib.Seq.{drop-cons, drop-length}
use Rattle.ground.proofs.Tests.{ltb_says, is_true, is_false}
use Rattle.state.specs.declared.State.{State}
use Rattle.calls.specs.declared.Arrived.{Arrived}
use Rattle.calls.specs.declared.Stepped.{Stepped}
use Rattle.calls.specs.Arrive.{arrive_of}
use Rattle.calls.specs.Step.{step_of}
use Rattle.rules.proofs.Keeping.{not_both}
use Rattle.course.specs.declared.Cursor.{Cursor}
use Rattle.course.specs.Turns.{first_cursor, is_ended}
use Rattle.listing.specs.Listing.{cursor_of}
use Rattle.bench_step.specs.Made.{made, made_all, Lists, ended, goes, EndsAt}

pub made_arrives : (n : ℕ) (s : State) (call : ℕ) (r : Arrived) → call < 4294967296 → r ≡ arrive_of s call → r.state ≡ made n s call
unfolding made
made_arrives n s call r h e = rw (is_true (ltb call 4294967296) (ltb_says call 4294967296) h) (ap (λ (x : Arrived). x.state) e)

pub made_steps : (n : ℕ) (s : State) (call : ℕ) (r : Stepped) → 4294967296 ≤ call → r ≡ step_of s (call - 4294967296) n → r.state ≡ made n s call
unfolding made
made_steps n s call r h e = rw (is_false (ltb call 4294967296) (ltb_says call 4294967296) (λ z. omega arith)) (ap (λ (x : Stepped). x.state) e)

-- what is left to do, after one call
pub made_on : (n i : ℕ) (s k : State) (list : List ℕ) → i < length list → k ≡ made n s (get_or list i 0) → made_all n k (drop (i + 1) list) ≡ made_all n s (drop i list)
unfolding made_all
made_on n i s k list h e = rw (drop-cons list i 0 h, add-one i, e)

pub made_end : (n i : ℕ) (s : State) (list : List ℕ) → length list ≤ i → i ≤ length list → made_all n s (drop i list) ≡ s
unfolding made_all
made_end n i s list h h' = let e : i ≡ length list = omega arith in rw (e, drop-length list)

-- A LISTING
-- what was listed up to a cursor: where that one leads, the first one leads
abbrev pub Listed : List ℕ → Cursor → Type 0
Listed text c = (k : Cursor) → Lists text c k → Lists text first_cursor k

pub listed_first : (text : List ℕ) (c : Cursor) → c ≡ first_cursor → Listed text c
listed_first text c e k L = subst (λ (x : Cursor). Lists text x k) e L

pub listed_on : (text : List ℕ) (c c' : Cursor) → c' ≡ cursor_of text c → is_ended c.stage ≡ false → Listed text c → Listed text c'
listed_on text c c' e n W k L = W k (goes n (subst (λ (x : Cursor). Lists text x k) e L))

pub listed_end : (text : List ℕ) (c : Cursor) → is_ended c.stage ≡ true → Listed text c → EndsAt text c.state.now.0
listed_end text c e W = (c, W c (ended e), refl)

-- from a cursor they lead to one cursor only
pub lists_unique : {text : List ℕ} {c k k' : Cursor} → Lists text c k → Lists text c k' → k ≡ k'
lists_unique (ended e) (ended e') = refl
lists_unique (ended e) (goes n L) = not_both _ (sym n ∙ e)
lists_unique (goes n L) (ended e) = not_both _ (sym n ∙ e)
lists_unique (goes n L) (goes n' L') = lists_unique L L'
