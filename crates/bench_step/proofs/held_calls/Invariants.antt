use mathlib.Core.Path.{◌≡◌}
use mathlib.Core.List.{List}
use Prim.Native.Nat.{ℕ}
use lib.ListN.{length}
use Rattle.state.specs.Lent.{state_with, SamePlaces}
use Rattle.moves.specs.Whole.{Whole}
use Rattle.bench_step.specs.Held.{AllTaken}
use Rattle.bench_step.proofs.Doing.{Doing}
use Rattle.bench_step.proofs.held_calls.Given as goal

abbrev pub invariant-loop-call : goal.invariant-loop-call
invariant-loop-call l = SamePlaces l.initial.s l.s × (length l.room ≡ length l.initial.room)
    × ((exec : List ℕ) → let s = state_with l.initial.s exec l.initial.arrived l.initial.last in
    Whole s → AllTaken s l.list → Doing s l.list (state_with l.s exec l.arrived l.last) l.call-index)
