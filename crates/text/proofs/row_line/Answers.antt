use Prim.Native.Nat.{ℕ, ◌+◌}
use mathlib.Core.Bool.{true}
use mathlib.Core.Path.{◌≡◌, sym, ap, ◌∙◌}
use native.Mathlib.Omega.{arith}
use lib.ListN.{drop, get_or}
use Rattle.text.specs.Meaning.{items_of, line_at, is_task, row_lines_in}
use Rattle.text.specs.declared.Line.{Line}
use Rattle.text.proofs.Walks.{next_later, next_within, row_line_here, row_line_on, row_line_skip, row_line_end, row_line_zero, row_line_start}
use Rattle.text.proofs.row_line.Goals as goal
use Rattle.text.proofs.row_line.Goals.{then-is_task+else-left-eq0, else-is_task}

pub returns-then-row-eq0 : goal.returns-then-row-eq0
returns-then-row-eq0 c = record { is = row_line_zero c.args.s.now c.args.row c.if-row-eq0.true }

pub loop-at-init : goal.loop-at-init
loop-at-init c = (omega arith, omega arith, row_line_start c.args.s.now c.args.row c.if-row-eq0.false)

pub returns-then-left-eq0 : goal.returns-then-left-eq0
returns-then-left-eq0 c =
    record {
      is = let k = c.loop-at in
          let s = c.args.s.now in
          let t : is_task (line_at s k.at).item ≡ true = ap (λ (x : Line). is_task x.item) (sym c.line_at-line.ensures.is) ∙ sym c.is_task.ensures.is ∙ c.if-is_task.true in
          sym (sym k.invariant.2 ∙ ap (λ (n : ℕ). get_or (row_lines_in k.here (items_of (drop k.at s))) n 0) c.if-left-eq0.true ∙ row_line_here s k.at k.here t);
    }

pub loop-at-smaller : goal.loop-at-smaller
loop-at-smaller c =
    let k = c.loop-at in
    let s = c.args.s.now in
    let nx : c.line_at-line.result.next ≡ (line_at s k.at).next = ap (λ (x : Line). x.next) c.line_at-line.ensures.is in
    omega (arith, next_later s k.at c.loop-at-test.true)

pub loop-at-preserved : goal.loop-at-preserved
loop-at-preserved c =
    let k = c.loop-at in
    let s = c.args.s.now in
    let nx : c.line_at-line.result.next ≡ (line_at s k.at).next = ap (λ (x : Line). x.next) c.line_at-line.ensures.is in
    let it : c.is_task.result ≡ is_task (line_at s k.at).item = c.is_task.ensures.is ∙ ap (λ (x : Line). is_task x.item) c.line_at-line.ensures.is in
    let rest : ℕ → ℕ = λ n. get_or (row_lines_in (k.here + 1) (items_of (drop (line_at s k.at).next s))) n 0 in
    let g : rest c.if-is_task.left ≡ get_or (row_lines_in k.here (items_of (drop k.at s))) k.left 0 =
    elim c.if-is_task.branch [
      | then-is_task+else-left-eq0 w ↦ ap rest w.left-is ∙ sym (row_line_on s k.at k.here k.left (sym it ∙ w.if-is_task.true) w.if-left-eq0.false)
      | else-is_task w ↦ ap rest w.left-is ∙ sym (row_line_skip s k.at k.here k.left (sym it ∙ w.if-is_task.false))
    ] in (
      omega (arith, next_within s k.at),
      omega (arith, next_later s k.at c.loop-at-test.true),
      ap (λ (n : ℕ). get_or (row_lines_in (k.here + 1) (items_of (drop n s))) c.if-is_task.left 0) nx ∙ g ∙ k.invariant.2,
    )

pub returns : goal.returns
returns c =
    record {
      is = let k = c.loop-at in
          let s = c.args.s.now in
          sym (sym k.invariant.2 ∙ row_line_end s k.at k.here k.left c.loop-at-test.false);
    }
