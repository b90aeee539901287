use Rattle.std.specs.Prelude.{Option, if◌then◌else◌}
use Prim.Native.Nat.{ℕ, ◌+◌}
use mathlib.Core.Bool.{Bool}
use mathlib.Core.Path.{◌≡◌, sym, ap, ◌∙◌}
use native.Mathlib.Omega.{arith}
use lib.ListN.{drop}
use Rattle.text.specs.declared.Item.{Item}
use Rattle.text.specs.declared.Line.{Line}
use Rattle.text.specs.declared.Stage.{Stage}
use Rattle.text.specs.Parts.{split_by, newline}
use Rattle.text.specs.Meaning.{line_at}
use Rattle.text.specs.Form.{good, broken, stage_after, is_ended, form_from}
use Rattle.text.proofs.Walks.{next_later, next_within}
use Rattle.text.proofs.Forms.{form_by, form_step, form_end, not_ended}
use Rattle.text.proofs.form_lines.Goals as goal

pub returns-in_default : goal.returns-in_default
returns-in_default c =
    record {
      is = let k = c.loop-at in
          let s = c.args.s.now in
          let rest = split_by newline (drop (line_at s k.at).next s) in
          let none = sym (ap (λ (x : Line). x.item) c.line_at-here.ensures.is) ∙ c.in_default.is in
          sym (sym k.invariant.2 ∙ form_step s k.stage k.line k.at c.loop-at-test.true ∙ ap (λ (x : Option Item). form_by k.stage k.line x rest) none);
    }

pub returns-then-not-may_stand : goal.returns-then-not-may_stand
returns-then-not-may_stand c =
    record {
      is = let k = c.loop-at in
          let s = c.args.s.now in
          let rest = split_by newline (drop (line_at s k.at).next s) in
          let x = c.in-Some.item in
          let some = sym (ap (λ (y : Line). y.item) c.line_at-here.ensures.is) ∙ c.in-Some.is in
          let f = sym c.may_stand.ensures.is ∙ c.if-not-may_stand.true in
          sym (sym k.invariant.2 ∙ form_step s k.stage k.line k.at c.loop-at-test.true ∙ ap (λ (y : Option Item). form_by k.stage k.line y rest) some
          ∙ ap (λ (t : Bool). if t then form_from (stage_after x) (k.line + 1) rest else broken k.line) f);
    }

pub loop-at-smaller : goal.loop-at-smaller
loop-at-smaller c =
    let k = c.loop-at in
    let nx : c.line_at-here.result.next ≡ (line_at c.args.s.now k.at).next = ap (λ (x : Line). x.next) c.line_at-here.ensures.is in
    omega (arith, next_later c.args.s.now k.at c.loop-at-test.true)

pub loop-at-preserved : goal.loop-at-preserved
loop-at-preserved c =
    let k = c.loop-at in
    let s = c.args.s.now in
    let rest = split_by newline (drop (line_at s k.at).next s) in
    let x = c.in-Some.item in
    let nx : c.line_at-here.result.next ≡ (line_at s k.at).next = ap (λ (y : Line). y.next) c.line_at-here.ensures.is in
    let some = sym (ap (λ (y : Line). y.item) c.line_at-here.ensures.is) ∙ c.in-Some.is in
    let f = sym c.may_stand.ensures.is ∙ c.if-not-may_stand.false in
    let step =
    form_step s k.stage k.line k.at c.loop-at-test.true ∙ ap (λ (y : Option Item). form_by k.stage k.line y rest) some
    ∙ ap (λ (t : Bool). if t then form_from (stage_after x) (k.line + 1) rest else broken k.line) f in (
      omega (arith, next_within s k.at),
      omega (arith, next_later s k.at c.loop-at-test.true),
      ap (λ (n : ℕ). form_from c.stage_after-stage.result (k.line + 1) (split_by newline (drop n s))) nx
          ∙ ap (λ (y : Stage). form_from y (k.line + 1) rest) c.stage_after-stage.ensures.is
          ∙ sym step
          ∙ k.invariant.2,
    )

pub returns-in-Ended : goal.returns-in-Ended
returns-in-Ended c =
    record {
      is = let k = c.loop-at in
          sym (sym k.invariant.2 ∙ form_end c.args.s.now k.stage k.line k.at c.loop-at-test.false ∙ ap (λ (x : Stage). if is_ended x then good else broken k.line) c.in-Ended.is);
    }

pub returns-in_default-stage : goal.returns-in_default-stage
returns-in_default-stage c =
    record {
      is = let k = c.loop-at in
          sym (sym k.invariant.2 ∙ form_end c.args.s.now k.stage k.line k.at c.loop-at-test.false ∙ ap (λ (t : Bool). if t then good else broken k.line) (not_ended k.stage c.in_default-stage.not-Ended));
    }
