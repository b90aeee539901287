use Rattle.std.proofs.Common.{rules, tests}
use mathlib.Core.Path.{◌≡◌, sym, ap, ◌∙◌}
use mathlib.Core.List.{[], ◌∷◌}
use Rattle.text.specs.Parts.{parts_of}
use Rattle.text.specs.Lines.{of_parts, item_of}
use Rattle.text.proofs.Cuts.{left, first_part, one_part, no_part, more_part, no_more}
use Rattle.text.proofs.read_line.Goals as goal

pub returns-in_err-a : goal.returns-in_err-a
unfolding item_of
returns-in_err-a c =
    record {
      is = let p = c.split-parts.ensures in
          let w = first_part c.split-parts.result c.next.new.self c.in_ok-word.word c.args.line.now c.split-parts.result.pred c.in_ok-word.ensures.steps p.rest p.done p.closure (λ x r q h. search (rules, tests)) in
          let none = no_part c.next.new.self c.in_err-a.ensures.steps.0 in
          let e : parts_of c.args.line.now ≡ c.in_ok-word.word.now ∷ [] = cc in
          c.from_residual-in_err-a.ensures ∙ ap of_parts (sym e);
    }

pub returns-in_default : goal.returns-in_default
unfolding item_of
returns-in_default c =
    record {
      is = let p = c.split-parts.ensures in
          let w = first_part c.split-parts.result c.next.new.self c.in_ok-word.word c.args.line.now c.split-parts.result.pred c.in_ok-word.ensures.steps p.rest p.done p.closure (λ x r q h. search (rules, tests)) in
          let a = one_part c.next.new.self c.next-2.new.self c.in_ok-a.a w.0 c.in_ok-a.ensures.steps in
          let none = no_part c.next-2.new.self c.in_default.ensures.steps.0 in
          let e : parts_of c.args.line.now ≡ c.in_ok-word.word.now ∷ c.in_ok-a.a.now ∷ [] = cc in
          c.with_one.ensures.is ∙ ap of_parts (sym e);
    }

pub returns-in_default-next : goal.returns-in_default-next
unfolding item_of
returns-in_default-next c =
    record {
      is = let p = c.split-parts.ensures in
          let w = first_part c.split-parts.result c.next.new.self c.in_ok-word.word c.args.line.now c.split-parts.result.pred c.in_ok-word.ensures.steps p.rest p.done p.closure (λ x r q h. search (rules, tests)) in
          let a = one_part c.next.new.self c.next-2.new.self c.in_ok-a.a w.0 c.in_ok-a.ensures.steps in
          let b = one_part c.next-2.new.self c.next-3.new.self c.in-Some.b a.0 c.in-Some.ensures.steps in
          let none = no_part c.next-3.new.self c.in_default-next.ensures.steps.0 in
          let e : parts_of c.args.line.now ≡ c.in_ok-word.word.now ∷ c.in_ok-a.a.now ∷ c.in-Some.b.now ∷ [] = cc in
          c.with_two.ensures.is ∙ ap of_parts (sym e);
    }

pub returns-then-is_some : goal.returns-then-is_some
unfolding item_of
returns-then-is_some c =
    record {
      is = let p = c.split-parts.ensures in
          let w = first_part c.split-parts.result c.next.new.self c.in_ok-word.word c.args.line.now c.split-parts.result.pred c.in_ok-word.ensures.steps p.rest p.done p.closure (λ x r q h. search (rules, tests)) in
          let a = one_part c.next.new.self c.next-2.new.self c.in_ok-a.a w.0 c.in_ok-a.ensures.steps in
          let b = one_part c.next-2.new.self c.next-3.new.self c.in-Some.b a.0 c.in-Some.ensures.steps in
          let d = one_part c.next-3.new.self c.next-4.new.self c.in-Some-next.c b.0 c.in-Some-next.ensures.steps in
          let m = more_part c.next-4.new.self c.next-5.new.self c.next-5.result d.0 c.next-5.ensures.steps (sym c.is_some.ensures ∙ c.if-is_some.true) in
          let e : parts_of c.args.line.now ≡ c.in_ok-word.word.now ∷ c.in_ok-a.a.now ∷ c.in-Some.b.now ∷ c.in-Some-next.c.now ∷ m.0 ∷ left c.next-5.new.self = cc in
          ap of_parts (sym e);
    }

pub returns : goal.returns
unfolding item_of
returns c =
    record {
      is = let p = c.split-parts.ensures in
          let w = first_part c.split-parts.result c.next.new.self c.in_ok-word.word c.args.line.now c.split-parts.result.pred c.in_ok-word.ensures.steps p.rest p.done p.closure (λ x r q h. search (rules, tests)) in
          let a = one_part c.next.new.self c.next-2.new.self c.in_ok-a.a w.0 c.in_ok-a.ensures.steps in
          let b = one_part c.next-2.new.self c.next-3.new.self c.in-Some.b a.0 c.in-Some.ensures.steps in
          let d = one_part c.next-3.new.self c.next-4.new.self c.in-Some-next.c b.0 c.in-Some-next.ensures.steps in
          let none = no_more _ c.next-4.new.self c.next-5.new.self c.next-5.result c.next-5.ensures.steps (sym c.is_some.ensures ∙ c.if-is_some.false) in
          let e : parts_of c.args.line.now ≡ c.in_ok-word.word.now ∷ c.in_ok-a.a.now ∷ c.in-Some.b.now ∷ c.in-Some-next.c.now ∷ [] = cc in
          c.with_three.ensures.is ∙ ap of_parts (sym e);
    }
