use Prim.Native.Nat.{◌+◌}
use mathlib.Core.Path.{sym, ap, ◌∙◌}
use Rattle.std.specs.Prelude.{Option}
use Rattle.text.specs.declared.Item.{Item}
use Rattle.text.specs.declared.Line.{Line}
use Rattle.text.specs.Parts.{newline}
use Rattle.text.proofs.Splitting.{match_from}
use Rattle.text.proofs.Walks.{line_past, line_unended, line_whole}
use Rattle.text.proofs.line_at.Goals as goal

pub returns-then-s-at : goal.returns-then-s-at
returns-then-s-at c = record { is = sym (line_past c.args.s.now c.args.at c.if-s-at.true) }

pub returns-then-s-end : goal.returns-then-s-end
returns-then-s-end c =
    record {
      is = let e = match_from newline c.args.s.now c.args.at c.place_of.result c.place_of.ensures.within c.place_of.ensures.first in
          sym (line_unended c.args.s.now c.args.at (c.args.at + c.place_of.result) e c.if-s-end.true);
    }

pub returns : goal.returns
returns c =
    record {
      is = let e = match_from newline c.args.s.now c.args.at c.place_of.result c.place_of.ensures.within c.place_of.ensures.first in
          let made : Option Item → Line = λ x. record { item = x; next = c.args.at + c.place_of.result + 1 } in
          ap made c.read_line.ensures.is ∙ sym (line_whole c.args.s.now c.args.at (c.args.at + c.place_of.result) e c.if-s-end.false);
    }
