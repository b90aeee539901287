use native.Mathlib.Omega.{arith}
use lib.ListN.{length}
use mathlib.Core.Path.{sym, ◌∙◌}
use borrow.Author.Tests.{lt-ltb, le-ltb}
use Rattle.text.specs.Form.{form_of}
use Rattle.text.proofs.form.Goals as goal

pub returns-then-s-gt65536 : goal.returns-then-s-gt65536
unfolding form_of
returns-then-s-gt65536 c = record { is = rw (lt-ltb 65536 (length c.args.s.now) (omega arith)) }

pub returns : goal.returns
unfolding form_of
returns c = record { is = c.form_lines.ensures.is ∙ sym (rw (le-ltb _ _ c.if-s-gt65536.false)) }
