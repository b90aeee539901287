use mathlib.Core.Path.{sym, ap, ◌∙◌}
use Rattle.text.specs.declared.Line.{Line}
use Rattle.text.specs.Meaning.{processors_by}
use Rattle.text.proofs.Walks.{processors_first}
use Rattle.text.proofs.processors.Goals as goal

pub returns : goal.returns
returns c = record { is = c.processors_by.ensures.is ∙ ap (λ (x : Line). processors_by x.item) c.line_at.ensures.is ∙ sym (processors_first c.args.s.now) }
