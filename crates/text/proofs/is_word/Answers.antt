use mathlib.Core.Path.{◌∙◌}
use Rattle.text.proofs.Items.{same_pointwise}
use Rattle.text.proofs.is_word.Goals as goal

pub returns : goal.returns
returns c = record { is = c.eq.ensures ∙ same_pointwise c.args.part.now c.args.word.now }
