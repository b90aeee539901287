use Prim.Native.Nat.{◌+◌, ◌-◌, ◌≤◌}
use mathlib.Core.Path.{◌≡◌}
use lib.ListN.{length, drop}
use Rattle.text.specs.declared.Stage.TheVariants.{Start}
use Rattle.text.specs.Form.{form_from}
use Rattle.text.specs.Parts.{split_by, newline}
use Rattle.text.proofs.form_lines.Given as goal

abbrev pub invariant-loop-at : goal.invariant-loop-at
invariant-loop-at l = (l.at ≤ length l.s) × (l.line ≤ l.at + 1) × (form_from l.stage l.line (split_by newline (drop l.at l.s)) ≡ form_from Start 1 (split_by newline l.s))

abbrev pub decreases-loop-at : goal.decreases-loop-at
decreases-loop-at l = length l.s - l.at
