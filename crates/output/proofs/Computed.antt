-- Opens every definition of the output: `unfolding printing` in a theorem that holds by computation
use Prim.Native.Nat.{ℕ}
use Rattle.rules.proofs.Computed.{computed}
use Rattle.text.specs.Parts.{split_by, same, ended, lines_of}
use Rattle.text.specs.Numbers.{spelled_after, numeral_of}
use Rattle.text.specs.Lines.{item_of}
use Rattle.text.specs.Form.{form_from, form_of}
use Rattle.text.specs.Meaning.{items_of, rows_in, row_lines_in, row_line_of, turns_in}
use Rattle.print.specs.Decimals.{digits}
use Rattle.print.specs.Printed.{spaced, record_lines}
use Rattle.output.specs.Course.{turns_course, course_of}
use Rattle.output.specs.Output.{printed, output_of}
use Rattle.output.specs.Figures.{bytes, times}

unfoldable pub printing : ℕ
unfolding computed split_by same ended lines_of spelled_after numeral_of item_of form_from form_of items_of rows_in row_lines_in row_line_of turns_in digits spaced record_lines turns_course course_of printed output_of bytes times
printing = 0
