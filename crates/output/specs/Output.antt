-- WHAT THE PROGRAM PRINTS FOR A TEXT
use Rattle.std.specs.Prelude.{List, [], ◌∷◌, ◌++◌, ℕ}
use Rattle.rules.specs.Answers.{number_of}
use Rattle.print.specs.Printed.{scale_line, refused_line, record_line}
use Rattle.output.specs.Course.{Entry, scale_entry, record_entry, refused_entry, course_of}

-- a line for each entry
abbrev pub line_of : Entry → List ℕ
line_of (scale_entry scale) = scale_line scale
line_of (record_entry m rec) = record_line m rec
line_of (refused_entry answer line) = refused_line (number_of answer) line

unfoldable pub printed : List Entry → List ℕ
printed [] = []
printed (x ∷ xs) = line_of x ++ printed xs

unfoldable pub output_of : List ℕ → List ℕ
output_of text = printed (course_of text)
