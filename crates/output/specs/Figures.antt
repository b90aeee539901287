-- TEXTS AND WHAT THE PROGRAM PRINTS, byte for byte
use Rattle.std.specs.Prelude.{◌≡◌, List, [] as []ᴸ, ◌∷◌ as ◌∷ᴸ◌, ◌++◌, map, ℕ, zero, suc, replicate}
use Prim.Native.Char.{code}
use Prim.Native.String.{String, [], ◌∷◌}
use Rattle.output.specs.Output.{output_of}

-- the bytes of a text of ASCII characters
unfoldable pub bytes : String → List ℕ
bytes [] = []ᴸ
bytes (c ∷ s) = code c ∷ᴸ bytes s

-- a text, and what is printed for it
abbrev pub Prints : String → String → Type 0
Prints text out = output_of (bytes text) ≡ bytes out

-- n times the same bytes
unfoldable pub times : ℕ → List ℕ → List ℕ
times zero l = []ᴸ
times (suc n) l = l ++ times n l

-- what is printed for a line and a good "until 1" after it
abbrev pub before_until : String → List ℕ
before_until line = output_of (bytes line ++ bytes "\nuntil 1\n")

-- no lines of the form: an empty one, another word, a longer and a shorter one, a missing number, one too many, no digits (the bytes before 0
-- and after 9 among them), an empty part, another space, two zeros, a number above 4,294,967,295
abbrev pub no_lines : List String
no_lines =
    "" ∷ᴸ "task" ∷ᴸ "Task 2 1 2" ∷ᴸ "tasks 2 1 2" ∷ᴸ "tas 2 1 2" ∷ᴸ "arrive 2 1 2" ∷ᴸ "processors 2 1 2" ∷ᴸ "until 2 1 2" ∷ᴸ "task 2 1" ∷ᴸ "processors 2 1" ∷ᴸ "until 2 1" ∷ᴸ "task 2" ∷ᴸ "arrive 2"
    ∷ᴸ "task 2 1 2 2" ∷ᴸ "task x 1 2" ∷ᴸ "task 2 x 2" ∷ᴸ "task 2 1 x" ∷ᴸ "arrive x 1" ∷ᴸ "arrive 0 x" ∷ᴸ "processors x" ∷ᴸ "until x" ∷ᴸ "task 2 1/ 2" ∷ᴸ "task 2 1: 2" ∷ᴸ "task 2 -1 2" ∷ᴸ "task 2 +1 2"
    ∷ᴸ "task 2 1 " ∷ᴸ " task 2 1 2" ∷ᴸ "task 2 1 2 " ∷ᴸ "task\t2\t1\t2" ∷ᴸ "task\r2 1 2" ∷ᴸ "task 2 1 2\tuntil 1" ∷ᴸ "task 2 1 00" ∷ᴸ "task 2 1 4294967296" ∷ᴸ "processors 4294967296" ∷ᴸ []ᴸ

pub record Figures : Type 0 where
  -- P1 as document 01 has it
  pub p1 : Prints "processors 2\ntask 4 3 4\ntask 6 4 6\ntask 3 1 3\ntask 4 1 4\narrive 0 1\narrive 0 2\narrive 0 3\narrive 0 4\nuntil 3\n"
      "scale 12\n0 24 1 2\n24 27 1 3\n27 36 4 3\n"
  -- P2: "The same with a fifth row 12 1 12: refused 6"
  pub p2 : Prints "processors 2\ntask 4 3 4\ntask 6 4 6\ntask 3 1 3\ntask 4 1 4\ntask 12 1 12\narrive 0 1\narrive 0 2\narrive 0 3\narrive 0 4\nuntil 3\n" "refused 6 0\n"
  -- P3: an arrival in an open plane, then an idle processor
  pub p3 : Prints "processors 1\ntask 4 2 4\ntask 8 4 8\narrive 0 1\narrive 1 2\nuntil 4\n" "scale 8\n0 8 1\n8 16 1\n16 28 2\n28 32 0\n"
  -- P4: a full share displaces one that runs
  pub p4 : Prints "processors 2\ntask 4 2 4\ntask 4 2 4\ntask 3 3 3\narrive 0 1\narrive 0 2\narrive 1 3\nuntil 3\n" "scale 12\n0 12 1 2\n12 18 3 2\n18 24 3 1\n24 36 3 0\n"
  -- P5 to P8; without a processors line there are 4
  pub p5 : Prints "task 1048576 1 1048576\ntask 127 1 127\nuntil 0\n" "scale 133169152\n"
  pub p6 : Prints "task 1048576 1 1048576\ntask 129 1 129\nuntil 0\n" "refused 5 0\n"
  pub p7 : Prints "processors 1\ntask 5 5 5\narrive 0 1\nuntil 1\n" "scale 5\n0 5 1\n"
  pub p8 : Prints "processors 1\ntask 7 7 7\ntask 5 6 9\nuntil 1\n" "refused 4 3\n"
  pub absent : Prints "task 2 1 2\nuntil 1\n" "scale 2\n0 2 0 0 0 0\n"
  -- P9 and P10: p ticks apart, and p - 1
  pub p9 : Prints "processors 1\ntask 3 1 3\narrive 0 1\narrive 3 1\nuntil 4\n" "scale 3\n0 3 1\n3 9 0\n9 12 1\n"
  pub p10 : Prints "processors 1\ntask 3 1 3\narrive 0 1\narrive 2 1\nuntil 4\n" "scale 3\n0 3 1\n3 6 0\nrefused 9 4\n"
  -- the other refusals that the program meets, each with its line
  pub processors_0 : Prints "processors 0\ntask 2 1 2\nuntil 1\n" "refused 1 0\n"
  pub no_task : Prints "until 1\n" "refused 2 0\n"
  pub row_out_of_range : Prints "processors 1\ntask 2 1 2\ntask 2 1 0\nuntil 1\n" "refused 3 3\n"
  pub task_unknown : Prints "processors 1\ntask 2 1 2\narrive 0 2\nuntil 1\n" "scale 2\nrefused 7 3\n"
  pub earlier_arrive : Prints "processors 1\ntask 2 1 2\narrive 1 1\narrive 0 1\nuntil 2\n" "scale 2\n0 2 0\nrefused 11 4\n"
  pub earlier_until : Prints "processors 1\ntask 2 1 2\narrive 1 1\nuntil 0\n" "scale 2\n0 2 0\nrefused 11 4\n"
  -- "If T is the present it takes no step"
  pub present : Prints "processors 1\ntask 2 1 2\narrive 0 1\nuntil 0\n" "scale 2\n"
  -- 14, at the first line that breaks the form: no line at all, "A missing until is 14 at the line after the last", a line
  -- that is not ended, a carriage return, an order of lines, a leading zero, two spaces
  pub nothing : Prints "" "refused 14 1\n"
  pub no_until : Prints "processors 1\ntask 2 1 2\n" "refused 14 3\n"
  pub not_ended : Prints "task 2 1 2\nuntil 1" "refused 14 2\n"
  pub carriage_return : Prints "task 2 1 2\r\nuntil 1\r\n" "refused 14 1\n"
  pub task_late : Prints "task 2 1 2\narrive 0 1\ntask 2 1 2\nuntil 1\n" "refused 14 3\n"
  pub until_twice : Prints "task 2 1 2\nuntil 1\nuntil 1\n" "refused 14 3\n"
  pub leading_zero : Prints "task 2 01 2\nuntil 1\n" "refused 14 1\n"
  pub two_spaces : Prints "task 2 1 2\nuntil  1\n" "refused 14 2\n"
  -- the form goes before admission, and admission before the lines
  pub form_first : Prints "processors 0\ntask 0 0 0\nuntil\n" "refused 14 3\n"
  pub admission_first : Prints "processors 0\ntask 2 1 2\narrive 1 9\nuntil 0\n" "refused 1 0\n"
  pub no_line : map before_until no_lines ≡ map (λ (line : String). bytes "refused 14 1\n") no_lines
  -- the largest number is one
  pub most_number : Prints "processors 4294967295\ntask 2 1 2\nuntil 1\n" "refused 1 0\n"
  -- "at most one "processors M"", which is first; until is last, and nothing stands after its newline
  pub processors_twice : Prints "processors 1\nprocessors 1\ntask 2 1 2\nuntil 1\n" "refused 14 2\n"
  pub processors_late : Prints "task 2 1 2\nprocessors 1\nuntil 1\n" "refused 14 2\n"
  pub task_after_until : Prints "until 1\ntask 2 1 2\n" "refused 14 2\n"
  pub arrive_after_until : Prints "task 2 1 2\nuntil 1\narrive 1 1\n" "refused 14 3\n"
  pub rest_after_until : Prints "task 2 1 2\nuntil 1\nuntil 1" "refused 14 3\n"
  pub line_after_until : Prints "task 2 1 2\nuntil 1\n\n" "refused 14 3\n"
  -- "at most 65,536 bytes", "line 0 where the input is too long", whatever stands in it
  pub longest : output_of (replicate 65536 10) ≡ bytes "refused 14 1\n"
  pub too_long : output_of (replicate 65537 10) ≡ bytes "refused 14 0\n"
  -- the lines of rows and arrivals where there is no processors line
  pub first_row : Prints "task 2 3 2\ntask 2 1 2\nuntil 1\n" "refused 4 1\n"
  pub second_row : Prints "task 2 1 2\ntask 2 1 1048577\nuntil 1\n" "refused 3 2\n"
  pub second_line : Prints "task 2 1 2\narrive 0 2\nuntil 1\n" "scale 2\nrefused 7 2\n"
  -- as many processors and as many rows as there can be, and one more
  pub processors_16 : Prints "processors 16\ntask 2 1 2\narrive 0 1\nuntil 1\n" "scale 2\n0 2 1 0 0 0 0 0 0 0 0 0 0 0 0 0 0 0\n"
  pub processors_17 : Prints "processors 17\ntask 2 1 2\narrive 0 1\nuntil 1\n" "refused 1 0\n"
  pub rows_128 : output_of (times 128 (bytes "task 128 1 128\n") ++ bytes "until 0\n") ≡ bytes "scale 128\n"
  pub rows_129 : output_of (times 129 (bytes "task 128 1 128\n") ++ bytes "until 0\n") ≡ bytes "refused 2 0\n"
  -- "until the present is T": more steps than ticks and sub-ticks of a tick together
  pub many_steps : Prints "processors 2\ntask 1 1 1\ntask 4 2 4\ntask 4 1 4\narrive 0 2\narrive 0 3\nuntil 3\n"
      "scale 4\n0 1 2 3\n1 2 2 0\n2 4 0 0\n4 5 2 3\n5 6 2 0\n6 8 0 0\n8 9 2 3\n9 10 2 0\n10 12 0 0\n"
  pub far : Prints "processors 1\ntask 1048576 1 1048576\nuntil 1048576\n" "scale 1048576\n0 1099511627776 0\n"
  -- the lines after a refused arrival are not looked at
  pub refused_last : Prints "processors 1\ntask 2 1 2\narrive 0 2\narrive 0 1\nuntil 1\n" "scale 2\nrefused 7 3\n"
  -- D below p, and above it: 9 counts p, the share and the planes the shorter of them
  pub deadline_below : Prints "processors 1\ntask 4 1 2\narrive 0 1\narrive 2 1\nuntil 4\n" "scale 2\n0 2 1\n2 4 0\nrefused 9 4\n"
  pub deadline_above : Prints "processors 1\ntask 2 1 4\narrive 0 1\narrive 2 1\nuntil 3\n" "scale 2\n0 2 1\n2 4 0\n4 6 1\n"
