-- WHAT A LINE SAYS
use Rattle.std.specs.Prelude.{List, [], ◌∷◌, ℕ, if◌then◌else◌, Option, Some, None}
use Rattle.text.specs.declared.Item.{Item}
use Rattle.text.specs.declared.Item.TheVariants.{Processors, Task, Arrive, Until}
use Rattle.text.specs.Parts.{same, parts_of}
use Rattle.text.specs.Numbers.{numeral_of}

-- processors
abbrev pub processors_word : List ℕ
processors_word = 112 ∷ 114 ∷ 111 ∷ 99 ∷ 101 ∷ 115 ∷ 115 ∷ 111 ∷ 114 ∷ 115 ∷ []

-- task
abbrev pub task_word : List ℕ
task_word = 116 ∷ 97 ∷ 115 ∷ 107 ∷ []

-- arrive
abbrev pub arrive_word : List ℕ
arrive_word = 97 ∷ 114 ∷ 114 ∷ 105 ∷ 118 ∷ 101 ∷ []

-- until
abbrev pub until_word : List ℕ
until_word = 117 ∷ 110 ∷ 116 ∷ 105 ∷ 108 ∷ []

-- "processors M", "until T": a word and one number
abbrev pub with_one : List ℕ → Option ℕ → Option Item
with_one w (Some x) = if same w processors_word then Some (Processors x) else (if same w until_word then Some (Until x) else None)
with_one w None = None

-- "arrive T I": a word and two numbers
abbrev pub with_two : List ℕ → Option ℕ → Option ℕ → Option Item
with_two w (Some x) (Some y) = if same w arrive_word then Some (Arrive x y) else None
with_two w (Some x) None = None
with_two w None b = None

-- "task P E D": a word and three numbers
abbrev pub with_three : List ℕ → Option ℕ → Option ℕ → Option ℕ → Option Item
with_three w (Some x) (Some y) (Some z) = if same w task_word then Some (Task x y z) else None
with_three w (Some x) (Some y) None = None
with_three w (Some x) None c = None
with_three w None b c = None

-- a word and its numbers
abbrev pub of_parts : List (List ℕ) → Option Item
of_parts [] = None
of_parts (w ∷ []) = None
of_parts (w ∷ a ∷ []) = with_one w (numeral_of a)
of_parts (w ∷ a ∷ b ∷ []) = with_two w (numeral_of a) (numeral_of b)
of_parts (w ∷ a ∷ b ∷ c ∷ []) = with_three w (numeral_of a) (numeral_of b) (numeral_of c)
of_parts (w ∷ a ∷ b ∷ c ∷ d ∷ l) = None

-- what a line says, if it is a line of the form
unfoldable pub item_of : List ℕ → Option Item
item_of line = of_parts (parts_of line)
