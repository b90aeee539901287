-- Texts, computed
use mathlib.Core.Path.{◌≡◌, refl}
use mathlib.Core.List.{List, [], ◌∷◌}
use Prim.Native.Nat.{ℕ}
use Rattle.ground.specs.Tests.{every}
use Rattle.text.specs.declared.Item.TheVariants.{Arrive, Until}
use Rattle.text.specs.Parts.{split_by, same, ended, lines_of}
use Rattle.text.specs.Numbers.{spelled_after, numeral_of}
use Rattle.text.specs.Lines.{item_of}
use Rattle.text.specs.Form.{good, broken, form_from, form_of}
use Rattle.text.specs.Meaning.{items_of, processors_in, rows_in, row_lines_in, turns_in}

abbrev p1_text : List ℕ
p1_text = 112 ∷ 114 ∷ 111 ∷ 99 ∷ 101 ∷ 115 ∷ 115 ∷ 111 ∷ 114 ∷ 115 ∷ 32 ∷ 50 ∷ 10 ∷ 116 ∷ 97 ∷ 115 ∷ 107 ∷ 32 ∷ 52 ∷ 32 ∷ 51 ∷ 32 ∷ 52 ∷ 10 ∷ 116 ∷ 97 ∷ 115 ∷ 107 ∷ 32 ∷ 54 ∷ 32 ∷ 52 ∷ 32 ∷ 54 ∷ 10 ∷ 116 ∷ 97 ∷ 115 ∷ 107 ∷ 32 ∷ 51 ∷ 32 ∷ 49 ∷ 32 ∷ 51 ∷ 10 ∷ 116 ∷ 97 ∷ 115 ∷ 107 ∷ 32 ∷ 52 ∷ 32 ∷ 49 ∷ 32 ∷ 52 ∷ 10 ∷ 97 ∷ 114 ∷ 114 ∷ 105 ∷ 118 ∷ 101 ∷ 32 ∷ 48 ∷ 32 ∷ 49 ∷ 10 ∷ 97 ∷ 114 ∷ 114 ∷ 105 ∷ 118 ∷ 101 ∷ 32 ∷ 48 ∷ 32 ∷ 50 ∷ 10 ∷ 97 ∷ 114 ∷ 114 ∷ 105 ∷ 118 ∷ 101 ∷ 32 ∷ 48 ∷ 32 ∷ 51 ∷ 10 ∷ 97 ∷ 114 ∷ 114 ∷ 105 ∷ 118 ∷ 101 ∷ 32 ∷ 48 ∷ 32 ∷ 52 ∷ 10 ∷ 117 ∷ 110 ∷ 116 ∷ 105 ∷ 108 ∷ 32 ∷ 51 ∷ 10 ∷ []

p1_form : form_of p1_text ≡ good
unfolding split_by same spelled_after numeral_of every item_of form_from form_of
p1_form = refl

abbrev cr_text : List ℕ
cr_text = 116 ∷ 97 ∷ 115 ∷ 107 ∷ 32 ∷ 52 ∷ 32 ∷ 49 ∷ 32 ∷ 52 ∷ 13 ∷ 10 ∷ 117 ∷ 110 ∷ 116 ∷ 105 ∷ 108 ∷ 32 ∷ 49 ∷ 10 ∷ []

cr_form : form_of cr_text ≡ broken 1
unfolding split_by same spelled_after numeral_of every item_of form_from form_of
cr_form = refl

abbrev lead_text : List ℕ
lead_text = 116 ∷ 97 ∷ 115 ∷ 107 ∷ 32 ∷ 48 ∷ 52 ∷ 32 ∷ 49 ∷ 32 ∷ 52 ∷ 10 ∷ 117 ∷ 110 ∷ 116 ∷ 105 ∷ 108 ∷ 32 ∷ 49 ∷ 10 ∷ []

lead_form : form_of lead_text ≡ broken 1
unfolding split_by same spelled_after numeral_of every item_of form_from form_of
lead_form = refl

abbrev nountil_text : List ℕ
nountil_text = 116 ∷ 97 ∷ 115 ∷ 107 ∷ 32 ∷ 52 ∷ 32 ∷ 49 ∷ 32 ∷ 52 ∷ 10 ∷ []

nountil_form : form_of nountil_text ≡ broken 2
unfolding split_by same spelled_after numeral_of every item_of form_from form_of
nountil_form = refl

abbrev late_text : List ℕ
late_text = 116 ∷ 97 ∷ 115 ∷ 107 ∷ 32 ∷ 52 ∷ 32 ∷ 49 ∷ 32 ∷ 52 ∷ 10 ∷ 97 ∷ 114 ∷ 114 ∷ 105 ∷ 118 ∷ 101 ∷ 32 ∷ 53 ∷ 32 ∷ 49 ∷ 10 ∷ 97 ∷ 114 ∷ 114 ∷ 105 ∷ 118 ∷ 101 ∷ 32 ∷ 52 ∷ 32 ∷ 49 ∷ 10 ∷ 117 ∷ 110 ∷ 116 ∷ 105 ∷ 108 ∷ 32 ∷ 57 ∷ 10 ∷ []

late_form : form_of late_text ≡ good
unfolding split_by same spelled_after numeral_of every item_of form_from form_of
late_form = refl

abbrev empty_text : List ℕ
empty_text = []

empty_form : form_of empty_text ≡ broken 1
unfolding split_by same spelled_after numeral_of every item_of form_from form_of
empty_form = refl

abbrev huge_text : List ℕ
huge_text = 116 ∷ 97 ∷ 115 ∷ 107 ∷ 32 ∷ 52 ∷ 32 ∷ 49 ∷ 32 ∷ 52 ∷ 10 ∷ 117 ∷ 110 ∷ 116 ∷ 105 ∷ 108 ∷ 32 ∷ 52 ∷ 50 ∷ 57 ∷ 52 ∷ 57 ∷ 54 ∷ 55 ∷ 50 ∷ 57 ∷ 54 ∷ 10 ∷ []

huge_form : form_of huge_text ≡ broken 2
unfolding split_by same spelled_after numeral_of every item_of form_from form_of
huge_form = refl

-- b'until 3'
no_newline_form : form_of (117 ∷ 110 ∷ 116 ∷ 105 ∷ 108 ∷ 32 ∷ 51 ∷ []) ≡ broken 1
unfolding split_by same spelled_after numeral_of every item_of form_from form_of
no_newline_form = refl

-- b'until 3\n\n'
after_until_form : form_of (117 ∷ 110 ∷ 116 ∷ 105 ∷ 108 ∷ 32 ∷ 51 ∷ 10 ∷ 10 ∷ []) ≡ broken 2
unfolding split_by same spelled_after numeral_of every item_of form_from form_of
after_until_form = refl

-- b'until 3\nx'
no_newline_after_form : form_of (117 ∷ 110 ∷ 116 ∷ 105 ∷ 108 ∷ 32 ∷ 51 ∷ 10 ∷ 120 ∷ []) ≡ broken 2
unfolding split_by same spelled_after numeral_of every item_of form_from form_of
no_newline_after_form = refl

-- b'processors 2\nprocessors 2\nuntil 3\n'
twice_form : form_of (112 ∷ 114 ∷ 111 ∷ 99 ∷ 101 ∷ 115 ∷ 115 ∷ 111 ∷ 114 ∷ 115 ∷ 32 ∷ 50 ∷ 10 ∷ 112 ∷ 114 ∷ 111 ∷ 99 ∷ 101 ∷ 115 ∷ 115 ∷ 111 ∷ 114 ∷ 115 ∷ 32 ∷ 50 ∷ 10 ∷ 117 ∷ 110 ∷ 116 ∷ 105 ∷ 108 ∷ 32 ∷ 51 ∷ 10 ∷ []) ≡ broken 2
unfolding split_by same spelled_after numeral_of every item_of form_from form_of
twice_form = refl

-- b'arrive 0 1\ntask 1 1 1\nuntil 3\n'
order_form : form_of (97 ∷ 114 ∷ 114 ∷ 105 ∷ 118 ∷ 101 ∷ 32 ∷ 48 ∷ 32 ∷ 49 ∷ 10 ∷ 116 ∷ 97 ∷ 115 ∷ 107 ∷ 32 ∷ 49 ∷ 32 ∷ 49 ∷ 32 ∷ 49 ∷ 10 ∷ 117 ∷ 110 ∷ 116 ∷ 105 ∷ 108 ∷ 32 ∷ 51 ∷ 10 ∷ []) ≡ broken 2
unfolding split_by same spelled_after numeral_of every item_of form_from form_of
order_form = refl

-- b'until  3\n'
two_spaces_form : form_of (117 ∷ 110 ∷ 116 ∷ 105 ∷ 108 ∷ 32 ∷ 32 ∷ 51 ∷ 10 ∷ []) ≡ broken 1
unfolding split_by same spelled_after numeral_of every item_of form_from form_of
two_spaces_form = refl

-- b'until 3 \n'
end_space_form : form_of (117 ∷ 110 ∷ 116 ∷ 105 ∷ 108 ∷ 32 ∷ 51 ∷ 32 ∷ 10 ∷ []) ≡ broken 1
unfolding split_by same spelled_after numeral_of every item_of form_from form_of
end_space_form = refl

-- b' until 3\n'
front_space_form : form_of (32 ∷ 117 ∷ 110 ∷ 116 ∷ 105 ∷ 108 ∷ 32 ∷ 51 ∷ 10 ∷ []) ≡ broken 1
unfolding split_by same spelled_after numeral_of every item_of form_from form_of
front_space_form = refl

-- b'until +3\n'
plus_form : form_of (117 ∷ 110 ∷ 116 ∷ 105 ∷ 108 ∷ 32 ∷ 43 ∷ 51 ∷ 10 ∷ []) ≡ broken 1
unfolding split_by same spelled_after numeral_of every item_of form_from form_of
plus_form = refl

-- b'until 00\n'
zeros_form : form_of (117 ∷ 110 ∷ 116 ∷ 105 ∷ 108 ∷ 32 ∷ 48 ∷ 48 ∷ 10 ∷ []) ≡ broken 1
unfolding split_by same spelled_after numeral_of every item_of form_from form_of
zeros_form = refl

-- b'until 0\n'
zero_form : form_of (117 ∷ 110 ∷ 116 ∷ 105 ∷ 108 ∷ 32 ∷ 48 ∷ 10 ∷ []) ≡ good
unfolding split_by same spelled_after numeral_of every item_of form_from form_of
zero_form = refl

-- b'until 4294967295\n'
most_form : form_of (117 ∷ 110 ∷ 116 ∷ 105 ∷ 108 ∷ 32 ∷ 52 ∷ 50 ∷ 57 ∷ 52 ∷ 57 ∷ 54 ∷ 55 ∷ 50 ∷ 57 ∷ 53 ∷ 10 ∷ []) ≡ good
unfolding split_by same spelled_after numeral_of every item_of form_from form_of
most_form = refl

-- b'Until 1\n'
capital_form : form_of (85 ∷ 110 ∷ 116 ∷ 105 ∷ 108 ∷ 32 ∷ 49 ∷ 10 ∷ []) ≡ broken 1
unfolding split_by same spelled_after numeral_of every item_of form_from form_of
capital_form = refl

p1_processors : processors_in (items_of p1_text) ≡ 2
unfolding split_by same spelled_after numeral_of every item_of ended lines_of items_of rows_in row_lines_in turns_in
p1_processors = refl

late_processors : processors_in (items_of late_text) ≡ 4
unfolding split_by same spelled_after numeral_of every item_of ended lines_of items_of rows_in row_lines_in turns_in
late_processors = refl

p1_rows : rows_in (items_of p1_text) ≡ record { period = 4; exec = 3; deadline = 4 } ∷ record { period = 6; exec = 4; deadline = 6 } ∷ record { period = 3; exec = 1; deadline = 3 } ∷ record { period = 4; exec = 1; deadline = 4 } ∷ []
unfolding split_by same spelled_after numeral_of every item_of ended lines_of items_of rows_in row_lines_in turns_in
p1_rows = refl

p1_row_lines : row_lines_in 1 (items_of p1_text) ≡ 2 ∷ 3 ∷ 4 ∷ 5 ∷ []
unfolding split_by same spelled_after numeral_of every item_of ended lines_of items_of rows_in row_lines_in turns_in
p1_row_lines = refl

late_turns : turns_in 1 (items_of late_text) ≡ record { line = 2; item = Arrive 5 1 } ∷ record { line = 3; item = Arrive 4 1 } ∷ record { line = 4; item = Until 9 } ∷ []
unfolding split_by same spelled_after numeral_of every item_of ended lines_of items_of rows_in row_lines_in turns_in
late_turns = refl
