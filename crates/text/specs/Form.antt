-- THE FORM OF THE WHOLE TEXT
use Rattle.std.specs.Prelude.{Bool, true, false, ◌&&◌, List, [], ◌∷◌, ℕ, ◌+◌, ltb, eqb, length, if◌then◌else◌, Some, None, Result, Ok, Err}
use Rattle.text.specs.declared.Item.{Item}
use Rattle.text.specs.declared.Item.TheVariants.{Processors, Task, Arrive, Until}
use Rattle.text.specs.declared.Flaw.{Flaw}
use Rattle.text.specs.declared.Flaw.TheVariants.{TooLong, Line}
use Rattle.text.specs.declared.Stage.{Stage}
use Rattle.text.specs.declared.Stage.TheVariants.{Start, Tasks, Arrivals, Ended}
use Rattle.text.specs.Parts.{split_by, newline}
use Rattle.text.specs.Lines.{item_of}

-- "at most one "processors M", then "task P E D" lines, then "arrive T I" lines, then one "until T", which is last":
-- Start at the beginning, Tasks after processors or a task, Arrivals after an arrive, Ended after until
abbrev pub may_stand : Stage → Item → Bool
may_stand Start x = true
may_stand Tasks (Processors m) = false
may_stand Tasks (Task p e d) = true
may_stand Tasks (Arrive t i) = true
may_stand Tasks (Until t) = true
may_stand Arrivals (Processors m) = false
may_stand Arrivals (Task p e d) = false
may_stand Arrivals (Arrive t i) = true
may_stand Arrivals (Until t) = true
may_stand Ended x = false

abbrev pub stage_after : Item → Stage
stage_after (Processors m) = Tasks
stage_after (Task p e d) = Tasks
stage_after (Arrive t i) = Arrivals
stage_after (Until t) = Ended

abbrev pub is_ended : Stage → Bool
is_ended Start = false
is_ended Tasks = false
is_ended Arrivals = false
is_ended Ended = true

-- the line that a flaw names: "14 names the first line that breaks it, or line 0 where the input is too long"
abbrev pub flaw_line : Flaw → ℕ
flaw_line TooLong = 0
flaw_line (Line n) = n

-- good, or the flaw
abbrev pub Checked : Type 0
Checked = Result (Unit {0}) Flaw

abbrev pub good : Checked
good = Ok tt

abbrev pub broken : ℕ → Checked
broken n = Err (Line n)

-- the first line that breaks the form, the first of these having the number n; what stands after the last newline
-- is no line, so it must be empty, and "A missing until is 14 at the line after the last"
unfoldable pub form_from : Stage → ℕ → List (List ℕ) → Checked
form_from stage n [] = broken n
form_from stage n (p ∷ []) = if is_ended stage && eqb (length p) 0 then good else broken n
form_from stage n (p ∷ q ∷ ps) =
    elim (item_of p) as (λ _. Checked) [
      | Some x ↦ if may_stand stage x then form_from (stage_after x) (n + 1) (q ∷ ps) else broken n
      | None ↦ broken n
    ]

unfoldable pub form_of : List ℕ → Checked
form_of text = if ltb 65536 (length text) then Err TooLong else form_from Start 1 (split_by newline text)
