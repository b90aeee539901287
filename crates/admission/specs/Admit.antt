-- ADMIT, as the code answers it
use Rattle.std.specs.Prelude.{List, ℕ}
use Rattle.table.specs.Tabled.{blank_table, tabled_of}
use Rattle.state.specs.declared.State.{State}
use Rattle.moves.specs.Fresh.{fresh_state}
use Rattle.admission.specs.declared.Admitted.{Admitted}

-- "a blank state": one fixed value, all zero
abbrev pub blank_state : State
blank_state = fresh_state blank_table

unfoldable pub admit_of : List ℕ → ℕ → Admitted
admit_of bytes m = let t = tabled_of bytes m in record { answer = t.answer; row = t.row; state = fresh_state t.table }
