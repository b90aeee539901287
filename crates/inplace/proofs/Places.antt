-- The same places are lent after one call and another
use mathlib.Core.Bool.{Bool}
use mathlib.Core.List.{List}
use mathlib.Core.Path.{◌≡◌, ◌∙◌, ap}
use Prim.Native.Nat.{ℕ}
use Rattle.table.specs.declared.Columns.{Columns}
use Rattle.state.specs.declared.InPlace.{InPlace}
use Rattle.table.specs.Lent.{table_in}
use Rattle.table.specs.declared.Table.{Table}
use Rattle.state.specs.Lent.{state_in, state_with, state_over, SamePlaces}

pub same_on : {a b c : InPlace} → SamePlaces a b → SamePlaces b c → SamePlaces a c
same_on p q =
    record {
      table = q.table ∙ p.table;
      awake = q.awake ∙ p.awake;
      crew = record {
        running = record { keys = q.crew.running.keys ∙ p.crew.running.keys; tasks = q.crew.running.tasks ∙ p.crew.running.tasks };
        waiting = record { keys = q.crew.waiting.keys ∙ p.crew.waiting.keys; tasks = q.crew.waiting.tasks ∙ p.crew.waiting.tasks };
        slots = q.crew.slots ∙ p.crew.slots;
      };
    }

-- the executions are those that were there
pub same_exec : {a b : InPlace} (arrived : List Bool) (last : List ℕ) → SamePlaces a b → state_in b arrived last ≡ state_with b a.table.rows.exec.now arrived last
same_exec {a} {b} arrived last p = ap (λ (t : Columns). state_with b t.rows.exec.now arrived last) p.table

-- so are the rows and the order
pub same_rows : {a b : InPlace} (arrived : List Bool) (last : List ℕ) → SamePlaces a b → state_in b arrived last ≡ state_over b (table_in a.table) arrived last
same_rows {a} {b} arrived last p = ap (λ (t : Columns). state_over b (table_in t) arrived last) p.table

-- and with other executions
pub same_but_exec : {a b : InPlace} (exec : List ℕ) (arrived : List Bool) (last : List ℕ) → SamePlaces a b
    → state_with b exec arrived last ≡ state_over b (record (table_in a.table) { exec = exec }) arrived last
same_but_exec {a} {b} exec arrived last p = ap (λ (t : Columns). state_over b (record (table_in t) { exec = exec }) arrived last) p.table
