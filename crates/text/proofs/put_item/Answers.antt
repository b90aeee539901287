use mathlib.Core.List.{List}
use mathlib.Core.Path.{sym, ap, subst, ◌∙◌}
use Rattle.std.specs.Prelude.{Some}
use Rattle.rules.specs.Table.{Row}
use Rattle.text.specs.declared.Item.{Item}
use Rattle.text.specs.Meaning.{row_by}
use Rattle.text.specs.Puts.{RowsPut}
use Rattle.text.proofs.Pastes.{rows_full, rows_none, rows_one, rows_as, no_row}
use Rattle.text.proofs.put_item.Goals as goal

pub returns-in_default : goal.returns-in_default
returns-in_default c = record { is = rows_as c.args.out.now c.args.out.now c.args.k c.args.k c.args.item _ c.in_default.is (rows_none c.args.out.now c.args.k) }

pub returns-else-k-ge129 : goal.returns-else-k-ge129
returns-else-k-ge129 c =
    record { is = rows_as c.args.out.now _ c.args.k _ c.args.item _ (c.in-Some.is ∙ ap (λ (x : Item). Some x) c.in-Task.is) (rows_one c.args.out.now _ c.args.k _ c.if-k-ge129.false c.put_row.ensures.is) }

pub returns-then-k-ge129 : goal.returns-then-k-ge129
returns-then-k-ge129 c = record { is = rows_full c.args.out.now c.args.k (row_by c.args.item) c.if-k-ge129.true }

pub returns-in_default-item : goal.returns-in_default-item
returns-in_default-item c =
    record {
      is = let l = c.args.out.now in
          let k = c.args.k in
          subst (λ (rows : List Row). RowsPut l k rows l k) (sym (ap row_by c.in-Some.is ∙ no_row c.in-Some.item c.in_default-item.not-Task)) (rows_none l k);
    }
