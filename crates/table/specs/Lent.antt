-- A TABLE THAT LIES IN LENT COLUMNS
use Rattle.std.specs.Prelude.{◌≡◌}
use Rattle.table.specs.declared.Table.{Table}
use Rattle.table.specs.declared.Columns.{Columns}
use Rattle.table.specs.declared.Sheet.{Sheet}

-- the table that is read there
abbrev pub table_in : Columns → Table
table_in c =
    record {
      period = c.rows.period.now;
      exec = c.rows.exec.now;
      deadline = c.rows.deadline.now;
      share = c.share.now;
      order = c.order.now;
      count = c.rows.count;
      m = c.m;
      scale = c.scale;
    }

-- the table that stands on a sheet
abbrev pub table_on : Sheet → Table
table_on s =
    record {
      period = s.period.now;
      exec = s.exec.now;
      deadline = s.deadline.now;
      share = s.share.now;
      order = s.order.now;
      count = s.count;
      m = s.m;
      scale = s.scale;
    }

-- the same columns are lent afterwards
pub record SameSheet (a b : Sheet) : Type 0 where
  pub period : b.period.ghost_name ≡ a.period.ghost_name
  pub exec : b.exec.ghost_name ≡ a.exec.ghost_name
  pub deadline : b.deadline.ghost_name ≡ a.deadline.ghost_name
  pub share : b.share.ghost_name ≡ a.share.ghost_name
  pub order : b.order.ghost_name ≡ a.order.ghost_name
