use Rattle.std.proofs.Common.{rules, ◌∙◌}
use Rattle.table.specs.Lent.{table_in}
use Rattle.inplace.proofs.Places.{same_rows}
use Rattle.inplace.proofs.arrive.Goals as goal

pub arrive_in-requires : goal.arrive_in-requires
arrive_in-requires c = record { ready = let p = c.in_ok-may_arrive.ensures.may in (table_in c.args.s.now.table, search rules) }

pub returns-clause-is : goal.returns-clause-is
returns-clause-is c = let e = same_rows _ _ c.arrive_in.ensures.same ∙ c.arrive_in.ensures.is (table_in c.args.s.now.table) in search (rules, e)
