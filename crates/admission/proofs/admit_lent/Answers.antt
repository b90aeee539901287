use Rattle.admission.proofs.Cleared.{cleared_admits}
use Rattle.admission.proofs.admit_lent.Goals as goal

pub returns-clause-is : goal.returns-clause-is
returns-clause-is c =
    let jobs = c.clear_jobs.ensures.is in
    cleared_admits _ _ _ _ _ _ _ _ _ _ _ jobs.0 jobs.1 jobs.2 c.clear.ensures.is c.clear-2.ensures.is c.clear_slots.ensures.is c.admit_table.ensures.is
