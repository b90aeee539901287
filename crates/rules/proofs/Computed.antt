-- Opens every rule: `unfolding computed` in a figure that holds by computation
use Prim.Native.Nat.{ℕ}
use Rattle.ground.specs.Tests.{every}
use Rattle.ground.specs.Sums.{sum_of, up_from}
use Rattle.ground.specs.Bytes.{le, number}
use Rattle.rules.specs.Table.{rows_of, table_bytes}
use Rattle.rules.specs.Scale.{gcd_in, gcd, lcm, scale_from, scale_of, share_of, fits}
use Rattle.rules.specs.Admission.{fault_from, size_verdict, rows_verdict, admit_verdict, admit}
use Rattle.rules.specs.State.{become}
use Rattle.rules.specs.Holds.{table_holds, conditions_hold, lasts_hold, closed_holds, open_holds, holds}
use Rattle.rules.specs.Keys.{better, least}
use Rattle.rules.specs.Planes.{end_of, ordered, falling, enter, open_tasks, opened, closed}
use Rattle.rules.specs.Events.{advance, or_key, next_at, give, seize, b_event, b_events, c_events_in, c_events, events}
use Rattle.rules.specs.Record.{on_proc, slots_of, slot_bytes, record_bytes, slots_from, read_record}
use Rattle.rules.specs.Calls.{lowest_idle, wake, arrive_idle, arrive_in, arriving, arrive_answer, arrive, after, moving, step_answer, step}
use Rattle.rules.specs.Run.{perform, perform_all, run_of}
use Rattle.rules.specs.History.{ran, came_by, limits_by, earliest, plane_end}
use Rattle.rules.specs.Listings.{listing, steps_to, follow, followed, listed, end_after, scale_in, shares_in}

unfoldable pub computed : ℕ
unfolding every sum_of up_from le number rows_of gcd_in gcd lcm scale_from scale_of share_of fits fault_from size_verdict rows_verdict admit_verdict admit become table_holds conditions_hold lasts_hold closed_holds open_holds holds better least end_of ordered falling enter open_tasks opened closed advance or_key next_at give seize b_event b_events c_events_in c_events events on_proc slots_of slot_bytes record_bytes slots_from read_record lowest_idle wake arrive_idle arrive_in arriving arrive_answer arrive after moving step_answer step perform perform_all run_of ran came_by limits_by earliest plane_end table_bytes listing steps_to follow followed listed end_after scale_in shares_in
computed = 0
