-- The figures with numbers add up: each holds of the rules by computation
use mathlib.Core.Path.{refl}
use Rattle.rules.proofs.Computed.{computed}
use Rattle.rules.specs.Listings.{Listings}
use Rattle.rules.specs.Handed.{Handed}
use Rattle.rules.specs.Answered.{Answered}
use Rattle.rules.specs.Histories.{Histories}

pub listings : Listings
unfolding computed
listings = record {
  p1 = refl;
  p1_scale = refl;
  p1_shares = refl;
  p1_turned = refl;
  p3 = refl;
  p3_scale = refl;
  p3_end = refl;
  p4 = refl;
  p4_end = refl;
  asleep_again = refl;
  asleep_counts = refl;
  sleeper_first = refl;
  sporadic = refl;
  two_rest = refl;
  two_critical = refl;
  one_critical = refl;
  least_key = refl;
  full_share = refl;
  idle = refl;
  table_one_lem = refl;
}

pub handed : Handed
unfolding computed
handed = record {
  open_holds = refl;
  runs_whole_length = refl;
  runs_longer = refl;
  runs_with_nothing = refl;
  waits_whole_length = refl;
  waits_with_nothing = refl;
  sum_above = refl;
  idle_while_one_waits = refl;
  past_m = refl;
  on_none = refl;
  two_on_one = refl;
  came_later = refl;
  awake_unarrived = refl;
  end_is_now = refl;
  awake_too_long = refl;
  asleep_on_tick = refl;
  asleep_rounded_up = refl;
  asleep_by_present = refl;
  asleep_by_arrival = refl;
  asleep_too_long = refl;
  asleep_by_later_arrival = refl;
  asleep_too_long_since = refl;
  closed_holds = refl;
  closed_off_tick = refl;
  closed_due = refl;
  closed_due_by_deadline = refl;
  closed_one_runs = refl;
  closed_one_waits = refl;
  last_tick = refl;
  past_clock = refl;
  no_row = refl;
  rows_128 = refl;
  rows_129 = refl;
  processors_16 = refl;
  processors_17 = refl;
  another_scale = refl;
  another_share = refl;
  shares_above = refl;
}

pub answered : Answered
unfolding computed
answered = record {
  numbers = refl;
  only_0_is_done = refl;
  no_processor = refl;
  eleven_bytes = refl;
  table_128 = refl;
  table_129 = refl;
  no_deadline = refl;
  too_much_work = refl;
  long_period = refl;
  first_faulty = refl;
  p8_met = refl;
  p5_met = refl;
  p5_scale = refl;
  p6_met = refl;
  scale_just_above = refl;
  p2 = refl;
  shares_by_q = refl;
  refused_table = refl;
  admitted_table = refl;
  clash_arrives = refl;
  task_0 = refl;
  task_5 = refl;
  off_tick = refl;
  too_soon = refl;
  p9_met = refl;
  p10_met = refl;
  by_period = refl;
  by_period_again = refl;
  refused_arrival = refl;
  clash_steps = refl;
  room_47 = refl;
  past_clock = refl;
  to_last_tick = refl;
  refused_step = refl;
  row_bytes = refl;
  written = refl;
  read = refl;
  counted = refl;
  put_in_place = refl;
}

pub histories : Histories
unfolding computed
histories = record {
  ran_whole = refl;
  ran_inside = refl;
  ran_from = refl;
  ran_until = refl;
  taken = refl;
  latest = refl;
  ends_nobody = refl;
  ends_two = refl;
  ends_three = refl;
  ends_again = refl;
  ends_second = refl;
  ends_without_rows = refl;
  ends_one = refl;
  ends_early = refl;
}
