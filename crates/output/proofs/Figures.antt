-- Each figure holds by computation
use mathlib.Core.Path.{refl}
use Rattle.output.proofs.Computed.{printing}
use Rattle.output.specs.Figures.{Figures}

pub figures : Figures
unfolding printing
figures = record {
  p1 = refl;
  p2 = refl;
  p3 = refl;
  p4 = refl;
  p5 = refl;
  p6 = refl;
  p7 = refl;
  p8 = refl;
  absent = refl;
  p9 = refl;
  p10 = refl;
  processors_0 = refl;
  no_task = refl;
  row_out_of_range = refl;
  task_unknown = refl;
  earlier_arrive = refl;
  earlier_until = refl;
  present = refl;
  nothing = refl;
  no_until = refl;
  not_ended = refl;
  carriage_return = refl;
  task_late = refl;
  until_twice = refl;
  leading_zero = refl;
  two_spaces = refl;
  form_first = refl;
  admission_first = refl;
  no_line = refl;
  most_number = refl;
  processors_twice = refl;
  processors_late = refl;
  task_after_until = refl;
  arrive_after_until = refl;
  rest_after_until = refl;
  line_after_until = refl;
  longest = refl;
  too_long = refl;
  first_row = refl;
  second_row = refl;
  second_line = refl;
  processors_16 = refl;
  processors_17 = refl;
  rows_128 = refl;
  rows_129 = refl;
  many_steps = refl;
  far = refl;
  refused_last = refl;
  deadline_below = refl;
  deadline_above = refl;
}
