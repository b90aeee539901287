-- The refusals of an arrival and of a step, one by one
use mathlib.Core.Path.{◌≡◌}
use mathlib.Core.Bool.{Bool, true, false}
use mathlib.Core.Logic.{◌≢◌}
use mathlib.Core.List.{List}
use Prim.Native.Nat.{ℕ, ◌+◌, ◌-◌, ◌*◌, ◌/◌, ◌%◌, ◌≤◌, ◌<◌}
use native.Mathlib.Omega.{arith}
use lib.Dec.{leb, ltb, eqb}
use lib.ListN.{get_or}
use Rattle.ground.specs.Tests.{Says}
use Rattle.ground.proofs.Tests.{leb_says, ltb_says, eqb_says, and_says, is_true, is_false}
use Rattle.rules.specs.Answers.{Done, TaskNumber, BetweenTicks, TooSoon, HorizonPastClock, HorizonNotLater, RoomTooShort}
use Rattle.rules.specs.Bounds.{clock}
use Rattle.refusals.specs.Arrive.{task_in, comes_by}
use Rattle.refusals.specs.Step.{moves_by}

-- AN ARRIVAL
module _ (count scale now : ℕ) (period : List ℕ) (arrived : List Bool) (last : List ℕ) (task : ℕ) where
  in_says : Says ((1 ≤ task) × (task ≤ count)) (task_in count task)
  in_says = and_says (1 ≤ task) (task ≤ count) (leb 1 task) (leb task count) (leb_says 1 task) (leb_says task count)

  pub comes_7 : ¬ ((1 ≤ task) × (task ≤ count)) → TaskNumber ≡ comes_by count scale now period arrived last task
  comes_7 n = rw (is_false (task_in count task) in_says n)

  module _ (a : 1 ≤ task) (b : task ≤ count) where
    pub comes_8 : now % scale ≢ 0 → BetweenTicks ≡ comes_by count scale now period arrived last task
    comes_8 n = rw (is_true (task_in count task) in_says (a, b), is_false (eqb (now % scale) 0) (eqb_says (now % scale) 0) n)

    module _ (t : now % scale ≡ 0) where
      pub comes_9 : get_or arrived (task - 1) false ≡ true → ltb (now / scale) (get_or last (task - 1) 0 + get_or period (task - 1) 0) ≡ true → TooSoon ≡ comes_by count scale now period arrived last task
      comes_9 c d = rw (is_true (task_in count task) in_says (a, b), is_true (eqb (now % scale) 0) (eqb_says (now % scale) 0) t, c, d)

      pub comes_late : get_or arrived (task - 1) false ≡ true → ltb (now / scale) (get_or last (task - 1) 0 + get_or period (task - 1) 0) ≡ false → Done ≡ comes_by count scale now period arrived last task
      comes_late c d = rw (is_true (task_in count task) in_says (a, b), is_true (eqb (now % scale) 0) (eqb_says (now % scale) 0) t, c, d)

      pub comes_first : get_or arrived (task - 1) false ≡ false → Done ≡ comes_by count scale now period arrived last task
      comes_first c = rw (is_true (task_in count task) in_says (a, b), is_true (eqb (now % scale) 0) (eqb_says (now % scale) 0) t, c)

-- A STEP
module _ (scale now horizon room : ℕ) where
  pub moves_12 : room < 48 → RoomTooShort ≡ moves_by scale now horizon room
  unfolding moves_by
  moves_12 a = rw (is_true (ltb room 48) (ltb_says room 48) a)

  module _ (a : 48 ≤ room) where
    short : ltb room 48 ≡ false
    short = is_false _ (ltb_says room 48) (λ z. omega arith)

    pub moves_10 : clock < horizon → HorizonPastClock ≡ moves_by scale now horizon room
    unfolding moves_by
    moves_10 b = rw (short, is_true (ltb clock horizon) (ltb_says clock horizon) b)

    module _ (b : horizon ≤ clock) where
      past : ltb clock horizon ≡ false
      past = is_false _ (ltb_says clock horizon) (λ z. omega arith)

      pub moves_11 : horizon * scale ≤ now → HorizonNotLater ≡ moves_by scale now horizon room
      unfolding moves_by
      moves_11 d = rw (short, past, is_true (leb (horizon * scale) now) (leb_says (horizon * scale) now) d)

      pub moves_0 : now < horizon * scale → Done ≡ moves_by scale now horizon room
      unfolding moves_by
      moves_0 d =
          let later : leb (horizon * scale) now ≡ false = is_false _ (leb_says (horizon * scale) now) (λ z. omega arith) in
          rw (short, past, later)
