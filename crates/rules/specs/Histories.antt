-- FIGURES OF HISTORIES: what ran, the arrivals that were taken, and the plane ends that they give
use Rattle.std.specs.Prelude.{◌≡◌, List, [], ◌∷◌, map, ℕ}
use Rattle.std.proofs.Math.Option.{none, some}
use Rattle.ground.specs.Sums.{up_from}
use Rattle.rules.specs.Table.{Row, table_bytes}
use Rattle.rules.specs.Record.{Record}
use Rattle.rules.specs.Run.{Call, arrive_call, Arrival, run_of}
use Rattle.rules.specs.History.{ran, came_by, plane_end}
use Rattle.rules.specs.Listings.{row, line, towards}

abbrev pub came : ℕ → ℕ → Arrival
came task tick = record { task = task; tick = tick }

-- four records of two processors
abbrev pub four_records : List Record
four_records = line 0 5 (1 ∷ 0 ∷ []) ∷ line 5 7 (2 ∷ 1 ∷ []) ∷ line 7 12 (0 ∷ 2 ∷ []) ∷ line 12 20 (2 ∷ 2 ∷ []) ∷ []

-- rows 4 1 2, 3 2 3, 6 4 6 on three processors; task 3 comes at 0, 2 at 1, 1 at 3
abbrev pub three_rows : List Row
three_rows = row 4 1 2 ∷ row 3 2 3 ∷ row 6 4 6 ∷ []

-- task 3 comes twice: the second time is too soon, and there is no task 9
abbrev pub sporadic_calls : List Call
sporadic_calls = arrive_call 3 ∷ arrive_call 3 ∷ arrive_call 9 ∷ towards 1 ∷ arrive_call 2 ∷ towards 3 ∷ towards 3 ∷ towards 3 ∷ towards 3 ∷ arrive_call 1 ∷ towards 3 ∷ []

-- a row 4 1 2 that comes at 0 and again at 5
abbrev pub again_rows : List Row
again_rows = row 4 1 2 ∷ row 9 1 9 ∷ []

pub record Histories : Type 0 where
  pub ran_whole : ran 1 0 20 four_records ≡ 7
  pub ran_inside : ran 1 1 3 four_records ≡ 2
  pub ran_from : ran 2 6 20 four_records ≡ 22
  pub ran_until : ran 2 0 15 four_records ≡ 13
  pub taken : (run_of (table_bytes three_rows) 3 sporadic_calls).arrivals ≡ came 1 3 ∷ came 2 1 ∷ came 3 0 ∷ []
  pub latest : map (λ tick. came_by 1 tick (came 1 7 ∷ came 2 5 ∷ came 1 3 ∷ [])) (2 ∷ 3 ∷ 6 ∷ 7 ∷ []) ≡ none ∷ some 3 ∷ some 3 ∷ some 7 ∷ []
  -- "last arrival plus q for awake tasks, and the present plus q for asleep tasks": with nobody, after each arrival, and with all of them
  pub ends_nobody : map (plane_end three_rows []) (up_from 0 4) ≡ 0 ∷ 2 ∷ 4 ∷ 6 ∷ []
  pub ends_two : map (plane_end three_rows (came 2 1 ∷ came 3 0 ∷ [])) (up_from 0 5) ≡ 0 ∷ 2 ∷ 4 ∷ 6 ∷ 8 ∷ []
  pub ends_three : map (plane_end three_rows (came 1 3 ∷ came 2 1 ∷ came 3 0 ∷ [])) (up_from 0 5) ≡ 0 ∷ 2 ∷ 4 ∷ 5 ∷ 6 ∷ []
  -- an arrival at the tick of a plane end belongs to the plane that opens there, and the latest arrival counts
  pub ends_again : map (plane_end again_rows (came 1 6 ∷ came 2 1 ∷ came 1 0 ∷ [])) (up_from 0 6) ≡ 0 ∷ 2 ∷ 4 ∷ 6 ∷ 8 ∷ 10 ∷ []
  pub ends_second : map (plane_end (row 9 1 9 ∷ row 4 1 4 ∷ []) (came 2 1 ∷ [])) (up_from 0 4) ≡ 0 ∷ 4 ∷ 5 ∷ 9 ∷ []
  pub ends_without_rows : plane_end [] [] 1 ≡ 0
  pub ends_one : map (plane_end (row 9 1 9 ∷ []) (came 1 3 ∷ [])) (up_from 0 3) ≡ 0 ∷ 9 ∷ 12 ∷ []
  -- a row 10 2 3 that came at 0: asleep, it counts from the present
  pub ends_early : map (plane_end (row 10 2 3 ∷ []) (came 1 0 ∷ [])) (up_from 0 5) ≡ 0 ∷ 3 ∷ 6 ∷ 9 ∷ 12 ∷ []
