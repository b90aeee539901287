-- FIGURES ON ANSWERS, in document 01's numbers, and on whole results
use Rattle.std.specs.Prelude.{◌≡◌, true, false, List, [], ◌∷◌, ◌++◌, map, ℕ, replicate}
use Rattle.ground.specs.Bytes.{pasted}
use Rattle.ground.specs.Sums.{up_from, times}
use Rattle.rules.specs.Answers.{Answer, Done, Processors, TableLength, RowRange, RowExecution, Scale, Shares, TaskNumber, BetweenTicks, TooSoon, HorizonPastClock, HorizonNotLater, RoomTooShort, NotTogether, TextForm, number_of, is_done}
use Rattle.rules.specs.Table.{Row, rows_of, table_bytes}
use Rattle.rules.specs.Admission.{admit, admit_verdict}
use Rattle.rules.specs.State.{running, State}
use Rattle.rules.specs.Record.{read_record}
use Rattle.rules.specs.Calls.{arrive_answer, step_answer, arrive, step}
use Rattle.rules.specs.Listings.{row, line, arrives, until, followed, shares_in, scale_in, table_p1}
use Rattle.rules.specs.Handed.{underway, between, untouched, yet_to_come, ◌▷◌, present, task, amounts, came}

-- the answers in the order of their numbers
abbrev pub answers : List Answer
answers = Done ∷ Processors ∷ TableLength ∷ RowRange ∷ RowExecution ∷ Scale ∷ Shares ∷ TaskNumber ∷ BetweenTicks ∷ TooSoon
    ∷ HorizonPastClock ∷ HorizonNotLater ∷ RoomTooShort ∷ NotTogether ∷ TextForm ∷ []

-- what admission says of bytes, of rows: the number, and the row that it names
abbrev pub verdict : List ℕ → ℕ → ℕ × ℕ
verdict bytes m = let v = admit_verdict bytes m in (number_of v.answer, v.row)

abbrev pub admits : List Row → ℕ → ℕ × ℕ
admits rows m = verdict (table_bytes rows) m

-- all that a call hands back: the number, the row, the state, the room
abbrev pub admit_gives : List Row → ℕ → ℕ × ℕ × State
admit_gives rows m = let r = admit (table_bytes rows) m in (number_of r.answer, r.row, r.state)

abbrev pub arrive_gives : State → ℕ → ℕ × State
arrive_gives s n = let r = arrive s n in (number_of r.answer, r.state)

abbrev pub step_gives : State → ℕ → List ℕ → ℕ × State × List ℕ
step_gives s horizon room = let r = step s horizon room in (number_of r.answer, r.state, r.room)

-- task 1 of a table of one row arrived at 0, and the present is this tick
abbrev pub once_at : ℕ → Row → State
once_at tick r = (followed (r ∷ []) 1 (arrives 0 1 ∷ until tick ∷ [])).state

-- two tasks on processor 1
abbrev pub clash : State
clash = underway ▷ task 2 (running 1 5)

-- holds together too: 15 · 4 is 6 · 10
abbrev pub at_6 : State
at_6 = underway ▷ present 6 ▷ amounts 5 5 5

pub record Answered : Type 0 where
  -- THE NUMBERS
  pub numbers : map number_of answers ≡ up_from 0 15
  pub only_0_is_done : map is_done answers ≡ true ∷ replicate 14 false
  -- ADMIT: the number and the row. 1: "m is 0 or above 16"
  pub no_processor : admits (row 4 2 4 ∷ []) 0 ≡ (1, 0)
  -- 2: "byte length is 0, above 1,536, or not a multiple of 12"
  pub eleven_bytes : verdict (replicate 11 1) 1 ≡ (2, 0)
  pub table_128 : admits (replicate 128 (row 1000 1 1000)) 1 ≡ (0, 0)
  pub table_129 : admits (replicate 129 (row 1000 1 1000)) 1 ≡ (2, 0)
  -- 3: "a row has p, e or D out of range"; all four bytes of p count
  pub no_deadline : admits (row 1 1 0 ∷ []) 1 ≡ (3, 1)
  pub too_much_work : admits (row 1 1048577 1 ∷ []) 1 ≡ (3, 1)
  pub long_period : admits (row 16777220 2 4 ∷ []) 1 ≡ (3, 1)
  -- "the first faulty row"
  pub first_faulty : admits (row 4 2 4 ∷ row 0 1 1 ∷ row 3 4 3 ∷ []) 2 ≡ (3, 2)
  -- 4: P8's
  pub p8_met : admits (row 4 5 4 ∷ []) 1 ≡ (4, 1)
  -- 5: P5's and P6's; then L is 134,217,729
  pub p5_met : admits (row 1048576 1 1048576 ∷ row 127 1 127 ∷ []) 1 ≡ (0, 0)
  pub p5_scale : scale_in (row 1048576 1 1048576 ∷ row 127 1 127 ∷ []) 1 ≡ 133169152
  pub p6_met : admits (row 1048576 1 1048576 ∷ row 129 1 129 ∷ []) 1 ≡ (5, 0)
  pub scale_just_above : admits (row 1539 1 1539 ∷ row 87211 1 87211 ∷ []) 1 ≡ (5, 0)
  -- 6: P2
  pub p2 : admits (table_p1 ++ (row 12 1 12 ∷ [])) 2 ≡ (6, 0)
  -- the scale and the shares are by q: L is 12
  pub shares_by_q : shares_in (row 4 1 9 ∷ row 9 2 6 ∷ []) 1 ≡ 3 ∷ 4 ∷ []
  -- the state: "a blank state", and "a state at instant 0, no task awake, no plane open"
  pub refused_table : admit_gives [] 1 ≡ (2, 0, untouched 0 0 [])
  pub admitted_table : admit_gives (row 4 2 4 ∷ []) 1 ≡ (0, 0, untouched 1 4 (yet_to_come (row 4 2 4) 2 ∷ []))
  -- ARRIVE. 13 before 7
  pub clash_arrives : number_of (arrive_answer clash 0) ≡ 13
  -- 7 before 8: "task number 0 or above the row count"
  pub task_0 : number_of (arrive_answer at_6 0) ≡ 7
  pub task_5 : number_of (arrive_answer at_6 5) ≡ 7
  -- 8 before 9: 6 is no multiple of 4
  pub off_tick : number_of (arrive_answer at_6 1) ≡ 8
  -- 9: tick 5 is before 2 + 4
  pub too_soon : number_of (arrive_answer (between ▷ present 20 ▷ came 1 2) 1) ≡ 9
  -- P9's and P10's; and by p, where D is later
  pub p9_met : number_of (arrive_answer (once_at 4 (row 4 2 4)) 1) ≡ 0
  pub p10_met : number_of (arrive_answer (once_at 3 (row 4 2 4)) 1) ≡ 9
  pub by_period : number_of (arrive_answer (once_at 2 (row 2 1 6)) 1) ≡ 0
  -- and by p, where D is before it: a row 10 2 3
  pub by_period_again : map (λ tick. number_of (arrive_answer (once_at tick (row 10 2 3)) 1)) (2 ∷ 3 ∷ 9 ∷ 10 ∷ []) ≡ 9 ∷ 9 ∷ 9 ∷ 0 ∷ []
  -- "Other refusals return the given state unchanged"
  pub refused_arrival : arrive_gives underway 1 ≡ (8, underway)
  -- STEP. 13 before 12, 12 before 10
  pub clash_steps : number_of (step_answer clash 4294967296 47) ≡ 13
  pub room_47 : number_of (step_answer underway 4294967296 47) ≡ 12
  -- 10: "horizon above 4,294,967,295"
  pub past_clock : number_of (step_answer underway 4294967296 48) ≡ 10
  pub to_last_tick : number_of (step_answer underway 4294967295 48) ≡ 0
  -- 11: 1 · 4 is before 5; "and write nothing"
  pub refused_step : step_gives underway 1 (replicate 50 9) ≡ (11, underway, replicate 50 9)
  -- A ROW'S BYTES: p, e, D, "each 32 bits, least byte first"
  pub row_bytes : rows_of (1 ∷ 2 ∷ 0 ∷ 0 ∷ 5 ∷ 0 ∷ 0 ∷ 0 ∷ 3 ∷ 1 ∷ 0 ∷ 0 ∷ []) ≡ row 513 5 259 ∷ []
  -- A RECORD'S BYTES: 0 to 300, task 1, and "Bytes of the room after the 48th are unchanged."
  pub written : (step (once_at 0 (row 20 15 20)) 20 (replicate 50 9)).room ≡ replicate 8 0 ++ (44 ∷ 1 ∷ replicate 6 0) ++ (1 ∷ replicate 31 0) ++ (9 ∷ 9 ∷ [])
  -- and read back: of the bytes 0 to 47, from and to are eight bytes each, a slot is two
  pub read : read_record (up_from 0 48)
      ≡ line 506097522914230528 1084818905618843912
      (4368 ∷ 4882 ∷ 5396 ∷ 5910 ∷ 6424 ∷ 6938 ∷ 7452 ∷ 7966 ∷ 8480 ∷ 8994 ∷ 9508 ∷ 10022 ∷ 10536 ∷ 11050 ∷ 11564 ∷ 12078 ∷ [])
  -- how often a task stands in the slots
  pub counted : times 2 (2 ∷ 1 ∷ 2 ∷ 3 ∷ 0 ∷ []) ≡ 2
  -- bytes put at a place
  pub put_in_place : pasted (1 ∷ 2 ∷ 3 ∷ 4 ∷ 5 ∷ 6 ∷ []) 2 (8 ∷ 9 ∷ []) ≡ 1 ∷ 2 ∷ 8 ∷ 9 ∷ 5 ∷ 6 ∷ []
