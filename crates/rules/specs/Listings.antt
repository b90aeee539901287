-- FIGURES THAT ARE LISTINGS: rows, m and arrivals, and the records that they give
use Rattle.std.specs.Prelude.{◌≡◌, true, false, ℕ, zero, suc, ◌*◌, take, replicate}
use Rattle.std.proofs.Math.Option.{Option, some}
use mathlib.Core.List.{List, [], ◌∷◌, map, foldl}
use Rattle.rules.specs.Answers.{is_done}
use Rattle.rules.specs.Table.{Row, table_bytes}
use Rattle.rules.specs.Admission.{admit}
use Rattle.rules.specs.State.{Task}
use Rattle.rules.specs.Record.{Record}
use Rattle.rules.specs.Calls.{step_answer}
use Rattle.rules.specs.Run.{Call, arrive_call, step_call, Run, perform, run_of}

abbrev pub row : ℕ → ℕ → ℕ → Row
row p e d = record { period = p; exec = e; deadline = d }

-- a step with room for a record, towards a tick
abbrev pub towards : ℕ → Call
towards tick = step_call tick (replicate 48 0)

-- a line of a listing: from, to, the m slots
abbrev pub line : ℕ → ℕ → List ℕ → Record
line from to slots = record { from = from; to = to; slots = slots }

abbrev pub lines : ℕ → List Record → List Record
lines m rs = map (λ (r : Record). line r.from r.to (take m r.slots)) rs

-- the listing of a run: the table, m, the calls
unfoldable pub listing : List Row → ℕ → List Call → List Record
listing rows m cs = lines m (run_of (table_bytes rows) m cs).records

-- "arrive T I" and "until T"
pub data Line : Type 0 where
  arrives : (tick task : ℕ) → Line
  until : (tick : ℕ) → Line

-- steps towards a tick until one is refused, at most n of them
unfoldable pub steps_to : ℕ → ℕ → Run → Run
steps_to zero tick r = r
steps_to (suc n) tick r = elim (is_done (step_answer r.state tick 48)) [ true ↦ steps_to n tick (perform r (towards tick)) | false ↦ r ]

-- "steps with horizon T until the present is T": no more of them than sub-ticks, and one that is refused
abbrev pub reach : ℕ → Run → Run
reach tick r = steps_to (suc (tick * r.state.scale)) tick r

-- "then calls arrive; for until, it steps likewise"
unfoldable pub follow : Run → Line → Run
follow r (arrives tick task) = perform (reach tick r) (arrive_call task)
follow r (until tick) = reach tick r

-- the run of some lines: the rows, m, the lines
unfoldable pub followed : List Row → ℕ → List Line → Run
followed rows m ls = foldl follow (run_of (table_bytes rows) m []) ls

unfoldable pub listed : List Row → ℕ → List Line → List Record
listed rows m ls = lines m (followed rows m ls).records

-- the end of the plane that is open after some lines
unfoldable pub end_after : List Row → ℕ → List Line → Option ℕ
end_after rows m ls = (followed rows m ls).state.plane

-- the scale and the shares of an admitted table
unfoldable pub scale_in : List Row → ℕ → ℕ
scale_in rows m = (admit (table_bytes rows) m).state.scale

unfoldable pub shares_in : List Row → ℕ → List ℕ
shares_in rows m = map (λ (t : Task). t.share) (admit (table_bytes rows) m).state.tasks

-- the task set of document 001, Table 1
abbrev pub table_one : List Row
table_one = row 7 3 7 ∷ row 16 1 16 ∷ row 19 5 19 ∷ row 5 4 5 ∷ row 26 2 26 ∷ row 26 15 26 ∷ row 29 20 29 ∷ row 17 14 17 ∷ []

abbrev pub table_p1 : List Row
table_p1 = row 4 3 4 ∷ row 6 4 6 ∷ row 3 1 3 ∷ row 4 1 4 ∷ []

pub record Listings : Type 0 where
  -- P1, call by call; the last step finds the present at the horizon, is refused, and leaves no record
  pub p1 : listing table_p1 2 (arrive_call 1 ∷ arrive_call 2 ∷ arrive_call 3 ∷ arrive_call 4 ∷ towards 3 ∷ towards 3 ∷ towards 3 ∷ towards 3 ∷ [])
      ≡ line 0 24 (1 ∷ 2 ∷ []) ∷ line 24 27 (1 ∷ 3 ∷ []) ∷ line 27 36 (4 ∷ 3 ∷ []) ∷ []
  pub p1_scale : scale_in table_p1 2 ≡ 12
  pub p1_shares : shares_in table_p1 2 ≡ 9 ∷ 8 ∷ 4 ∷ 3 ∷ []
  -- "all arrivals called at that tick belong to it": in whatever order
  pub p1_turned : listed table_p1 2 (arrives 0 4 ∷ arrives 0 3 ∷ arrives 0 2 ∷ arrives 0 1 ∷ until 3 ∷ [])
      ≡ line 0 24 (1 ∷ 2 ∷ []) ∷ line 24 27 (1 ∷ 3 ∷ []) ∷ line 27 36 (4 ∷ 3 ∷ []) ∷ []
  -- P3: task 2 arrives inside the plane, waits, and runs once task 1 rests
  pub p3 : listed (row 4 2 4 ∷ row 8 4 8 ∷ []) 1 (arrives 0 1 ∷ arrives 1 2 ∷ until 4 ∷ [])
      ≡ line 0 8 (1 ∷ []) ∷ line 8 16 (1 ∷ []) ∷ line 16 28 (2 ∷ []) ∷ line 28 32 (0 ∷ []) ∷ []
  pub p3_scale : scale_in (row 4 2 4 ∷ row 8 4 8 ∷ []) 1 ≡ 8
  pub p3_end : end_after (row 4 2 4 ∷ row 8 4 8 ∷ []) 1 (arrives 0 1 ∷ until 1 ∷ []) ≡ some 4
  -- P4: a full share arrives inside the plane and takes processor 1; task 1 goes on at 18 on processor 2
  pub p4 : listed (row 4 2 4 ∷ row 4 2 4 ∷ row 3 3 3 ∷ []) 2 (arrives 0 1 ∷ arrives 0 2 ∷ arrives 1 3 ∷ until 3 ∷ [])
      ≡ line 0 12 (1 ∷ 2 ∷ []) ∷ line 12 18 (3 ∷ 2 ∷ []) ∷ line 18 24 (3 ∷ 1 ∷ []) ∷ line 24 36 (3 ∷ 0 ∷ []) ∷ []
  pub p4_end : end_after (row 4 2 4 ∷ row 4 2 4 ∷ row 3 3 3 ∷ []) 2 (arrives 0 1 ∷ arrives 0 2 ∷ until 1 ∷ []) ≡ some 3
  -- "the present plus q for asleep tasks", whenever they came: a row 4 1 2 that came at 2 sleeps from 4 on, and the plane opened there ends at 6
  pub asleep_again : end_after (row 4 1 2 ∷ []) 1 (arrives 2 1 ∷ until 5 ∷ []) ≡ some 6
  -- "with rows 10 5 10 and 2 1 2, task 2's deadline falls inside": asleep it ends a plane at every second tick,
  -- and task 1 runs on over four of these ends
  pub asleep_counts : listed (row 10 5 10 ∷ row 2 1 2 ∷ []) 1 (arrives 0 1 ∷ until 10 ∷ [])
      ≡ line 0 10 (1 ∷ []) ∷ line 10 20 (0 ∷ []) ∷ line 20 30 (1 ∷ []) ∷ line 30 40 (0 ∷ []) ∷ line 40 50 (1 ∷ [])
      ∷ line 50 60 (0 ∷ []) ∷ line 60 70 (1 ∷ []) ∷ line 70 80 (0 ∷ []) ∷ line 80 90 (1 ∷ []) ∷ line 90 100 (0 ∷ []) ∷ []
  -- the same with the sleeper ahead of it in the table
  pub sleeper_first : listed (row 2 1 2 ∷ row 4 2 4 ∷ []) 1 (arrives 0 2 ∷ until 4 ∷ [])
      ≡ line 0 4 (2 ∷ []) ∷ line 4 8 (0 ∷ []) ∷ line 8 12 (2 ∷ []) ∷ line 12 16 (0 ∷ []) ∷ []
  -- D below p, arrivals inside planes that take the lowest idle processor, planes that end at 2, 4, 5 and 6.
  -- At 2 the shares are equal and the lower number goes to processor 1, at 4 the larger share does
  pub sporadic : listed (row 4 1 2 ∷ row 3 2 3 ∷ row 6 4 6 ∷ []) 3 (arrives 0 3 ∷ arrives 1 2 ∷ arrives 3 1 ∷ until 6 ∷ [])
      ≡ line 0 6 (3 ∷ 0 ∷ 0 ∷ []) ∷ line 6 8 (3 ∷ 2 ∷ 0 ∷ []) ∷ line 8 10 (0 ∷ 2 ∷ 0 ∷ []) ∷ line 10 12 (0 ∷ 0 ∷ 0 ∷ [])
      ∷ line 12 18 (2 ∷ 3 ∷ 0 ∷ []) ∷ line 18 20 (2 ∷ 3 ∷ 1 ∷ []) ∷ line 20 21 (0 ∷ 0 ∷ 1 ∷ []) ∷ line 21 24 (0 ∷ 0 ∷ 0 ∷ [])
      ∷ line 24 27 (3 ∷ 1 ∷ 0 ∷ []) ∷ line 27 28 (3 ∷ 0 ∷ 0 ∷ []) ∷ line 28 30 (0 ∷ 0 ∷ 0 ∷ [])
      ∷ line 30 34 (3 ∷ 0 ∷ 0 ∷ []) ∷ line 34 36 (0 ∷ 0 ∷ 0 ∷ []) ∷ []
  -- two B events at 8: task 1 rests first and task 3 gets its processor; the horizon at 12 moves no key
  pub two_rest : listed (row 4 2 4 ∷ row 4 2 4 ∷ row 4 2 4 ∷ row 4 2 4 ∷ []) 2 (arrives 0 1 ∷ arrives 0 2 ∷ arrives 0 3 ∷ arrives 0 4 ∷ until 3 ∷ until 4 ∷ [])
      ≡ line 0 8 (1 ∷ 2 ∷ []) ∷ line 8 12 (3 ∷ 4 ∷ []) ∷ line 12 16 (3 ∷ 4 ∷ []) ∷ []
  -- two C events at 18: tasks 4 and 5 take the processors of tasks 1 and 2, whose keys are equal to task 3's
  pub two_critical : listed (row 6 4 6 ∷ row 6 4 6 ∷ row 6 4 6 ∷ row 6 3 6 ∷ row 6 3 6 ∷ []) 3
      (arrives 0 1 ∷ arrives 0 2 ∷ arrives 0 3 ∷ arrives 0 4 ∷ arrives 0 5 ∷ until 6 ∷ [])
      ≡ line 0 18 (1 ∷ 2 ∷ 3 ∷ []) ∷ line 18 24 (4 ∷ 5 ∷ 3 ∷ []) ∷ line 24 30 (4 ∷ 5 ∷ 1 ∷ []) ∷ line 30 36 (4 ∷ 5 ∷ 2 ∷ []) ∷ []
  -- a C event at 10, and task 4 goes on waiting: at 15 it has the same key as task 1, which comes first
  pub one_critical : listed (row 5 3 5 ∷ row 5 3 5 ∷ row 5 3 5 ∷ row 5 1 5 ∷ []) 2 (arrives 0 1 ∷ arrives 0 2 ∷ arrives 0 3 ∷ arrives 0 4 ∷ until 5 ∷ [])
      ≡ line 0 10 (1 ∷ 2 ∷ []) ∷ line 10 15 (3 ∷ 2 ∷ []) ∷ line 15 20 (3 ∷ 1 ∷ []) ∷ line 20 25 (3 ∷ 4 ∷ []) ∷ []
  -- the least key and not the lower number: at 18 task 3 waits with 32, task 2 with 24
  pub least_key : listed (row 9 2 9 ∷ row 9 3 9 ∷ row 9 4 9 ∷ []) 1 (arrives 0 1 ∷ arrives 1 2 ∷ arrives 1 3 ∷ until 9 ∷ [])
      ≡ line 0 9 (1 ∷ []) ∷ line 9 18 (1 ∷ []) ∷ line 18 50 (3 ∷ []) ∷ line 50 74 (2 ∷ []) ∷ line 74 81 (0 ∷ []) ∷ []
  -- a full share arrives inside a second plane: it takes processor 1 at once, and task 1 goes on at 54 on processor 2
  pub full_share : listed (row 6 3 6 ∷ row 6 3 6 ∷ row 6 6 6 ∷ []) 2 (arrives 0 1 ∷ arrives 0 2 ∷ arrives 6 1 ∷ arrives 6 2 ∷ arrives 8 3 ∷ until 12 ∷ [])
      ≡ line 0 18 (1 ∷ 2 ∷ []) ∷ line 18 36 (0 ∷ 0 ∷ []) ∷ line 36 48 (1 ∷ 2 ∷ [])
      ∷ line 48 54 (3 ∷ 2 ∷ []) ∷ line 54 60 (3 ∷ 1 ∷ []) ∷ line 60 72 (3 ∷ 0 ∷ []) ∷ []
  -- "to the next event or the horizon, whichever is first", with nobody awake too
  pub idle : listing (row 4 2 4 ∷ []) 1 (towards 1 ∷ towards 5 ∷ towards 5 ∷ []) ≡ line 0 4 (0 ∷ []) ∷ line 4 16 (0 ∷ []) ∷ line 16 20 (0 ∷ []) ∷ []
  -- Table 1 on four processors: C events that displace, B events with more than one waiting, falling shares that are not the row order
  pub table_one_lem : listing table_one 4 (arrive_call 1 ∷ arrive_call 2 ∷ arrive_call 3 ∷ arrive_call 4 ∷ arrive_call 5 ∷ arrive_call 6 ∷ arrive_call 7 ∷ arrive_call 8
      ∷ towards 5 ∷ towards 5 ∷ towards 5 ∷ towards 5 ∷ towards 5 ∷ towards 5 ∷ towards 5 ∷ towards 5 ∷ towards 5 ∷ towards 5 ∷ [])
      ≡ line 0 194833600 (8 ∷ 4 ∷ 7 ∷ 6 ∷ []) ∷ line 194833600 235144000 (8 ∷ 4 ∷ 7 ∷ 1 ∷ []) ∷ line 235144000 272767040 (8 ∷ 4 ∷ 3 ∷ 1 ∷ [])
      ∷ line 272767040 280789600 (8 ∷ 5 ∷ 3 ∷ 1 ∷ []) ∷ line 280789600 298994640 (2 ∷ 5 ∷ 3 ∷ 1 ∷ []) ∷ line 298994640 300868040 (2 ∷ 6 ∷ 3 ∷ 1 ∷ [])
      ∷ line 300868040 302099525 (2 ∷ 0 ∷ 3 ∷ 1 ∷ []) ∷ line 302099525 324870000 (0 ∷ 0 ∷ 3 ∷ 1 ∷ []) ∷ line 324870000 340958800 (0 ∷ 0 ∷ 0 ∷ 1 ∷ []) ∷ []
