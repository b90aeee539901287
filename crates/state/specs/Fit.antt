-- WHAT CODE OVER A WORK MAY ASK OF IT
use Rattle.std.specs.Prelude.{◌≡◌, Bool, true, List, ℕ, zero, suc, ◌+◌, ◌*◌, ◌≤◌, ◌<◌, length, get_or}
use Rattle.std.proofs.Math.Option.{some}
use Rattle.queue.specs.Queues.{key_in, top_key}
use Rattle.state.specs.Work.{Work, first_idle, c_due, c_one, b_all}
use Rattle.state.specs.View.{Tidy}

-- the work of a sound state in a plane: a running key is by the end, a waiting key not past, and instants fit 64 bits
pub record Timely (n : ℕ) (awake : List Bool) (w : Work) : Type 0 where
  pub tidy : Tidy n awake w
  pub run_by : (t k : ℕ) → key_in w.running t ≡ some k → k ≤ w.end
  pub wait_from : (t k : ℕ) → key_in w.waiting t ≡ some k → w.now ≤ k
  pub past : w.now ≤ w.end
  pub small : w.end < 18446744073709551616

-- the same, whoever the tasks are
pub record Fit (w : Work) : Type 0 where
  pub count : ℕ
  pub awake : List Bool
  pub timely : Timely count awake w

-- the top of the running can be displaced: it has work left
pub record Yields (w : Work) : Type 0 where
  pub runs : 0 < w.running.len
  pub live : w.now < top_key w.running

-- each of the next n C events has somebody to displace
abbrev pub Yielding : ℕ → Work → Type 0
Yielding zero w = Unit
Yielding (suc n) w = c_due w ≡ true → Yields w × Yielding n (c_one w)

-- the B events, and then the C events, find what they need
pub record Eventful (w : Work) : Type 0 where
  pub fit : Fit w
  pub yields : Yielding (b_all w).waiting.len (b_all w)

-- one more task, in no queue, may join with amount a
pub record Joining (w : Work) (a : ℕ) : Type 0 where
  pub fit : Fit w
  pub run_room : w.running.len < 128
  pub wait_room : w.waiting.len < 128
  pub amount : w.now + a ≤ w.end
  pub yields : first_idle w.m w.slots ≡ 0 → Yields w

-- every array has its places
pub record Room (w : Work) : Type 0 where
  pub run_keys : length w.running.keys ≡ 128
  pub run_tasks : length w.running.tasks ≡ 128
  pub wait_keys : length w.waiting.keys ≡ 128
  pub wait_tasks : length w.waiting.tasks ≡ 128
  pub slots : length w.slots ≡ 16
  pub places : w.m ≤ 16

-- one more task may enter a plane that opens, with amount a
pub record Enters (w : Work) (a : ℕ) : Type 0 where
  pub room : Room w
  pub run_room : w.running.len < 128
  pub wait_room : w.waiting.len < 128
  pub amount : w.now + a ≤ w.end
  pub small : w.end < 18446744073709551616

-- a plane with nobody in it may open: the order has the n rows, whose amounts over len ticks fit before the end
pub record Opens (w : Work) (order share : List ℕ) (n len : ℕ) : Type 0 where
  pub room : Room w
  pub idle : w.running.len + w.waiting.len ≡ 0
  pub few : n ≤ 128
  pub rows : length order ≡ 128
  pub inside : (i : ℕ) → i < n → get_or order i 0 < n
  pub amounts : (t : ℕ) → t < n → w.now + get_or share t 0 * len ≤ w.end
  pub small : w.end < 18446744073709551616
