use Rattle.std.proofs.Common.{rules}
use mathlib.Core.Path.{◌≡◌, sym, ◌∙◌, ap}
use mathlib.Core.Bool.{true, false, ◌&&◌}
use Prim.Native.Nat.{ℕ, ◌*◌, ◌-◌}
use native.Mathlib.Omega.{arith}
use lib.Dec.{leb, ltb}
use Rattle.queue.specs.Lent.{queue_seen}
use Rattle.together_queues.specs.Amounts.{idle_ok, sum_ok}
use Rattle.together_queues.proofs.Bounds.{left_small}
use Rattle.together_queues.proofs.Planes.{open_fails, open_last, work_of}
use Rattle.together_queues.proofs.open_ok.Goals as goal

pub returns-then-not-idle_ok : goal.returns-then-not-idle_ok
returns-then-not-idle_ok c =
    record {
      is = let a = c.args in
          let t = a.table in
          let close = a.end * t.scale in
          let run = queue_seen a.crew.running in
          let wait = queue_seen a.crew.waiting in
          let e : ((ltb a.present.0 close && leb run.len 128) && leb wait.len 128) && idle_ok t.m run.len wait.len ≡ false = search rules in
          sym (open_fails a.shares t.rows.count t.m t.scale a.present.0 close a.awake.now run wait a.crew.slots.now _ (λ O. O.first) e);
    }

pub returns-in_default : goal.returns-in_default
returns-in_default c =
    record {
      is = let a = c.args in
          let t = a.table in
          let close = a.end * t.scale in
          let run = queue_seen a.crew.running in
          let wait = queue_seen a.crew.waiting in
          sym (open_fails a.shares t.rows.count t.m t.scale a.present.0 close a.awake.now run wait a.crew.slots.now _ (λ O. O.runs) c.in_default.ensures.is);
    }

pub returns-then-not-seats_ok : goal.returns-then-not-seats_ok
returns-then-not-seats_ok c =
    record {
      is = let a = c.args in
          let t = a.table in
          let close = a.end * t.scale in
          let run = queue_seen a.crew.running in
          let wait = queue_seen a.crew.waiting in
          sym (open_fails a.shares t.rows.count t.m t.scale a.present.0 close a.awake.now run wait a.crew.slots.now _ (λ O. O.seats) (sym (rw c.in-Some.ensures.is.1 at c.if-not-seats_ok.ensures.is)));
    }

pub returns-in_default-enter : goal.returns-in_default-enter
returns-in_default-enter c =
    record {
      is = let a = c.args in
          let t = a.table in
          let close = a.end * t.scale in
          let run = queue_seen a.crew.running in
          let wait = queue_seen a.crew.waiting in
          sym (open_fails a.shares t.rows.count t.m t.scale a.present.0 close a.awake.now run wait a.crew.slots.now _ (λ O. O.waits) (rw c.in-Some.ensures.is.1 at c.in_default-enter.ensures.is));
    }

pub overflow_sub-work : goal.overflow_sub-work
overflow_sub-work c =
    let a = c.args in
    let t = a.table in
    let close = a.end * t.scale in
    let run = queue_seen a.crew.running in
    let wait = queue_seen a.crew.waiting in
    let l = left_small t.scale a.present.0 close c.requires.small.scale_in.1 c.requires.small.near in
    let e : ((ltb a.present.0 close && leb run.len 128) && leb wait.len 128) && idle_ok t.m run.len wait.len ≡ true = search rules in
    let met = c.in-Some.ensures.is.1 in
    let w = rw met at c.in-Some-enter.ensures.is.0 in
    let s = work_of a.shares t.rows.count t.m t.scale a.present.0 close a.awake.now run wait a.crew.slots.now e c.in-Some.ensures.is.0 w l _ _ c.in-Some.ensures.is.2 c.in-Some-enter.ensures.is.2 in
    rw c.between-left.ensures.is s.waits_low

pub overflow_add-work : goal.overflow_add-work
overflow_add-work c =
    let a = c.args in
    let t = a.table in
    let close = a.end * t.scale in
    let run = queue_seen a.crew.running in
    let wait = queue_seen a.crew.waiting in
    let l = left_small t.scale a.present.0 close c.requires.small.scale_in.1 c.requires.small.near in
    let e : ((ltb a.present.0 close && leb run.len 128) && leb wait.len 128) && idle_ok t.m run.len wait.len ≡ true = search rules in
    let met = c.in-Some.ensures.is.1 in
    let w = rw met at c.in-Some-enter.ensures.is.0 in
    let s = work_of a.shares t.rows.count t.m t.scale a.present.0 close a.awake.now run wait a.crew.slots.now e c.in-Some.ensures.is.0 w l _ _ c.in-Some.ensures.is.2 c.in-Some-enter.ensures.is.2 in
    rw c.between-left.ensures.is (let b = s.low in omega arith)

pub returns : goal.returns
returns c =
    record {
      is = let a = c.args in
          let t = a.table in
          let close = a.end * t.scale in
          let run = queue_seen a.crew.running in
          let wait = queue_seen a.crew.waiting in
          let l = left_small t.scale a.present.0 close c.requires.small.scale_in.1 c.requires.small.near in
          let e : ((ltb a.present.0 close && leb run.len 128) && leb wait.len 128) && idle_ok t.m run.len wait.len ≡ true = search rules in
          let met = c.in-Some.ensures.is.1 in
          let w = rw met at c.in-Some-enter.ensures.is.0 in
          let s = work_of a.shares t.rows.count t.m t.scale a.present.0 close a.awake.now run wait a.crew.slots.now e c.in-Some.ensures.is.0 w l _ _ c.in-Some.ensures.is.2 c.in-Some-enter.ensures.is.2 in
          rw c.between-left.ensures.is at c.sum_ok.ensures.is
          ∙ ap (λ (x : ℕ). sum_ok t.scale (close - a.present.0) x a.shares) s.amounts
          ∙ open_last a.shares t.rows.count t.m t.scale a.present.0 close a.awake.now run wait a.crew.slots.now c.requires.small.rows c.requires.small.processors e c.in-Some.ensures.is.0 (sym (rw met at c.if-not-seats_ok.ensures.is)) w;
    }
