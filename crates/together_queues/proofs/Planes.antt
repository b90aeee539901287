-- The tests of a plane's queues in the order in which the code decides them, one by one
use mathlib.Core.Path.{◌≡◌, refl, sym, ◌∙◌}
use mathlib.Core.Bool.{Bool, true, false, ◌&&◌}
use mathlib.Core.List.{List}
use Prim.Native.Nat.{ℕ, zero, suc, ◌+◌, ◌*◌, ◌-◌, ◌≤◌, ◌<◌}
use native.Mathlib.Nat.{suc-mul}
use native.Mathlib.Omega.{arith}
use borrow.Author.Tests.{ltb-true, leb-true, lt-ltb, le-leb}
use lib.Dec.{leb, ltb}
use lib.ListN.{get_or, take}
use Rattle.ground.proofs.Tests.{is_true}
use Rattle.queue.specs.Below.{all_below}
use Rattle.queue.specs.Heap.{is_heap}
use Rattle.queue.specs.Lent.{at}
use Rattle.queue.specs.declared.Queue.{Queue}
use Rattle.queue.specs.Queues.{stands_of}
use Rattle.state.specs.Sound.{no_marks, all_fresh, all_marked, queue_ok, run_ok, runs_ok, waits_ok, slots_ok, members_ok, sound_by}
use Rattle.state.proofs.Marks.{is_says}
use Rattle.together_rows.proofs.Folds.{all_at, below_says, and_both, and_next, refuted, clash, sum_none, sum_more}
use Rattle.rules.specs.Bounds.{most_scale}
use Rattle.together_queues.specs.Amounts.{longest, run_amounts_ok, wait_amounts_ok, idle_ok, run_sum, wait_sum, sum_ok, amounts_ok}
use Rattle.together_queues.specs.Entries.{key_ok, keys_ok}
use Rattle.together_queues.proofs.Bounds.{run_fits, wait_fits}
use Rattle.together_queues.proofs.Entries.{key_in}

-- each number by itself
pub all_by : (f : ℕ → Bool) (n : ℕ) → ((i : ℕ) → i < n → f i ≡ true) → all_below n f ≡ true
all_by f n h = is_true (all_below n f) (below_says (λ i. f i ≡ true) f n (λ i k. is_says (f i))) h

-- what lies between two ends, from the one or from the other
pub sums_flip : (now end : ℕ) (keys : List ℕ) (n : ℕ) → ((i : ℕ) → i < n → (now ≤ get_or keys i 0) × (get_or keys i 0 ≤ end)) → wait_sum end keys n + run_sum now keys n ≡ n * (end - now)
sums_flip now end keys zero h = omega (arith, sum_none (λ j. end - get_or keys j 0), sum_none (λ j. get_or keys j 0 - now))
sums_flip now end keys (suc n) h =
    let z : n + 1 ≡ suc n = omega arith in
    let a = rw z at (sum_more (λ j. end - get_or keys j 0) n) in
    let b = rw z at (sum_more (λ j. get_or keys j 0 - now) n) in
    let k = h n (omega arith) in
    omega (arith, a, b, suc-mul n (end - now), sums_flip now end keys n (λ i l. h i (omega arith)))

-- AN OPEN PLANE
module _ (shares n m scale now end : ℕ) (awake : List Bool) (run wait : Queue) (slots : List ℕ) where
  abbrev whole : Bool
  whole = sound_by n m now end awake run wait slots && (ltb now end && amounts_ok shares m scale now end run.keys run.len wait.keys wait.len)

  abbrev first_passes : Bool
  first_passes = ((ltb now end && leb run.len 128) && leb wait.len 128) && idle_ok m run.len wait.len

  abbrev run_passes : Bool
  run_passes = stands_of run && (all_fresh n awake (take run.len run.tasks) no_marks && keys_ok now end run.keys run.tasks run.len)

  abbrev seat_passes : Bool
  seat_passes = slots_ok m slots && (all_fresh n (all_marked (take run.len run.tasks) no_marks) slots no_marks && runs_ok now (all_marked slots no_marks) run.keys run.tasks run.len)

  abbrev wait_passes : Bool
  wait_passes = stands_of wait && (all_fresh n awake (take wait.len wait.tasks) (all_marked (take run.len run.tasks) no_marks) && keys_ok now (end - 1) wait.keys wait.tasks wait.len)

  abbrev sum_passes : Bool
  sum_passes = sum_ok scale (end - now) (run_sum now run.keys run.len + wait_sum end wait.keys wait.len) shares

  pub record Open : Type 0 where
    pub first : first_passes ≡ true
    pub runs : run_passes ≡ true
    pub seats : seat_passes ≡ true
    pub waits : wait_passes ≡ true
    pub sum : sum_passes ≡ true

  run_keys : runs_ok now (all_marked slots no_marks) run.keys run.tasks run.len ≡ true → run_amounts_ok now end run.keys run.len ≡ true → keys_ok now end run.keys run.tasks run.len ≡ true
  unfolding runs_ok run_amounts_ok keys_ok
  run_keys e f =
      all_by (λ j. key_ok now end (get_or run.tasks j 0) (get_or run.keys j 0)) run.len
      (λ j h. and_next (ltb 0 (get_or run.tasks j 0)) _ (and_both (ltb 0 (get_or run.tasks j 0)) _ (all_at (λ i. run_ok now (all_marked slots no_marks) (get_or run.tasks i 0) (get_or run.keys i 0)) run.len j e h)).0
      ∙ all_at (λ i. ltb now (get_or run.keys i 0) && leb (get_or run.keys i 0) end) run.len j f h)

  wait_keys : waits_ok end wait.keys wait.tasks wait.len ≡ true → wait_amounts_ok now end wait.keys wait.len ≡ true → keys_ok now (end - 1) wait.keys wait.tasks wait.len ≡ true
  unfolding waits_ok wait_amounts_ok keys_ok
  wait_keys e f =
      all_by (λ j. key_ok now (end - 1) (get_or wait.tasks j 0) (get_or wait.keys j 0)) wait.len
      (λ j h.
      let k = get_or wait.keys j 0 in
      let a = and_both (ltb 0 (get_or wait.tasks j 0)) (ltb k end) (all_at (λ i. ltb 0 (get_or wait.tasks i 0) && ltb (get_or wait.keys i 0) end) wait.len j e h) in
      let b = and_both (ltb k end) (ltb now k) (all_at (λ i. ltb (get_or wait.keys i 0) end && ltb now (get_or wait.keys i 0)) wait.len j f h) in
      and_next (ltb 0 (get_or wait.tasks j 0)) _ a.0 ∙ and_next (ltb now k) _ b.1 ∙ le-leb k (end - 1) (let l = ltb-true k end a.1 in omega arith))

  keys_run : keys_ok now end run.keys run.tasks run.len ≡ true → run_amounts_ok now end run.keys run.len ≡ true
  unfolding run_amounts_ok
  keys_run e =
      all_by (λ j. ltb now (get_or run.keys j 0) && leb (get_or run.keys j 0) end) run.len
      (λ j h. let k = key_in now end run.keys run.tasks run.len j e h in and_next (ltb now (get_or run.keys j 0)) _ (lt-ltb now (get_or run.keys j 0) k.1) ∙ le-leb (get_or run.keys j 0) end k.2)

  keys_wait : keys_ok now (end - 1) wait.keys wait.tasks wait.len ≡ true → now < end → (waits_ok end wait.keys wait.tasks wait.len ≡ true) × (wait_amounts_ok now end wait.keys wait.len ≡ true)
  unfolding waits_ok wait_amounts_ok
  keys_wait e l = (
    all_by (λ j. ltb 0 (get_or wait.tasks j 0) && ltb (get_or wait.keys j 0) end) wait.len
        (λ j h. let k = key_in now (end - 1) wait.keys wait.tasks wait.len j e h in and_next (ltb 0 (get_or wait.tasks j 0)) _ (lt-ltb 0 (get_or wait.tasks j 0) k.0) ∙ lt-ltb (get_or wait.keys j 0) end (let x = k.2 in omega arith)),
    all_by (λ j. ltb (get_or wait.keys j 0) end && ltb now (get_or wait.keys j 0)) wait.len
        (λ j h. let k = key_in now (end - 1) wait.keys wait.tasks wait.len j e h in and_next (ltb (get_or wait.keys j 0) end) _ (lt-ltb (get_or wait.keys j 0) end (let x = k.2 in omega arith)) ∙ lt-ltb now (get_or wait.keys j 0) k.1),
  )

  both : {a b : Bool} → a ≡ true → b ≡ true → a && b ≡ true
  both {a} {b} e f = and_next a b e ∙ f

  pub record First : Type 0 where
    pub later : ltb now end ≡ true
    pub few : (leb run.len 128 ≡ true) × (leb wait.len 128 ≡ true)
    pub idle : idle_ok m run.len wait.len ≡ true

  first_parts : first_passes ≡ true → First
  first_parts e =
      let a = and_both ((ltb now end && leb run.len 128) && leb wait.len 128) (idle_ok m run.len wait.len) e in
      let b = and_both (ltb now end && leb run.len 128) (leb wait.len 128) a.0 in
      let c = and_both (ltb now end) (leb run.len 128) b.0 in
      record { later = c.0; few = (c.1, b.1); idle = a.1 }

  open_parts : whole ≡ true → Open
  unfolding sound_by queue_ok members_ok amounts_ok
  open_parts e =
      let s = and_both (sound_by n m now end awake run wait slots) _ e in
      let a = (and_both (leb m 16) _ (and_both (leb n 128) _ s.0).1).1 in
      let r = and_both (queue_ok run) _ a in
      let w = and_both (queue_ok wait) _ r.1 in
      let qr = and_both (leb run.len 128) _ r.0 in
      let qw = and_both (leb wait.len 128) _ w.0 in
      let x = and_both (runs_ok now (all_marked slots no_marks) run.keys run.tasks run.len && (waits_ok end wait.keys wait.tasks wait.len && slots_ok m slots)) _ w.1 in
      let R = and_both (runs_ok now (all_marked slots no_marks) run.keys run.tasks run.len) _ x.0 in
      let W = and_both (waits_ok end wait.keys wait.tasks wait.len) _ R.1 in
      let A = and_both (all_fresh n awake (take run.len run.tasks) no_marks) _ x.1 in
      let D = and_both (all_fresh n awake (take wait.len wait.tasks) (all_marked (take run.len run.tasks) no_marks)) _ A.1 in
      let t = and_both (ltb now end) _ s.1 in
      let u = and_both (run_amounts_ok now end run.keys run.len) _ t.1 in
      let v = and_both (wait_amounts_ok now end wait.keys wait.len) _ u.1 in
      let i = and_both (idle_ok m run.len wait.len) _ v.1 in
      record {
        first = both (both (both t.0 qr.0) qw.0) i.0;
        runs = and_next (stands_of run) _ qr.1 ∙ and_next (all_fresh n awake (take run.len run.tasks) no_marks) _ A.0 ∙ run_keys R.0 u.0;
        seats = and_next (slots_ok m slots) _ W.1 ∙ and_next (all_fresh n (all_marked (take run.len run.tasks) no_marks) slots no_marks) _ D.1 ∙ R.0;
        waits = and_next (stands_of wait) _ qw.1 ∙ and_next (all_fresh n awake (take wait.len wait.tasks) (all_marked (take run.len run.tasks) no_marks)) _ D.0 ∙ wait_keys W.0 v.0;
        sum = i.1;
      }

  open_whole : n ≤ 128 → m ≤ 16 → Open → whole ≡ true
  unfolding sound_by queue_ok members_ok amounts_ok
  open_whole hn hm O =
      let F = first_parts O.first in
      let r = and_both (stands_of run) _ O.runs in
      let A = and_both (all_fresh n awake (take run.len run.tasks) no_marks) _ r.1 in
      let z = and_both (slots_ok m slots) _ O.seats in
      let D = and_both (all_fresh n (all_marked (take run.len run.tasks) no_marks) slots no_marks) _ z.1 in
      let w = and_both (stands_of wait) _ O.waits in
      let C = and_both (all_fresh n awake (take wait.len wait.tasks) (all_marked (take run.len run.tasks) no_marks)) _ w.1 in
      let W = keys_wait C.1 (ltb-true now end F.later) in
      and_next (sound_by n m now end awake run wait slots) _
      (and_next (leb n 128) _ (le-leb n 128 hn) ∙ and_next (leb m 16) _ (le-leb m 16 hm)
      ∙ and_next (queue_ok run) _ (and_next (leb run.len 128) _ F.few.0 ∙ r.0) ∙ and_next (queue_ok wait) _ (and_next (leb wait.len 128) _ F.few.1 ∙ w.0)
      ∙ and_next (runs_ok now (all_marked slots no_marks) run.keys run.tasks run.len && (waits_ok end wait.keys wait.tasks wait.len && slots_ok m slots)) _
      (and_next (runs_ok now (all_marked slots no_marks) run.keys run.tasks run.len) _ D.1 ∙ and_next (waits_ok end wait.keys wait.tasks wait.len) _ W.0 ∙ z.0)
      ∙ and_next (all_fresh n awake (take run.len run.tasks) no_marks) _ A.0 ∙ and_next (all_fresh n awake (take wait.len wait.tasks) (all_marked (take run.len run.tasks) no_marks)) _ C.0 ∙ D.0)
      ∙ and_next (ltb now end) _ F.later ∙ and_next (run_amounts_ok now end run.keys run.len) _ (keys_run A.1) ∙ and_next (wait_amounts_ok now end wait.keys wait.len) _ W.1 ∙ and_next (idle_ok m run.len wait.len) _ F.idle ∙ O.sum

  -- a part that fails
  pub open_fails : (b : Bool) → (Open → b ≡ true) → b ≡ false → whole ≡ false
  open_fails b f e = refuted whole (λ h. clash b e (f (open_parts h)))

  -- where all else passes, the sum decides
  pub open_last : n ≤ 128 → m ≤ 16 → first_passes ≡ true → run_passes ≡ true → seat_passes ≡ true → wait_passes ≡ true
      → sum_passes ≡ whole
  open_last hn hm f r s w = go sum_passes refl
    where
      go : (b : Bool) → sum_passes ≡ b → b ≡ whole
      go true e = sym (open_whole hn hm (record { first = f; runs = r; seats = s; waits = w; sum = e }))
      go false e = sym (open_fails sum_passes (λ O. O.sum) e)

  -- what the two sums come to: all amounts, and nothing wraps
  pub record Work (runs waits : ℕ) : Type 0 where
    pub waits_low : waits ≤ wait.len * (end - now)
    pub amounts : runs + (wait.len * (end - now) - waits) ≡ run_sum now run.keys run.len + wait_sum end wait.keys wait.len
    pub low : runs + (wait.len * (end - now) - waits) ≤ 256 * (longest * most_scale)

  pub work_of : first_passes ≡ true → run_passes ≡ true → wait_passes ≡ true → end ≤ now + longest * most_scale
      → (runs waits : ℕ) → runs ≡ run_sum now run.keys run.len → waits ≡ run_sum now wait.keys wait.len → Work runs waits
  work_of f r w l runs waits er ew =
      let F = first_parts f in
      let rk = (and_both (all_fresh n awake (take run.len run.tasks) no_marks) _ (and_both (stands_of run) _ r).1).1 in
      let wk = (and_both (all_fresh n awake (take wait.len wait.tasks) (all_marked (take run.len run.tasks) no_marks)) _ (and_both (stands_of wait) _ w).1).1 in
      let flip = sums_flip now end wait.keys wait.len (λ i h. let k = key_in now (end - 1) wait.keys wait.tasks wait.len i wk h in (omega arith, omega arith)) in
      let a = run_fits now end run.keys run.tasks run.len rk (leb-true run.len 128 F.few.0) l in
      let b = wait_fits wait.len now end (leb-true wait.len 128 F.few.1) l in
      record { waits_low = omega arith; amounts = omega arith; low = omega arith }

-- A CLOSED PLANE: nobody runs and nobody waits
turned : (r z d : Bool) → (r && z) && d ≡ z && (d && r)
turned true true true = refl
turned true true false = refl
turned true false d = refl
turned false true true = refl
turned false true false = refl
turned false false d = refl

pub closed_sound : (n m now end : ℕ) (awake : List Bool) (rk rt wk wt slots : List ℕ) → n ≤ 128 → m ≤ 16
    → sound_by n m now end awake (at rk rt 0) (at wk wt 0) slots ≡ slots_ok m slots && (all_fresh n no_marks slots no_marks && runs_ok now (all_marked slots no_marks) rk rt 0)
unfolding sound_by queue_ok is_heap waits_ok members_ok all_fresh all_marked all_below
closed_sound n m now end awake rk rt wk wt slots hn hm =
    and_next (leb n 128) _ (le-leb n 128 hn) ∙ and_next (leb m 16) _ (le-leb m 16 hm)
    ∙ turned (runs_ok now (all_marked slots no_marks) rk rt 0) (slots_ok m slots) (all_fresh n no_marks slots no_marks)
