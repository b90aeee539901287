-- A state is sound exactly when it passes the test
use mathlib.Core.Path.{◌≡◌, refl, sym, ◌∙◌, ap}
use mathlib.Core.Bool.{Bool, true, false, ◌&&◌, false≢true, ◌||◌}
use mathlib.Core.Logic.{◌≢◌, ◌⊎◌, inl, inr}
use mathlib.Core.List.{List, [], ◌∷◌}
use mathlib.Core.Option.{Option, none, some}
use Prim.Native.Nat.{ℕ, zero, suc, ◌+◌, ◌-◌, ◌≤◌, ◌<◌}
use native.Mathlib.Nat.{not-suc-le-zero, le_of_suc-le-suc}
use native.Mathlib.Decide.{ℕ_discrete, dec_lt}
use native.Mathlib.Omega.{arith}
use borrow.Author.Tests.{eq-eqb, ne_eqb}
use lib.Dec.{leb, ltb, eqb}
use lib.ListN.{length, get_or, length-take, length-replicate, get_or-eq_default}
use lib.Seq.{get_or-take}
use Rattle.queue.specs.declared.Queue.{Queue}
use Rattle.queue.specs.declared.Entry.{Entry}
use Rattle.state.specs.declared.State.{State}
use Rattle.ground.specs.Sums.{sum_of}
use Rattle.ground.specs.Tests.{Says}
use Rattle.ground.proofs.Sums.{sum_of_at}
use Rattle.ground.proofs.Tests.{leb_says, ltb_says, eqb_says, and_says, or_says, says_as}
use Rattle.queue.specs.Below.{all_below}
use Rattle.queue.specs.Heap.{Heap}
use Rattle.queue.specs.Queues.{blank, earlier, entries, held, key_in, one, Good}
use Rattle.queue.proofs.Below.{all_says}
use Rattle.queue.proofs.Entries.{get_or_pairs}
use Rattle.queue.proofs.Keys.{length_held}
use Rattle.queue.proofs.Places.{by_places, at_places}
use Rattle.queue.proofs.Standing.{stands_says}
use Rattle.state.specs.Machine.{end_at}
use Rattle.state.specs.Sound.{no_marks, all_fresh, all_marked, members, queue_ok, run_ok, runs_ok, waits_ok, slots_ok, members_ok, sound_by, sound_of}
use Rattle.state.specs.View.{Sound, Sized}
use Rattle.state.proofs.Marks.{is_says, length_marked, marked_in, marked_from, Fresh, AllFresh, all_fresh_says}
use Rattle.ground.proofs.Ranges.{all_one}
use Rattle.state.proofs.Shows.{clash, run_awake, wait_awake}

-- EACH TASK ONCE, by places and by sums
nobody_here : (t : ℕ) (l : List Entry) → ((j : ℕ) → j < length l → (get_or l j blank).task ≢ t) → sum_of (one t) l ≡ 0
unfolding sum_of
nobody_here t [] h = refl
nobody_here t (e ∷ l) h = rw (ne_eqb e.task t (h 0 (omega arith))) (omega (arith, nobody_here t l (λ j hj. h (suc j) (omega arith))))

-- no two places have the same task
abbrev Apart : List Entry → Type 0
Apart l = (i j : ℕ) → i < length l → j < length l → (get_or l i blank).task ≡ (get_or l j blank).task → i ≡ j

apart_once : (l : List Entry) → Apart l → (t : ℕ) → sum_of (one t) l ≤ 1
unfolding sum_of
apart_once [] h t = omega arith
apart_once (e ∷ l) h t = go (ℕ_discrete e.task t) (apart_once l (λ i j a b q. let z = h (suc i) (suc j) (omega arith) (omega arith) q in omega arith) t)
  where
    go : Dec (e.task ≡ t) → sum_of (one t) l ≤ 1 → one t e + sum_of (one t) l ≤ 1
    go (yes z) ih = rw (eq-eqb e.task t z) (omega (arith, nobody_here t l (λ j hj q. let y = h 0 (suc j) (omega arith) (omega arith) (z ∙ sym q) in omega arith)))
    go (no z) ih = rw (ne_eqb e.task t z) (omega arith)

one_of : (e : Entry) (t : ℕ) → e.task ≡ t → one t e ≡ 1
one_of e t z = rw (eq-eqb e.task t z)

once_apart : (l : List Entry) → ((t : ℕ) → sum_of (one t) l ≤ 1) → Apart l
unfolding sum_of
once_apart [] h i j a b q = absurd (not-suc-le-zero a)
once_apart (e ∷ l) h zero zero a b q = refl
once_apart (e ∷ l) h zero (suc j) a b q =
    let d = get_or l j blank in
    absurd (omega (arith, h d.task, sum_of_at (one d.task) l j blank (le_of_suc-le-suc b), one_of d d.task refl, one_of e d.task q))
once_apart (e ∷ l) h (suc i) zero a b q =
    let d = get_or l i blank in
    absurd (omega (arith, h d.task, sum_of_at (one d.task) l i blank (le_of_suc-le-suc a), one_of d d.task refl, one_of e d.task (sym q)))
once_apart (e ∷ l) h (suc i) (suc j) a b q = ap suc (once_apart l (λ t. omega (arith, h t)) i j (le_of_suc-le-suc a) (le_of_suc-le-suc b) q)

-- A QUEUE'S MEMBERS
module _ (q : Queue) (hk : length q.keys ≡ 128) (ht : length q.tasks ≡ 128) (fits : q.len ≤ 128) where
  member_is : (j : ℕ) → j < q.len → (get_or (held q) j blank).task ≡ get_or q.tasks j 0
  member_is j h = ap (λ (e : Entry). e.task) (get_or-take q.len (entries q) j blank h ∙ get_or_pairs q.keys q.tasks j (omega arith) (omega arith))

  -- a member stands below the length
  member_low : (j t : ℕ) → get_or (members q) j 0 ≡ suc t → (j < q.len) × (get_or q.tasks j 0 ≡ suc t)
  member_low j t e = go (dec_lt j q.len)
    where
      go : Dec (j < q.len) → (j < q.len) × (get_or q.tasks j 0 ≡ suc t)
      go (yes h) = (h, sym (get_or-take q.len q.tasks j 0 h) ∙ e)
      go (no h) = absurd (omega (arith, get_or-eq_default (members q) 0 {n = j} (omega (arith, length-take q.len q.tasks))))

  -- tasks, each met once: each is there once
  members_once : ((j : ℕ) → j < q.len → 0 < get_or q.tasks j 0) → ((i j t : ℕ) → get_or (members q) i 0 ≡ suc t → get_or (members q) j 0 ≡ suc t → i ≡ j) → (t : ℕ) → sum_of (one t) (held q) ≤ 1
  members_once pos apart =
      apart_once (held q)
      (λ i j a b e.
      let hi : i < q.len = omega (arith, length-take q.len (entries q)) in
      let hj : j < q.len = omega (arith, length-take q.len (entries q)) in
      let x = get_or q.tasks i 0 in
      let z : x ≡ suc (x - 1) = omega (arith, pos i hi) in
      let y : get_or q.tasks j 0 ≡ suc (x - 1) = sym (member_is j hj) ∙ sym e ∙ member_is i hi ∙ z in
      apart i j (x - 1) (get_or-take q.len q.tasks i 0 hi ∙ z) (get_or-take q.len q.tasks j 0 hj ∙ y))

  once_members : Good q → (i j t : ℕ) → get_or (members q) i 0 ≡ suc t → get_or (members q) j 0 ≡ suc t → i ≡ j
  once_members g i j t a b =
      let x = member_low i t a in
      let y = member_low j t b in
      once_apart (held q) g.once i j (omega (arith, x.0, length_held q g)) (omega (arith, y.0, length_held q g)) (member_is i x.0 ∙ x.1 ∙ sym y.1 ∙ sym (member_is j y.0))

-- WHAT THE TEST SAYS, part by part
abbrev QueueOk : Queue → Type 0
QueueOk q = (q.len ≤ 128) × Heap blank earlier (entries q) q.len

queue_says : (q : Queue) → Says (QueueOk q) (queue_ok q)
unfolding queue_ok
queue_says q = and_says _ _ (leb q.len 128) _ (leb_says q.len 128) (stands_says q)

abbrev run_marks : State → List Bool
run_marks s = all_marked (members s.running) no_marks

abbrev seat_marks : State → List Bool
seat_marks s = all_marked s.slots no_marks

abbrev RunOk : State → ℕ → Type 0
RunOk s j = (0 < get_or s.running.tasks j 0) × ((s.now.0 ≤ get_or s.running.keys j 0) × (get_or (seat_marks s) (get_or s.running.tasks j 0 - 1) false ≡ true))

abbrev WaitOk : State → ℕ → Type 0
WaitOk s j = (0 < get_or s.waiting.tasks j 0) × (get_or s.waiting.keys j 0 < end_at s)

abbrev SlotOk : State → ℕ → Type 0
SlotOk s p = (p < s.table.m) ⊎ (get_or s.slots p 0 ≡ 0)

abbrev EntriesOk : State → Type 0
EntriesOk s = ((j : ℕ) → j < s.running.len → RunOk s j) × (((j : ℕ) → j < s.waiting.len → WaitOk s j) × ((p : ℕ) → p < 16 → SlotOk s p))

-- every entry and every slot by itself
abbrev entries_ok : State → Bool
entries_ok s =
    runs_ok s.now.0 (seat_marks s) s.running.keys s.running.tasks s.running.len
    && (waits_ok (end_at s) s.waiting.keys s.waiting.tasks s.waiting.len && slots_ok s.table.m s.slots)

entries_says : (s : State) → Says (EntriesOk s) (entries_ok s)
unfolding runs_ok waits_ok slots_ok
entries_says s =
    and_says _ _ (all_below s.running.len _) _
    (all_says (RunOk s) (λ j. run_ok s.now.0 (seat_marks s) (get_or s.running.tasks j 0) (get_or s.running.keys j 0))
    (λ j. and_says _ _ (ltb 0 (get_or s.running.tasks j 0)) _ (ltb_says 0 (get_or s.running.tasks j 0))
    (and_says _ _ (leb s.now.0 (get_or s.running.keys j 0)) _ (leb_says s.now.0 (get_or s.running.keys j 0)) (is_says (get_or (seat_marks s) (get_or s.running.tasks j 0 - 1) false))))
    s.running.len)
    (and_says _ _ (all_below s.waiting.len _) _
    (all_says (WaitOk s) (λ j. ltb 0 (get_or s.waiting.tasks j 0) && ltb (get_or s.waiting.keys j 0) (end_at s))
    (λ j. and_says _ _ (ltb 0 (get_or s.waiting.tasks j 0)) _ (ltb_says 0 (get_or s.waiting.tasks j 0)) (ltb_says (get_or s.waiting.keys j 0) (end_at s)))
    s.waiting.len)
    (all_says (SlotOk s) (λ p. ltb p s.table.m || eqb (get_or s.slots p 0) 0)
    (λ p. or_says (p < s.table.m) (get_or s.slots p 0 ≡ 0) (ltb p s.table.m) _ (ltb_says p s.table.m) (eqb_says (get_or s.slots p 0) 0)) 16))

abbrev MembersOk : State → Type 0
MembersOk s =
    AllFresh s.table.count s.jobs.awake (members s.running) no_marks
    × (AllFresh s.table.count s.jobs.awake (members s.waiting) (run_marks s) × AllFresh s.table.count (run_marks s) s.slots no_marks)

length_no : length no_marks ≡ 128
length_no = length-replicate {A = Bool} 128 false

no_mark : (t : ℕ) → get_or no_marks t false ≡ false
no_mark t = all_one false 128 t

members_says : (s : State) → s.table.count ≤ 128 → Says (MembersOk s) (members_ok s.table.count s.jobs.awake (members s.running) (members s.waiting) s.slots)
unfolding members_ok
members_says s few =
    and_says _ _ (all_fresh s.table.count s.jobs.awake (members s.running) no_marks) _
    (all_fresh_says s.table.count s.jobs.awake (members s.running) no_marks (omega (arith, length_no)))
    (and_says _ _ (all_fresh s.table.count s.jobs.awake (members s.waiting) (run_marks s)) _
    (all_fresh_says s.table.count s.jobs.awake (members s.waiting) (run_marks s) (omega (arith, length_no, length_marked (members s.running) no_marks)))
    (all_fresh_says s.table.count (run_marks s) s.slots no_marks (omega (arith, length_no))))

-- THE STATE
abbrev Tested : State → Type 0
Tested s = (s.table.m ≤ 16) × (QueueOk s.running × (QueueOk s.waiting × (EntriesOk s × MembersOk s)))

module _ (s : State) (z : Sized s) (few : s.table.count ≤ 128) where
  to_sound : Tested s → Sound s
  to_sound b =
      record {
        few = few;
        running = R;
        waiting = W;
        run_in = λ t k e. let x = run t k e in (x.0, x.1, x.2, x.3);
        wait_in = λ t k e. let x = wait t k e in (x.0, x.1, x.2, x.3, not_run t x.4);
        seats =
            record {
              room = z.slots;
              most = b.0;
              past = λ p h. past p h (dec_lt p 16);
              sits = λ t k e. sits t (run t k e).0 (run t k e).4;
              runs = runs;
              apart = λ p r t x y. b.1.1.1.1.1.1.1 p r t x y;
            };
      }
    where
      rt : List ℕ
      rt = s.running.tasks

      low : (t : ℕ) → t < s.table.count → t < length no_marks
      low t h = omega (arith, length_no)

      each_run : (j : ℕ) → j < s.running.len → RunOk s j
      each_run = b.1.1.1.0.0

      each_wait : (j : ℕ) → j < s.waiting.len → WaitOk s j
      each_wait = b.1.1.1.0.1.0

      R : Good s.running
      R =
          record {
            keys_room = z.running_keys;
            tasks_room = z.running_tasks;
            fits = b.1.0.0;
            order = b.1.0.1;
            once = members_once s.running z.running_keys z.running_tasks b.1.0.0 (λ j h. (each_run j h).0) b.1.1.1.1.0.1;
          }

      W : Good s.waiting
      W =
          record {
            keys_room = z.waiting_keys;
            tasks_room = z.waiting_tasks;
            fits = b.1.1.0.0;
            order = b.1.1.0.1;
            once = members_once s.waiting z.waiting_keys z.waiting_tasks b.1.1.0.0 (λ j h. (each_wait j h).0) b.1.1.1.1.1.0.1;
          }

      run : (t k : ℕ) → key_in s.running t ≡ some k
          → (0 < t) × (t ≤ s.table.count) × (s.now.0 ≤ k) × (get_or s.jobs.awake (t - 1) false ≡ true) × (get_or (seat_marks s) (t - 1) false ≡ true)
      run = by_places s.running R
          (λ t k. (0 < t) × (t ≤ s.table.count) × (s.now.0 ≤ k) × (get_or s.jobs.awake (t - 1) false ≡ true) × (get_or (seat_marks s) (t - 1) false ≡ true))
          (λ j h.
          let e = each_run j h in
          let x = get_or s.running.tasks j 0 in
          let y : x ≡ suc (x - 1) = omega (arith, e.0) in
          let f = b.1.1.1.1.0.0 j (x - 1) (get_or-take s.running.len s.running.tasks j 0 h ∙ y) in
          (e.0, omega (arith, f.0), e.1.0, f.1.0, e.1.1))

      wait : (t k : ℕ) → key_in s.waiting t ≡ some k
          → (0 < t) × (t ≤ s.table.count) × (k < end_at s) × (get_or s.jobs.awake (t - 1) false ≡ true) × (get_or (run_marks s) (t - 1) false ≡ false)
      wait = by_places s.waiting W
          (λ t k. (0 < t) × (t ≤ s.table.count) × (k < end_at s) × (get_or s.jobs.awake (t - 1) false ≡ true) × (get_or (run_marks s) (t - 1) false ≡ false))
          (λ j h.
          let e = each_wait j h in
          let x = get_or s.waiting.tasks j 0 in
          let y : x ≡ suc (x - 1) = omega (arith, e.0) in
          let f = b.1.1.1.1.1.0.0 j (x - 1) (get_or-take s.waiting.len s.waiting.tasks j 0 h ∙ y) in
          (e.0, omega (arith, f.0), e.1, f.1.0, f.1.1))

      -- who runs is marked
      run_mark : (t k : ℕ) → key_in s.running t ≡ some k → get_or (run_marks s) (t - 1) false ≡ true
      run_mark = by_places s.running R (λ t k. get_or (run_marks s) (t - 1) false ≡ true)
          (λ j h.
          let x = get_or s.running.tasks j 0 in
          let y : x ≡ suc (x - 1) = omega (arith, (each_run j h).0) in
          let m = get_or-take s.running.len s.running.tasks j 0 h ∙ y in
          marked_in (members s.running) no_marks j (x - 1) (low (x - 1) (b.1.1.1.1.0.0 j (x - 1) m).0) m)

      not_run : (t : ℕ) → get_or (run_marks s) (t - 1) false ≡ false → key_in s.running t ≡ none
      not_run t e = go (key_in s.running t) refl
        where
          go : (o : Option ℕ) → key_in s.running t ≡ o → o ≡ none
          go none f = refl
          go (some k) f = absurd (false≢true (sym e ∙ run_mark t k f))

      past : (p : ℕ) → s.table.m ≤ p → Dec (p < 16) → get_or s.slots p 0 ≡ 0
      past p h (yes g) = by (b.1.1.1.0.1.1 p g)
        where
          by : SlotOk s p → get_or s.slots p 0 ≡ 0
          by (inl x) = absurd (omega arith)
          by (inr x) = x
      past p h (no g) = get_or-eq_default s.slots 0 {n = p} (omega (arith, z.slots))

      sits : (t : ℕ) → 0 < t → get_or (seat_marks s) (t - 1) false ≡ true → (p : ℕ) × (p < s.table.m) × (get_or s.slots p 0 ≡ t)
      sits t h e = go (marked_from s.slots no_marks (t - 1) e)
        where
          go : (get_or no_marks (t - 1) false ≡ true) ⊎ ((p : ℕ) × (get_or s.slots p 0 ≡ suc (t - 1))) → (p : ℕ) × (p < s.table.m) × (get_or s.slots p 0 ≡ t)
          go (inl m) = absurd (false≢true (sym (no_mark (t - 1)) ∙ m))
          go (inr r) = (r.0, below (dec_lt r.0 s.table.m), r.1 ∙ omega arith)
            where
              below : Dec (r.0 < s.table.m) → r.0 < s.table.m
              below (yes g) = g
              below (no g) = absurd (omega (arith, r.1, past r.0 (omega arith) (dec_lt r.0 16)))

      runs : (p t : ℕ) → get_or s.slots p 0 ≡ suc t → key_in s.running (suc t) ≡ none → ⊥
      runs p t e f = go (marked_from (members s.running) no_marks t (b.1.1.1.1.1.1.0 p t e).1.0)
        where
          go : (get_or no_marks t false ≡ true) ⊎ ((j : ℕ) × (get_or (members s.running) j 0 ≡ suc t)) → ⊥
          go (inl m) = false≢true (sym (no_mark t) ∙ m)
          go (inr r) =
              let x = member_low s.running z.running_keys z.running_tasks b.1.0.0 r.0 t r.1 in
              at_places s.running R (λ u k. u ≡ suc t → ⊥) (λ u k g q. clash (key_in s.running u) k g (ap (key_in s.running) q ∙ f)) r.0 x.0 x.1

  from_sound : Sound s → Tested s
  from_sound S = (
    S.seats.most,
    (
      (S.running.fits, S.running.order),
      (
        (S.waiting.fits, S.waiting.order),
        (
          (each_run, (each_wait, each_slot)),
          (
            (run_fresh, once_members s.running z.running_keys z.running_tasks S.running.fits S.running),
            ((wait_fresh, once_members s.waiting z.waiting_keys z.waiting_tasks S.waiting.fits S.waiting), (slot_fresh, S.seats.apart)),
          ),
        ),
      ),
    ),
  )
    where
      low : (t : ℕ) → t < s.table.count → t < length no_marks
      low t h = omega (arith, length_no)

      -- the key of a member
      run_key : (j t : ℕ) → get_or (members s.running) j 0 ≡ suc t → key_in s.running (suc t) ≡ some (get_or s.running.keys j 0)
      run_key j t e =
          let x = member_low s.running z.running_keys z.running_tasks S.running.fits j t e in
          at_places s.running S.running (λ u k. u ≡ suc t → key_in s.running (suc t) ≡ some k) (λ u k g q. ap (key_in s.running) (sym q) ∙ g) j x.0 x.1

      wait_key : (j t : ℕ) → get_or (members s.waiting) j 0 ≡ suc t → key_in s.waiting (suc t) ≡ some (get_or s.waiting.keys j 0)
      wait_key j t e =
          let x = member_low s.waiting z.waiting_keys z.waiting_tasks S.waiting.fits j t e in
          at_places s.waiting S.waiting (λ u k. u ≡ suc t → key_in s.waiting (suc t) ≡ some k) (λ u k g q. ap (key_in s.waiting) (sym q) ∙ g) j x.0 x.1

      seated : (t k : ℕ) → key_in s.running t ≡ some k → (0 < t) × ((s.now.0 ≤ k) × (get_or (seat_marks s) (t - 1) false ≡ true))
      seated t k e =
          let x = S.run_in t k e in
          let p = S.seats.sits t k e in
          (x.0, (x.2, marked_in s.slots no_marks p.0 (t - 1) (low (t - 1) (omega (arith, x.0, x.1))) (p.2 ∙ omega (arith, x.0))))

      each_run : (j : ℕ) → j < s.running.len → RunOk s j
      each_run = at_places s.running S.running (λ t k. (0 < t) × ((s.now.0 ≤ k) × (get_or (seat_marks s) (t - 1) false ≡ true))) seated

      each_wait : (j : ℕ) → j < s.waiting.len → WaitOk s j
      each_wait = at_places s.waiting S.waiting (λ t k. (0 < t) × (k < end_at s)) (λ t k e. let x = S.wait_in t k e in (x.0, x.2))

      each_slot : (p : ℕ) → p < 16 → SlotOk s p
      each_slot p h = go (dec_lt p s.table.m)
        where
          go : Dec (p < s.table.m) → SlotOk s p
          go (yes g) = inl g
          go (no g) = inr (S.seats.past p (omega arith))

      run_fresh : (j : ℕ) → Fresh s.table.count s.jobs.awake no_marks (get_or (members s.running) j 0)
      run_fresh j t e = let k = run_key j t e in ((S.run_in (suc t) _ k).1, (run_awake S t _ k, no_mark t))

      -- who is marked runs
      run_of : (t : ℕ) → get_or (run_marks s) t false ≡ true → key_in s.running (suc t) ≡ none → ⊥
      run_of t m f = go (marked_from (members s.running) no_marks t m)
        where
          go : (get_or no_marks t false ≡ true) ⊎ ((j : ℕ) × (get_or (members s.running) j 0 ≡ suc t)) → ⊥
          go (inl x) = false≢true (sym (no_mark t) ∙ x)
          go (inr r) = clash (key_in s.running (suc t)) _ (run_key r.0 t r.1) f

      wait_fresh : (j : ℕ) → Fresh s.table.count s.jobs.awake (run_marks s) (get_or (members s.waiting) j 0)
      wait_fresh j t e = let k = wait_key j t e in let x = S.wait_in (suc t) _ k in (x.1, (wait_awake S t _ k, go (get_or (run_marks s) t false) refl x.4))
        where
          go : (b : Bool) → get_or (run_marks s) t false ≡ b → key_in s.running (suc t) ≡ none → b ≡ false
          go true m f = absurd (run_of t m f)
          go false m f = refl

      slot_fresh : (p : ℕ) → Fresh s.table.count (run_marks s) no_marks (get_or s.slots p 0)
      slot_fresh p t e = go (key_in s.running (suc t)) refl
        where
          place_of : (k : ℕ) → key_in s.running (suc t) ≡ some k → get_or (run_marks s) t false ≡ true
          place_of k f = let z : suc t - 1 ≡ t = omega arith in rw z at (by_places s.running S.running (λ u k. get_or (run_marks s) (u - 1) false ≡ true)
              (λ j h.
              let x = get_or s.running.tasks j 0 in
              let r = each_run j h in
              let y : x ≡ suc (x - 1) = omega (arith, r.0) in
              let m = get_or-take s.running.len s.running.tasks j 0 h ∙ y in
              marked_in (members s.running) no_marks j (x - 1) (low (x - 1) (run_fresh j (x - 1) m).0) m) (suc t) k f)

          go : (o : Option ℕ) → key_in s.running (suc t) ≡ o → (t < s.table.count) × ((get_or (run_marks s) t false ≡ true) × (get_or no_marks t false ≡ false))
          go none f = absurd (S.seats.runs p t e f)
          go (some k) f = ((S.run_in (suc t) k f).1, (place_of k f, no_mark t))

-- the test says that the state is sound
pub sound_says : (s : State) → Sized s → Says (Sound s) (sound_of s)
unfolding sound_by
sound_says s z = go (leb s.table.count 128) (leb_says s.table.count 128)
  where
    rest : Bool
    rest = leb s.table.m 16 && (queue_ok s.running && (queue_ok s.waiting && (entries_ok s && members_ok s.table.count s.jobs.awake (members s.running) (members s.waiting) s.slots)))

    go : (b : Bool) → Says (s.table.count ≤ 128) b → Says (Sound s) (b && rest)
    go false n = λ S. n S.few
    go true few =
        says_as rest (to_sound s z few) (from_sound s z few)
        (and_says _ _ (leb s.table.m 16) _ (leb_says s.table.m 16)
        (and_says _ _ (queue_ok s.running) _ (queue_says s.running)
        (and_says _ _ (queue_ok s.waiting) _ (queue_says s.waiting)
        (and_says _ _ (entries_ok s) _ (entries_says s) (members_says s few)))))
