-- Opening a plane: the code's end and its entering of the tasks are the rules'
use Rattle.std.specs.Prelude.{if◌then◌else◌}
use mathlib.Core.Path.{◌≡◌, refl, sym, ◌∙◌, ap, subst}
use mathlib.Core.Bool.{Bool, true, false}
use mathlib.Core.Option.{none}
use mathlib.Core.Logic.{◌≢◌}
use mathlib.Core.List.{List, [], ◌∷◌, foldl}
use Prim.Native.Nat.{ℕ, suc, ◌+◌, ◌*◌, ◌-◌, min, ◌≤◌, ◌<◌}
use native.Mathlib.Numerals.{add-one}
use native.Mathlib.Omega.{arith}
use borrow.Author.Tests.{ltb-true}
use lib.Dec.{ltb}
use lib.ListN.{length, get_or, take, length-map}
use lib.Seq.{get_or-set_other}
use Rattle.table.specs.declared.Table.{Table}
use Rattle.state.specs.declared.Jobs.{Jobs}
use Rattle.state.specs.declared.State.{State}
use Rattle.ground.specs.Sums.{sum_of, up_from}
use Rattle.rules.specs.Planes.{end_of, enter, limit, falling, shares_of, enter_as, open_tasks}
use Rattle.rules.specs.State.{Cond, asleep, resting, running, waiting, Task, at, short, be, become, last_of, runs, waits}
use Rattle.rules.proofs.Cases.{runs_of, waits_of, run_key_of, wait_key_of}
use Rattle.rules.proofs.Places.{at_other}
use Rattle.ground.specs.Sums.{times}
use Rattle.ground.proofs.Times.{by_same}
use Rattle.queue.specs.Queues.{empty_queue, key_in}
use Rattle.queue.proofs.Keys.{none_empty, empty_good, push_len}
use Rattle.state.specs.Machine.{work_of, shorter_at, limit_at, least_limit, plane_end, begun, opens_to}
use Rattle.state.specs.View.{cond_of, cond_in, job_at, view, Sound}
use Rattle.state.specs.Work as Works
use Rattle.state.specs.Work.{Work, seat, park, place, enter_row, enter_all}
use Rattle.state.proofs.Closing.{empty_tidy}
use Rattle.state.proofs.Counts.{runs_len}
use Rattle.rules.proofs.Falling.{falling_most, falling_low}
use Rattle.state.proofs.Frame.{Frame, frame_self, frame_then, frame_if}
use Rattle.state.proofs.Moves.{park_is, place_is}
use Rattle.state.proofs.Passing.{awake_at}
use Rattle.ground.proofs.Ranges.{all_one}
use Rattle.state.proofs.Shows.{Crew, Is, run_key_at, wait_key_at}
use Rattle.state.proofs.Lasts.{Known, last_kept}
use Rattle.state.proofs.Views.{crew, IsState, sound_is, put_is}

-- THE END
pub limit_same : (s : State) (l : List Task) → IsState s l → Known l → (tick i : ℕ) → i < s.table.count → limit tick (at i l) ≡ limit_at s.table s.jobs tick i
limit_same s l I K tick i hi =
    let e_q : short (at i l) ≡ shorter_at s.table i = ap short (I.shows.each i hi) in
    rw (awake_at I i hi, e_q) (go (get_or s.jobs.awake i false) refl)
  where
    go : (b : Bool) → get_or s.jobs.awake i false ≡ b
        → (if b then last_of (at i l) + shorter_at s.table i else tick + shorter_at s.table i) ≡ (if b then get_or s.jobs.last i 0 else tick) + shorter_at s.table i
    go true w = let k = K i (awake_at I i hi ∙ w) in ap (λ x. x + shorter_at s.table i) (last_kept s l I i hi k.0 k.1)
    go false w = refl

least_from : (t : Table) (j : Jobs) (tick e i : ℕ) (u : Task) (l : List Task) → ((x : ℕ) → x < length (u ∷ l) → limit tick (at x (u ∷ l)) ≡ limit_at t j tick (i + x))
    → least_limit t j tick e (up_from i (length (u ∷ l))) ≡ min e (end_of tick (u ∷ l))
unfolding least_limit end_of up_from
least_from t j tick e i u [] h = let z : i + 0 ≡ i = omega arith in ap (min e) (sym (rw z at (h 0 (omega arith))))
least_from t j tick e i u (v ∷ l) h =
    let z : i + 0 ≡ i = omega arith in
    let here : limit tick u ≡ limit_at t j tick i = rw z at (h 0 (omega arith)) in
    let ih = least_from t j tick (min e (limit_at t j tick i)) (suc i) v l (λ x hx. h (suc x) (omega arith) ∙ (let y : i + suc x ≡ suc i + x = omega arith in ap (limit_at t j tick) y)) in
    ih ∙ omega (arith, here)

pub end_same : (s : State) (l : List Task) → IsState s l → Known l → (tick : ℕ) → 0 < s.table.count → end_of tick l ≡ plane_end s.table s.jobs tick
unfolding plane_end
end_same s l I K tick n = go l I.shows.size (λ x hx. limit_same s l I K tick x (omega (arith, I.shows.size)))
  where
    t : Table
    t = s.table

    j : Jobs
    j = s.jobs

    go : (l : List Task) → length l ≡ s.table.count → ((x : ℕ) → x < length l → limit tick (at x l) ≡ limit_at s.table s.jobs tick x)
        → end_of tick l ≡ least_limit s.table s.jobs tick (limit_at s.table s.jobs tick 0) (up_from 1 (s.table.count - 1))
    go [] e h = absurd (omega arith)
    go (u ∷ []) e h = let z : s.table.count - 1 ≡ 0 = omega arith in rw z (unfold end_of in unfold least_limit in unfold up_from in h 0 (omega arith))
    go (u ∷ v ∷ l) e h =
        let z : s.table.count - 1 ≡ length (v ∷ l) = omega arith in
        rw z (sym (least_from t j tick (limit_at t j tick 0) 1 v l (λ x hx. h (suc x) (omega arith) ∙ (let y : suc x ≡ 1 + x = omega arith in ap (limit_at t j tick) y))
        ∙ (unfold end_of in omega (arith, h 0 (omega arith)))))

-- ENTERING
-- a task that neither runs nor waits is in no queue
idle_keys : (now end : ℕ) (d : Cond) → runs_of d + waits_of d ≡ 0 → (run_key_of now d ≡ none) × (wait_key_of end d ≡ none)
idle_keys now end asleep h = (refl, refl)
idle_keys now end resting h = (refl, refl)
idle_keys now end (running p a) h = absurd (omega arith)
idle_keys now end (waiting a) h = absurd (omega arith)

pub in_no_queue : {c : Crew} {w : Work} {l : List Task} → Is c w l → (i : ℕ) → i < c.count → runs (at i l) + waits (at i l) ≡ 0 → (key_in w.running (suc i) ≡ none) × (key_in w.waiting (suc i) ≡ none)
in_no_queue {c} {w} {l} I i hi h =
    let k = idle_keys w.now w.end (at i l).cond h in
    (sym (run_key_at I i hi) ∙ k.0, sym (wait_key_at I i hi) ∙ k.1)

-- a plane's tasks in the order of entering: who is still to enter, and which places are idle
pub record Entering (c : Crew) (share : List ℕ) (len : ℕ) (w : Work) (l : List Task) (is : List ℕ) : Type 0 where
  pub shown : Is c w l
  pub idle : (r : ℕ) → w.running.len ≤ r → get_or w.slots r 0 ≡ 0
  pub once : (x : ℕ) → times x is ≤ 1
  pub ahead : (x : ℕ) → 0 < times x is → (x < c.count) × (runs (at x l) + waits (at x l) ≡ 0)
  pub amounts : (i : ℕ) → i < c.count → get_or c.awake i false ≡ true → (0 < get_or share i 0 * len) × (get_or share i 0 * len ≤ w.end)
  pub shares : (i : ℕ) → i < c.count → (c.base i).share ≡ get_or share i 0

pub frame_enter : (t a : ℕ) (w : Work) → Frame w (Works.enter t a w)
unfolding Works.enter place park
frame_enter t a w = frame_if (ltb w.running.len w.m) (record { m = refl; now = refl; end = refl }) (record { m = refl; now = refl; end = refl })

pub frame_row : (awake : List Bool) (share : List ℕ) (len : ℕ) (w : Work) (i : ℕ) → Frame w (enter_row awake share len w i)
unfolding enter_row
frame_row awake share len w i = frame_if (get_or awake i false) (frame_enter (i + 1) (get_or share i 0 * len) w) (frame_self w)

pub frame_rows : (awake : List Bool) (share : List ℕ) (len : ℕ) (is : List ℕ) (w : Work) → Frame w (foldl (enter_row awake share len) w is)
frame_rows awake share len [] w = frame_self w
frame_rows awake share len (i ∷ is) w = frame_then (frame_row awake share len w i) (frame_rows awake share len is (enter_row awake share len w i))

module _ (c : Crew) (share : List ℕ) (len : ℕ) where
  -- the next in the order enters
  enter_one : (w : Work) (l : List Task) (i : ℕ) (is : List ℕ) → Entering c share len w l (i ∷ is) → Entering c share len (enter_row c.awake share len w i) (enter w.m len l i) is
  unfolding enter_row Works.enter enter sum_of
  enter_one w l i is E = rw (awake_at I i hi) (go (get_or c.awake i false) refl)
    where
      I : Is c w l
      I = E.shown

      here : 0 < times i (i ∷ is)
      here = by_same (λ x. 0 < x + times i is) i i (λ e. omega arith) (λ e. absurd (e refl))

      hi : i < c.count
      hi = (E.ahead i here).0

      gone : times i is ≡ 0
      gone = by_same (λ x. x + times i is ≤ 1 → times i is ≡ 0) i i (λ e h. omega arith) (λ e h. absurd (e refl)) (E.once i)

      fewer : (x : ℕ) → times x is ≤ times x (i ∷ is)
      fewer x = omega arith

      out : (key_in w.running (suc i) ≡ none) × (key_in w.waiting (suc i) ≡ none)
      out = in_no_queue I i hi (E.ahead i here).1

      a : ℕ
      a = get_or share i 0 * len

      sh : (at i l).share ≡ get_or share i 0
      sh = ap (λ (t : Task). t.share) (I.shows.each i hi) ∙ E.shares i hi

      once : (x : ℕ) → times x is ≤ 1
      once x = omega (arith, fewer x, E.once x)

      -- who is still ahead is another
      ahead : (d : Cond) (x : ℕ) → 0 < times x is → (x < c.count) × (runs (at x (become i d l)) + waits (at x (become i d l)) ≡ 0)
      ahead d x h =
          let o = E.ahead x (omega (arith, fewer x)) in
          let n : x ≢ i = λ z. omega (arith, ap (λ (y : ℕ). times y is) z, gone) in
          (o.0, rw (at_other l i x d n) o.1)

      go : (b : Bool) → get_or c.awake i false ≡ b
          → Entering c share len (if b then (if ltb w.running.len w.m then place w.running.len (i + 1) (get_or share i 0 * len) w else park (i + 1) (get_or share i 0 * len) w) else w)
          (if b then become i (enter_as w.m (sum_of runs l) ((at i l).share * len)) l else l) is
      go false q = record { shown = I; idle = E.idle; once = once; ahead = λ x h. E.ahead x (omega (arith, fewer x)); amounts = E.amounts; shares = E.shares }
      go true q = rw (runs_len w.running.len w l I refl, sh, add-one i) (by (ltb w.running.len w.m) refl)
        where
          by : (b : Bool) → ltb w.running.len w.m ≡ b
              → Entering c share len (if b then place w.running.len (suc i) a w else park (suc i) a w) (become i (if b then running (suc w.running.len) a else waiting a) l) is
          by true e =
              record {
                shown = place_is I w.running.len i a (ltb-true w.running.len w.m e) (E.idle w.running.len (omega arith)) hi out.0 out.1 q;
                idle = unfold place in (λ r hr. get_or-set_other w.slots w.running.len r (suc i) 0 (λ z. omega (arith, push_len w.running (w.now + a) (suc i)))
                    ∙ E.idle r (omega (arith, push_len w.running (w.now + a) (suc i))));
                once = once;
                ahead = ahead _;
                amounts = unfold place in E.amounts;
                shares = E.shares;
              }
          by false e =
              record {
                shown = park_is I i a hi out.0 out.1 q (E.amounts i hi q).0 (E.amounts i hi q).1;
                idle = unfold park in E.idle;
                once = once;
                ahead = ahead _;
                amounts = unfold park in E.amounts;
                shares = E.shares;
              }

  -- and so do all
  enter_rows : (is : List ℕ) (m : ℕ) (w : Work) (l : List Task) → w.m ≡ m → Entering c share len w l is → Is c (foldl (enter_row c.awake share len) w is) (foldl (enter m len) l is)
  enter_rows [] m w l e E = E.shown
  enter_rows (i ∷ is) m w l e E =
      enter_rows is m (enter_row c.awake share len w i) (enter m len l i) ((frame_row c.awake share len w i).m ∙ e)
      (subst (λ (x : ℕ). Entering c share len (enter_row c.awake share len w i) (enter x len l i) is) e (enter_one w l i is E))

-- THE OPENING
idle_cond : (now now' end end' p p' : ℕ) (a : Bool) → cond_of now end none none p a ≡ cond_of now' end' none none p' a
idle_cond now now' end end' p p' true = refl
idle_cond now now' end end' p p' false = refl

-- a plane with nobody in it yet shows what was shown before it, if nobody ran or waited
pub begun_is : (s : State) (l : List Task) → IsState s l → ((i : ℕ) → runs (at i l) + waits (at i l) ≡ 0) → (e : ℕ) → IsState (begun s e) l
unfolding cond_in
begun_is s l I idle e =
    record {
      tidy = empty_tidy s.table.count s.jobs.awake (work_of (begun s e)) I.tidy.few I.tidy.seats.most empty_good empty_good refl refl refl;
      shows =
          record {
            size = I.shows.size;
            each = λ i hi.
                let o = in_no_queue I i hi (idle i) in
                let w = work_of s in
                let k = work_of (begun s e) in
                I.shows.each i hi
                ∙ ap (λ (d : Cond). be d (job_at s.table s.jobs i))
                (rw (o.0, o.1, none_empty empty_queue refl (suc i)) (idle_cond w.now k.now w.end k.end (seat (suc i) w.slots) (seat (suc i) k.slots) (get_or s.jobs.awake i false)));
          };
    }

pub shares_len : (s : State) → Sound s → length (shares_of (view s).tasks) ≡ s.table.count
shares_len s S = length-map (view s).tasks (λ (t : Task). t.share) ∙ (sound_is s S).shows.size

-- the awake tasks enter in the table's order, which is that of the rules
pub open_is : (s : State) (l : List Task) → IsState s l → take s.table.count s.table.order ≡ falling (shares_of l) → ((i : ℕ) → runs (at i l) + waits (at i l) ≡ 0) → (tick e : ℕ)
    → ((i : ℕ) → i < s.table.count → (0 < get_or s.table.share i 0 * (e - tick)) × (get_or s.table.share i 0 * (e - tick) ≤ e * s.table.scale))
    → IsState (opens_to s tick e) (open_tasks s.table.m (e - tick) l)
unfolding opens_to open_tasks enter_all
open_is s l I order idle tick e amounts =
    let w = work_of (begun s e) in
    let is = take s.table.count s.table.order in
    let size : length (shares_of l) ≡ s.table.count = length-map l (λ (t : Task). t.share) ∙ I.shows.size in
    let E : Entering (crew s) s.table.share (e - tick) w l (falling (shares_of l)) =
    record {
      shown = begun_is s l I idle e;
      idle = λ r hr. all_one 0 16 r;
      once = λ x. falling_most x (shares_of l);
      ahead = λ x h. (omega (arith, falling_low x (shares_of l) h), idle x);
      amounts = λ i hi q. amounts i hi;
      shares = λ i hi. refl;
    } in
    let f = frame_rows s.jobs.awake s.table.share (e - tick) is w in
    put_is (begun s e) (foldl (enter_row s.jobs.awake s.table.share (e - tick)) w is) _ f.m f.end
    (rw order (enter_rows (crew s) s.table.share (e - tick) (falling (shares_of l)) s.table.m w l refl E))

pub opens_now : (s : State) (tick e : ℕ) → (opens_to s tick e).now.0 ≡ s.now.0
unfolding opens_to enter_all
opens_now s tick e = (frame_rows s.jobs.awake s.table.share (e - tick) (take s.table.count s.table.order) (work_of (begun s e))).now
