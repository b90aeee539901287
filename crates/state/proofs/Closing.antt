-- Closing a plane: the code's is the rules'
use Rattle.std.specs.Prelude.{if◌then◌else◌}
use mathlib.Core.Path.{◌≡◌, refl, sym, ◌∙◌, ap, subst}
use mathlib.Core.Bool.{Bool, true, false, ◌&&◌, not}
use mathlib.Core.Option.{none}
use mathlib.Core.Logic.{◌≢◌}
use mathlib.Core.List.{List, [], map, foldl}
use Prim.Native.Nat.{ℕ, zero, suc, ◌+◌, ◌-◌, ◌≤◌, ◌<◌}
use native.Mathlib.Decide.{dec_lt, ℕ_discrete}
use native.Mathlib.Omega.{arith}
use lib.Dec.{eqb}
use lib.ListN.{length, get_or, set, length-set, length-map, length-replicate, get_or-eq_default, get_or-map}
use lib.Seq.{get_or-set_same, get_or-set_other}
use Rattle.queue.specs.declared.Queue.{Queue}
use Rattle.table.specs.declared.Table.{Table}
use Rattle.state.specs.declared.Jobs.{Jobs}
use Rattle.state.specs.declared.State.{State}
use Rattle.ground.specs.Sums.{sum_of, up_from}
use Rattle.rules.specs.Events.{spend, advance}
use Rattle.rules.specs.Planes.{close_task, closed}
use Rattle.rules.specs.State.{Cond, asleep, resting, running, waiting, Task, nobody, at, be, is_awake, last_of, due}
use Rattle.rules.proofs.Time.{at_advance, length_advance, still_awake}
use Rattle.queue.specs.Queues.{key_in, one, Good}
use Rattle.queue.proofs.Keys.{none_empty}
use Rattle.state.specs.Machine.{end_at, work_of, shorter_at, no_slots, sleep_row, sleep_all, emptied, closed_of}
use Rattle.state.specs.View.{cond_of, cond_in, job_at, Tidy, Sound}
use Rattle.state.specs.Work.{Work, seat}
use Rattle.state.proofs.Passing.{awake_at}
use Rattle.ground.proofs.Ranges.{all_one}
use Rattle.state.proofs.Shows.{seen, cond_at, clash}
use Rattle.state.proofs.Views.{crew, IsState}
use Rattle.state.proofs.Lasts.{Known, last_kept}

-- NOBODY RUNS OR WAITS
pub emptied_good : (q : Queue) → Good q → Good (emptied q)
emptied_good q g =
    record { keys_room = g.keys_room; tasks_room = g.tasks_room; fits = omega arith; order = λ j j0 jn. absurd (omega arith); once = λ t. nothing t }
  where
    nothing : (t : ℕ) → sum_of (one t) [] ≤ 1
    nothing t = unfold sum_of in omega arith

pub empty_tidy : (n : ℕ) (awake : List Bool) (w : Work) → n ≤ 128 → w.m ≤ 16 → Good w.running → Good w.waiting → w.running.len ≡ 0 → w.waiting.len ≡ 0 → w.slots ≡ no_slots → Tidy n awake w
empty_tidy n awake w few most r q nr nq e =
    record {
      few = few;
      running = r;
      waiting = q;
      run_in = λ t k f. clash (key_in w.running t) k f (none_empty w.running nr t);
      wait_in = λ t k f. clash (key_in w.waiting t) k f (none_empty w.waiting nq t);
      seats =
          record {
            room = rw e (length-replicate {A = ℕ} 16 0);
            most = most;
            past = λ p h. rw e (all_one {A = ℕ} 0 16 p);
            sits = λ t k f. clash (key_in w.running t) k f (none_empty w.running nr t);
            runs = λ p t f. absurd (omega (arith, all_one {A = ℕ} 0 16 p, rw e at f));
            apart = λ p x t f. absurd (omega (arith, all_one {A = ℕ} 0 16 p, rw e at f));
          };
    }

-- WHO FALLS ASLEEP
module _ (t : Table) (last : List ℕ) (tick : ℕ) where
  off : (a : List Bool) (i : ℕ) → get_or (set a i false) i false ≡ false
  off a i = go (dec_lt i (length a))
    where
      go : Dec (i < length a) → get_or (set a i false) i false ≡ false
      go (yes h) = get_or-set_same a i false false h
      go (no h) = get_or-eq_default (set a i false) false {n = i} (let z = length-set a i false in omega arith)

  sleep_same : (a : List Bool) (i : ℕ) → get_or (sleep_row t last tick a i) i false ≡ (get_or a i false && not (eqb (get_or last i 0 + shorter_at t i) tick))
  unfolding sleep_row
  sleep_same a i = go (get_or a i false) refl (eqb (get_or last i 0 + shorter_at t i) tick)
    where
      go : (b : Bool) → get_or a i false ≡ b → (e : Bool) → get_or (if b && e then set a i false else a) i false ≡ (b && not e)
      go true q true = off a i
      go true q false = q
      go false q e = q

  sleep_other : (a : List Bool) (i j : ℕ) → j ≢ i → get_or (sleep_row t last tick a i) j false ≡ get_or a j false
  unfolding sleep_row
  sleep_other a i j n = go (get_or a i false && eqb (get_or last i 0 + shorter_at t i) tick)
    where
      go : (b : Bool) → get_or (if b then set a i false else a) j false ≡ get_or a j false
      go true = get_or-set_other a i j false false n
      go false = refl

  sleep_before : (k i : ℕ) (a : List Bool) (j : ℕ) → j < i → get_or (foldl (sleep_row t last tick) a (up_from i k)) j false ≡ get_or a j false
  unfolding up_from
  sleep_before zero i a j h = refl
  sleep_before (suc k) i a j h = sleep_before k (suc i) (sleep_row t last tick a i) j (omega arith) ∙ sleep_other a i j (λ z. omega arith)

  sleep_from : (k i : ℕ) (a : List Bool) (j : ℕ) → i ≤ j → j < i + k
      → get_or (foldl (sleep_row t last tick) a (up_from i k)) j false ≡ (get_or a j false && not (eqb (get_or last j 0 + shorter_at t j) tick))
  unfolding up_from
  sleep_from zero i a j h g = absurd (omega arith)
  sleep_from (suc k) i a j h g = go (ℕ_discrete j i) (sleep_from k (suc i) (sleep_row t last tick a i) j)
    where
      e : Bool
      e = eqb (get_or last j 0 + shorter_at t j) tick

      go : Dec (j ≡ i) → (suc i ≤ j → j < suc i + k → get_or (foldl (sleep_row t last tick) (sleep_row t last tick a i) (up_from (suc i) k)) j false ≡ (get_or (sleep_row t last tick a i) j false && not e))
          → get_or (foldl (sleep_row t last tick) (sleep_row t last tick a i) (up_from (suc i) k)) j false ≡ (get_or a j false && not e)
      go (yes z) ih = sleep_before k (suc i) (sleep_row t last tick a i) j (omega arith) ∙ subst (λ (x : ℕ). get_or (sleep_row t last tick a i) x false ≡ (get_or a x false && not (eqb (get_or last x 0 + shorter_at t x) tick))) (sym z) (sleep_same a i)
      go (no z) ih = ih (omega arith) (omega arith) ∙ ap (λ (b : Bool). b && not e) (sleep_other a i j z)

  -- awake after the closing: awake before, and not at the end of its job
  pub sleep_at : (a : List Bool) (j : ℕ) → j < t.count → get_or (sleep_all t last tick a) j false ≡ (get_or a j false && not (eqb (get_or last j 0 + shorter_at t j) tick))
  unfolding sleep_all
  sleep_at a j h = sleep_from t.count 0 a j (omega arith) (omega arith)

-- THE CLOSING
not_awake : (d : Cond) → is_awake d ≡ false → d ≡ asleep
not_awake asleep e = refl
not_awake resting e = cc
not_awake (running p a) e = cc
not_awake (waiting a) e = cc

close_cond : (d now end p : ℕ) (x : Cond) (a ends late : Bool) (t : Task) → is_awake x ≡ a → (a ≡ true → ends ≡ late)
    → (if is_awake (spend d x) then be (if ends then asleep else resting) t else be (spend d x) t) ≡ be (cond_of now end none none p (a && not late)) t
close_cond d now end p x true ends true t e f = rw (still_awake d x, e, f refl)
close_cond d now end p x true ends false t e f = rw (still_awake d x, e, f refl)
close_cond d now end p x false ends late t e f = let z = not_awake x e in rw z

pub close_is : (s : State) (l : List Task) → IsState s l → Known l → (to : ℕ) → IsState (closed_of s to) (closed s.end (advance (to - s.now.0) l))
unfolding closed_of closed cond_in
close_is s l I K to =
    record {
      tidy = empty_tidy s.table.count _ (work_of (closed_of s to)) S.few S.seats.most (emptied_good s.running S.running) (emptied_good s.waiting S.waiting) refl refl refl;
      shows = record { size = length-map (advance d l) _ ∙ length_advance d l ∙ I.shows.size; each = λ i hi. each i hi };
    }
  where
    S : Sound s
    S = I.tidy

    d : ℕ
    d = to - s.now.0

    j : Jobs
    j = s.jobs

    -- an awake task's last arrival is the one that is kept
    tick : (i : ℕ) → i < s.table.count → get_or j.awake i false ≡ true → last_of (job_at s.table j i) ≡ get_or j.last i 0
    tick i hi w = let k = K i (awake_at I i hi ∙ w) in ap last_of (sym (I.shows.each i hi)) ∙ last_kept s l I i hi k.0 k.1

    each : (i : ℕ) → i < s.table.count → at i (map (close_task s.end) (advance d l)) ≡ seen (crew (closed_of s to)) (work_of (closed_of s to)) i
    each i hi =
        get_or-map (close_task s.end) (advance d l) i nobody
        ∙ ap (close_task s.end) (at_advance d i l ∙ ap (λ (t : Task). be (spend d t.cond) t) (I.shows.each i hi))
        ∙ rw (none_empty (emptied s.running) refl (suc i), none_empty (emptied s.waiting) refl (suc i), sleep_at s.table j.last s.end j.awake i hi)
        (close_cond d to (end_at s) (seat (suc i) no_slots) (cond_in j.awake (work_of s) i) (get_or j.awake i false) (eqb (due (job_at s.table j i)) s.end) (eqb (get_or j.last i 0 + shorter_at s.table i) s.end) (job_at s.table j i)
        (ap is_awake (sym (cond_at I i hi)) ∙ awake_at I i hi) (λ w. ap (λ x. eqb (x + shorter_at s.table i) s.end) (tick i hi w)))
