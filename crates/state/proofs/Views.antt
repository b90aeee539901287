-- A state and its work: what is shown of the work is the state's view
use mathlib.Core.Path.{◌≡◌, refl, sym, ◌∙◌, ap}
use mathlib.Core.List.{List, ◌∷◌, map}
use Prim.Native.Nat.{ℕ, zero, suc, ◌+◌, ◌≤◌, ◌<◌}
use native.Mathlib.Omega.{arith}
use lib.ListN.{length, get_or, take}
use lib.Seq.{ext_get_or, get_or-take, length-take-le}
use Rattle.table.specs.declared.Table.{Table}
use Rattle.state.specs.declared.Jobs.{Jobs}
use Rattle.state.specs.declared.State.{State}
use Rattle.rules.specs.State as Rules
use Rattle.ground.specs.Sums.{up_from}
use Rattle.rules.specs.Holds.{rows_in}
use Rattle.rules.specs.Planes.{shares_of}
use Rattle.rules.specs.State.{Task}
use Rattle.state.specs.Machine.{end_at, work_of, with_work}
use Rattle.state.specs.View.{row_of, job_at, task_at, tasks_at, plane_of, view, Sound}
use Rattle.state.specs.Work.{Work}
use Rattle.ground.proofs.Ranges.{length_up, at_up}
use Rattle.state.proofs.Shows.{Crew, shows_all, shown, Is}

-- the tasks of a table and their jobs
abbrev pub crew_of : Table → Jobs → Crew
crew_of t j = record { count = t.count; awake = j.awake; base = job_at t j }

abbrev pub crew : State → Crew
crew s = crew_of s.table s.jobs

-- the state is sound and shows the tasks l
abbrev pub IsState : State → List Task → Type 0
IsState s l = Is (crew s) (work_of s) l

pub sound_is : (s : State) → Sound s → IsState s (tasks_at s)
sound_is s S = record { tidy = S; shows = shows_all (crew s) (work_of s) }

-- the rules' state with the tasks l
abbrev pub seen_as : State → List Task → Rules.State
seen_as s l = record { m = s.table.m; scale = s.table.scale; now = s.now.0; plane = plane_of s; tasks = l }

pub view_is : (s : State) (l : List Task) → IsState s l → view s ≡ seen_as s l
view_is s l I = ap (seen_as s) (shown (crew s) (work_of s) l I.shows)

-- a work put into a state is its work
pub put_work : (s : State) (w : Work) → w.m ≡ s.table.m → w.end ≡ end_at s → work_of (with_work s w) ≡ w
put_work s w a b i = record { m = sym a i; now = w.now; end = sym b i; running = w.running; waiting = w.waiting; slots = w.slots }

pub put_is : (s : State) (w : Work) (l : List Task) → w.m ≡ s.table.m → w.end ≡ end_at s → Is (crew s) w l → IsState (with_work s w) l
put_is s w l a b I = rw (put_work s w a b) I

-- THE TABLE IN THE VIEW
rows_up : {A : Type 0} (g : Task → A) (f : ℕ → Task) (i n : ℕ) → map g (map f (up_from i n)) ≡ map (λ x. g (f x)) (up_from i n)
unfolding up_from
rows_up g f i zero = refl
rows_up {A} g f i (suc n) = ap (λ (l : List A). g (f i) ∷ l) (rows_up g f (suc i) n)

-- the rows and the shares that the view shows are the table's first count
pub rows_view : (s : State) → rows_in (view s) ≡ map (row_of s.table) (up_from 0 s.table.count)
rows_view s = rows_up (λ (t : Task). t.row) (task_at s) 0 s.table.count

pub shares_view : (s : State) → s.table.count ≤ length s.table.share → shares_of (view s).tasks ≡ take s.table.count s.table.share
shares_view s few =
    let n = s.table.count in
    let f : ℕ → ℕ = λ i. get_or s.table.share i 0 in
    let size : length (map f (up_from 0 n)) ≡ n = length_up f 0 n in
    rows_up (λ (t : Task). t.share) (task_at s) 0 n
    ∙ ext_get_or 0 (map f (up_from 0 n)) (take n s.table.share) (size ∙ sym (length-take-le n s.table.share few))
    (λ i hi. let b : i < n = omega arith in at_up f 0 0 n i b ∙ (let z : 0 + i ≡ i = omega arith in ap f z) ∙ sym (get_or-take n s.table.share i 0 b))
