-- Last arrivals: what is shown of them is what the columns keep
use Rattle.std.specs.Prelude.{if◌then◌else◌}
use mathlib.Core.Path.{◌≡◌, refl, sym, ◌∙◌, ap}
use mathlib.Core.Bool.{Bool, true, false, ◌&&◌}
use mathlib.Core.Option.{Option, none, some, some-injective}
use mathlib.Core.List.{List}
use Prim.Native.Nat.{ℕ, ◌+◌, max, ◌<◌}
use lib.Dec.{ltb}
use lib.ListN.{get_or}
use Rattle.rules.specs.State.{Task, at, short, is_awake, last_of, due, soonest}
use Rattle.rules.proofs.Lasts.{last_is, never}
use Rattle.rules.specs.Calls.{too_soon}
use Rattle.table.specs.declared.Table.{Table}
use Rattle.state.specs.declared.Jobs.{Jobs}
use Rattle.state.specs.declared.State.{State}
use Rattle.state.specs.Machine.{shorter_at}
use Rattle.state.specs.View.{last_at, job_at}
use Rattle.state.proofs.Views.{IsState}

-- "an awake task has one"
abbrev pub Known : List Task → Type 0
Known l = (i : ℕ) → is_awake (at i l).cond ≡ true → (a : ℕ) × ((at i l).last ≡ some a)

kept_case : (b : Bool) (x a : ℕ) → ◌≡◌ {A = Option ℕ} (if b then some x else none) (some a) → a ≡ x
kept_case true x a e = sym (some-injective x a e)
kept_case false x a e = never e

-- what is shown as too soon is so by the columns
pub soon_shown : (tick : ℕ) (t : Table) (j : Jobs) (i : ℕ) → too_soon tick (job_at t j i) ≡ (get_or j.arrived i false && ltb tick (get_or j.last i 0 + get_or t.period i 0))
soon_shown tick t j i = go (get_or j.arrived i false)
  where
    go : (b : Bool) → ◌≡◌ {A = Bool} (elim (if b then some (get_or j.last i 0) else none) [ none ↦ false | some a ↦ ltb tick (a + get_or t.period i 0) ]) (b && ltb tick (get_or j.last i 0 + get_or t.period i 0))
    go true = refl
    go false = refl

module _ (s : State) (l : List Task) (I : IsState s l) (i : ℕ) (hi : i < s.table.count) where
  pub last_at_lem : (at i l).last ≡ last_at s.jobs i
  last_at_lem = ap (λ (t : Task). t.last) (I.shows.each i hi)

  -- of a task that arrived
  pub last_kept : (a : ℕ) → (at i l).last ≡ some a → last_of (at i l) ≡ get_or s.jobs.last i 0
  last_kept a e = last_is (at i l) e ∙ kept_case (get_or s.jobs.arrived i false) (get_or s.jobs.last i 0) a (sym last_at_lem ∙ e)

  pub last_some : get_or s.jobs.arrived i false ≡ true → (at i l).last ≡ some (get_or s.jobs.last i 0)
  last_some e = last_at_lem ∙ ap (λ (b : Bool). if b then some (get_or s.jobs.last i 0) else none) e

  pub due_kept : (a : ℕ) → (at i l).last ≡ some a → due (at i l) ≡ get_or s.jobs.last i 0 + shorter_at s.table i
  due_kept a e = ap (λ x. x + short (at i l)) (last_kept a e) ∙ ap (λ (t : Task). get_or s.jobs.last i 0 + short t) (I.shows.each i hi)

  pub soonest_kept : (c : ℕ) → soonest c (at i l) ≡ (if get_or s.jobs.arrived i false then max c (get_or s.jobs.last i 0 + get_or s.table.period i 0) else c)
  soonest_kept c = ap (soonest c) (I.shows.each i hi) ∙ go (get_or s.jobs.arrived i false)
    where
      go : (b : Bool) → ◌≡◌ {A = ℕ} (elim (if b then some (get_or s.jobs.last i 0) else none) [ none ↦ c | some a ↦ max c (a + get_or s.table.period i 0) ])
          (if b then max c (get_or s.jobs.last i 0 + get_or s.table.period i 0) else c)
      go true = refl
      go false = refl
