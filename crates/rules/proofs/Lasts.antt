-- Last arrivals: an awake task has one, by the present
use mathlib.Core.Path.{◌≡◌, sym, ◌∙◌, ap}
use mathlib.Core.Option.{Option, none, some, get_or, none-ne-some}
use mathlib.Core.List.{List}
use Prim.Native.Nat.{ℕ, ◌*◌, ◌≤◌}
use Rattle.rules.specs.State.{Task, at, last_of}
use Rattle.rules.proofs.Together.{Awake, Lasts}

pub last_is : (t : Task) {a : ℕ} → t.last ≡ some a → last_of t ≡ a
last_is t e = ap (λ (o : Option ℕ). get_or o 0) e

pub never : {X : Type 0} {a : ℕ} → ◌≡◌ {A = Option ℕ} none (some a) → X
never {X} {a} e = absurd (none-ne-some a e)

module _ {scale now : ℕ} {l : List Task} (L : Lasts scale now l) (j : ℕ) (w : Awake (at j l)) where
  pub awake_last : (at j l).last ≡ some (last_of (at j l))
  awake_last = let k = L.known j w in k.1 ∙ sym (ap {B = Option ℕ} some (last_is (at j l) k.1))

  pub awake_came : last_of (at j l) * scale ≤ now
  awake_came = L.came j (last_of (at j l)) awake_last
