-- Seats: where a running task sits, and who sits where after a change
use Rattle.std.specs.Prelude.{if◌then◌else◌}
use mathlib.Core.Path.{◌≡◌, refl, sym, ◌∙◌, ap}
use mathlib.Core.Bool.{Bool, true, false}
use mathlib.Core.Option.{Option, none, some}
use mathlib.Core.Logic.{◌≢◌}
use mathlib.Core.List.{List, [], ◌∷◌}
use Prim.Native.Nat.{ℕ, zero, suc, ◌+◌, ◌<◌}
use native.Mathlib.Nat.{not-suc-le-zero, le_of_suc-le-suc}
use native.Mathlib.Decide.{ℕ_discrete}
use native.Mathlib.Numerals.{add-one}
use native.Mathlib.Omega.{arith}
use borrow.Author.Tests.{eq-eqb, ne_eqb, eqb-true, eqb-false}
use lib.Dec.{eqb}
use lib.ListN.{length, get_or, set, drop, length-set}
use lib.Seq.{get_or-set_same, get_or-set_other, drop-cons, drop-length}
use Rattle.state.specs.View.{Seats}
use Rattle.state.specs.Work.{seat_from, seat}
use Rattle.state.proofs.Shows.{clash}

-- THE SEARCH FOR A SEAT
seat_from_lem : (t b p : ℕ) (slots : List ℕ) → p < length slots → get_or slots p 0 ≡ t → ((r : ℕ) → r < length slots → get_or slots r 0 ≡ t → r ≡ p) → seat_from t b slots ≡ b + p
seat_from_lem t b p [] h e u = absurd (not-suc-le-zero h)
seat_from_lem t b zero (x ∷ l) h e u = rw (eq-eqb x t e) (omega arith)
seat_from_lem t b (suc p) (x ∷ l) h e u =
    let n : x ≢ t = λ z. omega (arith, u 0 (omega arith) z) in
    rw (ne_eqb x t n) (seat_from_lem t (suc b) p l (le_of_suc-le-suc h) e (λ r hr q. let y = u (suc r) (omega arith) q in omega arith) ∙ omega arith)

-- where a slot was found, and that none was
pub seat_found : (t b r : ℕ) (xs : List ℕ) → seat_from t (suc b) xs ≡ suc r → (j : ℕ) × (j < length xs) × (r ≡ b + j) × (get_or xs j 0 ≡ t)
seat_found t b r [] e = absurd (omega arith)
seat_found t b r (x ∷ xs) e = go (eqb x t) refl e (seat_found t (suc b) r xs)
  where
    go : (c : Bool) → eqb x t ≡ c → (if c then suc b else seat_from t (suc (suc b)) xs) ≡ suc r → (seat_from t (suc (suc b)) xs ≡ suc r → (j : ℕ) × (j < length xs) × (r ≡ suc b + j) × (get_or xs j 0 ≡ t))
        → (j : ℕ) × (j < length (x ∷ xs)) × (r ≡ b + j) × (get_or (x ∷ xs) j 0 ≡ t)
    go true q e ih = (0, omega arith, omega arith, eqb-true x t q)
    go false q e ih = let y = ih e in (suc y.0, omega (arith, y.1), omega (arith, y.2), y.3)

pub seat_none : (t b : ℕ) (xs : List ℕ) → seat_from t (suc b) xs ≡ 0 → (j : ℕ) → j < length xs → get_or xs j 0 ≢ t
seat_none t b [] e j h = absurd (not-suc-le-zero h)
seat_none t b (x ∷ xs) e j h = go (eqb x t) refl e j h (seat_none t (suc b) xs)
  where
    go : (c : Bool) → eqb x t ≡ c → (if c then suc b else seat_from t (suc (suc b)) xs) ≡ 0 → (j : ℕ) → j < length (x ∷ xs) → (seat_from t (suc (suc b)) xs ≡ 0 → (j : ℕ) → j < length xs → get_or xs j 0 ≢ t) → get_or (x ∷ xs) j 0 ≢ t
    go true q e j h ih = absurd (omega arith)
    go false q e zero h ih = eqb-false x t q
    go false q e (suc j) h ih = ih e j (le_of_suc-le-suc h)

-- the search's turns, from place i on: there, or further on; past the end
pub seat_turn : (t i : ℕ) (l : List ℕ) → i < length l
    → seat_from t (i + 1) (drop i l) ≡ (if eqb (get_or l i 0) t then i + 1 else seat_from t (i + 1 + 1) (drop (i + 1) l))
seat_turn t i l h = rw (drop-cons l i 0, add-one, add-one)

pub seat_past : (t i : ℕ) (l : List ℕ) → i ≡ length l → seat_from t (i + 1) (drop i l) ≡ 0
seat_past t i l e = rw (e, drop-length)

-- task t sits in a place of the m
pub record Sits (m : ℕ) (slots : List ℕ) (t : ℕ) : Type 0 where
  pub place : ℕ
  pub low : place < m
  pub holds : get_or slots place 0 ≡ t
  pub is : seat t slots ≡ suc place

module _ {m : ℕ} {run : ℕ → Option ℕ} {slots : List ℕ} (S : Seats m run slots) where
  pub sits_in : (t k : ℕ) → run (suc t) ≡ some k → Sits m slots (suc t)
  sits_in t k e =
      let r = S.sits (suc t) k e in
      record {
        place = r.0;
        low = r.1;
        holds = r.2;
        is = seat_from_lem (suc t) 1 r.0 slots (omega (arith, r.1, S.room, S.most)) r.2 (λ x hx q. S.apart x r.0 t q r.2) ∙ omega arith;
      }

  -- t leaves processor p to u (0 for nobody)
  module _ (run' : ℕ → Option ℕ) (p t u : ℕ) (hp : p < m) (at_p : get_or slots p 0 ≡ t) (leaves : run' t ≡ none) (fresh : run u ≡ none)
      (joins : (x : ℕ) → u ≡ suc x → run' (suc x) ≡ none → ⊥) (others : (x : ℕ) → x ≢ t → x ≢ u → run' x ≡ run x) where
    new_p : get_or (set slots p u) p 0 ≡ u
    new_p = get_or-set_same slots p u 0 (omega (arith, S.room, S.most))

    new_o : (r : ℕ) → r ≢ p → get_or (set slots p u) r 0 ≡ get_or slots r 0
    new_o r n = get_or-set_other slots p r u 0 n

    pub reseat : Seats m run' (set slots p u)
    reseat =
        record {
          room = length-set slots p u ∙ S.room;
          most = S.most;
          past = λ r hr. new_o r (λ z. omega arith) ∙ S.past r hr;
          sits = λ x k e. sits x k e (ℕ_discrete x u);
          runs = λ r x e. runs r x e (ℕ_discrete r p);
          apart = λ r r' x e e'. apart r r' x e e' (ℕ_discrete r p) (ℕ_discrete r' p);
        }
      where
        old : (x k : ℕ) → run' x ≡ some k → x ≢ u → run x ≡ some k
        old x k e n = sym (others x (λ z. clash (run' x) k e (ap run' z ∙ leaves)) n) ∙ e

        sits : (x k : ℕ) → run' x ≡ some k → Dec (x ≡ u) → (r : ℕ) × (r < m) × (get_or (set slots p u) r 0 ≡ x)
        sits x k e (yes z) = (p, hp, new_p ∙ sym z)
        sits x k e (no z) =
            let r = S.sits x k (old x k e z) in
            (r.0, r.1, new_o r.0 (λ y. let v : x ≡ t = sym r.2 ∙ ap (λ (i : ℕ). get_or slots i 0) y ∙ at_p in clash (run' x) k e (ap run' v ∙ leaves)) ∙ r.2)

        runs : (r x : ℕ) → get_or (set slots p u) r 0 ≡ suc x → Dec (r ≡ p) → run' (suc x) ≡ none → ⊥
        runs r x e (yes z) f = joins x (sym new_p ∙ ap (λ (i : ℕ). get_or (set slots p u) i 0) (sym z) ∙ e) f
        runs r x e (no z) f =
            let e' : get_or slots r 0 ≡ suc x = sym (new_o r z) ∙ e in
            S.runs r x e' (go e' (ℕ_discrete (suc x) t) (ℕ_discrete (suc x) u))
          where
            go : get_or slots r 0 ≡ suc x → Dec (suc x ≡ t) → Dec (suc x ≡ u) → run (suc x) ≡ none
            go e' (yes a) b = absurd (z (S.apart r p x e' (at_p ∙ sym a)))
            go e' (no a) (yes b) = rw b fresh
            go e' (no a) (no b) = sym (others (suc x) a b) ∙ f

        unheld : (r x : ℕ) → r ≢ p → get_or (set slots p u) r 0 ≡ suc x → get_or (set slots p u) p 0 ≡ suc x → ⊥
        unheld r x n e e' = S.runs r x (sym (new_o r n) ∙ e) (let z : u ≡ suc x = sym new_p ∙ e' in rw z at fresh)

        apart : (r r' x : ℕ) → get_or (set slots p u) r 0 ≡ suc x → get_or (set slots p u) r' 0 ≡ suc x → Dec (r ≡ p) → Dec (r' ≡ p) → r ≡ r'
        apart r r' x e e' (yes a) (yes b) = a ∙ sym b
        apart r r' x e e' (yes a) (no b) = absurd (unheld r' x b e' (rw a at e))
        apart r r' x e e' (no a) (yes b) = absurd (unheld r x a e (rw b at e'))
        apart r r' x e e' (no a) (no b) = S.apart r r' x (sym (new_o r a) ∙ e) (sym (new_o r' b) ∙ e')

    pub seat_new : (x : ℕ) → u ≡ suc x → seat u (set slots p u) ≡ suc p
    seat_new x e =
        seat_from_lem u 1 p (set slots p u) (rw length-set (omega (arith, S.room, S.most))) new_p
        (λ r hr q. reseat.apart r p x (q ∙ e) (new_p ∙ e)) ∙ omega arith

    pub seat_same : (x k : ℕ) → run (suc x) ≡ some k → suc x ≢ t → seat (suc x) (set slots p u) ≡ seat (suc x) slots
    seat_same x k e n =
        let r = sits_in x k e in
        let ne : r.place ≢ p = λ y. n (sym r.holds ∙ ap (λ (i : ℕ). get_or slots i 0) y ∙ at_p) in
        let new : get_or (set slots p u) r.place 0 ≡ suc x = new_o r.place ne ∙ r.holds in
        seat_from_lem (suc x) 1 r.place (set slots p u) (rw length-set (omega (arith, r.low, S.room, S.most))) new (λ y hy q. reseat.apart y r.place x q new)
        ∙ sym (r.is ∙ omega arith)
