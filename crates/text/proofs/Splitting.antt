-- Laws of `first_at`, `split_by` and `ended`
use Rattle.std.specs.Prelude.{if◌then◌else◌, ◌==◌}
use Rattle.std.specs.List.{IsFirstMatchOrLen, between}
use Rattle.std.proofs.lemmas.Slice.{between_to_end}
use Prim.Native.Nat.{ℕ, zero, suc, ◌+◌, ◌-◌, ◌≤◌, ◌<◌}
use mathlib.Core.Path.{◌≡◌, refl, sym, ap, ◌∙◌}
use mathlib.Core.Bool.{Bool, true, false}
use mathlib.Core.List.{List, [], ◌∷◌, ◌++◌}
use native.Mathlib.Omega.{arith}
use lib.Dec.{eqb}
use lib.ListN.{length, take, drop, length-append, length-drop, get_or, drop_of_length-le}
use lib.Seq.{take_all, take_at, drop-drop, drop-cons}
use Rattle.text.specs.Parts.{in_front, split_by, first_at}
use native.Mathlib.Numerals.{add-one}
use borrow.Author.Tests.{eq-eqb, ne_eqb}

-- a b stands here
pub first_here : (b : ℕ) (s : List ℕ) (i : ℕ) → i < length s → get_or s i 0 ≡ b → first_at b (drop i s) ≡ 0
unfolding first_at
first_here b s i h e = ap (first_at b) (drop-cons s i 0 h) ∙ rw (eq-eqb (get_or s i 0) b e)

-- none here: look further
pub first_on : (b : ℕ) (s : List ℕ) (i : ℕ) → i < length s → (get_or s i 0 ≡ b → ⊥) → first_at b (drop i s) ≡ suc (first_at b (drop (i + 1) s))
unfolding first_at
first_on b s i h e = ap (first_at b) (drop-cons s i 0 h) ∙ rw (ne_eqb (get_or s i 0) b e, add-one)

pub first_none : (b : ℕ) (s : List ℕ) (i : ℕ) → length s ≤ i → first_at b (drop i s) ≡ 0
unfolding first_at
first_none b s i h = rw drop_of_length-le

pub first_within : (b : ℕ) (l : List ℕ) → first_at b l ≤ length l
unfolding first_at
first_within b [] = omega arith
first_within b (x ∷ l) = go (eqb x b) (first_within b l)
  where
    go : (t : Bool) → first_at b l ≤ length l → (if t then 0 else suc (first_at b l)) ≤ suc (length l)
    go true h = omega arith
    go false h = omega arith

-- the first piece, up to the first b, and the pieces after it
pub split_more : (b : ℕ) (l : List ℕ) → first_at b l < length l → split_by b l ≡ take (first_at b l) l ∷ split_by b (drop (suc (first_at b l)) l)
unfolding first_at split_by
split_more b [] h = absurd (omega arith)
split_more b (x ∷ l) h = go (eqb x b) h (split_more b l)
  where
    go : (t : Bool) → (if t then 0 else suc (first_at b l)) < suc (length l)
        → (first_at b l < length l → split_by b l ≡ take (first_at b l) l ∷ split_by b (drop (suc (first_at b l)) l))
        → in_front t x (split_by b l) ≡ take (if t then 0 else suc (first_at b l)) (x ∷ l) ∷ split_by b (drop (suc (if t then 0 else suc (first_at b l))) (x ∷ l))
    go true h f = refl
    go false h f = ap (in_front false x) (f (omega arith))

-- one piece, where no b stands
pub split_last : (b : ℕ) (l : List ℕ) → length l ≤ first_at b l → split_by b l ≡ l ∷ []
unfolding first_at split_by
split_last b [] h = refl
split_last b (x ∷ l) h = go (eqb x b) h (split_last b l)
  where
    go : (t : Bool) → suc (length l) ≤ (if t then 0 else suc (first_at b l)) → (length l ≤ first_at b l → split_by b l ≡ l ∷ []) → in_front t x (split_by b l) ≡ (x ∷ l) ∷ []
    go true h f = absurd (omega arith)
    go false h f = ap (in_front false x) (f (omega arith))

-- the same, from a place of a text on: e is the end of the piece
module _ (b : ℕ) (s : List ℕ) (at e : ℕ) (is : e ≡ at + first_at b (drop at s)) where
  pub piece_more : e < length s → split_by b (drop at s) ≡ take (e - at) (drop at s) ∷ split_by b (drop (e + 1) s)
  piece_more h =
      let k : first_at b (drop at s) < length (drop at s) = omega (arith, length-drop at s) in
      let f : first_at b (drop at s) ≡ e - at = omega arith in
      let g : at + suc (first_at b (drop at s)) ≡ e + 1 = omega arith in
      split_more b (drop at s) k
      ∙ ap (λ (n : ℕ). take n (drop at s) ∷ split_by b (drop (suc (first_at b (drop at s))) (drop at s))) f
      ∙ ap (λ (l : List ℕ). take (e - at) (drop at s) ∷ split_by b l) (drop-drop (suc (first_at b (drop at s))) at s)
      ∙ ap (λ (n : ℕ). take (e - at) (drop at s) ∷ split_by b (drop n s)) g

  pub piece_last : length s ≤ e → split_by b (drop at s) ≡ take (e - at) (drop at s) ∷ []
  piece_last h =
      let k : length (drop at s) ≤ first_at b (drop at s) = omega (arith, length-drop at s) in
      let f : length (drop at s) ≤ e - at = omega (arith, length-drop at s) in
      split_last b (drop at s) k ∙ ap (λ (l : List ℕ). l ∷ []) (sym (take_all (e - at) (drop at s) f))

  pub piece_within : at ≤ length s → e ≤ length s
  piece_within h = omega (arith, first_within b (drop at s), length-drop at s)

-- the first b is where the first match is
pub first_match : (b : ℕ) (l : List ℕ) (n : ℕ) → n ≤ length l → IsFirstMatchOrLen (λ x. x == b) l n → n ≡ first_at b l
unfolding first_at
first_match b [] n h f = omega arith
first_match b (x ∷ l) zero h f = rw (f.1 (omega arith) 0)
first_match b (x ∷ l) (suc n) h f =
    let g = first_match b l n (omega arith) (λ k d lo hi. f.0 (suc k) d (omega arith) (omega arith), λ k d. f.1 (omega arith) d) in
    ap suc g ∙ sym (rw (f.0 0 0 (omega arith) (omega arith)))

-- the same, from a place of a text on
pub match_from : (b : ℕ) (s : List ℕ) (at n : ℕ) → n ≤ length (between at (length s) s) → IsFirstMatchOrLen (λ x. x == b) (between at (length s) s) n → at + n ≡ at + first_at b (drop at s)
match_from b s at n h f =
    let e : between at (length s) s ≡ drop at s = between_to_end s at (length s) (omega arith) in
    ap (λ (k : ℕ). at + k) (first_match b (between at (length s) s) n h f) ∙ ap (λ (l : List ℕ). at + first_at b l) e

drop_past : (x : List ℕ) (y : ℕ) (r : List ℕ) → drop (suc (length x)) (x ++ (y ∷ r)) ≡ r
drop_past [] y r = refl
drop_past (c ∷ x) y r = drop_past x y r

-- the first piece, by what follows it
pub piece_then : (b y : ℕ) (l x r : List ℕ) → l ≡ x ++ (y ∷ r) → IsFirstMatchOrLen (λ c. c == b) l (length x) → split_by b l ≡ x ∷ split_by b r
piece_then b y l x r e f =
    let h : length l ≡ length x + suc (length r) = ap length e ∙ length-append x (y ∷ r) in
    let k = first_match b l (length x) (omega arith) f in
    let t : take (length x) (x ++ (y ∷ r)) ≡ x = take_at x (y ∷ r) (length x) refl in
    let d : drop (suc (length x)) (x ++ (y ∷ r)) ≡ r = drop_past x y r in
    split_more b l (omega arith)
    ∙ ap (λ (n : ℕ). take n l ∷ split_by b (drop (suc n) l)) (sym k)
    ∙ ap (λ (q : List ℕ). take (length x) q ∷ split_by b (drop (suc (length x)) q)) e
    ∙ ap (λ (q : List ℕ). q ∷ split_by b (drop (suc (length x)) (x ++ (y ∷ r)))) t
    ∙ ap (λ (q : List ℕ). x ∷ split_by b q) d

pub piece_whole : (b : ℕ) (l : List ℕ) → IsFirstMatchOrLen (λ c. c == b) l (length l) → split_by b l ≡ l ∷ []
piece_whole b l f = split_last b l (let k = first_match b l (length l) (omega arith) f in omega arith)

-- there is always a piece
pub split_some : (b : ℕ) (l : List ℕ) → (p : List ℕ) × (ps : List (List ℕ)) × (split_by b l ≡ p ∷ ps)
unfolding split_by
split_some b [] = ([], [], refl)
split_some b (x ∷ l) = go (eqb x b) (split_by b l)
  where
    go : (t : Bool) (ps : List (List ℕ)) → (p : List ℕ) × (qs : List (List ℕ)) × (in_front t x ps ≡ p ∷ qs)
    go true ps = ([], ps, refl)
    go false [] = (x ∷ [], [], refl)
    go false (p ∷ ps) = (x ∷ p, ps, refl)
