-- Laws of the walk over the lines
use Rattle.std.specs.Prelude.{if◌then◌else◌, Option, None}
use Prim.Native.Nat.{ℕ, zero, suc, ◌+◌, ◌-◌, ◌≤◌, ◌<◌}
use mathlib.Core.Path.{◌≡◌, refl, sym, ap, subst, ◌∙◌}
use mathlib.Core.Bool.{Bool, true, false}
use mathlib.Core.List.{List, [], ◌∷◌, ◌++◌, map}
use native.Mathlib.Omega.{arith}
use borrow.Author.Tests.{lt-ltb, le-ltb}
use lib.Dec.{ltb}
use lib.ListN.{length, get_or, take, drop}
use Rattle.ground.specs.Tests.{Says}
use Rattle.ground.proofs.Tests.{ltb_says}
use Rattle.text.specs.declared.Item.{Item}
use Rattle.text.specs.declared.Line.{Line}
use Rattle.text.specs.Parts.{first_at, newline, ended, lines_of}
use Rattle.text.specs.Lines.{item_of}
use Rattle.text.specs.Meaning.{items_of, end_at, line_at, row_by, rows_in, is_task, row_line_by, row_lines_in, row_line_of, turn_by, turns_in, processors_by, processors_in}
use Rattle.text.proofs.Splitting.{piece_more, piece_last, split_some}

abbrev pub no_line : List ℕ → Line
no_line s = record { item = None; next = length s }

abbrev pub whole_line : List ℕ → ℕ → ℕ → Line
whole_line s at e = record { item = item_of (take (e - at) (drop at s)); next = e + 1 }

module _ (s : List ℕ) (at : ℕ) where
  -- past the text
  pub line_past : length s ≤ at → line_at s at ≡ no_line s
  unfolding line_at
  line_past h = rw (le-ltb (end_at s at) (length s) (omega arith))

  module _ (e : ℕ) (is : e ≡ at + first_at newline (drop at s)) where
    -- without a newline
    pub line_unended : length s ≤ e → line_at s at ≡ no_line s
    unfolding line_at
    line_unended h = rw (le-ltb (end_at s at) (length s) (omega arith))

    pub line_whole : e < length s → line_at s at ≡ whole_line s at e
    unfolding line_at
    line_whole h = rw (← is, lt-ltb e (length s) h)

  -- the walk goes on, and stays within the text
  pub next_later : at < length s → at < (line_at s at).next
  unfolding line_at
  next_later h = go (ltb (end_at s at) (length s))
    where
      go : (t : Bool) → at < (if t then whole_line s at (end_at s at) else no_line s).next
      go true = omega arith
      go false = h

  pub next_within : (line_at s at).next ≤ length s
  unfolding line_at
  next_within = go (ltb (end_at s at) (length s)) (ltb_says (end_at s at) (length s))
    where
      go : (t : Bool) → Says (end_at s at < length s) t → (if t then whole_line s at (end_at s at) else no_line s).next ≤ length s
      go true h = omega arith
      go false h = omega arith

-- the lines from a place on: none, or the one that begins there and those from the next place on
items_unended : (s : List ℕ) (at : ℕ) → length s ≤ end_at s at → items_of (drop at s) ≡ []
unfolding items_of lines_of ended
items_unended s at h = ap (λ (l : List (List ℕ)). map item_of (ended l)) (piece_last newline s at (end_at s at) refl h)

items_whole : (s : List ℕ) (at : ℕ) → end_at s at < length s → items_of (drop at s) ≡ item_of (take (end_at s at - at) (drop at s)) ∷ items_of (drop (end_at s at + 1) s)
unfolding items_of lines_of ended
items_whole s at h =
    let p = take (end_at s at - at) (drop at s) in
    let t = split_some newline (drop (end_at s at + 1) s) in
    let g : map item_of (ended (p ∷ t.0 ∷ t.1)) ≡ item_of p ∷ map item_of (ended (t.0 ∷ t.1)) = refl in
    ap (λ (l : List (List ℕ)). map item_of (ended l)) (piece_more newline s at (end_at s at) refl h ∙ ap (λ (l : List (List ℕ)). p ∷ l) t.2)
    ∙ g
    ∙ ap (λ (l : List (List ℕ)). item_of p ∷ map item_of (ended l)) (sym t.2)

pub items_none : (s : List ℕ) (at : ℕ) → length s ≤ at → items_of (drop at s) ≡ []
items_none s at h = items_unended s at (omega arith)

-- what is gathered from the items of a text is gathered line by line: `by` says what one item gives, none for no line of the form
module _ {A : Type 0} (by : ℕ → Option Item → List A) (all : ℕ → List (Option Item) → List A) (from_none : (n : ℕ) → all n [] ≡ [])
    (from_more : (n : ℕ) (x : Option Item) (l : List (Option Item)) → all n (x ∷ l) ≡ by n x ++ all (n + 1) l) (other : (n : ℕ) → by n None ≡ []) where
  pub walk : (s : List ℕ) (at n : ℕ) → all n (items_of (drop at s)) ≡ by n (line_at s at).item ++ all (n + 1) (items_of (drop (line_at s at).next s))
  unfolding line_at
  walk s at n = go (ltb (end_at s at) (length s)) (ltb_says (end_at s at) (length s))
    where
      go : (t : Bool) → Says (end_at s at < length s) t
          → all n (items_of (drop at s)) ≡ by n (if t then whole_line s at (end_at s at) else no_line s).item ++ all (n + 1) (items_of (drop (if t then whole_line s at (end_at s at) else no_line s).next s))
      go true h = ap (all n) (items_whole s at h) ∙ from_more n (item_of (take (end_at s at - at) (drop at s))) (items_of (drop (end_at s at + 1) s))
      go false h =
          ap (all n) (items_unended s at (omega arith)) ∙ from_none n
          ∙ sym (rw (other n, items_none s (length s) (omega arith)) (from_none (n + 1)))

pub rows_walk : (s : List ℕ) (at : ℕ) → rows_in (items_of (drop at s)) ≡ row_by (line_at s at).item ++ rows_in (items_of (drop (line_at s at).next s))
unfolding rows_in
rows_walk s at = walk (λ n x. row_by x) (λ n l. rows_in l) (λ n. refl) (λ n x l. refl) (λ n. refl) s at 0

pub row_lines_walk : (s : List ℕ) (at n : ℕ) → row_lines_in n (items_of (drop at s)) ≡ row_line_by n (line_at s at).item ++ row_lines_in (n + 1) (items_of (drop (line_at s at).next s))
unfolding row_lines_in
row_lines_walk s at n = walk row_line_by row_lines_in (λ n. refl) (λ n x l. refl) (λ n. refl) s at n

-- the arrive lines and until, in turn: from a place on, the one there (if it is one) and those from the next place on
pub turns_walk : (s : List ℕ) (at n : ℕ) → turns_in n (items_of (drop at s)) ≡ turn_by n (line_at s at).item ++ turns_in (n + 1) (items_of (drop (line_at s at).next s))
unfolding turns_in
turns_walk s at n = walk turn_by turns_in (λ n. refl) (λ n x l. refl) (λ n. refl) s at n

pub processors_first : (s : List ℕ) → processors_in (items_of s) ≡ processors_by (line_at s 0).item
unfolding line_at
processors_first s = go (ltb (end_at s 0) (length s)) (ltb_says (end_at s 0) (length s))
  where
    go : (t : Bool) → Says (end_at s 0 < length s) t → processors_in (items_of s) ≡ processors_by (if t then whole_line s 0 (end_at s 0) else no_line s).item
    go true h = ap processors_in (items_whole s 0 h)
    go false h = ap processors_in (items_unended s 0 (omega arith))

-- the text line of a row, along the walk
module _ (s : List ℕ) (at n : ℕ) where
  pub row_line_here : is_task (line_at s at).item ≡ true → get_or (row_lines_in n (items_of (drop at s))) 0 0 ≡ n
  row_line_here e = ap (λ (l : List ℕ). get_or l 0 0) (row_lines_walk s at n) ∙ rw e

  pub row_line_on : (k : ℕ) → is_task (line_at s at).item ≡ true → (k ≡ 0 → ⊥)
      → get_or (row_lines_in n (items_of (drop at s))) k 0 ≡ get_or (row_lines_in (n + 1) (items_of (drop (line_at s at).next s))) (k - 1) 0
  row_line_on zero e h = absurd (h refl)
  row_line_on (suc k) e h =
      let f : k ≡ suc k - 1 = omega arith in
      let r = row_lines_in (n + 1) (items_of (drop (line_at s at).next s)) in
      let g : get_or (row_line_by n (line_at s at).item ++ r) (suc k) 0 ≡ get_or r k 0 = rw e in
      ap (λ (l : List ℕ). get_or l (suc k) 0) (row_lines_walk s at n) ∙ g ∙ ap (λ (i : ℕ). get_or r i 0) f

  pub row_line_skip : (k : ℕ) → is_task (line_at s at).item ≡ false
      → get_or (row_lines_in n (items_of (drop at s))) k 0 ≡ get_or (row_lines_in (n + 1) (items_of (drop (line_at s at).next s))) k 0
  row_line_skip k e = ap (λ (l : List ℕ). get_or l k 0) (row_lines_walk s at n) ∙ rw e

  pub row_line_end : (k : ℕ) → length s ≤ at → get_or (row_lines_in n (items_of (drop at s))) k 0 ≡ 0
  unfolding row_lines_in
  row_line_end k h = ap (λ (l : List (Option Item)). get_or (row_lines_in n l) k 0) (items_none s at h)

pub row_line_zero : (s : List ℕ) (row : ℕ) → row ≡ 0 → 0 ≡ row_line_of s row
unfolding row_line_of
row_line_zero s row e = rw e

pub row_line_start : (s : List ℕ) (row : ℕ) → (row ≡ 0 → ⊥) → get_or (row_lines_in 1 (items_of s)) (row - 1) 0 ≡ row_line_of s row
unfolding row_line_of
row_line_start s zero h = absurd (h refl)
row_line_start s (suc k) h = let f : suc k - 1 ≡ k = omega arith in ap (λ (i : ℕ). get_or (row_lines_in 1 (items_of s)) i 0) f

pub rows_walk_by : (s : List ℕ) (at : ℕ) (x : Line) → x ≡ line_at s at → rows_in (items_of (drop at s)) ≡ row_by x.item ++ rows_in (items_of (drop x.next s))
rows_walk_by s at x e = subst (λ (y : Line). rows_in (items_of (drop at s)) ≡ row_by y.item ++ rows_in (items_of (drop y.next s))) (sym e) (rows_walk s at)

pub rows_end : (s : List ℕ) (at : ℕ) → length s ≤ at → rows_in (items_of (drop at s)) ≡ []
unfolding rows_in
rows_end s at h = ap rows_in (items_none s at h)
