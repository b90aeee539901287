-- The chunks from the first on are the output of the text
use Rattle.std.specs.Prelude.{if◌then◌else◌}
use mathlib.Core.Path.{◌≡◌, refl, sym, ◌∙◌, ap, subst}
use mathlib.Core.Bool.{Bool, true, false}
use mathlib.Core.List.{List, [], ◌++◌}
use Prim.Native.Nat.{ℕ, zero, suc, ◌≤◌}
use native.Mathlib.Omega.{arith}
use lib.ListN.{length, replicate, length-replicate}
use Rattle.rules.proofs.Keeping.{not_both}
use Rattle.text.specs.Puts.{Put}
use Rattle.text.proofs.Puts.{put_part}
use Rattle.output.specs.Output.{printed, output_of}
use Rattle.output.proofs.Cutting.{text_cut}
use Rattle.output.proofs.Printing.{printed_append}
use Rattle.course.specs.declared.Stage.{Stage}
use Rattle.course.specs.declared.Stage.TheVariants.{Start, Lines, Ended}
use Rattle.course.specs.declared.Cursor.{Cursor}
use Rattle.course.specs.declared.Turned.{Turned}
use Rattle.course.specs.Turns.{first_cursor, is_ended, turn_of, turn_room}
use Rattle.course.specs.Moves.{Moves, left_by, left}
use Rattle.course.specs.Owed.{entries_of, owes_by, owes, Made}
use Rattle.course.proofs.Owing.{Owed, turn_owes}
use Rattle.course.proofs.Making.{made_falls, ended_stays}
use Rattle.listing.specs.Listing.{space, PartFits, part_lines, cursor_of, chunk_of, owed, Pays, chunks, looped, Program}
use Rattle.listing.proofs.Parts.{part_printed, moves_fit}

-- a turn with room for 474 records
turn_paid : (text : List ℕ) (c : Cursor) → Made text c → (chunk_of text c ++ owed text (cursor_of text c) ≡ owed text c) × Made text (cursor_of text c)
unfolding chunk_of cursor_of
turn_paid text c M =
    let room = replicate {A = ℕ} space 0 in
    let n : length room ≡ space = length-replicate {A = ℕ} space 0 in
    let O : Owed text (turn_room text c room) (turn_of text c space) (owes text c) = subst (λ (k : ℕ). Owed text (turn_room text c room) (turn_of text c k) (owes text c)) n (turn_owes text c room M (omega (arith, n))) in
    let t = turn_of text c space in (
      ap (λ (l : List ℕ). l ++ printed (owes text t.cursor)) (part_printed t.part (turn_room text c room))
          ∙ sym (printed_append (entries_of t.part (turn_room text c room)) (owes text t.cursor))
          ∙ ap printed O.entries,
      O.made,
    )

pub pays : (text : List ℕ) (c c' : Cursor) (len : ℕ) (l out : List ℕ) → c' ≡ cursor_of text c → Put l 0 (chunk_of text c) out len → Pays text c c' len out
pays text c c' len l out e p M =
    let q = turn_paid text c M in
    let f = put_part l (chunk_of text c) out len p in
    (ap (λ (b : List ℕ). b ++ owed text c') f ∙ ap (λ (k : Cursor). chunk_of text c ++ owed text k) e ∙ q.0, subst (Made text) (sym e) q.1)

-- nothing is left only at the end
none_owed : (stage : Stage) (text : List ℕ) (c : Cursor) → left_by stage (length text) c.at c.state.now.0 ≤ 0 → owes_by stage text c ≡ []
none_owed Start text c h = absurd (omega (arith, h))
none_owed Lines text c h = absurd (omega (arith, h))
none_owed Ended text c h = refl

none_left : (text : List ℕ) (c : Cursor) → left text c ≤ 0 → owed text c ≡ []
unfolding left owes printed
none_left text c h = ap printed (none_owed c.stage text c h)

less : (text : List ℕ) (c : Cursor) (n : ℕ) → Made text c → left text c ≤ suc n → left text (cursor_of text c) ≤ n
unfolding cursor_of
less text c n M h = go (is_ended c.stage) refl
  where
    go : (b : Bool) → is_ended c.stage ≡ b → left text (turn_of text c space).cursor ≤ n
    go false e = omega (arith, h, made_falls text c space M e)
    go true e = omega (arith, ended_stays text c space e)

all_chunks : (n : ℕ) (text : List ℕ) (c : Cursor) → Made text c → left text c ≤ n → chunks n text c ≡ owed text c
unfolding chunks
all_chunks zero text c M h = sym (none_left text c h)
all_chunks (suc n) text c M h =
    let q = turn_paid text c M in
    ap (λ (l : List ℕ). chunk_of text c ++ l) (all_chunks n text (cursor_of text c) q.1 (less text c n M h)) ∙ q.0

-- at the end nothing is owed
pub ended_owes : (text : List ℕ) (c : Cursor) → is_ended c.stage ≡ true → owed text c ≡ []
unfolding owes printed
ended_owes text c e = ap printed (go c.stage e)
  where
    go : (stage : Stage) → is_ended stage ≡ true → owes_by stage text c ≡ []
    go Start f = not_both _ f
    go Lines f = not_both _ f
    go Ended f = refl

all_looped : (n : ℕ) (text : List ℕ) (c : Cursor) → Made text c → left text c ≤ n → looped n text c ≡ owed text c
unfolding looped
all_looped zero text c M h = sym (none_left text c h)
all_looped (suc n) text c M h =
    let q = turn_paid text c M in
    go (is_ended c.stage) refl (ap (λ (l : List ℕ). chunk_of text c ++ l) (all_looped n text (cursor_of text c) q.1 (less text c n M h)) ∙ q.0)
  where
    go : (b : Bool) → is_ended c.stage ≡ b → chunk_of text c ++ looped n text (cursor_of text c) ≡ owed text c → (if b then [] else chunk_of text c ++ looped n text (cursor_of text c)) ≡ owed text c
    go true e f = sym (ended_owes text c e)
    go false e f = f

first_owes : (text : List ℕ) → owed text first_cursor ≡ output_of text
unfolding owes output_of
first_owes text = refl

pub program : Program
program = record {
  first = first_owes;
  all = λ text n h. all_chunks n text first_cursor tt h ∙ first_owes text;
  loop = λ text n h. all_looped n text first_cursor tt h ∙ first_owes text;
  cut = text_cut;
}

-- WHAT THE CODE HANDS BACK
abbrev zeros : List ℕ
zeros = replicate space 0

pub turn_cursor : (text : List ℕ) (c : Cursor) (r : Turned) → r ≡ turn_of text c (length zeros) → r.cursor ≡ cursor_of text c
unfolding cursor_of
turn_cursor text c r e = ap (λ (t : Turned). t.cursor) e ∙ ap (λ (n : ℕ). (turn_of text c n).cursor) (length-replicate {A = ℕ} space 0)

pub turn_chunk : (text : List ℕ) (c : Cursor) (r : Turned) (room : List ℕ) → r ≡ turn_of text c (length zeros) → room ≡ turn_room text c zeros → part_lines r.part room ≡ chunk_of text c
unfolding chunk_of
turn_chunk text c r room e f =
    ap (λ (t : Turned). part_lines t.part room) e
    ∙ ap (λ (n : ℕ). part_lines (turn_of text c n).part room) (length-replicate {A = ℕ} space 0)
    ∙ ap (λ (l : List ℕ). part_lines (turn_of text c space).part l) f

pub turn_fits : (c : Cursor) (r : Turned) → Moves c r (length zeros) → PartFits r.part
turn_fits c r h = moves_fit r.part c.state.now.0 r.cursor.state.now.0 (subst (λ (n : ℕ). Moves c r n) (length-replicate {A = ℕ} space 0) h)
