-- The lines of a part are the lines of its entries
use Rattle.std.specs.Prelude.{Option, Some, None, Err}
use mathlib.Core.Path.{◌≡◌, refl, sym, ◌∙◌, ap}
use mathlib.Core.List.{List, [], ◌∷◌, ◌++◌, map}
use Prim.Native.Nat.{ℕ, zero, suc, ◌+◌, ◌*◌}
use native.Mathlib.Omega.{arith}
use lib.ListN.{take, drop}
use lib.Seq.{take-take, take-nil}
use Rattle.ground.specs.Bytes.{number}
use Rattle.rules.specs.Record.{Record, slots_from, read_record}
use Rattle.demands.specs.Demands.{read_records}
use Rattle.print.specs.Printed.{record_line, record_lines}
use Rattle.output.specs.Course.{scale_entry, record_entry, refused_entry}
use Rattle.output.specs.Output.{printed}
use Rattle.output.proofs.Printing.{printed_one}
use Rattle.course.specs.declared.Part.{Part}
use Rattle.course.specs.declared.Part.TheVariants.{Scale, Records, Refused}
use Rattle.course.specs.Owed.{entries_of}
use Rattle.course.specs.Moves.{MovesBy}
use Rattle.listing.specs.Listing.{space, PartFits, part_lines}

-- a record is read off 48 bytes, whatever follows them
drop_take : (k n : ℕ) (l : List ℕ) → drop k (take (k + n) l) ≡ take n (drop k l)
drop_take zero n l = let e : 0 + n ≡ n = omega arith in ap (λ (j : ℕ). take j l) e
drop_take (suc k) n [] = let e : suc k + n ≡ suc (k + n) = omega arith in ap (λ (j : ℕ). drop (suc k) (take {A = ℕ} j [])) e ∙ sym (take-nil n)
drop_take (suc k) n (x ∷ l) = let e : suc k + n ≡ suc (k + n) = omega arith in ap (λ (j : ℕ). drop (suc k) (take j (x ∷ l))) e ∙ drop_take k n l

slots_take : (n : ℕ) (l : List ℕ) → slots_from n (take (2 * n) l) ≡ slots_from n l
unfolding slots_from
slots_take zero l = refl
slots_take (suc n) l =
    let e : 2 * suc n ≡ 2 + 2 * n = omega arith in
    ap (λ (j : ℕ). slots_from (suc n) (take j l)) e
    ∙ ap (λ (b : List ℕ). number b ∷ slots_from n (drop 2 (take (2 + 2 * n) l))) (take-take 2 (2 + 2 * n) l (omega arith))
    ∙ ap (λ (b : List ℕ). number (take 2 l) ∷ slots_from n b) (drop_take 2 (2 * n) l)
    ∙ ap (λ (s : List ℕ). number (take 2 l) ∷ s) (slots_take n (drop 2 l))

record_take : (l : List ℕ) → read_record (take 48 l) ≡ read_record l
unfolding read_record
record_take l =
    let made : List ℕ → List ℕ → List ℕ → Record = λ a b c. record { from = number a; to = number b; slots = c } in
    ap (λ (a : List ℕ). made a (take 8 (drop 8 (take 48 l))) (slots_from 16 (drop 16 (take 48 l)))) (take-take 8 48 l (omega arith))
    ∙ ap (λ (b : List ℕ). made (take 8 l) b (slots_from 16 (drop 16 (take 48 l)))) (ap (take 8) (drop_take 8 40 l) ∙ take-take 8 40 (drop 8 l) (omega arith))
    ∙ ap (λ (c : List ℕ). made (take 8 l) (take 8 (drop 8 l)) c) (ap (slots_from 16) (drop_take 16 32 l) ∙ slots_take 16 (drop 16 l))

records_printed : (m k : ℕ) (room : List ℕ) → record_lines m k room ≡ printed (map (record_entry m) (read_records k room))
unfolding record_lines read_records printed
records_printed m zero room = refl
records_printed m (suc k) room =
    ap (λ (r : Record). record_line m r ++ record_lines m k (drop 48 room)) (sym (record_take room))
    ∙ ap (λ (l : List ℕ). record_line m (read_record (take 48 room)) ++ l) (records_printed m k (drop 48 room))

pub part_printed : (p : Option Part) (room : List ℕ) → part_lines p room ≡ printed (entries_of p room)
unfolding printed
part_printed (Some (Scale scale)) room = sym (printed_one (scale_entry scale))
part_printed (Some (Records k m)) room = records_printed m k room
part_printed (Some (Refused refusal line)) room = sym (printed_one (refused_entry (Err refusal) line))
part_printed None room = refl

pub moves_fit : (p : Option Part) (before after : ℕ) → MovesBy p before after space → PartFits p
moves_fit (Some (Records k m)) before after h = (h.0, h.1)
moves_fit (Some (Scale scale)) before after h = tt
moves_fit (Some (Refused refusal line)) before after h = tt
moves_fit None before after h = tt
