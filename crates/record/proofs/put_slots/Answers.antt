use Prim.Native.Nat.{ℕ, ◌+◌, ◌*◌, ◌≤◌, ◌<◌}
use mathlib.Core.Path.{◌≡◌, refl, sym, ap, ◌∙◌}
use mathlib.Core.List.{List, ◌++◌, append_assoc, append-nil}
use native.Mathlib.Omega.{arith}
use lib.ListN.{length, take, drop, get_or, length-append, take-append-drop}
use lib.Seq.{length-take-le}
use borrow.Author.Rules.{rules}
use Rattle.ground.specs.Bytes.{le, pasted}
use Rattle.rules.specs.Record.{slot_bytes}
use Rattle.ground.proofs.Bytes.{length_le, grown}
use Rattle.record.proofs.Slots.{length_slots, slots_more}
use Rattle.record.proofs.put_slots.Goals as goal

-- one slot more
more : (r l s : List ℕ) (k : ℕ) → length s ≡ 16 → 48 ≤ length l → k < 16 → r ≡ take 16 l ++ slot_bytes (take k s) ++ drop (16 + 2 * k) l
    → pasted r (16 + 2 * k) (le 2 (get_or s k 0)) ≡ take 16 l ++ slot_bytes (take (k + 1) s) ++ drop (16 + 2 * (k + 1)) l
more r l s k hs hl hk e =
    let p : length (take 16 l ++ slot_bytes (take k s)) ≡ 16 + 2 * k =
    omega (arith, length-append (take 16 l) (slot_bytes (take k s)), length-take-le 16 l (omega arith), length_slots (take k s), length-take-le k s (omega arith)) in
    let n : 16 + 2 * k + length (le 2 (get_or s k 0)) ≡ 16 + 2 * (k + 1) = omega (arith, length_le 2 (get_or s k 0)) in
    ap (λ (x : List ℕ). pasted x (16 + 2 * k) (le 2 (get_or s k 0))) e
    ∙ grown (take 16 l ++ slot_bytes (take k s)) (le 2 (get_or s k 0)) l (16 + 2 * k) p (omega arith)
    ∙ ap (λ (x : List ℕ). x ++ drop (16 + 2 * k + length (le 2 (get_or s k 0))) l)
    (append_assoc (take 16 l) (slot_bytes (take k s)) (le 2 (get_or s k 0)) ∙ ap (λ (x : List ℕ). take 16 l ++ x) (sym (slots_more s k (omega arith))))
    ∙ ap (λ (m : ℕ). take 16 l ++ slot_bytes (take (k + 1) s) ++ drop m l) n

pub loop-k-init : goal.loop-k-init
unfolding slot_bytes
loop-k-init c =
    let r = c.args.room.now in
    (refl, sym (ap (λ (x : List ℕ). x ++ drop 16 r) (append-nil (take 16 r)) ∙ take-append-drop 16 r))

pub loop-k-preserved : goal.loop-k-preserved
loop-k-preserved c =
    let k = c.loop-k in
    let n : length c.args.slots ≡ 16 = search rules in (
      c.put.auto.bytes ∙ k.invariant.0,
      c.put.ensures.is
          ∙ ap (λ (x : ℕ). pasted k.room (16 + 2 * k.k) (le 2 x)) c.from.ensures
          ∙ more k.room c.args.room.now c.args.slots k.k n (omega (arith, c.requires.fits)) (omega arith) k.invariant.1,
    )
