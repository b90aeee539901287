use Prim.Native.Nat.{◌+◌, ◌-◌, ◌*◌}
use mathlib.Core.List.{[], List}
use mathlib.Core.Path.{◌≡◌, refl, sym, ap, ◌∙◌}
use native.Mathlib.Omega.{arith}
use lib.Seq.{take-nil}
use lib.ListN.{length, drop, take}
use Rattle.ground.specs.Bytes.{pasted}
use Rattle.ground.proofs.Bytes.{paste_none}
use Rattle.rules.specs.Table.{Row, table_bytes}
use Rattle.text.specs.Meaning.{items_of, line_at, row_by, rows_in, table_of}
use Rattle.text.specs.declared.Line.{Line}
use Rattle.text.proofs.Walks.{next_later, next_within, rows_walk_by, rows_end}
use Rattle.text.proofs.Pastes.{rows_turn}
use Rattle.text.proofs.table.Goals as goal

pub loop-at-init : goal.loop-at-init
unfolding table_of
loop-at-init c = (omega arith, omega arith, refl, refl, omega arith)

pub loop-at-smaller : goal.loop-at-smaller
loop-at-smaller c =
    let k = c.loop-at in
    let s = c.args.s.now in
    let nx : c.line_at-line.result.next ≡ (line_at s k.at).next = ap (λ (x : Line). x.next) c.line_at-line.ensures.is in
    omega (arith, next_later s k.at c.loop-at-test.true)

pub loop-at-preserved : goal.loop-at-preserved
loop-at-preserved c =
    let k = c.loop-at in
    let s = c.args.s.now in
    let x = c.line_at-line.result in
    let nx : x.next ≡ (line_at s k.at).next = ap (λ (y : Line). y.next) c.line_at-line.ensures.is in
    let w = rows_walk_by s k.at x c.line_at-line.ensures.is in
    let rest = rows_in (items_of (drop x.next s)) in
    let r = rows_turn k.out c.put_item-k.new.out k.k c.put_item-k.result (row_by x.item) rest k.invariant.1 (omega arith) c.put_item-k.ensures.is in
    let at = ap (λ (rs : List Row). pasted k.out (12 * k.k) (table_bytes (take (129 - k.k) rs))) w in
    let len = ap (λ (rs : List Row). 12 * k.k + length (table_bytes (take (129 - k.k) rs))) w in
    (omega (arith, next_within s k.at), r.0, r.1 ∙ k.invariant.2, sym r.2 ∙ sym at ∙ k.invariant.3, sym r.3 ∙ sym len ∙ k.invariant.4)

pub returns-clause-is : goal.returns-clause-is
unfolding table_bytes
returns-clause-is c =
    let k = c.loop-at in
    let s = c.args.s.now in
    let e : take (129 - k.k) (rows_in (items_of (drop k.at s))) ≡ [] = ap (take (129 - k.k)) (rows_end s k.at c.loop-at-test.false) ∙ take-nil (129 - k.k) in
    let z = ap (λ (rs : List Row). pasted k.out (12 * k.k) (table_bytes rs)) e ∙ paste_none k.out (12 * k.k) in
    let n : length (table_bytes (take (129 - k.k) (rows_in (items_of (drop k.at s))))) ≡ 0 = ap (λ (rs : List Row). length (table_bytes rs)) e in
    (sym z ∙ k.invariant.3, omega (arith, k.invariant.4))
