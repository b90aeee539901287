use Prim.Native.Nat.{ℕ, ◌+◌}
use mathlib.Core.List.{[], ◌∷◌, ◌++◌}
use mathlib.Core.Path.{ap, ◌∙◌}
use native.Mathlib.Omega.{arith}
use lib.ListN.{take, drop, length-append}
use Rattle.ground.specs.Bytes.{number}
use Rattle.rules.specs.Record.{slots_from}
use Rattle.print.specs.Printed.{spaced}
use Rattle.print.specs.Decimals.{decimal_of}
use Rattle.text.specs.Parts.{newline, space}
use Rattle.text.proofs.Puts.{put_as}
use Rattle.print.proofs.Pens.{writes_then}
use Rattle.print.proofs.Records.{decimal_most, record_line_lem}
use Rattle.print.proofs.Pen.line.Goals as goal

pub decimal-requires : goal.decimal-requires
decimal-requires c = record { room = omega (arith, decimal_most c.get-from.result) }

pub spaced-requires : goal.spaced-requires
spaced-requires c = record { room = omega (arith, decimal_most c.get-from.result, decimal_most c.get-to.result) }

pub slots-requires : goal.slots-requires
slots-requires c = record { room = (c.requires.room.0, omega arith, omega (arith, decimal_most c.get-from.result, decimal_most c.get-to.result)) }

pub byte-requires : goal.byte-requires
byte-requires c = record { room = omega (arith, decimal_most c.get-from.result, decimal_most c.get-to.result) }

pub returns-clause-is : goal.returns-clause-is
returns-clause-is c =
    let a = c.args in
    let p = a.self.now in
    let r = a.room.now in
    let d = decimal_of c.get-from.result in
    let e = space ∷ decimal_of c.get-to.result in
    let s = spaced (take a.m (slots_from 16 (drop (a.place + 16) r))) in
    let n1 = length-append d e in
    let n2 = length-append (d ++ e) s in
    let m1 = decimal_most c.get-from.result in
    let m2 = decimal_most c.get-to.result in
    let two = writes_then p c.decimal.new.self c.spaced.new.self d e (omega arith) c.decimal.ensures.is c.spaced.ensures.is in
    let three = writes_then p c.spaced.new.self c.slots.new.self (d ++ e) s (omega arith) two c.slots.ensures.is.0 in
    let all = writes_then p c.slots.new.self c.byte.new.self (d ++ e ++ s) (newline ∷ []) (omega arith) three c.byte.ensures.is in
    let g =
    ap (λ (z : ℕ). decimal_of z ++ e ++ s ++ (newline ∷ [])) c.get-from.ensures.is.0
    ∙ ap (λ (z : ℕ). decimal_of (number (take 8 (drop a.place r))) ++ (space ∷ decimal_of z) ++ s ++ (newline ∷ [])) c.get-to.ensures.is.0
    ∙ record_line_lem a.m a.place r in
    (put_as p.out.now c.byte.new.self.out.now p.at c.byte.new.self.at _ _ g all, omega arith)
