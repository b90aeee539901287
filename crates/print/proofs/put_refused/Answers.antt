use Rattle.std.proofs.Common.{rules}
use mathlib.Core.Path.{◌∙◌}
use mathlib.Core.List.{[], ◌∷◌, ◌++◌}
use native.Mathlib.Omega.{arith}
use lib.ListN.{length-append}
use Rattle.print.specs.Printed.{refused_word}
use Rattle.print.specs.Decimals.{decimal_of}
use Rattle.text.specs.Parts.{newline, space}
use Rattle.text.proofs.Puts.{put_then}
use Rattle.print.proofs.Records.{decimal_most}
use Rattle.print.proofs.put_refused.Goals as goal

pub decimal-requires : goal.decimal-requires
decimal-requires c = record { room = omega (arith, decimal_most c.args.number) }

pub spaced-requires : goal.spaced-requires
spaced-requires c = record { room = omega (arith, decimal_most c.args.number, decimal_most c.args.line) }

pub byte-requires : goal.byte-requires
byte-requires c = record { room = omega (arith, decimal_most c.args.number, decimal_most c.args.line) }

pub returns-clause-is : goal.returns-clause-is
returns-clause-is c =
    let l = c.args.out.now in
    let d = decimal_of c.args.number in
    let e = space ∷ decimal_of c.args.line in
    let n1 = length-append refused_word d in
    let n2 = length-append (refused_word ++ d) e in
    let m1 = decimal_most c.args.number in
    let m2 = decimal_most c.args.line in
    let two = put_then l c.word.new.self.out.now c.decimal.new.self.out.now 0 c.word.new.self.at c.decimal.new.self.at refused_word d (omega arith) c.word.ensures.is c.decimal.ensures.is in
    let three = put_then l c.decimal.new.self.out.now c.spaced.new.self.out.now 0 c.decimal.new.self.at c.spaced.new.self.at (refused_word ++ d) e (omega arith) two c.spaced.ensures.is in
    let all = put_then l c.spaced.new.self.out.now c.byte.new.self.out.now 0 c.spaced.new.self.at c.byte.new.self.at (refused_word ++ d ++ e) (newline ∷ []) (omega arith) three c.byte.ensures.is in
    let name = c.byte.ensures.same.out ∙ c.spaced.ensures.same.out ∙ c.decimal.ensures.same.out ∙ c.word.ensures.same.out in
    (search (rules, all.0, name), all.1)
