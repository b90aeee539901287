use Rattle.std.proofs.Common.{rules}
use mathlib.Core.Path.{◌∙◌}
use mathlib.Core.List.{[], ◌∷◌, ◌++◌}
use native.Mathlib.Omega.{arith}
use lib.ListN.{length-append}
use Rattle.print.specs.Printed.{scale_word}
use Rattle.print.specs.Decimals.{decimal_of}
use Rattle.text.specs.Parts.{newline}
use Rattle.text.proofs.Puts.{put_then}
use Rattle.print.proofs.Records.{decimal_most}
use Rattle.print.proofs.put_scale.Goals as goal

pub decimal-requires : goal.decimal-requires
decimal-requires c = record { room = omega (arith, decimal_most c.args.scale) }

pub byte-requires : goal.byte-requires
byte-requires c = record { room = omega (arith, decimal_most c.args.scale) }

pub returns-clause-is : goal.returns-clause-is
returns-clause-is c =
    let l = c.args.out.now in
    let d = decimal_of c.args.scale in
    let p = put_then l c.word.new.self.out.now c.decimal.new.self.out.now 0 c.word.new.self.at c.decimal.new.self.at scale_word d (omega arith) c.word.ensures.is c.decimal.ensures.is in
    let q = put_then l c.decimal.new.self.out.now c.byte.new.self.out.now 0 c.decimal.new.self.at c.byte.new.self.at (scale_word ++ d) (newline ∷ []) (omega (arith, length-append scale_word d, decimal_most c.args.scale)) p c.byte.ensures.is in
    let name = c.byte.ensures.same.out ∙ c.decimal.ensures.same.out ∙ c.word.ensures.same.out in
    (search (rules, q.0, name), q.1)
