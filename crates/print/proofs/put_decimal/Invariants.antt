use mathlib.Core.Path.{◌≡◌}
use lib.ListN.{length}
use Rattle.ground.specs.Bytes.{pasted}
use Rattle.print.specs.Decimals.{decimal_of}
use Rattle.print.proofs.Decimals.{low}
use Rattle.print.proofs.put_decimal.Given as goal

abbrev pub invariant-loop-i : goal.invariant-loop-i
invariant-loop-i l =
    record {
      size : length l.out ≡ length l.initial.out;
      count : l.n ≡ length (decimal_of l.x);
      rest : pasted l.out l.at (low l.i l.y) ≡ pasted l.initial.out l.at (decimal_of l.x);
    }
