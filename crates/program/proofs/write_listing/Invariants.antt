use Rattle.std.proofs.Common.{◌≡◌, ℕ, List, ◌++◌}
use Rattle.std.specs.Io.KnownBytes.{Appends}
use Rattle.output.specs.Output.{output_of}
use Rattle.course.specs.Moves.{left}
use Rattle.course.specs.Owed.{Made}
use Rattle.listing.specs.Listing.{owed}
use Rattle.program.proofs.write_listing.Given as goal

-- what was written, followed by what the cursor owes, is the output
abbrev pub invariant-loop-out : goal.invariant-loop-out
invariant-loop-out g l = Made l.text l.c × (done : List ℕ)
    × Appends (g.W.Write.contents l.fn.to) (g.W.Write.contents l.to) done
    × (done ++ owed l.text l.c ≡ output_of l.text)

abbrev pub decreases-loop-out : goal.decreases-loop-out
decreases-loop-out g l = left l.text l.c
