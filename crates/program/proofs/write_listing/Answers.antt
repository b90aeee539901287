use Rattle.std.proofs.Common.{[], ◌++◌, take, sym, ap, ◌∙◌, subst, append_assoc, append-nil}
use Rattle.std.specs.Io.KnownBytes.{Appends}
use Rattle.std.proofs.KnownBytes.{Appends-nil, Appends-trans}
use Rattle.course.specs.Owed.{Made}
use Rattle.listing.specs.Listing.{owed}
use Rattle.listing.proofs.Chunks.{program, ended_owes}
use Rattle.program.proofs.write_listing.Goals as goal

pub loop-out-init : goal.loop-out-init
loop-out-init g c =
    let text = c.args.text.now in
    let e = c.first-c.ensures.is in
    (subst (Made text) (sym e) tt, [], Appends-nil _, ap (owed text) e ∙ program.first text)

pub returns : goal.returns
returns g c =
    let (made, done, written, rest) = c.loop-out.invariant in
    let none = ended_owes c.args.text.now c.loop-out.c cc in
    record { is = subst (Appends _ _) (sym (append-nil done) ∙ ap (λ l. done ++ l) (sym none) ∙ rest) written }

pub loop-out-preserved : goal.loop-out-preserved
loop-out-preserved g c =
    let (made, done, written, rest) = c.loop-out.invariant in
    let (paid, made') = c.next-written.ensures.pays made in
    let bytes = take c.next-written.result.len c.next-written.new.out in
    (made', done ++ bytes, Appends-trans _ _ _ _ _ written c.in_ok-write_all.ensures.bytes, append_assoc done bytes _ ∙ ap (λ l. done ++ l) paid ∙ rest)
