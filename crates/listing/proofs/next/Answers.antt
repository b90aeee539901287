use Rattle.text.proofs.Puts.{put_as}
use Rattle.listing.proofs.Chunks.{turn_cursor, turn_chunk, pays}
use Rattle.listing.proofs.next.Goals as goal

pub returns : goal.returns
returns c =
    let a = c.args in
    let e = turn_cursor a.text.now a.c c.turn-t.result c.turn-t.ensures.is.0 in
    let p = put_as _ _ _ _ _ _ (turn_chunk a.text.now a.c c.turn-t.result _ c.turn-t.ensures.is.0 c.turn-t.ensures.is.1) c.put_part-len.ensures.is in
    record { is = (e, p); counts = c.put_part-len.ensures.counts; pays = pays a.text.now a.c _ _ _ _ e p; ends = c.turn-t.ensures.moves.1 }
