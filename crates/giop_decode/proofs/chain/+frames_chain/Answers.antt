use Rattle.std.proofs.Common.{◌-◌, arith}
use Rattle.giop_decode.proofs.StoredChain.{chained_more, first_rest, frame_known, frame_there}
use Rattle.giop_decode.proofs.chain.+frames_chain.Goals as goal

pub part_in-requires-clause-index : goal.part_in-requires-clause-index
part_in-requires-clause-index t c =
    let fits = (c.is_frame_of.ensures.0 c.if-is_frame_of.true).1 in
    rw c.part_index.ensures
    (frame_there c.args.catalogue.now (c.args.room - 1) c.args.of.0 _ _ _ _ fits)

pub part_in-requires-clause-led : goal.part_in-requires-clause-led
part_in-requires-clause-led t c led =
    let fits = (c.is_frame_of.ensures.0 c.if-is_frame_of.true).1 in
    rw c.part_index.ensures
    (frame_known c.args.catalogue.now (c.args.room - 1) c.args.of.0 _ _ _ _ fits led)

pub returns-then-is_frame_of : goal.returns-then-is_frame_of
returns-then-is_frame_of t c =
    let fits = c.is_frame_of.ensures.0 c.if-is_frame_of.true in
    chained_more c.args.catalogue.now c.args.room (c.args.room - 1) c.args.of.0
    c.part_in.result.0 c.args.frames.now _ _ c.args.leaf c.frames_chain.result
    (first_rest c.args.frames.now _ c.in-len1-up.len_at_least) (omega (arith, c.requires.room))
    fits.0 fits.1
    (rw c.part_index.ensures at c.part_in.ensures.number) c.frames_chain.ensures
