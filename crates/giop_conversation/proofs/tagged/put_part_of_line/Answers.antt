use Rattle.giop_conversation.proofs.TaggedLemmas.{put_line_ok, put_line_err}
use Rattle.giop_conversation.proofs.tagged.put_part_of_line.Goals as goal

pub returns-in-Ok-clause-does : goal.returns-in-Ok-clause-does
returns-in-Ok-clause-does g c =
    let size = c.first_line_size-size.ensures.value in
    put_line_ok _ _ _ c.args.octets.now _ _ _ _ _ c.requires.none c.requires.some
    (rw size at c.first_line_size-size.ensures.within)
    (rw size at (c.first_line_size-size.ensures.some c.requires.some))
    (rw size at c.in-Ok.ensures.does) c.tag_due_after.ensures

pub returns-in-Err-clause-does : goal.returns-in-Err-clause-does
returns-in-Err-clause-does g c = put_line_err _ _ _ _ _ _ c.requires.none c.in-Err.ensures.does
