use Rattle.std.proofs.Common.{◌++◌}
use Rattle.giop_print.proofs.Writing.{front-append}
use Rattle.giop_conversation.specs.TaggedState.{tagging_log}
use Rattle.giop_conversation.specs.Stamped.{due_time_line, due_answers_line, due_raises_line}
use Rattle.giop_conversation.proofs.StreamReadLemmas.{writes_both}
use Rattle.giop_conversation.proofs.direction.write_all_due.Goals as goal

pub returns-in-Ok-clause-text : goal.returns-in-Ok-clause-text
returns-in-Ok-clause-text g c =
    let s = c.args.exchange.now in
    writes_both c.write_reply.result (tagging_log c.args.out.now)
    (tagging_log c.write_time.new.out) (tagging_log c.write_reply.new.out)
    (due_time_line c.args.begun c.args.arrival.now)
    (due_answers_line s.answered c.args.arrival.now.time ++ due_raises_line s.raised)
    c.in-Ok.ensures.text
    (rw c.in-Ok.ensures.kept at c.write_reply.ensures)

pub returns-in-Err-clause-text : goal.returns-in-Err-clause-text
returns-in-Err-clause-text g c =
    let s = c.args.exchange.now in
    front-append (tagging_log c.args.out.now) (tagging_log c.write_time.new.out)
    (due_time_line c.args.begun c.args.arrival.now)
    (due_answers_line s.answered c.args.arrival.now.time ++ due_raises_line s.raised)
    c.in-Err.ensures.text
