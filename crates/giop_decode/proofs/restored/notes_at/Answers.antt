use Rattle.giop_decode.proofs.StoredFields.{memory_stands, kept_short}
use Rattle.giop_decode.proofs.restored.notes_at.Goals as goal

pub returns : goal.returns
returns c notes rest range is =
    let m = memory_stands notes c.args.at c.args.octets.now rest range.name is in
    record {
      request_id = c.optional_at.ensures notes.request_id _ range.request_id m.request_id.1;
      last = c.last_at.ensures notes.last _ range.last m.last.1;
      expects_reply = c.expects_at.ensures notes.expects_reply _ m.expects_reply.1;
      buffer = c.buffer_at.ensures notes.buffer _ m.buffer.1;
      name = c.held_at.ensures _ _ (kept_short notes.buffer notes.name.items range.name) m.name.1;
    }
