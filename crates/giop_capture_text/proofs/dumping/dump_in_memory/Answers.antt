-- Nothing was written before. So what was put is the text, and the writer has all of it.
use Rattle.std.proofs.Common.{[], Some, refl, ap, ◌∙◌}
use Rattle.giop_capture_text.specs.Dumps.{plain_setup}
use Rattle.giop_capture_text.proofs.Known.{at_every_port, front, held}
use Rattle.giop_capture_text.proofs.dumping.dump_in_memory.Goals as goal

pub returns-in-Ok-from_slice : goal.returns-in-Ok-from_slice
returns-in-Ok-from_slice c =
    let d = c.in-Ok-perform_capture.ensures.dumped in
    let h = at_every_port c.new.result.items d.read _ _ c.new.ensures
    (d.text plain_setup [] (refl, refl)) in
    let f = front _ d.left c.args.capture.now d.octets d.read d.rest refl d.given d.parts d.over in
    let all = held _ _ _ _ h.text c.writer.ensures c.in-Ok-perform_capture.ensures.flushed in
    record {
      read = d.read;
      rest = f.rest;
      parts = f.parts;
      over = f.over;
      faulty = d.faulty;
      ends = d.ends;
      is = record {
        dump = h.dump;
        leads = h.leads;
        is_faulty = h.is_faulty;
        text = ap Some (c.in-Ok-from_slice.ensures.items ∙ c.as_slice.ensures.value) ∙ all;
      };
    }
