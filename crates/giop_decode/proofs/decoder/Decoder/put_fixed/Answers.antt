use Rattle.giop_decode.proofs.StoredFields.{fields_written}
use Rattle.giop_decode.proofs.decoder.Decoder.put_fixed.Goals as goal

pub returns-clause-put : goal.returns-clause-put
returns-clause-put c =
    fields_written c.args.self.now c.args.leaf c.as_slice.result.now c.as_slice-2.result.now
    c.args.out.now.items c.push.new.self.items c.push-2.new.self.items c.put_eight.new.out.items
    c.push-3.new.self.items
    c.put_leaf.new.out.items c.put_held.new.out.items c.put_held-2.new.out.items
    c.put_notes.new.out.items c.push-4.new.self.items
    c.as_slice.ensures.value c.as_slice-2.ensures.value c.requires (cc) (cc)
    (rw c.message.ensures at c.put_eight.ensures.put)
    c.push-3.ensures.items
    c.put_leaf.ensures.put c.put_held.ensures.put c.put_held-2.ensures.put c.put_notes.ensures.put
    (rw c.saved_forbids_wide.ensures at c.push-4.ensures.items)
