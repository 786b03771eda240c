use Rattle.std.proofs.Common.{Some, ap, sym, ◌∙◌}
use Rattle.giop_decode.specs.Transitions.{within_of}
use Rattle.giop_decode.proofs.StoredFields.{fields_stand}
use Rattle.giop_decode.proofs.restored.unchecked_decoder.Goals as goal

pub returns : goal.returns
returns c d h =
    let f = fields_stand d h.leaf c.args.fixed.now h.fixed_are h.range in
    record {
      order = c.order_at.ensures d.order _ f.order.1;
      head = rw (
        c.eight_at.ensures d.head.message _ h.range.message f.message.1,
        c.root_at-root.ensures d.head.root _ f.root.1,
      ) at c.new.ensures;
      at = c.octet_at.ensures d.at _ f.at.1;
      forbids_wide = c.forbids_wide_at.ensures d.forbids_wide _ f.forbids_wide.1;
      leaf = ap Some (c.leaf_at.ensures h.leaf _ h.leaf_range f.leaf.1) ∙ sym h.goes_on;
      outer = c.outer_at-outer.ensures d.outer.items _ h.outer_range h.few h.frames_are;
      inside = c.within_of-inside.ensures ∙ ap within_of c.as_slice.ensures.value;
      carry = c.carry_of.ensures ∙ c.as_slice-2.ensures.value
          ∙ c.held_at-carry.ensures d.carry _ h.range.carry f.carry.1;
      piece = c.held_at.ensures d.piece.items _ h.range.piece f.piece.1;
      notes = c.notes_at.ensures d.notes _ h.range.notes f.notes.1;
    }
