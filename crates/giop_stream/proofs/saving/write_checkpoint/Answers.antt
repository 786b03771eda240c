use Rattle.std.proofs.Common.{ℕ, List, [], ◌+◌, ◌++◌, sym, ap, ◌∙◌}
use Rattle.giop_checkpoint.specs.Layouts.{layout_of}
use Rattle.giop_checkpoint.specs.declared.fixed.Fixed.{Fixed}
use Rattle.giop_checkpoint.specs.Fixed.{fixed_octets}
use Rattle.giop_stream.specs.SlotsRepresent.{current_of}
use Rattle.giop_stream.proofs.Restored.Saved.{written_fixed, put_after, put_none_yet, whole_is, whole_own, current_is, ready_fits}
use Rattle.giop_stream.proofs.saving.write_checkpoint.Goals as goal

pub returns-in_default-clause-whole : goal.returns-in_default-clause-whole
returns-in_default-clause-whole g c =
    let C = c.args.catalogue.now in
    let before = g.O.Out.log c.args.out.now in
    let written : Fixed → List ℕ = λ f. fixed_octets (layout_of f.counts.version) f in
    let fixed = c.as_slice.ensures.value ∙ c.write.ensures.put
    ∙ ap (λ (xs : List ℕ). xs ++ written c.fixed_part.result) c.new-fixed.ensures
    ∙ ap written c.fixed_part.ensures
    ∙ written_fixed C c.args.requests.now _ in
    let begun = c.put_after-begun.ensures.put before [] (put_none_yet before) in
    let at = c.args.framing.now.totals.octets + 1 in
    let so_far = c.write_open_records-written.ensures.put C at before _ c.requires.ready.each_ready
    begun in
    record {
      octets = so_far.octets;
      is = whole_is C c.args.requests.now _ _ _
          (sym c.in_default.ensures.value) fixed so_far.is;
      puts = so_far.puts;
    }

pub returns-clause-whole : goal.returns-clause-whole
returns-clause-whole g c =
    let C = c.args.catalogue.now in
    let before = g.O.Out.log c.args.out.now in
    let written : Fixed → List ℕ = λ f. fixed_octets (layout_of f.counts.version) f in
    let fixed = c.as_slice.ensures.value ∙ c.write.ensures.put
    ∙ ap (λ (xs : List ℕ). xs ++ written c.fixed_part.result) c.new-fixed.ensures
    ∙ ap written c.fixed_part.ensures
    ∙ written_fixed C c.args.requests.now _ in
    let begun = c.put_after-begun.ensures.put before [] (put_none_yet before) in
    let at = c.args.framing.now.totals.octets + 1 in
    let so_far = c.write_open_records-written.ensures.put C at before _ c.requires.ready.each_ready
    begun in
    let m = c.in-Some.message.now in
    let one = c.write_message_record.ensures.put C
    (ready_fits C at (current_of c.args.framing.now.slots.owner) m (sym c.in-Some.ensures.value)
    c.requires.ready.current_ready) in
    let last = current_is m _ _ _ _ c.number-number.ensures c.header-header.ensures
    (put_after _ _ _ _ _ c.new-record.ensures c.as_slice-2.ensures.value one) in
    record {
      octets = so_far.octets ++ c.as_slice-2.result.now;
      is = whole_own C c.args.requests.now _ m _ _ _ (sym c.in-Some.ensures.value) fixed so_far.is
          last;
      puts = c.put_after.ensures.put before so_far.octets so_far.puts;
    }
