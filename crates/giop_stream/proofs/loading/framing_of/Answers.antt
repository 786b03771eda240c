use Rattle.std.proofs.Common.{length, refl, ap, ◌∙◌}
use Rattle.giop_message.specs.Signatures.{by_list}
use Rattle.giop_stream.specs.Rules.{rules}
use Rattle.giop_stream.specs.OpenSlots.{slots_at}
use Rattle.giop_stream.specs.EngineState.{state_of}
use Rattle.giop_stream.proofs.Restored.LoadedFields.{stand, spells_left, room_for, limit_is, totals_again, shows_again}
use Rattle.giop_stream.proofs.loading.framing_of.Goals as goal
use Rattle.giop_stream.proofs.loading.framing_of.Goals.{then-fixed, else-fixed}

pub returns-then-not-load_records-clause-again : goal.returns-then-not-load_records-clause-again
returns-then-not-load_records-clause-again c l n octets p s fixed_is records_are =
    let R = rules c.args.catalogue.now l n in
    let bare = c.requires.bare in
    let here = stand octets p c.args.catalogue.now l n s in
    let limit = c.requires.most ∙ limit_is octets p c.args.catalogue.now l n s c.args.fixed fixed_is
    in
    let left = spells_left octets p c.args.catalogue.now l n s c.args.fixed c.args.records.now
    fixed_is records_are in
    let room = room_for octets p c.args.catalogue.now l n s c.args.slots bare.no_slots limit in
    let made = c.load_records.ensures.again (by_list l) (slots_at (state_of R p).tracked) here.w
    here.known left room bare.no_owner in
    cc (made.0, c.if-not-load_records.true)

pub returns-then-not-are_possible_totals-clause-again :
    goal.returns-then-not-are_possible_totals-clause-again
returns-then-not-are_possible_totals-clause-again c l n octets p s fixed_is records_are =
    let may = totals_again octets p c.args.catalogue.now l n s c.stream_fault_of-stopped.result
    c.len.result
    c.args.fixed fixed_is
    c.stream_fault_of-stopped.ensures (c.len.ensures.value
    ∙ ap length c.held_header_of-header.ensures.header) in
    let is = c.are_possible_totals.ensures.again may.running may.messages may.faults may.held in
    cc (is, c.if-not-are_possible_totals.true)

pub returns-clause-again : goal.returns-clause-again
returns-clause-again c l n octets p s fixed_is records_are =
    let R = rules c.args.catalogue.now l n in
    let bare = c.requires.bare in
    let here = stand octets p c.args.catalogue.now l n s in
    let limit = c.requires.most ∙ limit_is octets p c.args.catalogue.now l n s c.args.fixed fixed_is
    in
    let left = spells_left octets p c.args.catalogue.now l n s c.args.fixed c.args.records.now
    fixed_is records_are in
    let room = room_for octets p c.args.catalogue.now l n s c.args.slots bare.no_slots limit in
    let made = c.load_records.ensures.again (by_list l) (slots_at (state_of R p).tracked) here.w
    here.known left room bare.no_owner in
    shows_again octets p c.args.catalogue.now l n s _ c.args.slots c.load_records.new.slots
    bare.no_slots
    c.args.fixed fixed_is
    (record {
      totals = refl;
      stopped = c.stream_fault_of-stopped.ensures;
      header = c.held_header_of-header.ensures.header;
      payload_count = c.held_header_of-header.ensures.payload_count;
      owner = c.set_owner.ensures.owner;
      slots = c.set_owner.ensures.same;
      mixed = elim c.if-fixed.branch [
        | then-fixed w ↦ w.slots-is ∙ rw w.if-fixed.true refl
        | else-fixed w ↦ w.slots-is ∙ rw (w.joins_1_1.ensures, w.if-fixed.false) refl
      ];
    })
    made.1 made.2
