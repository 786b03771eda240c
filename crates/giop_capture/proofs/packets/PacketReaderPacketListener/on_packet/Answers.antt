-- The packet's time is noted, and its segment comes.
use Rattle.std.proofs.Common.{◌≡◌, ◌∙◌, None, Some, sym, ap, arith, []}
use Rattle.std.specs.Option.{option_map}
use Rattle.tcp_segment.specs.Segments.{segment, segment_view}
use Rattle.tcp_connections.specs.Connections.{State, with_packet}
use Rattle.tcp_connections.proofs.States.{packet_read}
use Rattle.giop_capture.specs.Packets.{packet_view}
use Rattle.giop_capture.specs.Arrivals.{after_packets, packet_arrived}
use Rattle.giop_capture.proofs.Arriving.{after_more, both, heard_ok, read_more, segment_came, segment_of, payload_short, told_link, told_seen}
use Rattle.giop_capture.proofs.packets.PacketReaderPacketListener.on_packet.Goals as goal

pub take-requires-clause-state : goal.take-requires-clause-state
take-requires-clause-state g c =
    let (start, packets, h, few) = c.requires.taken in
    let w = after_packets g.L.Listener.reader start packets in (
      with_packet w c.args.packet.time,
      packet_read _ _ _ _ w c.args.packet.time c.begin_packet.ensures.does
          c.begin_packet.ensures.free
          c.begin_packet.ensures.room c.begin_packet.ensures.givers h.state,
    )

pub take-requires-clause-count : goal.take-requires-clause-count
take-requires-clause-count g c =
    let (start, packets, h, below) = c.requires.taken in
    let same = ap (λ (u : State). u.segments) (c.begin_packet.ensures.does []) in
    let few = h.few in
    omega (arith, same, few, below)

pub take-requires-clause-whole : goal.take-requires-clause-whole
take-requires-clause-whole g c =
    payload_short _ _ (segment_view c.in-Some.segment)
    (segment_of _ _ _ c.in-Some.segment c.segment.ensures c.in-Some.is) c.requires.whole

pub returns-in_default-clause-does : goal.returns-in_default-clause-does
returns-in_default-clause-does g c =
    λ start packets h.
    let p = packet_view c.args.packet in
    let w = after_packets g.L.Listener.reader start packets in
    let few = ap (λ (u : State). u.segments) (c.begin_packet.ensures.does []) in
    let none : segment c.args.packet.link c.args.packet.octets.now ≡ None =
    sym c.segment.ensures ∙ ap (option_map segment_view) c.in_default.is in
    read_more _ _ _ _ _ _ _ _ _ _ _ start packets p h
    (segment_came _ _ _ _ start packets p None none
    (packet_read _ _ _ _ w c.args.packet.time c.begin_packet.ensures.does
    c.begin_packet.ensures.free
    c.begin_packet.ensures.room c.begin_packet.ensures.givers h.state)) (omega (arith, few))
    c.note_link.ensures.items
    (λ told before. told_link (g.N.Notices.told c.note_link.new.notices) g.L.Listener.reader start
    packets p told _ none (c.note_link.ensures.told told before))

pub returns-clause-does : goal.returns-clause-does
returns-clause-does g c =
    λ start packets h.
    let p = packet_view c.args.packet in
    let w = after_packets g.L.Listener.reader start packets in
    let v = with_packet w c.args.packet.time in
    let few = ap (λ (u : State). u.segments) (c.begin_packet.ensures.does []) in
    let some = segment_of _ _ _ c.in-Some.segment c.segment.ensures c.in-Some.is in
    let came = c.take.ensures.does v (packet_read _ _ _ _ w c.args.packet.time
    c.begin_packet.ensures.does
    c.begin_packet.ensures.free c.begin_packet.ensures.room c.begin_packet.ensures.givers
    h.state) in
    let k = heard_ok _ _ c.as_out_result.result _ c.as_out_result.ensures c.in_ok-as_out_result.was
    (both _ _ c.take.result came c.take.ensures.count) in
    let state = segment_came _ _ _ _ start packets p (Some (segment_view c.in-Some.segment)) some
    k.0 in
    let next = packet_arrived g.L.Listener.reader w p in
    let observed = rw (after_more g.L.Listener.reader start packets p) at state.observed in
    read_more _ _ _ _ _ _ _ _ _ _ _ start packets p h state
    (let n = k.1 in omega (arith, few)) c.note_link.ensures.items
    (λ told before. told_seen (g.N.Notices.told c.tell_new.new.notices) told _ _ _
    w.events next.events (c.seen-before.ensures w.events h.state.observed)
    (c.seen-after.ensures next.events observed)
    (c.tell_new.ensures _ (c.note_link.ensures.told told before)))
