-- What the packets of a capture do to its connections, and which notices are given of them
-- (meaning).
use Rattle.std.specs.Prelude.{ℕ, List, [], ◌∷◌, ◌++◌, flat_map, cond, Option, Some, None, if◌then◌else◌}
use Rattle.capture_file.specs.declared.fault.CaptureFault.{CaptureFault}
use Rattle.capture_file.specs.FaultWords.{fault_word}
use Rattle.capture_file.specs.Reading.{final_fault}
use Rattle.tcp_segment.specs.Links.{is_link_read}
use Rattle.tcp_segment.specs.Segments.{Segment, segment}
use Rattle.tcp_flow.specs.Flow.{Event, Reader, HasFault}
use Rattle.tcp_connections.specs.Connections.{State, with_packet, with_capture_event, step, ended}
use Rattle.giop_capture.specs.Links.{is_new_link, noted_after}
use Rattle.giop_capture.specs.Notices.{seen, new_notices}
use Rattle.giop_capture.specs.declared.notices.Notice.{Notice}
use Rattle.giop_capture.specs.declared.notices.Notice.TheVariants.{UnreadLink}
use Rattle.giop_capture.specs.Packets.{PacketView, capture_packets}

-- after the segment of a packet came, if the packet has one
abbrev pub with_segment : (reader : Reader) (before : State) (segment : Option Segment) → State
with_segment F w None = w
with_segment F w (Some s) = step F w s

-- after one more packet: its time is noted, and its segment comes
unfoldable pub packet_arrived : (reader : Reader) (before : State) (packet : PacketView) → State
packet_arrived F w p =
    with_segment F (with_packet w p.info.time) (segment p.info.link p.octets)

-- after all packets, in their order
unfoldable pub after_packets : (reader : Reader) (before : State) (packets : List PacketView) →
    State
after_packets F w [] = w
after_packets F w (p ∷ ps) = after_packets F (packet_arrived F w p) ps

-- the segment of a packet as a list: none or one
abbrev pub segment_in : (segment : Option Segment) → List Segment
segment_in None = []
segment_in (Some s) = s ∷ []

-- the segments of all packets
abbrev pub segments_of : (packets : List PacketView) → List Segment
segments_of packets = flat_map (λ p. segment_in (segment p.info.link p.octets)) packets

-- after the fault of the capture, if it has one
abbrev pub with_fault : (before : State) (fault : Option CaptureFault) → State
with_fault w None = w
with_fault w (Some fault) = with_capture_event w (HasFault (fault_word fault.kind) fault.place)

-- after a whole capture with these octets: its packets, then its fault, and then the end of its
-- connections
unfoldable pub capture_ended : (reader : Reader) (before : State) (capture : List ℕ) → State
capture_ended F w capture =
    ended F (with_fault (after_packets F w (capture_packets capture)) (final_fault capture))

-- ---- Notices.

-- for how many link types a notice is given
abbrev pub most_links : ℕ
most_links = 16

-- the link types that a notice was given of, after one more packet of this link type: if it isn't
-- read, its first packet gives a notice
abbrev pub links_noted : (noted_before : List ℕ) (link_type : ℕ) → List ℕ
links_noted noted link = if is_link_read link then noted else noted_after most_links noted link

-- the link types that a notice was given of, after all packets, if a notice was given of `noted`
-- before
unfoldable pub links_from : (noted_before : List ℕ) (packets : List PacketView) → List ℕ
links_from noted [] = noted
links_from noted (p ∷ ps) = links_from (links_noted noted p.info.link) ps

abbrev pub links_noticed : (packets : List PacketView) → List ℕ
links_noticed packets = links_from [] packets

-- the notice of a packet of this link type: only the first packet of a link type that isn't read
-- has one
abbrev pub link_notices : (noted_before : List ℕ) (link_type : ℕ) → List Notice
link_notices noted link =
    if is_link_read link then [] else cond (is_new_link most_links noted link) (UnreadLink link
    ∷ []) []

-- the notices of packets that come to a state, if a notice was given of these link types before
unfoldable pub notices_from : (reader : Reader) (before : State) (noted_before : List ℕ)
    (packets : List PacketView) → List Notice
notices_from F w noted [] = []
notices_from F w noted (p ∷ ps) =
    (link_notices noted p.info.link
    ++ new_notices (seen w.events) (seen (packet_arrived F w p).events))
    ++ notices_from F (packet_arrived F w p) (links_noted noted p.info.link) ps

abbrev pub notices_due : (reader : Reader) (before : State) (packets : List PacketView) →
    List Notice
notices_due F w packets = notices_from F w [] packets
