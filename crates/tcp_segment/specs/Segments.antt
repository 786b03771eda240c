-- The TCP segment in a packet of a capture (RFC 9293, Header Format; meaning).
use Rattle.std.specs.Prelude.{ℕ, ◌*◌, ◌/◌, Bool, false, not, ◌&&◌, List, length, drop, slice_index, bit_and, Option, Some, nat_le, ◌==◌}
use Rattle.std.specs.Str.{bytes_eq}
use Rattle.tcp_segment.specs.declared.endpoint.Address.{Address}
use Rattle.tcp_segment.specs.declared.endpoint.Address.TheVariants.{V4, V6}
use Rattle.tcp_segment.specs.declared.endpoint.Endpoint.{Endpoint}
use Rattle.tcp_segment.specs.declared.endpoint.Flow.{Flow}
use Rattle.tcp_segment.specs.declared.tcp.Segment as code
use Rattle.tcp_segment.specs.Octets.{◌>>=◌, provided, two_at, four_at}
use Rattle.tcp_segment.specs.Frames.{packet_of}
use Rattle.tcp_segment.specs.Datagrams.{Datagram, datagram_of}

pub record Segment : Type 0 where
  pub flow : Flow
  pub sequence : ℕ
  pub acknowledgement : Option ℕ
  pub syn : Bool
  pub fin : Bool
  pub reset : Bool
  pub payload : List ℕ

-- ---- Endpoints.

abbrev pub is_same_address : (one other : Address) → Bool
is_same_address (V4 a) (V4 b) = bytes_eq a b
is_same_address (V4 a) (V6 b) = false
is_same_address (V6 a) (V4 b) = false
is_same_address (V6 a) (V6 b) = bytes_eq a b

-- the same address and port
abbrev pub is_same_endpoint : (one other : Endpoint) → Bool
is_same_endpoint a b = is_same_address a.address b.address && a.port == b.port

-- the source port and the destination port, each at its address
abbrev pub flow_of : Datagram → Flow
flow_of datagram = record {
  from = record { address = datagram.source; port = two_at 0 datagram.octets };
  to = record { address = datagram.destination; port = two_at 2 datagram.octets };
}

-- ---- The header.

-- whether the control bits have this one, by its weight
abbrev pub has_flag : (control_bits bit_weight : ℕ) → Bool
has_flag flags flag = not (bit_and flags flag == 0)

-- the data offset, in words of four octets, and at least 20 octets; there is none if the segment
-- doesn't hold the whole header
abbrev pub header_size : (segment_octets : List ℕ) → Option ℕ
header_size octets =
    let size = slice_index octets 12 / 16 * 4 in
    provided (nat_le 20 size && nat_le size (length octets)) (Some size)

-- the acknowledgement number, if ACK says that there is one
abbrev pub acknowledgement_of : (segment_octets : List ℕ) → Option ℕ
acknowledgement_of octets = provided (has_flag (slice_index octets 13) 16) (Some (four_at 8 octets))

abbrev pub segment_behind : (datagram : Datagram) (header_octet_count : ℕ) → Segment
segment_behind datagram header = record {
  flow = flow_of datagram;
  sequence = four_at 4 datagram.octets;
  acknowledgement = acknowledgement_of datagram.octets;
  syn = has_flag (slice_index datagram.octets 13) 2;
  fin = has_flag (slice_index datagram.octets 13) 1;
  reset = has_flag (slice_index datagram.octets 13) 4;
  payload = drop header datagram.octets;
}

-- the segment that an IP packet carries, if it goes between two different endpoints
unfoldable pub segment_in : (datagram_if_endpoints_differ : Datagram) → Option Segment
segment_in datagram = do
  header ← header_size datagram.octets
  let flow = flow_of datagram
  provided (not (is_same_endpoint flow.from flow.to)) (Some (segment_behind datagram header))

-- the segment in a packet of a capture, by the link type of its interface
unfoldable pub segment : (link_type : ℕ) (frame_octets : List ℕ) → Option Segment
segment link octets = do
  packet ← packet_of link octets
  datagram ← datagram_of packet
  segment_in datagram

-- ---- What the code has.

abbrev pub segment_view : code.Segment → Segment
segment_view s = record {
  flow = s.flow;
  sequence = s.sequence;
  acknowledgement = s.acknowledgement;
  syn = s.syn;
  fin = s.fin;
  reset = s.reset;
  payload = s.payload.now;
}
