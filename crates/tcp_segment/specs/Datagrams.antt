-- What an IP packet carries for TCP, and the addresses that it goes from and to (RFC 791, Internet
-- Header Format; RFC 8200, IPv6 Header Format and IPv6 Extension Headers; RFC 4302, Authentication
-- Header Format; meaning).
use Rattle.std.specs.Prelude.{ℕ, zero, suc, ◌+◌, ◌*◌, ◌/◌, ◌%◌, Bool, not, ◌&&◌, ◌||◌, List, length, take, drop, slice_index, Option, Some, option_map, nat_le, ◌==◌, if◌then◌else◌}
use Rattle.tcp_segment.specs.declared.endpoint.Address.{Address}
use Rattle.tcp_segment.specs.declared.endpoint.Address.TheVariants as addresses
use Rattle.tcp_segment.specs.declared.frame.Version.{Version}
use Rattle.tcp_segment.specs.declared.frame.Version.TheVariants.{V4, V6}
use Rattle.tcp_segment.specs.declared.datagram.Datagram as code
use Rattle.tcp_segment.specs.Octets.{◌>>=◌, provided, octets_at, two_at}
use Rattle.tcp_segment.specs.Frames.{Packet}

-- a TCP segment, and the addresses that it goes from and to
pub record Datagram : Type 0 where
  pub source : Address
  pub destination : Address
  pub octets : List ℕ

-- the first octets, as many as a length field says; 0 means all, because the packet of a segment
-- that the sender's hardware will cut later has a length that fits no field
unfoldable pub cut_to_length : (length_or_0_for_all : ℕ) (octets : List ℕ) → List ℕ
cut_to_length size octets = if size == 0 then octets else take size octets

-- 6 is the protocol number of TCP
abbrev pub is_tcp : (protocol : ℕ) → Bool
is_tcp protocol = protocol == 6

-- ---- IPv4.

-- three flags, of which the last one is More Fragments, and the fragment offset
abbrev pub is_fragment : (flags_and_offset_field : ℕ) → Bool
is_fragment field = field / 0x2000 % 2 == 1 || not (field % 0x2000 == 0)

-- the version is 4, the protocol is TCP, and the packet is no fragment
abbrev pub carries_whole_tcp : (packet_octets : List ℕ) → Bool
carries_whole_tcp octets =
    slice_index octets 0 / 16 == 4 && is_tcp (slice_index octets 9)
    && not (is_fragment (two_at 6 octets))

-- the header has as many octets as its Internet Header Length says, in words of four octets, and at
-- least 20
abbrev pub ipv4_behind_header : (packet_octets packet_cut_to_length : List ℕ) → Option Datagram
ipv4_behind_header octets packet =
    let header = slice_index octets 0 % 16 * 4 in
    provided (nat_le 20 header && nat_le header (length packet)) (Some (record {
      source = addresses.V4 (octets_at 12 4 octets);
      destination = addresses.V4 (octets_at 16 4 octets);
      octets = drop header packet;
    }))

-- what comes after the total length is no part of the packet
unfoldable pub ipv4 : (packet_octets : List ℕ) → Option Datagram
ipv4 octets =
    provided (nat_le 20 (length octets) && carries_whole_tcp octets)
    (ipv4_behind_header octets (cut_to_length (two_at 2 octets) octets))

-- ---- IPv6.

-- hop-by-hop options, routing, fragment, authentication and destination options
abbrev pub is_extension : (header_number : ℕ) → Bool
is_extension header =
    header == 0 || header == 43 || header == 44 || header == 51 || header == 60

-- the length field of an extension header counts units of 8 octets after the first 8, but the
-- length field of an authentication header counts units of 4 octets after the first 8; a fragment
-- header has no length field
abbrev pub extension_size : (header_number : ℕ) (octets_from_header : List ℕ) → ℕ
extension_size header octets =
    if header == 44 then 8
    else (if header == 51 then (slice_index octets 1 + 2) * 4 else (slice_index octets 1 + 1) * 8)

-- a fragment offset, two unused bits, and the flag M, which says that more fragments follow
abbrev pub is_of_fragment : (header_number : ℕ) (octets_from_header : List ℕ) → Bool
is_of_fragment header octets =
    let field = two_at 2 octets in header == 44 && (not (field / 8 == 0) || field % 2 == 1)

-- the number of the header after an extension header, and its octets, if the extension header is
-- whole and doesn't belong to a fragment
unfoldable pub behind_extension : (header_number : ℕ) (octets_from_header : List ℕ) →
    Option (ℕ × List ℕ)
behind_extension header octets =
    provided
    (nat_le (extension_size header octets) (length octets) && not (is_of_fragment header octets))
    (Some (slice_index octets 0, drop (extension_size header octets) octets))

-- the number of the header after at most this number of extension headers, and its octets
unfoldable pub behind_extensions : (most_extensions header_number : ℕ)
    (octets_from_header : List ℕ) → Option (ℕ × List ℕ)
behind_extensions zero header octets = Some (header, octets)
behind_extensions (suc more) header octets =
    if is_extension header
    then (behind_extension header octets >>= (λ next. behind_extensions more next.0 next.1))
    else Some (header, octets)

-- the payload length counts what comes after the header of 40 octets
unfoldable pub ipv6_payload : (packet_octets : List ℕ) → List ℕ
ipv6_payload octets = cut_to_length (two_at 4 octets) (drop 40 octets)

-- what comes after the last header, if that names TCP
unfoldable pub tcp_behind_headers : (packet_octets : List ℕ) → Option (List ℕ)
tcp_behind_headers octets = do
  upper ← behind_extensions 8 (slice_index octets 6) (ipv6_payload octets)
  provided (is_tcp upper.0) (Some upper.1)

abbrev pub between_hosts : (packet_octets tcp_octets : List ℕ) → Datagram
between_hosts octets upper = record {
  source = addresses.V6 (octets_at 8 16 octets);
  destination = addresses.V6 (octets_at 24 16 octets);
  octets = upper;
}

-- the IPv6 header has 40 octets
unfoldable pub ipv6 : (packet_octets : List ℕ) → Option Datagram
ipv6 octets =
    provided (nat_le 40 (length octets) && slice_index octets 0 / 16 == 6)
    (option_map (between_hosts octets) (tcp_behind_headers octets))

-- ---- Either.

abbrev pub datagram_by : (version : Version) (packet_octets : List ℕ) → Option Datagram
datagram_by V4 octets = ipv4 octets
datagram_by V6 octets = ipv6 octets

-- what a packet carries for TCP
abbrev pub datagram_of : Packet → Option Datagram
datagram_of packet = datagram_by packet.version packet.octets

-- ---- What the code has.

abbrev pub datagram_view : code.Datagram → Datagram
datagram_view d = record { source = d.source; destination = d.destination; octets = d.octets.now }
