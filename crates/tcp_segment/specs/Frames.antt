-- The IP packet in a frame, and its version, by the link type of the capture (IEEE 802.3, IEEE
-- 802.1Q, the link-layer header types of tcpdump; meaning).
use Rattle.std.specs.Prelude.{ℕ, zero, suc, ◌/◌, Bool, ◌||◌, List, length, drop, slice_index, Option, Some, None, nat_le, ◌==◌, if◌then◌else◌}
use Rattle.std.specs.Int.{w32, from_le_bytes}
use Rattle.tcp_segment.specs.declared.frame.Version.{Version}
use Rattle.tcp_segment.specs.declared.frame.Version.TheVariants.{V4, V6}
use Rattle.tcp_segment.specs.declared.frame.Packet as code
use Rattle.tcp_segment.specs.Octets.{◌>>=◌, provided, octets_at, two_at, four_at}

-- a packet as a frame has it; what comes after the packet isn't cut off yet
pub record Packet : Type 0 where
  pub version : Version
  pub octets : List ℕ

-- ---- Ethernet types and tags.

-- the types of a customer's tag and of a service's tag (IEEE 802.1Q), and the type that was used
-- for a service's tag before that
abbrev pub is_tag : (ether_type : ℕ) → Bool
is_tag kind = kind == 0x8100 || kind == 0x88a8 || kind == 0x9100

-- the type after a tag, and what follows it; a tag has two octets of its own, and then the next
-- type
unfoldable pub behind_tag : (octets_after_type : List ℕ) → Option (ℕ × List ℕ)
behind_tag octets = provided (nat_le 4 (length octets)) (Some (two_at 2 octets, drop 4 octets))

-- the type after at most this number of tags, and what follows it
unfoldable pub behind_tags : (most_tags ether_type : ℕ) (octets_after_type : List ℕ) →
    Option (ℕ × List ℕ)
behind_tags zero kind octets = Some (kind, octets)
behind_tags (suc more) kind octets =
    if is_tag kind
    then (behind_tag octets >>= (λ next. behind_tags more next.0 next.1))
    else Some (kind, octets)

abbrev pub version_of_type : (ether_type : ℕ) → Option Version
version_of_type kind =
    if kind == 0x0800 then Some V4 else (if kind == 0x86dd then Some V6 else None)

-- the packet after a type and its tags
unfoldable pub packet_of_type : (ether_type : ℕ) (octets_after_type : List ℕ) → Option Packet
packet_of_type kind octets = do
  behind ← behind_tags 4 kind octets
  version ← version_of_type behind.0
  Some (record { version = version; octets = behind.1 })

-- ---- Link types.

-- two addresses of six octets, and the type
abbrev pub ethernet : (frame_octets : List ℕ) → Option Packet
ethernet octets = provided (nat_le 14 (length octets))
    (packet_of_type (two_at 12 octets) (drop 14 octets))

-- the type is the last field of 16 octets
abbrev pub cooked : (frame_octets : List ℕ) → Option Packet
cooked octets = provided (nat_le 16 (length octets))
    (packet_of_type (two_at 14 octets) (drop 16 octets))

-- the type is the first field of 20 octets
abbrev pub cooked_2 : (frame_octets : List ℕ) → Option Packet
cooked_2 octets = provided (nat_le 20 (length octets))
    (packet_of_type (two_at 0 octets) (drop 20 octets))

-- the address family in four octets, in the byte order of the host that made the capture
abbrev pub is_family : (family_in_either_order : ℕ) (frame_octets : List ℕ) → Bool
is_family family octets =
    four_at 0 octets == family || from_le_bytes w32 (octets_at 0 4 octets) == family

-- 2 is IPv4; each of the others is IPv6 on some system
abbrev pub is_ipv6_family : (frame_octets : List ℕ) → Bool
is_ipv6_family octets =
    is_family 10 octets || is_family 24 octets || is_family 28 octets || is_family 30 octets

abbrev pub version_of_family : (frame_octets : List ℕ) → Option Version
version_of_family octets =
    if is_family 2 octets then Some V4 else (if is_ipv6_family octets then Some V6 else None)

abbrev pub loopback : (frame_octets : List ℕ) → Option Packet
loopback octets = provided (nat_le 4 (length octets)) (do
  version ← version_of_family octets
  Some (record { version = version; octets = drop 4 octets }))

-- nothing stands before the packet, and its first four bits are its version
abbrev pub version_of_raw : (frame_octets : List ℕ) → Option Version
version_of_raw octets =
    let version = slice_index octets 0 / 16 in
    if version == 4 then Some V4 else (if version == 6 then Some V6 else None)

abbrev pub raw : (frame_octets : List ℕ) → Option Packet
raw octets = do
  version ← version_of_raw octets
  Some (record { version = version; octets = octets })

-- the packet in a frame of this link type
unfoldable pub packet_of : (link_type : ℕ) (frame_octets : List ℕ) → Option Packet
packet_of link octets =
    if link == 1 then ethernet octets
    else (if link == 113 then cooked octets
    else (if link == 276 then cooked_2 octets
    else (if link == 0 || link == 108 then loopback octets
    else (if link == 12 || link == 14 || link == 101 then raw octets
    else (if link == 228 then Some (record { version = V4; octets = octets })
    else (if link == 229 then Some (record { version = V6; octets = octets })
    else None))))))

-- ---- What the code has.

abbrev pub packet_view : code.Packet → Packet
packet_view p = record { version = p.version; octets = p.octets.now }
