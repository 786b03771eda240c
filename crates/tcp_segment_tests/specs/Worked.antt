-- Packets and endpoints worked by hand: the segments of the packets, and the texts of the endpoints
-- (meaning).
use Rattle.std.specs.Prelude.{◌≡◌, ℕ, ◌+◌, ◌-◌, ◌*◌, ◌==◌, nat_lt, if◌then◌else◌, true, false, List, [], ◌∷◌, Some, None, codes}
use Rattle.tcp_segment.specs.declared.endpoint.Address.TheVariants.{V4, V6}
use Rattle.tcp_segment.specs.declared.endpoint.Endpoint.{Endpoint}
use Rattle.tcp_segment.specs.Segments.{segment}
use Rattle.tcp_segment.specs.EndpointText.{endpoint_text}

unfoldable pub digit : ℕ → ℕ
digit c = if nat_lt c 58 then c - 48 else c - 87

-- the octets that hexadecimal digits give, with spaces between octets
unfoldable pub octets : List ℕ → List ℕ
octets [] = []
octets (a ∷ []) = []
octets (a ∷ (b ∷ more)) =
    if a == 32 then octets (b ∷ more) else (16 * digit a + digit b) ∷ octets more

-- an endpoint: its address in hexadecimal digits, of IPv4 here and of IPv6 below, and its port
unfoldable pub v4 : List ℕ → ℕ → Endpoint
v4 address port = record { address = V4 (octets address); port = port }

unfoldable pub v6 : List ℕ → ℕ → Endpoint
v6 address port = record { address = V6 (octets address); port = port }

-- ---- Packets.

-- A packet of Ethernet with a tag, IPv4, TCP with SYN, and two octets of padding.
abbrev pub Tagged : Type 0
Tagged =
    segment 1
    (octets
    (codes
    "010203040506 0102030405aa 8100 0007 0800 45000029 0000 4000 40 06 0000 c0000201 c6336407 03e8 0af9 01020304 00000009 50 02 ffff 0000 0000 47 0000"))
    ≡ Some (record {
      flow = record { from = v4 (codes "c0000201") 1000; to = v4 (codes "c6336407") 2809 };
      sequence = 16909060;
      acknowledgement = None;
      syn = true;
      fin = false;
      reset = false;
      payload = 0x47 ∷ [];
    })

-- A packet of Linux cooked capture 2, IPv6, hop-by-hop options of 16 octets, a fragment header of a
-- whole packet, and TCP with ACK and FIN.
abbrev pub Extended : Type 0
Extended =
    segment 276
    (octets
    (codes
    "86dd 000000000000000000000000000000000000 60000000 002d 00 40 20010db8000000000000000000000001 20010db8000000000000000000000002 2c010000 00000000 00000000 00000000 06ff 0006 00000001 03e8 0af9 00000005 00000009 50 11 ffff 0000 0000 47"))
    ≡ Some (record {
      flow = record {
        from = v6 (codes "20010db8000000000000000000000001") 1000;
        to = v6 (codes "20010db8000000000000000000000002") 2809;
      };
      sequence = 5;
      acknowledgement = Some 9;
      syn = false;
      fin = true;
      reset = false;
      payload = 0x47 ∷ [];
    })

-- A loopback frame in the other byte order. Its fragment isn't the first.
abbrev pub Fragment : Type 0
Fragment =
    segment 0
    (octets
    (codes
    "02000000 45000029 0000 0001 40 06 0000 c0000201 c6336407 03e8 0af9 01020304 00000009 50 02 ffff 0000 0000 47"))
    ≡ None

-- A raw packet from an endpoint to itself.
abbrev pub ToItself : Type 0
ToItself =
    segment 101
    (octets
    (codes
    "45000029 0000 4000 40 06 0000 c0000201 c0000201 0af9 0af9 01020304 00000009 50 02 ffff 0000 0000 47"))
    ≡ None

-- ---- Endpoints.

abbrev pub OfIpv4 : Type 0
OfIpv4 = endpoint_text (v4 (codes "c0000201") 2809) ≡ codes "192.0.2.1:2809"

abbrev pub OfIpv6 : Type 0
OfIpv6 = endpoint_text (v6 (codes "20010db8000000000000000000000001") 2809)
    ≡ codes "[2001:db8::1]:2809"

-- The first of two equal runs of zeros is shortened, and a single group of zeros stays.
abbrev pub OfEqualRuns : Type 0
OfEqualRuns = endpoint_text (v6 (codes "2001 0000 0000 00ab 0000 0000 0001 0000") 0)
    ≡ codes "[2001::ab:0:0:1:0]:0"

abbrev pub OfMapped : Type 0
OfMapped = endpoint_text (v6 (codes "00000000000000000000ffffc0000201") 65535)
    ≡ codes "[::ffff:192.0.2.1]:65535"
