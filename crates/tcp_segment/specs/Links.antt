-- The link types of a capture's interfaces that are read (meaning).
use Rattle.std.specs.Prelude.{ℕ, ◌==◌, ◌||◌, Bool}

-- whether packets of a link type are looked into: Ethernet 1, Linux cooked 113 and 276, loopback 0
-- and 108, raw IP 12, 14, 101, IPv4 228 and IPv6 229 (the link-layer header types of pcap)
unfoldable pub is_link_read : (link_type : ℕ) → Bool
is_link_read link =
    link == 1 || link == 113 || link == 276 || link == 0 || link == 108 || link == 12 || link == 14
    || link == 101 || link == 228 || link == 229
