-- The text of an endpoint (meaning): an IPv4 address as four decimal numbers, or an IPv6 address in
-- brackets (RFC 3986, Host) in its canonical form (RFC 5952); then a colon, and the port.
--
-- The canonical form is the form of std: each group of 16 bits in lower-case hexadecimal digits
-- without leading zeros, `::` for a run of two or more zero groups (IsLongestRun says which), and
-- the IPv4 address of an IPv4-mapped one in decimal.
use Rattle.std.specs.Prelude.{◌≡◌, ℕ, ◌+◌, ◌<◌, ◌≤◌, List, ◌++◌, length, slice_index, codes, decimal}
use Rattle.std.specs.Net.Addr.{segments_of}
use Rattle.std.specs.Net.Text.{ipv4_text, ipv6_text}
use Rattle.tcp_segment.specs.declared.endpoint.Address.{Address}
use Rattle.tcp_segment.specs.declared.endpoint.Address.TheVariants.{V4, V6}
use Rattle.tcp_segment.specs.declared.endpoint.Endpoint.{Endpoint}

-- from an index on, this number of groups are zeros
abbrev pub AreZeros : (groups : List ℕ) (first_index group_count : ℕ) → Type 0
AreZeros groups at count = (k : ℕ) → at ≤ k → k < at + count → slice_index groups k ≡ 0

-- the run of zeros that `::` stands for is the longest one, and the first one if several are
-- equally long (RFC 5952, Choice in Placement of "::")
pub record IsLongestRun (groups : List ℕ) (run_start run_length : ℕ) : Type 0 where
  pub within : run_start + run_length ≤ length groups
  pub zeros : AreZeros groups run_start run_length
  pub longest : (at count : ℕ) → at + count ≤ length groups → AreZeros groups at count →
      count ≤ run_length
  pub first : (at : ℕ) → at + run_length ≤ length groups → AreZeros groups at run_length →
      run_start ≤ at

abbrev pub address_text : Address → List ℕ
address_text (V4 octets) = ipv4_text octets
address_text (V6 octets) = codes "[" ++ ipv6_text (segments_of octets) ++ codes "]"

unfoldable pub endpoint_text : (endpoint : Endpoint) → List ℕ
endpoint_text endpoint = address_text endpoint.address ++ codes ":" ++ decimal endpoint.port
