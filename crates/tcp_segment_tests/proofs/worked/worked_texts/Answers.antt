use Rattle.std.proofs.Common.{refl}
use Rattle.std.specs.Fmt.{digits}
use Rattle.std.specs.Net.Text.{hex, hex_groups_text, ipv6_text}
use Rattle.tcp_segment.specs.EndpointText.{endpoint_text}
use Rattle.tcp_segment_tests.specs.Worked.{digit, octets, v4, v6}
use Rattle.tcp_segment_tests.proofs.worked.worked_texts.Goals as goal

pub returns : goal.returns
unfolding digits hex hex_groups_text ipv6_text endpoint_text digit octets v4 v6
returns c = record { ipv4 = refl; ipv6 = refl; first = refl; of_mapped = refl }
