use Rattle.std.proofs.Common.{refl}
use Rattle.tcp_segment.specs.Octets.{two_at, four_at}
use Rattle.tcp_segment.specs.Frames.{behind_tag, behind_tags, packet_of_type, packet_of}
use Rattle.tcp_segment.specs.Datagrams.{cut_to_length, ipv4, behind_extension, behind_extensions, ipv6_payload, tcp_behind_headers, ipv6}
use Rattle.tcp_segment.specs.Segments.{segment_in, segment}
use Rattle.tcp_segment_tests.specs.Worked.{digit, octets, v4, v6}
use Rattle.tcp_segment_tests.proofs.worked.worked_segments.Goals as goal

pub returns : goal.returns
unfolding two_at four_at behind_tag behind_tags packet_of_type packet_of cut_to_length ipv4
    behind_extension
    behind_extensions ipv6_payload tcp_behind_headers ipv6 segment_in segment digit octets v4 v6
returns c = record { ipv4 = refl; ipv6 = refl; none = refl; same = refl }
