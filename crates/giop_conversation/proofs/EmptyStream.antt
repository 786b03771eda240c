-- A stream before its first octet.
use Rattle.std.proofs.Common.{◌≡◌, [], refl}
use Rattle.giop_stream.specs.Rules.{Rules}
use Rattle.giop_stream.specs.HeaderOctets.{fronts, last_octet_fault, first_front_fault, first_wrong_octet}
use Rattle.giop_stream.specs.Framing.{limit, limited, cut_from, cut, messages, octets_read}
use Rattle.giop_stream.specs.Lines.{in_order, up_to_last_line, lines_of_messages, stop_line, lines}
use Rattle.giop_stream.specs.Text as stream
use Rattle.giop_stream.specs.Stream.{text, closing, is_truncated, ends_inside, first_messages, unfinished, start_count, fault_count, totals_so_far, final}

-- the empty stream has no text
pub no_text : (R : Rules) → text R [] ≡ []
unfolding text stream.lines_text lines lines_of_messages in_order up_to_last_line stop_line cut
    limited limit cut_from first_wrong_octet fronts first_front_fault last_octet_fault
no_text R = refl

-- the closing of the empty stream is the same by all rules
pub one_closing : (R Q : Rules) → closing R [] ≡ closing Q []
unfolding closing is_truncated ends_inside first_messages unfinished start_count fault_count
    totals_so_far
    final messages octets_read lines lines_of_messages in_order up_to_last_line stop_line cut
    limited
    limit cut_from first_wrong_octet fronts first_front_fault last_octet_fault
one_closing R Q = refl
