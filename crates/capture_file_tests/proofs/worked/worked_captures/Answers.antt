use Rattle.std.proofs.Common.{refl}
use Rattle.capture_file.specs.Numbers.{two_at, four_at}
use Rattle.capture_file.specs.Records.{beginning, file_version, file_rest, record_time, record_header}
use Rattle.capture_file.specs.Blocks.{section_length, section, byte_order_magic, section_version, block_of, block_header, options, interface_header, option_header, time_unit, enhanced_interface, packet_of, time_of, enhanced_header, simple_header, block_end}
use Rattle.capture_file.specs.Reading.{reading_from, reading}
use Rattle.capture_file_tests.specs.Worked.{digit, octets}
use Rattle.capture_file_tests.proofs.worked.worked_captures.Goals as goal

pub returns : goal.returns
unfolding two_at four_at beginning file_version file_rest record_time record_header section_length
    section byte_order_magic section_version block_of block_header options interface_header
    option_header time_unit enhanced_interface packet_of time_of enhanced_header simple_header
    block_end reading_from reading digit octets
returns c = record { packets = refl; blocks = refl; lengths = refl; short = refl }
