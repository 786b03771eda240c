use Rattle.capture_file.proofs.PcapngFileReading.{file_has_its_blocks}
use Rattle.capture_file.proofs.laws.a_pcapng_file_has_its_blocks.Goals as goal

pub returns : goal.returns
returns c = file_has_its_blocks
