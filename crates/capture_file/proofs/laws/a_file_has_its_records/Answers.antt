use Rattle.capture_file.proofs.PcapFileReading.{file_has_its_records}
use Rattle.capture_file.proofs.laws.a_file_has_its_records.Goals as goal

pub returns : goal.returns
returns c = file_has_its_records
