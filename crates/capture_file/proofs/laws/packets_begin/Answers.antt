use Rattle.capture_file.proofs.ReadingSteps.{packets_begin, fault_stays}
use Rattle.capture_file.proofs.laws.packets_begin.Goals as goal

pub returns : goal.returns
returns c = record { packets = packets_begin; stays = fault_stays }
