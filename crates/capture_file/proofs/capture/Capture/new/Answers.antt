use Rattle.std.proofs.Common.{refl}
use Rattle.capture_file.proofs.StateLemmas.{reads_none}
use Rattle.capture_file.proofs.capture.Capture.new.Goals as goal

pub returns : goal.returns
returns c = reads_none _ refl refl refl refl refl refl c.in_ok-with_capacity.ensures.items
