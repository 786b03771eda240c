use Rattle.std.proofs.Common.{length}
use Rattle.giop_decode.proofs.chain.+frames_chain.Given as goal

abbrev pub decreases-frames_chain : goal.decreases-frames_chain
decreases-frames_chain l = length l.frames.now
