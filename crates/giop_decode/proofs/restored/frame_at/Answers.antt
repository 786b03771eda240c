use Rattle.giop_decode.proofs.StoredFrames.{frame_again}
use Rattle.giop_decode.proofs.restored.frame_at.Goals as goal

pub returns : goal.returns
returns c frame rest range is = frame_again frame _ _ _ _ _ _ rest range is c.four_at.ensures
    c.four_at-2.ensures c.four_at-3.ensures c.inside_at.ensures c.stage_at.ensures
