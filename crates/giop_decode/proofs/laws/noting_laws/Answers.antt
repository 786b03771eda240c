use Rattle.giop_decode.proofs.LastNoted.{read_left}
use Rattle.giop_decode.proofs.OneCut.{contents_one}
use Rattle.giop_decode.proofs.laws.noting_laws.Goals as goal

pub returns : goal.returns
returns c = record { left = read_left; same = contents_one }
