use Rattle.giop_decode.proofs.Around.{around-front}
use Rattle.giop_decode.proofs.Codings.{reading_agrees}
use Rattle.giop_decode.proofs.Enclosing.{reading_goes}
use Rattle.giop_decode.proofs.Rooted.{whole_keeps, whole_lines, whole_none, whole_now, whole_resumes, whole_step_keeps}
use Rattle.giop_decode.proofs.laws.whole_laws.Goals as goal

pub returns : goal.returns
returns c = record {
  step = reading_goes;
  more = whole_resumes;
  lines = whole_lines;
  octet = whole_now;
  begins = whole_none;
  sound = whole_keeps;
  kept = whole_step_keeps;
  same = reading_agrees;
  heard = around-front;
}
