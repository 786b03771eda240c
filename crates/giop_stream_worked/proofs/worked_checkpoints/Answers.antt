use Rattle.giop_stream_worked.proofs.Computing.{in_a_header, in_an_old_header, in_a_payload, after_a_fault}
use Rattle.giop_stream_worked.proofs.OpenMessages.{two_open}
use Rattle.giop_stream_worked.proofs.worked_checkpoints.Goals as goal

pub returns : goal.returns
returns c = record {
  header = in_a_header;
  in_an_old_header = in_an_old_header;
  body = in_a_payload;
  stopped = after_a_fault;
  messages = two_open;
}
