use Rattle.giop_stream_worked.proofs.Computing.{close_connection, little_request, interleaved, joined_old, open_twice, one_open, cancelled, replied, raised, code_sets, code_sets_cut_short, profile}
use Rattle.giop_stream_worked.proofs.Listed.{request_table}
use Rattle.giop_stream_worked.proofs.worked_streams.Goals as goal

pub returns : goal.returns
returns c = record {
  closes = close_connection;
  request = little_request;
  interleaved = interleaved;
  joined = joined_old;
  id = open_twice;
  one_open = one_open;
  cancelled = cancelled;
  reply = replied;
  raised = raised;
  code_sets = code_sets;
  short = code_sets_cut_short;
  profile = profile;
  request_table = request_table;
}
