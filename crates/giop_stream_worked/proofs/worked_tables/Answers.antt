use Rattle.giop_stream_worked.proofs.Tables.{none_declared, put_declared, bigs_declared, tris_declared, asks_declared}
use Rattle.giop_stream_worked.proofs.worked_tables.Goals as goal

pub returns : goal.returns
returns c = record {
  empty = none_declared;
  puts = put_declared;
  bigs = bigs_declared;
  tris = tris_declared;
  asks = asks_declared;
}
