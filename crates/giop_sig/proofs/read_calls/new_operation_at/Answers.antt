use Rattle.std.proofs.Common.{lit≤}
use Rattle.giop_tokens.proofs.ReaderLaws.{operation_name_word}
use Rattle.giop_sig.proofs.read_calls.new_operation_at.Goals as goal

pub has_operation-requires : goal.has_operation-requires
has_operation-requires c = record {
  short = (operation_name_word c.args.text.now _ c.in_ok-name.ensures).1;
  few = lit≤ tt;
}
