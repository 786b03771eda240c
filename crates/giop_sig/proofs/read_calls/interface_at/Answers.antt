use Rattle.giop_tokens.proofs.ReaderLaws.{repository_few}
use Rattle.giop_sig.proofs.read_calls.interface_at.Goals as goal

pub has-requires : goal.has-requires
has-requires c = repository_few c.args.text.now _ c.in_ok-id.ensures
