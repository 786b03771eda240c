use Rattle.giop_tokens.proofs.ReaderLaws.{repository_few}
use Rattle.giop_sig.proofs.read_calls.new_key_at.Goals as goal

pub has_key-requires : goal.has_key-requires
has_key-requires c = repository_few c.args.text.now _ c.in_ok-key.ensures
