use Rattle.giop_tokens.proofs.ReaderLaws.{repository_few}
use Rattle.giop_sig.proofs.read_items.new_repository_at.Goals as goal

pub has_repository-requires : goal.has_repository-requires
has_repository-requires c = repository_few c.args.text.now _ c.in_ok-repository.ensures
