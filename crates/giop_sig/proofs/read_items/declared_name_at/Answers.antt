use Rattle.giop_tokens.proofs.ReaderLaws.{identifier_word}
use Rattle.giop_sig.proofs.read_items.declared_name_at.Goals as goal

pub is_name_taken-requires : goal.is_name_taken-requires
is_name_taken-requires c = (identifier_word _ c.args.text.now _ c.in_ok-name.ensures).2
