use Rattle.giop_sig.proofs.VariantLaws.{interface_takes, new_key_takes}
use Rattle.giop_sig.proofs.read_calls.key_at.Goals as goal

pub add_key-requires-clause-short : goal.add_key-requires-clause-short
add_key-requires-clause-short c = (new_key_takes _ _ _ c.in_ok-key.ensures).short

pub add_key-requires-clause-new : goal.add_key-requires-clause-new
add_key-requires-clause-new c = (new_key_takes _ _ _ c.in_ok-key.ensures).new

pub add_key-requires-clause-identity : goal.add_key-requires-clause-identity
add_key-requires-clause-identity c = (interface_takes _ _ _ c.in_ok-id.ensures).short

pub add_key-requires-clause-few : goal.add_key-requires-clause-few
add_key-requires-clause-few c = (interface_takes _ _ _ c.in_ok-id.ensures).room
