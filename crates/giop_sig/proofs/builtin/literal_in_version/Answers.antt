use Rattle.giop_sig.proofs.Builtins.{known_third}
use Rattle.giop_sig.proofs.builtin.literal_in_version.Goals as goal

pub version_3_literal-requires : goal.version_3_literal-requires
version_3_literal-requires c = known_third c.args.version c.args.number c.requires
