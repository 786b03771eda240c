use Rattle.std.proofs.Common.{sym, ◌∙◌}
use Rattle.giop_sig.specs.Trees.{tree}
use Rattle.giop_message.proofs.Closing.{lacks_members, lacks_none}
use Rattle.giop_message.proofs.body_type.is_empty_struct.Goals as goal

pub returns-in-Members : goal.returns-in-Members
returns-in-Members c = lacks_members (tree c.args.catalogue.now c.args.of.0) c.in-Members.count
    (sym c.shape.ensures.tree ∙ c.in-Members.is)

pub returns-in_default : goal.returns-in_default
returns-in_default c = lacks_none (tree c.args.catalogue.now c.args.of.0)
    (λ count e. c.in_default.not-Members count (c.shape.ensures.tree ∙ e))
