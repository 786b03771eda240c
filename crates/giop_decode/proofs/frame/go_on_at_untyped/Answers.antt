use Rattle.std.proofs.Common.{◌∙◌}
use Rattle.giop_decode.proofs.Linking.{linked_through}
use Rattle.giop_decode.proofs.frame.go_on_at_untyped.Goals as goal

pub returns-clause-next : goal.returns-clause-next
returns-clause-next c coding path at T =
    c.pop_to_encapsulation.ensures.next c.args.catalogue.now coding path at T c.requires.known
    ∙ c.go_on_after_part.ensures.next coding path at

pub returns-clause-linked : goal.returns-clause-linked
returns-clause-linked c =
    linked_through c.args.catalogue.now c.args.outer.now.items
    c.pop_to_encapsulation.new.outer.items
    c.go_on_after_part.new.outer.items c.go_on_after_part.result
    (c.pop_to_encapsulation.ensures.linked c.args.catalogue.now)
    c.go_on_after_part.ensures.linked

pub go_on_after_part-requires-clause-known : goal.go_on_after_part-requires-clause-known
go_on_after_part-requires-clause-known c = c.pop_to_encapsulation.ensures.known c.args.catalogue.now
    c.requires.known

pub returns-clause-stand : goal.returns-clause-stand
returns-clause-stand c at h = c.go_on_after_part.ensures.stand
    at (c.pop_to_encapsulation.ensures.stand at h)
