use Rattle.std.proofs.Common.{true, option_and_then, ap, ◌∙◌}
use Rattle.giop_print.specs.declared.path.Root.TheVariants as roots
use Rattle.giop_sig.specs.Table.{operation_for}
use Rattle.giop_decode.specs.Noted.{noted_of}
use Rattle.giop_message.specs.HeaderEnds.{operation_of}
use Rattle.giop_message.specs.Signatures.{called_operation}
use Rattle.giop_message.proofs.notifying.named_operation.Goals as goal

pub returns-in_default-clause-is : goal.returns-in_default-clause-is
unfolding operation_of
returns-in_default-clause-is c r keeps_noted =
    let C = c.args.catalogue.now in
    let name = c.in_default.ensures C roots.Header r keeps_noted in
    rw (← c.kind_of.ensures, c.if-kind_of-ne0.false)
    (ap (option_and_then (called_operation C (noted_of true r).key)) name)

pub returns-clause-is : goal.returns-clause-is
unfolding operation_of
returns-clause-is c r keeps_noted =
    let C = c.args.catalogue.now in
    let name = c.in-Some.ensures C roots.Header r keeps_noted in
    rw (← c.kind_of.ensures, c.if-kind_of-ne0.false)
    (c.operation_for.ensures.is
    ∙ (ap (operation_for C c.in-Some.name.now) (c.interface.ensures.is roots.Header r keeps_noted)
    ∙ ap (option_and_then (called_operation C (noted_of true r).key)) name))
