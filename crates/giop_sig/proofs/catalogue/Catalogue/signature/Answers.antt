use Rattle.std.proofs.Common.{refl, sym}
use Rattle.giop_sig.proofs.Finds.{signature_known}
use Rattle.giop_sig.proofs.catalogue.Catalogue.signature.Goals as goal

pub returns-clause-known : goal.returns-clause-known
returns-clause-known c =
    signature_known c.self.inside.operations.entries _ c.args.self.now c.args.operation.0
    (c.in-Some.field-0-0.now, c.in-Some.signature.now) c.self.invariant
    c.self.view_is refl (sym c.in-Some.ensures.entry)
