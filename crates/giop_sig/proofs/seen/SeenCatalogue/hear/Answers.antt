use Rattle.std.proofs.Common.{sym}
use Rattle.giop_sig.specs.Hearings.{sign_view, inferred_of_signal}
use Rattle.giop_sig.proofs.HearingLaws.{heard_after, heard_any, seen_hears}
use Rattle.giop_sig.proofs.seen.SeenCatalogue.hear.Goals as goal

pub returns-in-Led-clause-is : goal.returns-in-Led-clause-is
returns-in-Led-clause-is c =
    heard_after c.args.self.now c.args.t.0 c.args.told c.any_signal_after.result c.args.sign
    (sym c.in-Led.ensures.is)
    (seen_hears c.self.inside.forbids_wide c.self.inside.catalogue.now c.args.self.now
    (inferred_of_signal c.args.told) (sign_view c.args.sign) c.any_signal_after.result
    c.self.view_is
    c.any_signal_after.ensures)

pub returns-in-Led-clause-heard : goal.returns-in-Led-clause-heard
returns-in-Led-clause-heard c n =
    heard_any c.args.self.now c.args.t.0 n c.args.told c.any_signal_after.result c.args.sign
    (sym c.in-Led.ensures.is)
    (seen_hears c.self.inside.forbids_wide c.self.inside.catalogue.now c.args.self.now
    (inferred_of_signal c.args.told) (sign_view c.args.sign) c.any_signal_after.result
    c.self.view_is
    c.any_signal_after.ensures)
