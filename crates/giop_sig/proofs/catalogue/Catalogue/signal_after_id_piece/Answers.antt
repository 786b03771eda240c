use Rattle.std.proofs.Common.{◌≤◌, ◌++◌, length, subst, sym, ap, ◌∙◌}
use Rattle.giop_sig.specs.Heard.{front_at, inferred_by_id_part}
use Rattle.giop_sig.specs.Hearings.{signal_of}
use Rattle.giop_sig.proofs.HearingLaws.{longer_told, too_long}
use Rattle.giop_sig.proofs.catalogue.Catalogue.signal_after_id_piece.Goals as goal

pub returns-in_default : goal.returns-in_default
returns-in_default c =
    let piece = c.args.held.now ++ c.args.rest.now in
    too_long c.args.self.now
    (front_at c.args.self.now c.args.front ++ piece) c.args.more c.laws.ensures
    (subst (λ f. 130 ≤ length (f ++ piece)) c.front_octets.ensures c.in_default.ensures.none)

pub returns-in-Some-front_number : goal.returns-in-Some-front_number
returns-in-Some-front_number c =
    let t = c.args.self.now in
    let piece = c.args.held.now ++ c.args.rest.now in
    longer_told t c.in-Some.octets.items c.in-Some-front_number.longer
    c.in-Some-front_number.ensures
    ∙ ap (λ more. signal_of (inferred_by_id_part t c.in-Some.octets.items more))
    (sym c.if-not-more.false)
    ∙ ap (λ octets. signal_of (inferred_by_id_part t octets c.args.more))
    (c.in-Some.ensures.some ∙ ap (λ f. f ++ piece) c.front_octets.ensures)
