use Rattle.std.proofs.Common.{ap, sym, ◌∙◌, get_or}
use Rattle.giop_sig.specs.Heard.{inferred_if_found, inferred_by_id_kind}
use Rattle.giop_sig.specs.Hearings.{signal_of}
use Rattle.giop_sig.proofs.HearingLaws.{identity_parts}
use Rattle.giop_sig.proofs.catalogue.Catalogue.signal_after_id.Goals as goal

pub returns-in-Some : goal.returns-in-Some
returns-in-Some c =
    let t = c.args.self.now in
    c.inferred_by_id_kind.ensures
    ∙ ap (λ node. signal_of (inferred_by_id_kind (get_or c.args.octets.now 0 0) c.in-Some.t.0 node))
    c.entry.ensures.node
    ∙ ap (λ o. signal_of (inferred_if_found t (get_or c.args.octets.now 0 0) o))
    c.in-Some.ensures.is
    ∙ ap signal_of (sym (identity_parts t c.args.octets.now c.in-len1-up.len_at_least))

pub returns-in-None : goal.returns-in-None
returns-in-None c =
    let t = c.args.self.now in
    ap (λ o. signal_of (inferred_if_found t (get_or c.args.octets.now 0 0) o)) c.in-None.ensures.is
    ∙ ap signal_of (sym (identity_parts t c.args.octets.now c.in-len1-up.len_at_least))
