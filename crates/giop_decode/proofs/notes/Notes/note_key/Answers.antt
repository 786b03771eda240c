use Rattle.std.proofs.Common.{sym, ◌∙◌, ap, subst}
use Rattle.giop_decode.specs.SeenState.{HoldsNoted}
use Rattle.giop_decode.specs.Noted.{with_key_piece, with_key_ended}
use Rattle.giop_decode.proofs.Noting.{key_both, key_last, key_more}
use Rattle.giop_decode.proofs.notes.Notes.note_key.Goals as goal

pub returns-then-not-more-clause-notes : goal.returns-then-not-more-clause-notes
returns-then-not-more-clause-notes c asked h recalls =
    let C = c.args.catalogue.now in
    let held = c.args.held.now in
    let rest = c.args.rest.now in
    let both = c.extend_key-2.ensures.notes C asked (with_key_piece h held) c.requires
    (c.extend_key.ensures.notes C asked h c.requires recalls) in
    let may = sym (c.may_have_key.ensures.is C asked h recalls) ∙ c.if-not-may_have_key.false in
    subst (HoldsNoted C asked c.end_key.new.self)
    (ap with_key_ended (key_both h held rest) ∙ key_last h _ c.args.more may c.if-not-more.true)
    (c.end_key.ensures.notes asked (with_key_piece (with_key_piece h held) rest) both)

pub returns-else-not-more-clause-notes : goal.returns-else-not-more-clause-notes
returns-else-not-more-clause-notes c asked h recalls =
    let C = c.args.catalogue.now in
    let held = c.args.held.now in
    let rest = c.args.rest.now in
    let both = c.extend_key-2.ensures.notes C asked (with_key_piece h held) c.requires
    (c.extend_key.ensures.notes C asked h c.requires recalls) in
    let may = sym (c.may_have_key.ensures.is C asked h recalls) ∙ c.if-not-may_have_key.false in
    subst (HoldsNoted C asked c.extend_key-2.new.self)
    (key_both h held rest ∙ key_more h _ c.args.more may c.if-not-more.false) both
