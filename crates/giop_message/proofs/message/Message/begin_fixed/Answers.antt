use Rattle.std.proofs.Common.{◌≡◌, ◌+◌, [], length, sym, ap, subst}
use Rattle.giop_sig.specs.Table.{Table, in_version}
use Rattle.giop_sig.specs.Trees.{tree}
use Rattle.giop_sig.specs.HeaderTypes.{fixed_type}
use Rattle.giop_decode.specs.Reading.{reading}
use Rattle.giop_decode.specs.Noted.{nothing_noted}
use Rattle.giop_message.specs.Headers.{minor}
use Rattle.giop_message.specs.Messages.{coding_of, read_message, with_front, section_and_rest}
use Rattle.giop_message.specs.MessageState.{IsFirstIfHeader}
use Rattle.giop_message.specs.Signatures.{signatures_of}
use Rattle.giop_message.proofs.Starting.{fit_some}
use Rattle.giop_message.proofs.message.Message.begin_fixed.Goals as goal

pub begin_section-requires-clause-some : goal.begin_section-requires-clause-some
begin_section-requires-clause-some c =
    fit_some (tree (in_version (minor c.args.self.now.header) c.args.catalogue.now)
    c.fixed-of.result.0) (rw (← c.minor_of.ensures, ← c.in_version.ensures) c.fixed-of.ensures.fit)

pub returns-clause-enters : goal.returns-clause-enters
returns-clause-enters c answers phase number header s at before first e =
    let C = c.args.catalogue.now in
    let S = signatures_of C (answers number) phase in
    let version = ap (λ (t : Table). t.version) c.in_version.ensures in
    let is : tree (in_version (minor header) C) c.fixed-of.result.0
    ≡ fixed_type C.version c.args.fixed =
    rw (← at.same_header, ← c.minor_of.ensures, ← c.in_version.ensures, ← version)
    c.fixed-of.ensures.tree in
    c.begin_section.ensures.enters answers phase number header s at before
    (subst (λ T. IsFirstIfHeader C.version header c.args.section T before s) (sym is) first)
    (subst (λ T. read_message S header s ≡ with_front before
    (section_and_rest S header c.args.section nothing_noted
    (reading (coding_of S header) [] T (12 + length s) []))) (sym is) e)
