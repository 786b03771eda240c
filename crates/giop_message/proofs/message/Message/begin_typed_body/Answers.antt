use Rattle.std.proofs.Common.{◌≡◌, ◌+◌, true, length, sym, ap, ◌∙◌}
use Rattle.giop_sig.specs.Table.{in_version}
use Rattle.giop_sig.specs.Trees.{tree}
use Rattle.giop_message.specs.Headers.{minor}
use Rattle.giop_message.specs.Messages.{coding_of, Typed, body_may_be_missing, with_front, read_typed}
use Rattle.giop_message.specs.Signatures.{signatures_of}
use Rattle.giop_message.proofs.Starting.{empty_rests, some_not_empty}
use Rattle.giop_message.proofs.message.Message.begin_typed_body.Goals as goal

pub begin_section-requires-clause-some : goal.begin_section-requires-clause-some
begin_section-requires-clause-some c =
    some_not_empty (tree (in_version (minor c.args.self.now.header) c.args.catalogue.now)
    c.args.of.0)
    (rw (← c.minor_of.ensures, ← c.in_version.ensures)
    (sym c.is_empty_struct.ensures ∙ c.if-is_empty_struct.false))

pub returns-then-is_empty_struct-clause-fits : goal.returns-then-is_empty_struct-clause-fits
returns-then-is_empty_struct-clause-fits c = c.begin_rest.ensures.fits c.args.catalogue.now

pub returns-then-is_empty_struct-clause-arrives : goal.returns-then-is_empty_struct-clause-arrives
returns-then-is_empty_struct-clause-arrives c answers phase number header s at before e =
    let C = c.args.catalogue.now in
    let S = signatures_of C (answers number) phase in
    let T = tree (in_version (minor header) C) c.args.of.0 in
    let empty : body_may_be_missing (Typed T) ≡ true = rw
    (← at.same_header, ← c.minor_of.ensures, ← c.in_version.ensures)
    (sym c.is_empty_struct.ensures ∙ c.if-is_empty_struct.true) in
    c.begin_rest.ensures.arrives C answers phase number header s at before
    (e ∙ ap (with_front before) (empty_rests (coding_of S header) T (12 + length s) empty))

pub returns-else-is_empty_struct-clause-arrives : goal.returns-else-is_empty_struct-clause-arrives
unfolding read_typed
returns-else-is_empty_struct-clause-arrives c answers phase number header s at before e =
    c.begin_section.ensures.enters answers phase number header s at before tt e
