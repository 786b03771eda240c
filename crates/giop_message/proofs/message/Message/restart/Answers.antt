use Rattle.std.proofs.Common.{◌≡◌, [], None, Some, refl, sym, ap, ◌∙◌}
use Rattle.giop_sig.specs.HeaderTypes.{header_type}
use Rattle.giop_sig.specs.Table.{Table, in_version}
use Rattle.giop_sig.specs.Trees.{tree}
use Rattle.giop_message.specs.Headers.{minor, kind}
use Rattle.giop_message.specs.Signatures.{signatures_of}
use Rattle.giop_message.specs.Messages.{nothing_said}
use Rattle.giop_message.specs.ReaderOfTable.{first_request_id}
use Rattle.giop_message.proofs.Starting.{fit_some, none_told, none_rests, front_rests, header_first}
use Rattle.giop_message.proofs.message.Message.restart.Goals as goal

pub begin_section-requires-clause-some : goal.begin_section-requires-clause-some
begin_section-requires-clause-some c =
    fit_some (tree (in_version (minor c.args.header) c.args.catalogue.now) c.in-Some.of.0)
    (rw (← c.minor_of-minor.ensures, ← c.in_version.ensures) c.in-Some.ensures.fit)

pub returns-in-Some-clause-follows : goal.returns-in-Some-clause-follows
unfolding signatures_of
returns-in-Some-clause-follows c answers phase counted =
    let e = c.begin_section.ensures in
    let version = ap (λ (t : Table). t.version) c.in_version.ensures in
    let found : header_type c.args.catalogue.now.version (minor c.args.header) (kind c.args.header)
    ≡ Some (tree (in_version (minor c.args.header) c.args.catalogue.now) c.in-Some.of.0) =
    rw (← c.minor_of-minor.ensures, ← c.kind_of.ensures, ← c.in_version.ensures, ← version)
    (sym c.in-Some.ensures.tree) in
    record {
      same_number = e.number;
      same_header = e.header;
      id = e.id ∙ rw e.within refl;
      at = e.at;
      counted = rw (e.lacks, e.at) counted;
      stands = e.enters answers phase c.args.number c.args.header []
          (record { same_number = refl; same_header = refl; at = refl; counted = counted })
          nothing_said
          (found, refl, refl)
          (header_first (signatures_of c.args.catalogue.now (answers c.args.number) phase)
          c.args.header
          (tree (in_version (minor c.args.header) c.args.catalogue.now) c.in-Some.of.0) found);
    }

pub returns-in-None-clause-follows : goal.returns-in-None-clause-follows
unfolding signatures_of first_request_id
returns-in-None-clause-follows c answers phase counted =
    let e = c.begin_rest.ensures in
    let version = ap (λ (t : Table). t.version) c.in_version.ensures in
    let S = signatures_of c.args.catalogue.now (answers c.args.number) phase in
    let none : header_type c.args.catalogue.now.version (minor c.args.header) (kind c.args.header)
    ≡ None =
    rw (← c.minor_of-minor.ensures, ← c.kind_of.ensures, ← version)
    (sym c.in-None.ensures.tree) in
    record {
      same_number = e.number;
      same_header = e.header;
      id = e.id ∙ rw (e.past, none_told S c.args.header) refl;
      at = e.at;
      counted = rw (e.lacks, e.at) counted;
      stands = e.arrives c.args.catalogue.now answers phase c.args.number c.args.header []
          (record { same_number = refl; same_header = refl; at = refl; counted = counted })
          nothing_said
          (none_rests S c.args.header none ∙ sym (front_rests nothing_said 12));
    }

pub returns-in-None-clause-fits : goal.returns-in-None-clause-fits
returns-in-None-clause-fits c = c.begin_rest.ensures.fits c.args.catalogue.now
