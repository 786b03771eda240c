use Rattle.std.proofs.Common.{refl, ◌∙◌}
use Rattle.giop_decode.proofs.Versions.{fits_own, reads_own}
use Rattle.giop_decode.proofs.decoder.Decoder.restart.Goals as goal
use Rattle.giop_sig.specs.Table.{in_version, is_narrow}
use Rattle.giop_sig.specs.Trees.{tree}

pub begin_value-requires-clause-known : goal.begin_value-requires-clause-known
begin_value-requires-clause-known c = rw c.seen.ensures.is c.requires

pub begin_value-requires-clause-version : goal.begin_value-requires-clause-version
begin_value-requires-clause-version c = rw c.seen.ensures.is refl

pub returns-clause-reads : goal.returns-clause-reads
returns-clause-reads c coding at order even phase =
    let C = c.args.catalogue.now in
    let minor = c.args.minor in
    reads_own (is_narrow minor C) C (tree (in_version minor C) c.args.of.0) coding
    at c.args.message c.args.root c.begin_value.new.self _
    (rw (c.new-self.ensures, c.seen.ensures.is, c.is_narrow-self.ensures) at
    (c.begin_value.ensures.reads coding at order even phase))

pub returns-clause-done : goal.returns-clause-done
returns-clause-done c =
    rw (c.seen.ensures.is, c.is_narrow-self.ensures) at c.begin_value.ensures.done

pub returns-clause-fits : goal.returns-clause-fits
returns-clause-fits c some =
    let C = c.args.catalogue.now in
    let fits = rw (c.seen.ensures.is, c.is_narrow-self.ensures) at c.begin_value.ensures.fits in
    fits_own (is_narrow c.args.minor C) C c.begin_value.new.self (fits some)

pub returns-clause-version : goal.returns-clause-version
returns-clause-version c = c.begin_value.ensures.version ∙ c.is_narrow-self.ensures
