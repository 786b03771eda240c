use Rattle.std.proofs.Common.{◌≡◌, sym, subst, ◌∙◌, arith}
use Rattle.giop_decode.specs.SeenState as states
use Rattle.giop_decode.proofs.StoredAgain.{restored_fits, restored_reads}
use Rattle.giop_decode.proofs.StoredChain.{chains_fits, fits_chains}
use Rattle.giop_decode.proofs.Versions.{fits_own, reads_own}
use Rattle.giop_decode.proofs.decoder.Decoder.restore.Goals as goal
use Rattle.giop_sig.specs.Table.{seen}

pub returns-then-decoder-forbids_wide-clause-again :
    goal.returns-then-decoder-forbids_wide-clause-again
returns-then-decoder-forbids_wide-clause-again c d fits version stored =
    let restored = c.unchecked_decoder-decoder.ensures d stored in
    let same : c.unchecked_decoder-decoder.result.forbids_wide ≡ c.is_narrow-forbids_wide.result =
    restored.forbids_wide ∙ (version ∙ sym c.is_narrow-forbids_wide.ensures) in
    search (arith)

pub returns-then-not-fits_catalogue-clause-again : goal.returns-then-not-fits_catalogue-clause-again
returns-then-not-fits_catalogue-clause-again c d fits version stored =
    let C = c.args.catalogue.now in
    let S = seen c.is_narrow-forbids_wide.result C in
    let same : d.forbids_wide ≡ c.is_narrow-forbids_wide.result = version
    ∙ sym c.is_narrow-forbids_wide.ensures in
    let fit : states.Fits S d = subst (λ n. states.Fits (seen n C) d) same fits in
    let restored = c.unchecked_decoder-decoder.ensures d stored in
    let laws = rw c.seen-seen.ensures.is at c.laws.ensures in
    let is = rw c.seen-seen.ensures.is at c.fits_catalogue.ensures in
    let chains = is.1 (fits_chains S _ laws (restored_fits S d _ restored fit)) in
    cc

pub returns-then-not-is_stored_as-clause-again : goal.returns-then-not-is_stored_as-clause-again
returns-then-not-is_stored_as-clause-again c d fits version stored =
    let C = c.args.catalogue.now in
    let restored = c.unchecked_decoder-decoder.ensures d stored in
    let again = fits_own d.forbids_wide C _ (restored_fits (seen d.forbids_wide C) d _ restored
    fits) in
    let is = c.is_stored_as.ensures.again C d again stored restored in
    cc

pub returns-clause-fits : goal.returns-clause-fits
returns-clause-fits c =
    let C = c.args.catalogue.now in
    let S = seen c.is_narrow-forbids_wide.result C in
    let laws = rw c.seen-seen.ensures.is at c.laws.ensures in
    let is = rw c.seen-seen.ensures.is at c.fits_catalogue.ensures in
    let same : c.unchecked_decoder-decoder.result.forbids_wide ≡ c.is_narrow-forbids_wide.result =
    search (arith) in
    fits_own c.is_narrow-forbids_wide.result C _ (chains_fits S _ laws same (is.0 (cc)))

pub returns-clause-version : goal.returns-clause-version
returns-clause-version c =
    let same : c.unchecked_decoder-decoder.result.forbids_wide ≡ c.is_narrow-forbids_wide.result =
    search (arith) in
    same ∙ c.is_narrow-forbids_wide.ensures

pub returns-clause-stored : goal.returns-clause-stored
unfolding returns-clause-fits
returns-clause-stored c =
    c.is_stored_as.ensures.stored c.args.catalogue.now (returns-clause-fits c) (cc)

pub returns-clause-reads : goal.returns-clause-reads
returns-clause-reads c d fits stored T coding at message root s reads =
    let C = c.args.catalogue.now in
    reads_own d.forbids_wide C T coding at message root _ s
    (restored_reads (seen d.forbids_wide C) d _ T coding at message root s
    (c.unchecked_decoder-decoder.ensures d stored) reads)
