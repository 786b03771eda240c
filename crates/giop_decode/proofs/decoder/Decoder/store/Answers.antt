use Rattle.std.proofs.Common.{arith}
use Rattle.std.proofs.lemmas.Bool.Decides.{nat_tests}
use Rattle.giop_decode.proofs.Depths.{fits_depth}
use Rattle.giop_decode.proofs.StoredChain.{fits_few}
use Rattle.giop_decode.proofs.Versions.{table_seen}
use Rattle.giop_sig.specs.Table.{seen}
use Rattle.giop_decode.proofs.decoder.Decoder.store.Goals as goal

pub returns-then-is_full-clause-stored : goal.returns-then-is_full-clause-stored
returns-then-is_full-clause-stored c C fits =
    let d = c.args.self.now in
    let few = fits_few (seen d.forbids_wide C) d fits in
    absurd (grind (arith, nat_tests))

pub returns-clause-depth : goal.returns-clause-depth
returns-clause-depth c C laws fits =
    let d = c.args.self.now in
    omega (arith, fits_depth (seen d.forbids_wide C) d (table_seen d.forbids_wide C laws) fits)
