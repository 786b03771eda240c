use Rattle.std.proofs.Common.{◌+◌, [], length, refl, sym, ◌∙◌, subst}
use Rattle.giop_decode.specs.ReadResult.{fragment_aligned_from}
use Rattle.giop_decode.specs.SeenState.{KeepsNoted}
use Rattle.giop_sig.specs.Table.{seen}
use Rattle.giop_decode.proofs.Codings.{reading_agrees, seamed_below, seamed_even, seamed_here}
use Rattle.giop_decode.proofs.decoder.Decoder.seam.Goals as goal

pub returns-clause-reads : goal.returns-clause-reads
returns-clause-reads c C T coding at message root s r =
    let d = c.args.self.now in
    let here = at + length s in
    let same = reading_agrees coding (fragment_aligned_from coding here) [] T at s refl
    (seamed_below coding here) in
    record {
      lines = r.lines;
      is = sym same ∙ r.is;
      keeps_noted = subst (KeepsNoted (seen d.forbids_wide C) root d) same r.keeps_noted;
      forbids_wide = r.forbids_wide;
      same_message = r.same_message;
      same_root = r.same_root;
      offset = record {
        order = r.offset.order;
        phase = seamed_here coding here;
        even = seamed_even coding here;
        outer = r.offset.outer;
      };
    }
