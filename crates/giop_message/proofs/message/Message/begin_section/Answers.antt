use Rattle.std.proofs.Common.{◌≡◌, ◌+◌, ◌%◌, [], length, sym, ◌∙◌, append-nil}
use Rattle.giop_sig.specs.Table.{in_version}
use Rattle.giop_sig.specs.Trees.{tree}
use Rattle.giop_message.specs.Headers.{minor}
use Rattle.giop_message.specs.Phases.{IsShiftedFrom}
use Rattle.giop_message.specs.Signatures.{signatures_of}
use Rattle.giop_message.proofs.Followings.{counted_now, even_from}
use Rattle.giop_message.proofs.message.Message.begin_section.Goals as goal

pub returns-clause-enters : goal.returns-clause-enters
unfolding signatures_of
returns-clause-enters c answers phase number header s at before first e =
    let counted : IsShiftedFrom phase c.args.self.now.lacks (12 + length s) =
    rw at.at at at.counted in
    let now : phase (12 + length s) % 8 ≡ c.next_phase-phase.result % 8 =
    counted_now phase c.args.self.now.lacks (12 + length s) counted
    ∙ sym (rw at.at at c.next_phase-phase.ensures) in
    record {
      T = tree (in_version (minor header) c.args.catalogue.now) c.args.of.0;
      before = before;
      front = s;
      octets = [];
      since = sym (append-nil s);
      is = e;
      first = first;
      reads = rw (
        ← at.same_header,
        ← c.minor_of-minor.ensures,
        ← at.same_number,
        ← c.root-root.ensures,
      ) (c.restart.ensures.reads _ (12 + length s) (sym c.order_of-order.ensures)
          (even_from phase c.args.self.now.lacks (12 + length s) counted) now);
    }
