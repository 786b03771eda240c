use Rattle.std.proofs.Common.{ap, sym, arith}
use Rattle.std.proofs.lemmas.List.{get_or_past}
use Rattle.giop_sig.specs.Heard.{inferred_by_kinds}
use Rattle.giop_sig.specs.Hearings.{signal_of}
use Rattle.giop_sig.specs.Types.{Unknown}
use Rattle.giop_sig.proofs.HearingLaws.{listed_signal}
use Rattle.giop_sig.proofs.told_kinds.signal_by_kind.Goals as goal

pub returns-then-kind-lt-KINDS : goal.returns-then-kind-lt-KINDS
returns-then-kind-lt-KINDS c =
    listed_signal inferred_by_kinds c.args.kind _ (omega (arith, c.if-kind-lt-KINDS.true))

pub returns-else-kind-lt-KINDS : goal.returns-else-kind-lt-KINDS
returns-else-kind-lt-KINDS c =
    ap signal_of (sym (get_or_past inferred_by_kinds c.args.kind Unknown
    (omega (arith, c.if-kind-lt-KINDS.false))))
