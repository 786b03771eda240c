use Rattle.std.proofs.Common.{arith, refl}
use Rattle.giop_stream.specs.Rules.{rules_by}
use Rattle.giop_stream.specs.Effects.{with_octet}
use Rattle.giop_stream.specs.DoesEffect.{count_one_if}
use Rattle.giop_stream.proofs.SlotSteps.Performing.{performs_on, line_then, line_failed, first_failed, call_failed, then_failed, done_then, counts_as}
use Rattle.giop_stream.proofs.SlotSteps.AtHeader.{starts_faults}
use Rattle.giop_stream.proofs.SlotSteps.Parts.{first, second}
use Rattle.giop_stream.proofs.SlotSteps.Continuing.{said_faults, continues_at, any', opener_at, opener_is, after_id, starts_text, said_text, all_lines, second_does, leaves, come}
use Rattle.giop_stream.proofs.fragment.join_fragment.Goals as goal

pub returns-in_err-start_line-clause-does : goal.returns-in_err-start_line-clause-does
returns-in_err-start_line-clause-does g c =
    λ l c' m x h.
    line_failed c.from_residual.result _ _ _ (record { more = _; is = refl })
    (starts_text c.args.catalogue.now l c.args.slots.now c' m c.args.now x c.args.found h)
    c.from_residual.ensures.0 c.in_err-start_line.ensures

pub returns-in_err-request_id_line-clause-does : goal.returns-in_err-request_id_line-clause-does
returns-in_err-request_id_line-clause-does g c =
    λ l c' m x h.
    let C = c.args.catalogue.now in
    let s = c.args.slots.now in
    let failed = c.from_residual-in_err-request_id_line.ensures.0 in
    line_then c.from_residual-in_err-request_id_line.result _ _ _ _
    (starts_text C l s c' m c.args.now x c.args.found h)
    (starts_faults _ _) c.in_ok-start_line.ensures
    (line_failed c.from_residual-in_err-request_id_line.result _ _ _
    (record { more = _; is = all_lines C l s c' m c.args.now x c.args.found h })
    (said_text C l s c' m c.args.now x c.args.found h) failed c.in_err-request_id_line.ensures)

pub returns-in_err-faulted-clause-does : goal.returns-in_err-faulted-clause-does
returns-in_err-faulted-clause-does g c =
    λ l c' m x h.
    let C = c.args.catalogue.now in
    let s = c.args.slots.now in
    let failed = c.from_residual-in_err-faulted.ensures.0 in
    let took = (first (rules_by C l s.slots.most) c' (with_octet m x)).tracked in
    let opener = opener_at C l s c' m c.args.now x c.args.found h in
    let named = second_does C l s c' m c.args.now x c.args.found h count_one_if _ _ _ _
    (c.in_err-faulted.ensures.does C l took _ (with_octet m x) opener.o
    (continues_at C l s c' m c.args.now x c.args.found h)
    (any' C l s c' m c.args.now x c.args.found h)
    (opener_is C l s c' m c.args.now x c.args.found h) opener.here) in
    line_then c.from_residual-in_err-faulted.result _ _ _ _
    (starts_text C l s c' m c.args.now x c.args.found h)
    (starts_faults _ _) c.in_ok-start_line.ensures
    (performs_on c.from_residual-in_err-faulted.result _ _
    (all_lines C l s c' m c.args.now x c.args.found h)
    (leaves C l s c' m c.args.now x c.args.found h _)
    (line_then c.from_residual-in_err-faulted.result _ _ _ _
    (said_text C l s c' m c.args.now x c.args.found h)
    (said_faults _ _ _ _) c.in_ok-request_id_line.ensures
    (first_failed _ _ c.from_residual-in_err-faulted.result _ _ failed named)))

pub at_last_octet-requires : goal.at_last_octet-requires
at_last_octet-requires g c =
    record { ready = c.in_ok-faulted.ensures.room.ready _ _ c.requires.ready }

pub returns-in_err-ended-clause-does : goal.returns-in_err-ended-clause-does
returns-in_err-ended-clause-does g c =
    λ l c' m x h.
    let C = c.args.catalogue.now in
    let s = c.args.slots.now in
    let failed = c.from_residual-in_err-ended.ensures.0 in
    let R = rules_by C l s.slots.most in
    let took = (first R c' (with_octet m x)).tracked in
    let opener = opener_at C l s c' m c.args.now x c.args.found h in
    let named = second_does C l s c' m c.args.now x c.args.found h count_one_if _ _ _ _
    (c.in_ok-faulted.ensures.does C l took _ (with_octet m x) opener.o
    (continues_at C l s c' m c.args.now x c.args.found h)
    (any' C l s c' m c.args.now x c.args.found h)
    (opener_is C l s c' m c.args.now x c.args.found h) opener.here) in
    let ended =
    c.in_err-ended.ensures.does l (second R c' (with_octet m x)).tracked (with_octet m x)
    (after_id C l s c' m c.args.now x c.args.found h _ named.kept)
    (come C l s c' m c.args.now x c.args.found h) in
    line_then c.from_residual-in_err-ended.result _ _ _ _
    (starts_text C l s c' m c.args.now x c.args.found h)
    (starts_faults _ _) c.in_ok-start_line.ensures
    (performs_on c.from_residual-in_err-ended.result _ _
    (all_lines C l s c' m c.args.now x c.args.found h)
    (leaves C l s c' m c.args.now x c.args.found h _)
    (line_then c.from_residual-in_err-ended.result _ _ _ _
    (said_text C l s c' m c.args.now x c.args.found h)
    (said_faults _ _ _ _) c.in_ok-request_id_line.ensures
    (then_failed _ c.from_residual-in_err-ended.result _ _ _ failed named
    (call_failed _ c.from_residual-in_err-ended.result _ _ failed ended))))

pub returns-clause-does : goal.returns-clause-does
returns-clause-does g c =
    λ l c' m x h.
    let C = c.args.catalogue.now in
    let s = c.args.slots.now in
    let R = rules_by C l s.slots.most in
    let took = (first R c' (with_octet m x)).tracked in
    let opener = opener_at C l s c' m c.args.now x c.args.found h in
    let named = second_does C l s c' m c.args.now x c.args.found h count_one_if _ _ _ _
    (c.in_ok-faulted.ensures.does C l took _ (with_octet m x) opener.o
    (continues_at C l s c' m c.args.now x c.args.found h)
    (any' C l s c' m c.args.now x c.args.found h)
    (opener_is C l s c' m c.args.now x c.args.found h) opener.here) in
    let ended =
    c.in_ok-ended.ensures.does l (second R c' (with_octet m x)).tracked (with_octet m x)
    (after_id C l s c' m c.args.now x c.args.found h _ named.kept)
    (come C l s c' m c.args.now x c.args.found h) in
    counts_as _ _ _ _ (omega (arith, c.count_faults.ensures.value))
    (line_then _ _ _ _ _ (starts_text C l s c' m c.args.now x c.args.found h) (starts_faults _ _)
    c.in_ok-start_line.ensures
    (performs_on _ _ _ (all_lines C l s c' m c.args.now x c.args.found h)
    (leaves C l s c' m c.args.now x c.args.found h _)
    (line_then _ _ _ _ _ (said_text C l s c' m c.args.now x c.args.found h) (said_faults _ _ _ _)
    c.in_ok-request_id_line.ensures
    (done_then _ _ _ _ _ named ended))))
