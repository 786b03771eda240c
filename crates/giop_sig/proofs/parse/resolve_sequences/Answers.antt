use Rattle.std.proofs.Common.{ℕ, Ok, Err, sym, ap, ◌∙◌}
use Rattle.std.specs.Prelude.{not, position}
use Rattle.std.specs.Option.{is_some}
use Rattle.giop_tokens.specs.declared.fault.TokenError.{TokenError}
use Rattle.giop_tokens.specs.declared.fault.SigFaultKind.TheVariants as kinds
use Rattle.giop_sig.specs.FileReading.{resolved_unless_undeclared}
use Rattle.giop_sig.proofs.SettledEntries.{settled_reads}
use Rattle.giop_sig.proofs.parse.resolve_sequences.Goals as goal

pub returns-in-None-clause-gives : goal.returns-in-None-clause-gives
returns-in-None-clause-gives c =
    settled_reads c.args.draft.now c.args.lefts.now c.in_ok-targets.targets.items
    c.first_none.result c.in_ok-targets.ensures.ok
    (c.first_none.ensures ∙ ap (position (λ t. not (is_some t))) c.as_slice.ensures.value)
    ∙ ap (resolved_unless_undeclared c.args.draft.now c.args.lefts.now) c.in-None.is
    ∙ ap Ok (sym c.resolve_sequences.ensures.is)

abbrev refused_at : (n : ℕ) → TokenError
refused_at n = record { kind = kinds.UnknownType; left = n }

pub returns-clause-gives : goal.returns-clause-gives
returns-clause-gives c =
    settled_reads c.args.draft.now c.args.lefts.now c.in_ok-targets.targets.items
    c.first_none.result c.in_ok-targets.ensures.ok
    (c.first_none.ensures ∙ ap (position (λ t. not (is_some t))) c.as_slice.ensures.value)
    ∙ ap (resolved_unless_undeclared c.args.draft.now c.args.lefts.now) c.in-Some.is
    ∙ ap (λ n. Err (refused_at n)) (sym c.left_at.ensures)
