use Rattle.std.proofs.Common.{◌≡◌, ℕ, List, [], length, Ok, Err, ap, subst, ◌∙◌}
use Rattle.std.proofs.lemmas.Result.{err_from_is_err_and}
use Rattle.giop_tokens.specs.Reading.{◌>>=◌}
use Rattle.giop_sig.specs.declared.parse_stop.ParseError.{ParseError}
use Rattle.giop_sig.specs.declared.parse_stop.ParseError.TheVariants as stops
use Rattle.giop_sig.specs.Outcomes.{StopsAsRead}
use Rattle.giop_sig.specs.Repeats.{in_steps}
use Rattle.giop_sig.specs.Scopes.{Scope, first_scope}
use Rattle.giop_sig.specs.FileReading.{DeclarationsRead, declarations_step, misplaced_after, version_line_at, file_at, resolved_if_declared}
use Rattle.giop_sig.proofs.parse.draft_of.Goals as goal

file_stops : (latest version : ℕ) (text rest : List ℕ) (s : Scope) (lefts : List ℕ)
    (e : ParseError) → version_line_at latest text ≡ Ok (version, rest) → s ≡ first_scope version
    → lefts ≡ []
    → StopsAsRead e (in_steps declarations_step misplaced_after (length text) (s, lefts, rest))
    → StopsAsRead e (file_at latest text)
unfolding file_at
file_stops latest version text rest s lefts stops.Memory h same none k = tt
file_stops latest version text rest s lefts (stops.Refused r) h same none k =
    rw h (ap (λ x. x >>= λ d. resolved_if_declared d.0 d.1)
    (subst (λ t. in_steps declarations_step misplaced_after (length text) (t, [], rest) ≡ Err r)
    same
    (subst (λ ps. in_steps declarations_step misplaced_after (length text) (s, ps, rest) ≡ Err r)
    none k)))

pub returns-in_err-declarations-clause-gives : goal.returns-in_err-declarations-clause-gives
returns-in_err-declarations-clause-gives c =
    let p = err_from_is_err_and c.from_residual-in_err-declarations.result
    c.from_residual-in_err-declarations.ensures.1 in
    rw (p.1, p.2) (file_stops c.args.latest c.in_ok-version.version c.args.text.now
    c.in_ok-version.rest.now c.in_ok-draft.draft _ c.in_err-declarations.field-0.0
    c.in_ok-version.ensures c.in_ok-draft.ensures.ok c.new-lefts.ensures.items
    c.in_err-declarations.ensures)

-- what the end of the file refuses
settle_stops : (latest version : ℕ) (text rest : List ℕ) (s : Scope) (lefts : List ℕ)
    (d : DeclarationsRead) (e : ParseError) → version_line_at latest text ≡ Ok (version, rest)
    → s ≡ first_scope version → lefts ≡ []
    → in_steps declarations_step misplaced_after (length text) (s, lefts, rest) ≡ Ok d
    → StopsAsRead e (resolved_if_declared d.0 d.1) → StopsAsRead e (file_at latest text)
unfolding file_at
settle_stops latest version text rest s lefts d stops.Memory h same none k stop = tt
settle_stops latest version text rest s lefts d (stops.Refused r) h same none k stop =
    rw h (ap (λ x. x >>= λ d. resolved_if_declared d.0 d.1)
    (subst (λ t. in_steps declarations_step misplaced_after (length text) (t, [], rest) ≡ Ok d)
    same
    (subst (λ ps. in_steps declarations_step misplaced_after (length text) (s, ps, rest) ≡ Ok d)
    none k)) ∙ stop)

pub returns-in_err-resolve_sequences-clause-gives
    : goal.returns-in_err-resolve_sequences-clause-gives
returns-in_err-resolve_sequences-clause-gives c =
    let p = err_from_is_err_and c.from_residual-in_err-resolve_sequences.result
    c.from_residual-in_err-resolve_sequences.ensures.1 in
    rw (p.1, p.2) (settle_stops c.args.latest c.in_ok-version.version c.args.text.now
    c.in_ok-version.rest.now c.in_ok-draft.draft _ _ c.in_err-resolve_sequences.field-0.0
    c.in_ok-version.ensures c.in_ok-draft.ensures.ok c.new-lefts.ensures.items
    c.in_ok-declarations.ensures
    (subst (λ lefts. StopsAsRead c.in_err-resolve_sequences.field-0.0
    (resolved_if_declared c.declarations.new.draft lefts))
    c.as_slice.ensures.value c.in_err-resolve_sequences.ensures.gives))
