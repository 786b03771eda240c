-- How a text about words with stand-ins is shown by several calls through a `&mut`. What the `&mut`
-- refers to is `at`, and `name` tells which reference it is.
use Rattle.std.proofs.Common.{◌≡◌, ℕ, List, [], ◌∷◌, sym, ◌∙◌, subst, rules, Option, None, Some, option_map, Result, Ok, Err, OnOk}
use Rattle.std.proofs.lemmas.Grind.{flat_map-append}
use Rattle.std.proofs.Output.{has_written_append, has_written_of_eq}
use Rattle.std.specs.Fmt.{DisplaysOnOk, HasWritten, IsPlainFormatter, WritesText}
use Rattle.std.specs.List.{concat, FoldsTo}
use Rattle.std.specs.declared.fmt.Formatter.{Formatter}
use Rattle.std.specs.declared.fmt.Error.{Error}
use Rattle.giop_run.specs.CommandLine.{escaped_with_stand_ins}

module _ {E W N : Type 0} (took : W → List ℕ → W → Type 0) (at : E → Formatter W) (name : E → N)
  where
    -- what a call does
    abbrev pub ShowsMarked : (old : E) (text : List ℕ) (new : E) → Type 0
    ShowsMarked old text new =
        (IsPlainFormatter (at old)
        → HasWritten took (at old) (escaped_with_stand_ins text) (at new))
        × (name new ≡ name old)

    all_shown : (parts : List (List ℕ)) (old new : E) → FoldsTo ShowsMarked old parts new →
        ShowsMarked old (concat parts) new
    unfolding escaped_with_stand_ins
    all_shown [] old new calls = (λ plain. search rules, search rules)
    all_shown (x ∷ xs) old new calls =
        let rest = all_shown xs calls.0 new calls.2 in (
          λ plain.
              let first = calls.1.0 plain in
              has_written_of_eq took _ _ _ _ (sym (flat_map-append _ x (concat xs)))
              (has_written_append took _ _ _ _ _ first (rest.0 first.plain)),
          rest.1 ∙ calls.1.1,
        )

    -- how a text whose octets may be known is shown after the loan has ended
    pub shown_on_ok : (text : Option (List ℕ)) (r : Result (Unit {0}) Error) (old new : E)
        (v : Formatter W) → (name new ≡ name old → v ≡ at new) →
        OnOk r (WritesText ShowsMarked old text new) →
        DisplaysOnOk took (at old) r (option_map escaped_with_stand_ins text) v
    shown_on_ok None r old new v back w = tt
    shown_on_ok (Some text) (Ok x) old new v back w = λ plain ok.
        let shows = all_shown w.parts old new w.calls in
        let all = subst (λ t. HasWritten took (at old) (escaped_with_stand_ins t) (at new))
        w.whole in
        subst (HasWritten took (at old) (escaped_with_stand_ins text)) (sym (back shows.1))
        (all (shows.0 plain))
    shown_on_ok (Some text) (Err e) old new v back w = λ plain ok. absurd (search rules)
