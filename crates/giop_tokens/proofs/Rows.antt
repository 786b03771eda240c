-- Example texts, and their tokens by computation (docs/FORMATS.md, Signature file).
use Rattle.std.proofs.Common.{◌≡◌, [], ◌∷◌, Some, Ok, Err, refl}
use Rattle.std.specs.Prelude.{codes}
use Rattle.giop_tokens.specs.declared.fault.SigFaultKind.TheVariants as kinds
use Rattle.giop_tokens.specs.declared.marks.Mark.TheVariants as marks
use Rattle.giop_tokens.specs.Marks.{mark_of}
use Rattle.giop_tokens.specs.Tokens.{word, number, negative, repository, mark, after_gap, is_number, first, next, AreTokens}

member : AreTokens (codes "long x[12];// end")
    (word (codes "long") ∷ word (codes "x") ∷ mark marks.OpenBracket ∷ number 12 ∷ mark
    marks.CloseBracket ∷ mark marks.Semicolon ∷ [])
unfolding next first after_gap is_number mark_of
member = (
  codes " x[12];// end",
  refl,
  (
    codes "[12];// end",
    refl,
    (
      codes "12];// end",
      refl,
      (
        codes "];// end",
        refl,
        (codes ";// end", refl, (codes "// end", refl, refl)),
      ),
    ),
  ),
)

label : next (codes "-32768:") ≡ Ok (Some (negative 32768), codes ":")
unfolding next first after_gap is_number
label = refl

exception : next (codes "\"IDL:a//b:1.0\"{}")
    ≡ Ok (Some (repository (codes "IDL:a//b:1.0")), codes "{}")
unfolding next first after_gap
exception = refl

leading_zero : next (codes " 00]") ≡ Err (record { kind = kinds.Token; left = 3 })
unfolding next first after_gap is_number
leading_zero = refl

minus_zero : next (codes "-0") ≡ Err (record { kind = kinds.Token; left = 2 })
unfolding next first after_gap is_number
minus_zero = refl

most : next (codes "18446744073709551615") ≡ Ok (Some (number 18446744073709551615), [])
unfolding next first after_gap is_number
most = refl

too_much : next (codes "18446744073709551616") ≡ Err (record { kind = kinds.Token; left = 20 })
unfolding next first after_gap is_number
too_much = refl

comment_alone : AreTokens (codes " // struct") []
unfolding next first after_gap
comment_alone = refl
