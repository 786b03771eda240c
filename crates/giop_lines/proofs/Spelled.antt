-- Parts that were read one after another are one text.
use Rattle.std.proofs.Common.{◌≡◌, ℕ, ◌<◌, List, [], ◌∷◌, ◌++◌, length, append_assoc, append-nil, refl, sym, ap, subst, ◌∙◌, arith}
use Rattle.std.specs.Prelude.{Option, Some, None, MatchOption, codes, flat_map}
use Rattle.std.specs.Borrow.{Bor}
use Rattle.giop_print.specs.Text.{hex, hex_octet}
use Rattle.giop_lines.specs.declared.line.Content.{Content}
use Rattle.giop_lines.specs.declared.line.Content.TheVariants as contents
use Rattle.giop_lines.specs.Texts.{AreHexOctets}
use Rattle.giop_lines.specs.Values.{spaced_digits, content_text, AreOctetsOfContent, IsHexContent, AreHexOctetsOrNone}
use Rattle.giop_lines.specs.Lines.{spaced_name}

some_digits : (octets : List ℕ) → 0 < length octets → 0 < length (flat_map hex_octet octets)
some_digits [] h = absurd (omega arith)
some_digits (x ∷ xs) h = omega arith

octets_some : (digits : List ℕ) → AreHexOctets digits → 0 < length digits
unfolding hex
octets_some digits are =
    subst (λ (xs : List ℕ). 0 < length xs) (sym are.spelled) (some_digits are.octets are.some)

spaced_some : (digits : List ℕ) → 0 < length digits → spaced_digits digits ≡ codes " " ++ digits
spaced_some [] h = absurd (omega arith)
spaced_some (x ∷ xs) h = refl

pub octets_spaced : (digits : List ℕ) → AreHexOctets digits
    → spaced_digits digits ≡ codes " " ++ digits
octets_spaced digits are = spaced_some digits (octets_some digits are)

pub hexadecimal_text : (content : Content) (octets : List ℕ) → IsHexContent content
    → content_text content octets ≡ spaced_digits octets
hexadecimal_text contents.Text octets is = absurd is
hexadecimal_text contents.Octets octets is = refl
hexadecimal_text contents.WideString octets is = refl
hexadecimal_text contents.WideChar octets is = refl
hexadecimal_text contents.Rest octets is = absurd is

pub hexadecimal_content : (content : Content) (octets : List ℕ) → IsHexContent content
    → AreHexOctetsOrNone octets → AreOctetsOfContent content octets
hexadecimal_content contents.Text octets is may = absurd is
hexadecimal_content contents.Octets octets is may = may
hexadecimal_content contents.WideString octets is may = may
hexadecimal_content contents.WideChar octets is may = may
hexadecimal_content contents.Rest octets is may = absurd is

pub joined_three : (text front more a b : List ℕ) → text ≡ front ++ more → front ≡ a ++ b
    → text ≡ a ++ (b ++ more)
joined_three text front more a b e f =
    e ∙ ap (λ (xs : List ℕ). xs ++ more) f ∙ append_assoc a b more

pub first_spaced : (text front : List ℕ) (rest : Option (Bor (List ℕ)))
    → MatchOption rest (text ≡ front) (λ r. text ≡ front ++ (codes " " ++ r.now))
    → text ≡ front ++ spaced_name rest
first_spaced text front None e = e ∙ sym (append-nil front)
first_spaced text front (Some r) e = e
