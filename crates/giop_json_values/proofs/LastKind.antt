-- What is noted of an enum's value that is the kind of a TypeCode.
use Rattle.std.specs.Prelude.{Result, Ok, Err, OnOk, is_ok, if◌then◌else◌}
use Rattle.std.proofs.Common.{◌≡◌, ℕ, List, ◌++◌, codes, subst, sym, ◌∙◌, ap}
use Rattle.std.proofs.lemmas.List.{append_cancel_right}
use Rattle.giop_json_values.specs.TypeCodes.{IsParametersAfterEnum}

pub kind_noted : (old path word of_type rest first : List ℕ) → word ≡ codes "tk_" ++ rest
    → path ≡ of_type ++ codes ".kind" → first ≡ of_type
    → IsParametersAfterEnum old path word (first ++ codes ".parameters")
kind_noted old path word of_type rest first begins ends same = record {
  kind = λ other k. ap (λ t. t ++ codes ".parameters")
      (same ∙ append_cancel_right of_type other (codes ".kind") (sym ends ∙ k.ends));
  other = λ none. absurd (none of_type (record { rest = rest; begins = begins; ends = ends }));
}

-- if a call appended octets and succeeded, what holds of all octets together holds
pub holds_if_ok : {T E : Type 0} (r : Result T E) (P : List ℕ → Type 0) (new whole first : List ℕ)
    → new ≡ (if is_ok r then whole else first) → P whole → OnOk r (P new)
holds_if_ok (Ok _) P new whole first e p = subst P (sym e) p
holds_if_ok (Err _) P new whole first e p = tt
