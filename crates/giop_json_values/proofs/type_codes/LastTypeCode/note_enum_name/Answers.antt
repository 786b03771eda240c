use Rattle.std.proofs.Common.{◌++◌, ◌∙◌, Some, ap, codes, drop}
use Rattle.std.proofs.lemmas.Slice.Eq.{starts_is, strip_suffix_is}
use Rattle.std.proofs.lemmas.Bool.Decides.{Decides-eqb}
use Rattle.giop_json_values.specs.TypeCodes.{IsParametersAfterEnum}
use Rattle.giop_json_values.proofs.LastKind.{kind_noted, holds_if_ok}
use Rattle.giop_json_values.proofs.type_codes.LastTypeCode.note_enum_name.Goals as goal

pub returns : goal.returns
returns c =
    let word = c.args.word.now in
    let path = c.args.path.now in
    let old = c.args.self.now.parameters.items in
    holds_if_ok c.extend_from_slice-2.result (λ new. IsParametersAfterEnum old path word new) _ _ _
    c.extend_from_slice-2.ensures.items
    (kind_noted old path word c.in-Some.of_type.now (drop 3 word) c.extend_from_slice.new.self.items
    ((starts_is Decides-eqb word (codes "tk_") c.starts_with.result c.starts_with.ensures.value).0
    c.if-not-starts_with.false)
    (strip_suffix_is Decides-eqb path (codes ".kind") (Some c.in-Some.of_type) c.in-Some.ensures.cases)
    (c.in_ok-extend_from_slice.ensures.items
    ∙ ap (λ f. f ++ c.in-Some.of_type.now) c.clear.ensures.items))
