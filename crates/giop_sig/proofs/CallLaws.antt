-- Operations, both ways: reading the spelling of one gives it or a rule that it breaks, and the
-- text that was read spells it.
use Rattle.std.proofs.Common.{◌≡◌, inl, ℕ, zero, suc, ◌+◌, ◌<◌, ◌≤◌, Bool, true, false, not, ◌&&◌, ltb, leb, List, [], ◌∷◌, ◌++◌, length, Option, Some, None, Result, Ok, append_assoc, refl, sym, ap, subst, ◌∙◌, arith}
use Rattle.std.specs.Prelude.{codes}
use Rattle.std.specs.List.{position}
use Rattle.std.specs.Option.{is_some}
use Rattle.std.specs.Str.{bytes_eq}
use Rattle.std.proofs.lemmas.List.{length-append, append-nil}
use Rattle.std.proofs.lemmas.Bool.{ltb-true, ltb-false, leb-true, leb-false}
use Rattle.giop_cdr.specs.declared.prim.Primitive.TheVariants as prims
use Rattle.giop_tokens.specs.declared.fault.TokenError.{TokenError}
use Rattle.giop_tokens.specs.declared.fault.SigFaultKind.TheVariants as kinds
use Rattle.giop_tokens.specs.declared.marks.Mark.TheVariants as marks
use Rattle.giop_tokens.specs.Tokens.{Token, word, repository, mark, octets_left_at_token, AreTokens}
use Rattle.giop_tokens.specs.Reading.{◌>>=◌}
use Rattle.giop_tokens.specs.Readers.{is_the_word, mark_at, mark_if, keyword_at, keyword_if}
use Rattle.giop_tokens.specs.Names.{is_reserved, too_long}
use Rattle.giop_tokens.proofs.ReaderLaws.{bind_ok, TakesToken, if_other, word_again, keyword_again, keyword_takes, repository_again, repository_few, mark_again, mark_if_again, keyword_if_again, operation_name_again, operation_name_long, mark_takes}
use Rattle.giop_sig.specs.declared.read_calls.Direction.{Direction}
use Rattle.giop_sig.specs.declared.read_calls.Direction.TheVariants as directions
use Rattle.giop_sig.specs.Table.{Node, Part, Operation, operation_key, operation_number_of_key, with_operation_in_list}
use Rattle.giop_sig.specs.Table as nodes
use Rattle.giop_sig.specs.Grammar.{TypeExpr, Base, Text, Reference, AnyType, CodeType, WideChar, WideText, Named, SequenceOf, EncapsulationOf, Param, base_word, direction_word, spell_type, spell_item, spell_param, spell_more_params, spell_params, spell_return, spell_interfaces, Call, KeyOf}
use Rattle.giop_sig.specs.Scopes.{Names, is_version_3, Scope, AddedType, with_key_of, part, item_part, with_node, add_item, add_params, add_return, onto_request, onto_reply, declare}
use Rattle.giop_sig.specs.Validity.{FaultKind, OfItem, OfItems, OfType, OfReturn, OfOperationName, OfInterfaceList, OfListAfterReturn, OfKeyText, OfDeclaration, items_of}
use Rattle.giop_sig.specs.TypeReading.{type_at}
use Rattle.giop_sig.specs.ItemReading.{item_at, DeclarationRead, declaration_end_at}
use Rattle.giop_sig.specs.CallReading.{ReturnRead, return_at, new_operation_at, direction_of, direction_at, with_request_part, with_reply_part, with_param, Params, ParameterLists, param_end, param_step, too_many_params, ParamsRead, params_read, params_run, only_returned, params_at, OperationStructs, InterfacesRead, with_table_by, optional_interfaces_at, add_both_structs, operation_structs_of, with_operation_counted_in, interface_at, new_key_at, key_at, operation_at}
use Rattle.giop_sig.proofs.AddTypeLaws.{HasNoFewerNodes, HasNoFewerTypes, within_same, within_on, item_names, params_names, params_more, return_names, return_operations, return_called, listed_types, structs_more}
use Rattle.giop_sig.proofs.ReadingLaws.{IsMadeOrBreaksRule, good, broken, out_bind, out_more, BeginsWithoutMark, if_apart}
use Rattle.giop_sig.proofs.TypeLaws.{is_not, type_reads}
use Rattle.giop_sig.proofs.ItemLaws.{made_item, item_reads, some_none, unused_reads, end_reads}
use Rattle.giop_sig.proofs.ItemTaken.{none_of, TakenDeclaration, TakenDeclarationEnd, end_takes}
use Rattle.giop_sig.proofs.RepeatLaws.{step_first}
use Rattle.giop_sig.proofs.CallTaken.{TakenReturn, return_takes, then_run, OperationTaken, new_operation_takes, TakenParameterList, list_takes}
use Rattle.giop_sig.proofs.VariantLaws.{interface_reads, interface_takes, new_key_takes, listed_reads, TakenInterfaceList, listed_takes, IsAllowedList, list_free}
use Rattle.giop_sig.specs.Interfaces.{is_key, of_text}

-- ---- what an operation returns

abbrev NoVoid : (tokens : List Token) → Type 0
NoVoid [] = Unit {0}
NoVoid (t ∷ ts) = is_the_word (codes "void") t ≡ false

no_void : (e : TypeExpr) (names : Names) (more : List Token) → OfType kinds.Syntax false names e
    → NoVoid (spell_type e more)
unfolding OfType is_reserved
no_void (Base prims.Octet) names more free = refl
no_void (Base prims.Char) names more free = refl
no_void (Base prims.Boolean) names more free = refl
no_void (Base prims.Short) names more free = refl
no_void (Base prims.UShort) names more free = refl
no_void (Base prims.Long) names more free = refl
no_void (Base prims.ULong) names more free = refl
no_void (Base prims.LongLong) names more free = refl
no_void (Base prims.ULongLong) names more free = refl
no_void (Base prims.Float) names more free = refl
no_void (Base prims.Double) names more free = refl
no_void (Text o) names more free = refl
no_void Reference names more free = refl
no_void AnyType names more free = refl
no_void CodeType names more free = refl
no_void WideChar names more free = refl
no_void (WideText bound) names more free = refl
no_void (Named w) names more free = is_not (is_version_3 names) w (codes "void") free refl
no_void (SequenceOf e o) names more free = refl
no_void (EncapsulationOf e) names more free = refl

if_no_void : (text : List ℕ) (t : Token) (ts : List Token) → is_the_word (codes "void") t ≡ false
    → AreTokens text (t ∷ ts) → keyword_if (codes "void") text ≡ Ok None
if_no_void text t ts differs h = search (arith, if_other)

type_no_void : (e : TypeExpr) (names : Names) (text : List ℕ) (more : List Token)
    → OfType kinds.Syntax false names e → AreTokens text (spell_type e more)
    → keyword_if (codes "void") text ≡ Ok None
type_no_void (Base p) names text more free h =
    if_no_void text (word (base_word p)) more (no_void (Base p) names more free) h
type_no_void (Text o) names text more free h = search (arith, if_no_void, no_void)
type_no_void Reference names text more free h = search (arith, if_no_void, no_void)
type_no_void AnyType names text more free h = search (arith, if_no_void, no_void)
type_no_void CodeType names text more free h = search (arith, if_no_void, no_void)
type_no_void WideChar names text more free h = search (arith, if_no_void, no_void)
type_no_void (WideText bound) names text more free h =
    search (arith, if_no_void, no_void)
type_no_void (Named w) names text more free h =
    if_no_void text (word w) more (no_void (Named w) names more free) h
type_no_void (SequenceOf e o) names text more free h = search (arith, if_no_void, no_void)
type_no_void (EncapsulationOf e) names text more free h = search (arith, if_no_void, no_void)

abbrev made_return : (scope : Scope) (type : Option TypeExpr) (rest : List ℕ) → ReturnRead
made_return s o rest = ((add_return s o).0, (add_return s o).1, rest)

return_reads : (s : Scope) (o : Option TypeExpr) (text : List ℕ) (more : List Token)
    → OfReturn kinds.Syntax s.names o → BeginsWithoutMark marks.OpenAngle more
    → AreTokens text (spell_return o more)
    → IsMadeOrBreaksRule (made_return s o) (λ k. OfReturn k s.names o) (add_return s
    o).0.table.types
    more (return_at s text)
unfolding return_at
return_reads s None text more free apart h =
    rw (keyword_if_again (codes "void") text more h) (good h.0 h.2 (λ k. tt))
return_reads s (Some e) text more free apart h =
    rw (type_no_void e s.names text more free h)
    (out_bind (type_at s text) (λ t. Ok (t.0, part (codes "return") t.1 ∷ [], t.2))
    (type_reads s e text more free apart h)
    (λ rest m keeps. good rest m keeps) (λ k w. w) within_same)

-- ---- the name

operation_keeps : (s : Scope) (w : List ℕ) → length w ≤ 128 → s.table.called < 4096
    → (is_version_3 s.names ≡ false → operation_number_of_key s.table (operation_key 0 w) ≡ None) →
    (k : FaultKind)
    → OfOperationName k s w
operation_keeps s w short few new kinds.Duplicate = new
operation_keeps s w short few new kinds.Limit = (short, few)
operation_keeps s w short few new _ = tt

-- the operations are those of the scope before
operation_same : (s t : Scope) (w : List ℕ) → t.names ≡ s.names
    → t.table.operations ≡ s.table.operations → t.table.called ≡ s.table.called → (k : FaultKind)
    → OfOperationName k s w → OfOperationName k t w
operation_same s t w names same called kinds.Duplicate h = λ old.
    subst (λ os. position (λ (o : Operation). bytes_eq (operation_key 0 w) o.key) os ≡ None)
    (sym same) (h (ap is_version_3 (sym names) ∙ old))
operation_same s t w names same called kinds.Limit h = (h.0, subst (λ n. n < 4096) (sym called) h.1)
operation_same s t w names same called _ h = tt

early : (third : Bool) (o : Option ℕ) → (not third && is_some o) ≡ true
    → (third ≡ false → o ≡ None) → ⊥
early true o e r = absurd cc
early false o e r = some_none o e (r refl)

late : (third : Bool) (o : Option ℕ) → (not third && is_some o) ≡ false → third ≡ false → o ≡ None
late true o e f = absurd cc
late false o e f = none_of o e

long_name : (types : List Node) (s : Scope) (text w : List ℕ) (more : List Token) (v : Bool)
    → ltb 128 (length w) ≡ v → AreTokens text (word w ∷ more)
    → IsMadeOrBreaksRule {X = List ℕ × List ℕ} (λ rest. (w, rest))
    (λ k. OfOperationName k s w) types more
    (new_operation_at s text)
unfolding new_operation_at
long_name types s text w more true e h =
    rw (operation_name_long text w more h (ltb-true 128 (length w) e))
    (broken (too_long text) (inl (λ r. let z = ltb-true 128 (length w) e in let f = r.0 in
    omega arith)))
long_name types s text w more false e h =
    let known = operation_number_of_key s.table (operation_key 0 w) in
    rw (operation_name_again text w more h (ltb-false 128 (length w) e))
    (unused_reads (not (is_version_3 s.names) && is_some known) (leb 4096 s.table.called) text w
    h.0 h.2 (early (is_version_3 s.names) known)
    (λ k r. let z = leb-true 4096 s.table.called k in let f = r.1 in omega arith)
    (λ k f. operation_keeps s w (ltb-false 128 (length w) e)
    (leb-false 4096 s.table.called f) (late (is_version_3 s.names) known k)))

name_reads : (types : List Node) (s : Scope) (text w : List ℕ) (more : List Token)
    → AreTokens text (word w ∷ more)
    → IsMadeOrBreaksRule {X = List ℕ × List ℕ} (λ rest. (w, rest))
    (λ k. OfOperationName k s w) types more
    (new_operation_at s text)
name_reads types s text w more h = long_name types s text w more (ltb 128 (length w)) refl h

-- ---- parameters

direction_word_of : (d : Direction) → direction_of (direction_word d) ≡ Some d
direction_word_of directions.In = refl
direction_word_of _ = refl

direction_again : (d : Direction) (text : List ℕ) (more : List Token)
    (h : AreTokens text (word (direction_word d) ∷ more)) → direction_at text ≡ Ok (d, h.0)
unfolding direction_at
direction_again d text more h = rw (word_again text (direction_word d) more h, direction_word_of d)
    refl

-- the tokens after a parameter and its mark, and whether that is the closing one
abbrev after_param : (params : List Param) (more : List Token) → List Token
after_param [] more = more
after_param (p ∷ ps) more = spell_param p (spell_more_params ps more)

abbrev is_last : (params : List Param) → Bool
is_last [] = true
is_last (p ∷ ps) = false

more_apart : (ps : List Param) (more : List Token)
    → BeginsWithoutMark marks.OpenBracket (spell_more_params ps more)
more_apart [] more = refl
more_apart (p ∷ ps) more = refl

abbrev lists_with_parameter : (lists : ParameterLists) (scope : Scope) (parameter : Param) →
    ParameterLists
lists_with_parameter w s p = with_param w p.direction (item_part p.item (add_item s p.item))

abbrev made_param : (lists : ParameterLists) (scope : Scope) (parameter : Param)
    (parameters : List Param) (rest : List ℕ) →
    Bool × Params
made_param w s p ps rest = (is_last ps, ((add_item s p.item).0, lists_with_parameter w s p, rest))

behind_reads : (w : ParameterLists) (s : Scope) (p : Param) (ps : List Param) (rule : FaultKind →
    Type 0)
    (types : List Node) (rest : List ℕ) (more : List Token)
    → AreTokens rest (spell_more_params ps more) → ((k : FaultKind) → rule k)
    → IsMadeOrBreaksRule (made_param w s p ps) rule types (after_param ps more)
    (mark_if marks.Comma rest >>= λ c. param_end w p.direction (made_item s p.item rest) c)
behind_reads w s p [] rule types rest more h keeps =
    rw (
      if_apart marks.Comma rest (mark marks.CloseParenthesis ∷ more) refl h,
      mark_again marks.CloseParenthesis rest more h,
    ) (good h.0 h.2 keeps)
behind_reads w s p (q ∷ qs) rule types rest more h keeps =
    rw (mark_if_again marks.Comma rest (spell_param q (spell_more_params qs more)) h)
    (good h.0 h.2 keeps)

-- A step over the tokens of a parameter, and of what follows it, takes that parameter, or refuses
-- it by a rule that its item breaks.
step_reads_param : (w : ParameterLists) (s : Scope) (p : Param) (ps : List Param)
    (text : List ℕ)
    (more : List Token) → OfItem kinds.Syntax s.names 255 w.seen p.item
    → AreTokens text (spell_param p (spell_more_params ps more))
    → IsMadeOrBreaksRule (made_param w s p ps) (λ k. OfItem k s.names 255 w.seen p.item)
    (add_item s p.item).0.table.types (after_param ps more) (param_step (s, w, text))
unfolding param_step
step_reads_param w s p ps text more free h =
    rw (direction_again p.direction text (spell_item p.item (spell_more_params ps more)) h)
    (out_bind (item_at 255 w.seen s h.0)
    (λ i. mark_if marks.Comma i.2 >>= λ c. param_end w p.direction i c)
    (item_reads 255 w.seen s p.item h.0 (spell_more_params ps more) free
    (more_apart ps more) h.2)
    (λ rest m keeps. behind_reads w s p ps (λ k. OfItem k s.names 255 w.seen p.item)
    (add_item s p.item).0.table.types rest more m
    keeps) (λ k w. w) within_same)

abbrev made_params : (lists : ParameterLists) (scope : Scope) (parameters : List Param)
    (rest : List ℕ) → ParamsRead
made_params w s ps rest = (
  (add_params s ps).0,
  w.request ++ (add_params s ps).1,
  w.reply ++ (add_params s ps).2,
  rest,
)

request_on : (d : Direction) (p : Part) (q r : List Part)
    → with_request_part d p q ++ r ≡ q ++ onto_request d p r
request_on directions.Out p q r = refl
request_on _ p q r = append_assoc q (p ∷ []) r

reply_on : (d : Direction) (p : Part) (q r : List Part)
    → with_reply_part d p q ++ r ≡ q ++ onto_reply d p r
reply_on directions.In p q r = refl
reply_on _ p q r = append_assoc q (p ∷ []) r

made_on : (w : ParameterLists) (s : Scope) (p : Param) (ps : List Param) (rule : FaultKind → Type 0)
    (types : List Node) (more : List Token) (r : Result ParamsRead TokenError)
    → IsMadeOrBreaksRule (made_params (lists_with_parameter w s p) (add_item s p.item).0 ps) rule
    types
    more r
    → IsMadeOrBreaksRule (made_params w s (p ∷ ps)) rule types more r
unfolding add_params
made_on w s p ps rule types more r o = search (arith, request_on, reply_on)

-- the last parameter ends the reading
last_reads : (n : ℕ) (w : ParameterLists) (s : Scope) (p : Param) (rule : FaultKind → Type 0)
    (rest : List ℕ)
    (more : List Token) → AreTokens rest more → ((k : FaultKind) → rule k)
    → IsMadeOrBreaksRule (made_params (lists_with_parameter w s p) (add_item s p.item).0 []) rule
    (add_params (add_item s p.item).0 []).0.table.types more
    (then_run n (made_param w s p [] rest))
unfolding add_params
last_reads n w s p rule rest more m keeps = search (arith, append-nil, good)

param_named : (w : ParameterLists) (s : Scope) (names : Names) (p : Param)
    (ps : List Param)
    (text : List ℕ) (more : List Token) → s.names ≡ names
    → OfItem kinds.Syntax names 255 w.seen p.item
    → AreTokens text (spell_param p (spell_more_params ps more))
    → IsMadeOrBreaksRule (made_param w s p ps) (λ k. OfItem k names 255 w.seen p.item)
    (add_item s p.item).0.table.types (after_param ps more) (param_step (s, w, text))
param_named w s names p ps text more same free h =
    subst (λ ns. IsMadeOrBreaksRule (made_param w s p ps) (λ k. OfItem k ns 255 w.seen p.item)
    (add_item s p.item).0.table.types (after_param ps more)
    (param_step (s, w, text))) same
    (step_reads_param w s p ps text more
    (subst (λ ns. OfItem kinds.Syntax ns 255 w.seen p.item) (sym same) free) h)

pub params_reads : (ps : List Param) (p : Param) (n : ℕ) (w : ParameterLists) (s : Scope)
    (names : Names)
    (text : List ℕ) (more : List Token) → s.names ≡ names
    → n + length w.seen ≡ 256 → length w.seen ≤ 255
    → OfItems kinds.Syntax names 255 w.seen (items_of (p ∷ ps))
    → AreTokens text (spell_param p (spell_more_params ps more))
    → IsMadeOrBreaksRule (made_params w s (p ∷ ps))
    (λ k. OfItems k names 255 w.seen (items_of (p ∷ ps)))
    (add_params s (p ∷ ps)).0.table.types more (params_run n (s, w, text))
unfolding OfItems add_params
params_reads ps p zero w s names text more same fuel few free h = absurd (omega arith)
params_reads [] p (suc n) w s names text more same fuel few free h =
    rw (step_first param_step too_many_params params_read n (s, w, text))
    (out_bind (param_step (s, w, text)) (then_run n)
    (param_named w s names p [] text more same free.0 h)
    (λ rest m keeps. made_on w s p [] (λ k. OfItems k names 255 w.seen (items_of (p ∷ [])))
    (add_params s (p ∷ [])).0.table.types more
    (then_run n (made_param w s p [] rest))
    (last_reads n w s p (λ k. OfItems k names 255 w.seen (items_of (p ∷ []))) rest more m
    (λ k. (keeps k, tt))))
    (λ k h. h.0) within_same)
params_reads (q ∷ qs) p (suc n) w s names text more same fuel few free h =
    rw (step_first param_step too_many_params params_read n (s, w, text))
    (out_bind (param_step (s, w, text)) (then_run n)
    (param_named w s names p (q ∷ qs) text more same free.0 h)
    (λ rest m keeps.
    let lt = (keeps kinds.Limit).1.1 in
    let v = lists_with_parameter w s p in
    made_on w s p (q ∷ qs) (λ k. OfItems k names 255 w.seen (items_of (p ∷ q ∷ qs)))
    (add_params s (p ∷ q ∷ qs)).0.table.types more
    (params_run n ((add_item s p.item).0, v, rest))
    (out_more (params_reads qs q n v (add_item s p.item).0 names rest more
    (item_names s p.item ∙ same)
    (omega (arith, length-append w.seen (p.item.name ∷ [])))
    (omega (arith, length-append w.seen (p.item.name ∷ []))) free.1 m)
    (λ k h. (keeps k, h)) (λ k h. h.1)))
    (λ k h. h.0) (params_more (add_item s p.item).0 (q ∷ qs)))

none_reads : (returned : List Part) (s : Scope) (names : Names) (rest : List ℕ)
    (more : List Token) → AreTokens rest more
    → IsMadeOrBreaksRule (made_params (only_returned returned) s [])
    (λ k. OfItems k names 255 [] (items_of []))
    (add_params s []).0.table.types more (Ok (s, [], returned, rest))
unfolding OfItems add_params
none_reads returned s names rest more m = search (arith, append-nil, good)

pub list_reads : (ps : List Param) (returned : List Part) (s : Scope) (names : Names)
    (text : List ℕ) (more : List Token) → s.names ≡ names
    → OfItems kinds.Syntax names 255 [] (items_of ps) → AreTokens text (spell_params ps more)
    → IsMadeOrBreaksRule (made_params (only_returned returned) s ps)
    (λ k. OfItems k names 255 [] (items_of ps))
    (add_params s ps).0.table.types more (params_at returned s text)
unfolding params_at
list_reads [] returned s names text more same free h =
    rw (mark_if_again marks.CloseParenthesis text more h) (none_reads returned s names h.0 more h.2)
list_reads (p ∷ ps) returned s names text more same free h =
    rw (if_apart marks.CloseParenthesis text (spell_param p (spell_more_params ps more)) refl h)
    (params_reads ps p 256 (only_returned returned) s names text more same (omega arith)
    (omega arith) free h)

-- ---- operations

-- the structs of an operation's parameters
abbrev both_structs_of : (scope : Scope) (type : Option TypeExpr) (parameters : List Param)
    → AddedType
both_structs_of s o ps =
    let t = add_return s o in
    let x = add_params t.0 ps in
    with_node (with_node x.0 (nodes.members x.1)).0 (nodes.members (t.1 ++ x.2))

abbrev operation_structs_at : (scope : Scope) (type : Option TypeExpr) (w : List ℕ)
    (parameters : List Param)
    → OperationStructs
operation_structs_at s o w ps = record {
  name = w;
  request = length (add_params (add_return s o).0 ps).0.table.types;
  reply = (both_structs_of s o ps).1;
}

interfaces_read : (s : Scope) (o : Option TypeExpr) (w : List ℕ) (ps : List Param)
    (ids : List (List ℕ)) (at text : List ℕ) (more : List Token)
    → OfListAfterReturn kinds.Syntax s.names w ps ids (add_return s o)
    → AreTokens text (spell_interfaces ids (mark marks.Semicolon ∷ more))
    → IsMadeOrBreaksRule {X = InterfacesRead} (λ rest. (
      with_table_by (with_operation_in_list w (operation_structs_at s o w ps).request
          (operation_structs_at s o w ps).reply ids) (both_structs_of s o ps).0,
      rest,
    ))
    (λ k. OfListAfterReturn k s.names w ps ids (add_return s o))
    (both_structs_of s o ps).0.table.types
    (mark marks.Semicolon ∷ more) (optional_interfaces_at at (operation_structs_at s o w ps)
    ((both_structs_of s o ps).0, text))
interfaces_read s o w ps ids at text more free h =
    let p = both_structs_of s o ps in
    let c = operation_structs_at s o w ps in
    let same : (p.0).names ≡ s.names =
    params_names (add_return s o).0 ps ∙ return_names s o in
    subst (λ ns. IsMadeOrBreaksRule {X = InterfacesRead}
    (λ rest. (with_table_by (with_operation_in_list w c.request c.reply ids) p.0, rest))
    (λ k. OfInterfaceList k ns w c.request c.reply ids (p.0).table) (p.0).table.types
    (mark marks.Semicolon ∷ more) (optional_interfaces_at at c (p.0, text))) same
    (listed_reads ids c p.0 at text more
    (subst (λ ns. OfInterfaceList kinds.Syntax ns w c.request c.reply ids (p.0).table)
    (sym same) free) h)

pub operation_reads : (s : Scope) (o : Option TypeExpr) (w : List ℕ) (ps : List Param)
    (ids : List (List ℕ)) (text : List ℕ) (more : List Token)
    → OfDeclaration kinds.Syntax s (Call o w ps ids)
    → AreTokens text (spell_return o (word w ∷ mark marks.OpenParenthesis
    ∷ spell_params ps (spell_interfaces ids (mark marks.Semicolon ∷ more))))
    → IsMadeOrBreaksRule {X = DeclarationRead} (λ rest. (declare s (Call o w ps ids), rest))
    (λ k. OfDeclaration k s (Call o w ps ids)) (declare s (Call o w ps ids)).table.types
    more (operation_at s text)
unfolding operation_at declare OfDeclaration
operation_reads s o w ps ids text more free h =
    let t = add_return s o in
    let x = add_params t.0 ps in
    let p = both_structs_of s o ps in
    let tail = spell_interfaces ids (mark marks.Semicolon ∷ more) in
    let listed : HasNoFewerTypes p.0 (declare s (Call o w ps ids)) =
    subst (HasNoFewerNodes (p.0).table.types)
    (sym (listed_types w (length (x.0).table.types) p.1 ids (p.0).table)) within_same in
    let made = within_on (structs_more x.0 (nodes.members x.1) (nodes.members (t.1 ++ x.2)))
    listed in
    let behind = within_on (params_more t.0 ps) made in
    out_bind (return_at s text)
    (λ t. new_operation_at t.0 t.2 >>= λ n. mark_at marks.OpenParenthesis n.1
    >>= λ o. params_at t.1 t.0 o
    >>= λ m. optional_interfaces_at t.2 (operation_structs_of n.0 m) ((add_both_structs m).0, m.3)
    >>= λ l. declaration_end_at (octets_left_at_token t.2) (with_operation_counted_in l.0) l.1)
    (return_reads s o text (word w ∷ mark marks.OpenParenthesis ∷ spell_params ps tail)
    free.0 refl h)
    (λ a ta ka.
    out_bind (new_operation_at t.0 a) (λ n. mark_at marks.OpenParenthesis n.1 >>= λ o.
    params_at t.1 t.0 o
    >>= λ m. optional_interfaces_at a (operation_structs_of n.0 m) ((add_both_structs m).0, m.3)
    >>= λ l. declaration_end_at (octets_left_at_token a) (with_operation_counted_in l.0) l.1)
    (name_reads t.0.table.types t.0 a w (mark marks.OpenParenthesis ∷ spell_params ps tail) ta)
    (λ b tb kb. rw (mark_again marks.OpenParenthesis b (spell_params ps tail) tb)
    (out_bind (params_at t.1 t.0 tb.0)
    (λ m. optional_interfaces_at a (operation_structs_of w m) ((add_both_structs m).0, m.3)
    >>= λ l. declaration_end_at (octets_left_at_token a) (with_operation_counted_in l.0) l.1)
    (list_reads ps t.1 t.0 s.names tb.0 tail (return_names s o) free.2 tb.2)
    (λ c tc kc. out_bind (optional_interfaces_at a (operation_structs_at s o w ps) (p.0, c))
    (λ l. declaration_end_at (octets_left_at_token a) (with_operation_counted_in l.0) l.1)
    (interfaces_read s o w ps ids a c more free.3 tc)
    (λ d td kd. end_reads (octets_left_at_token a) (declare s (Call o w ps ids))
    (λ k. OfDeclaration k s (Call o w ps ids)) d more td
    (λ k. (
      ka k,
      operation_same t.0 s w (sym (return_names s o)) (sym (return_operations s o))
          (sym (return_called s o)) k (kb k),
      kc k,
      kd k,
    )))
    (λ k h. h.3) listed)
    (λ k h. h.2) made))
    (λ k h. operation_same s t.0 w (return_names s o) (return_operations s o) (return_called s o) k
    h.1) behind)
    (λ k h. h.0) behind

operation_made : (s last : Scope) (whole text o : List ℕ) (t : ReturnRead) (n : List ℕ × List ℕ)
    (m : ParamsRead) (l : InterfacesRead) (x : DeclarationRead)
    → TakesToken whole (word (codes "operation")) text
    → TakenReturn s text t → OperationTaken t.0 t.2 n → mark_at marks.OpenParenthesis n.1 ≡ Ok o
    → TakenParameterList t.1 t.0 o m → TakenInterfaceList (m.0).names m.3 l
    → TakenDeclarationEnd last l.1 x
    → TakenDeclaration s whole x
unfolding OfDeclaration
operation_made s last whole text o t n m l x before a b c k i e =
    let names : (m.0).names ≡ s.names = k.grows.names ∙ a.grows.names in
    record {
      declaration = Call a.returned n.0 k.params i.ids;
      took = record {
        free = (
          a.took.free,
          tt,
          subst (λ ns. OfItems kinds.Syntax ns 255 [] (items_of k.params))
              a.grows.names k.took.free,
          list_free s.names n.0 _ _ i.ids _
              (subst (λ ns. IsAllowedList ns i.ids) names i.took.free),
        );
        front = λ more h.
            let tail = spell_interfaces i.ids (mark marks.Semicolon ∷ more) in
            let list = spell_params k.params tail in
            let inner : AreTokens o list = k.took.front tail
            (i.took.front (mark marks.Semicolon ∷ more)
            (mark_takes marks.Semicolon l.1 x.1 e.rest more h)) in
            let behind : AreTokens t.2 (word n.0 ∷ mark marks.OpenParenthesis ∷ list) =
            b.front (mark marks.OpenParenthesis ∷ list)
            (mark_takes marks.OpenParenthesis n.1 o c list inner) in
            before (spell_return a.returned (word n.0 ∷ mark marks.OpenParenthesis ∷ list))
            (a.took.front (word n.0 ∷ mark marks.OpenParenthesis ∷ list) behind);
      };
      shallow = e.shallow;
    }

pub operation_takes : (s : Scope) (whole text : List ℕ) (x : DeclarationRead)
    → TakesToken whole (word (codes "operation")) text → operation_at s text ≡ Ok x
    → TakenDeclaration s whole x
unfolding operation_at
operation_takes s whole text x before e =
    let t = bind_ok _ _ x e in
    let n = bind_ok _ _ x t.2 in
    let o = bind_ok _ _ x n.2 in
    let m = bind_ok {A = ParamsRead} _ _ x o.2 in
    let l = bind_ok {A = InterfacesRead} _ _ x m.2 in
    operation_made s (with_operation_counted_in (l.0).0) whole text o.0 t.0 n.0 m.0 l.0 x before
    (return_takes s text t.0 t.1)
    (new_operation_takes (t.0).0 (t.0).2 n.0 n.1) o.1 (list_takes (t.0).1 (t.0).0 o.0 m.0 m.1)
    (listed_takes (operation_structs_of (n.0).0 m.0) (add_both_structs m.0).0 (t.0).2
    (m.0).3 l.0 l.1)
    (end_takes (octets_left_at_token (t.0).2) (with_operation_counted_in (l.0).0) (l.0).1 x l.2)

-- ---- KEYs

key_keeps : (s : Scope) (text : List ℕ) → is_version_3 s.names ≡ true → is_key text ≡ true
    → length text ≤ 128 → of_text s.table.interfaces text ≡ None
    → length s.table.interfaces.keys < 16384 → (k : FaultKind)
    → OfKeyText k s.names s.table.interfaces text
key_keeps s text third is short new few kinds.Syntax = (third, is)
key_keeps s text third is short new few kinds.Duplicate = new
key_keeps s text third is short new few kinds.Limit = (short, few)
key_keeps s text third is short new few _ = tt

new_key_reads : (s : Scope) (text key : List ℕ) (more : List Token) → is_version_3 s.names ≡ true
    → is_key key ≡ true → AreTokens text (repository key ∷ more)
    → IsMadeOrBreaksRule {X = List ℕ × List ℕ} (λ rest. (key, rest))
    (λ k. OfKeyText k s.names s.table.interfaces key) s.table.types more (new_key_at s text)
unfolding new_key_at
new_key_reads s text key more third is h =
    let i = s.table.interfaces in
    let short = repository_few text (key, h.0) (repository_again text key more h) in
    rw (repository_again text key more h, is)
    (unused_reads (is_some (of_text i key)) (leb 16384 (length i.keys)) text key h.0 h.2
    (some_none (of_text i key))
    (λ k r. let z = leb-true 16384 (length i.keys) k in let f = r.1 in omega arith)
    (λ k f. key_keeps s key third is short (none_of (of_text i key) k)
    (leb-false 16384 (length i.keys) f)))

pub key_reads : (s : Scope) (key id text : List ℕ) (more : List Token)
    → OfDeclaration kinds.Syntax s (KeyOf key id)
    → AreTokens text (repository key ∷ word (codes "of") ∷ repository id
    ∷ mark marks.Semicolon ∷ more)
    → IsMadeOrBreaksRule {X = DeclarationRead} (λ rest. (declare s (KeyOf key id), rest))
    (λ k. OfDeclaration k s (KeyOf key id)) (declare s (KeyOf key id)).table.types more
    (key_at s text)
unfolding key_at declare OfDeclaration
key_reads s key id text more free h =
    let tail = mark marks.Semicolon ∷ more in
    out_bind (new_key_at s text) (λ k. keyword_at (codes "of") k.1
    >>= λ o. interface_at s.table.interfaces o
    >>= λ i. declaration_end_at (octets_left_at_token text) (with_key_of s k.0 i.0) i.1)
    (new_key_reads s text key (word (codes "of") ∷ repository id ∷ tail) free.0.0 free.0.1 h)
    (λ a ta ka. rw (keyword_again (codes "of") a (repository id ∷ tail) ta)
    (out_bind (interface_at s.table.interfaces ta.0)
    (λ i. declaration_end_at (octets_left_at_token text) (with_key_of s key i.0) i.1)
    (interface_reads s.table.types s.table.interfaces ta.0 id tail ta.2)
    (λ b tb kb. end_reads (octets_left_at_token text) (with_key_of s key id)
    (λ k. OfDeclaration k s (KeyOf key id)) b more tb (λ k. (ka k, kb k)))
    (λ k w. w.1) within_same))
    (λ k w. w.0) within_same

pub key_takes : (s : Scope) (whole text : List ℕ) (x : DeclarationRead) → is_version_3 s.names
    ≡ true
    → TakesToken whole (word (codes "key")) text → key_at s text ≡ Ok x → TakenDeclaration s whole x
unfolding key_at OfDeclaration
key_takes s whole text x third before e =
    let k = bind_ok {A = List ℕ × List ℕ} _ _ x e in
    let o = bind_ok {A = List ℕ} _ _ x k.2 in
    let i = bind_ok {A = List ℕ × List ℕ} _ _ x o.2 in
    let last = with_key_of s (k.0).0 (i.0).0 in
    let r = end_takes (octets_left_at_token text) last (i.0).1 x i.2 in
    let a = new_key_takes s text k.0 k.1 in
    let b = interface_takes s.table.interfaces o.0 i.0 i.1 in
    record {
      declaration = KeyOf (k.0).0 (i.0).0;
      took = record {
        free = ((third, a.is), tt);
        front = λ more h.
            let tail = mark marks.Semicolon ∷ more in
            before (repository (k.0).0 ∷ word (codes "of") ∷ repository (i.0).0 ∷ tail)
            (a.front (word (codes "of") ∷ repository (i.0).0 ∷ tail)
            (keyword_takes (codes "of") (k.0).1 o.0 o.1 (repository (i.0).0 ∷ tail)
            (b.front tail (mark_takes marks.Semicolon (i.0).1 x.1 r.rest more h))));
      };
      shallow = r.shallow;
    }
