-- Enums, both ways: reading the spelling of one gives it or a rule that it breaks, and the text
-- that was read spells it.
use Rattle.std.proofs.Common.{◌≡◌, ℕ, zero, suc, ◌+◌, ◌<◌, ◌≤◌, Bool, true, false, cond, List, [], ◌∷◌, ◌++◌, length, Option, Some, None, Result, Ok, Err, append_assoc, refl, sym, ap, subst, ◌∙◌, arith}
use Rattle.std.specs.List.{All}
use Rattle.std.proofs.lemmas.List.{length-append}
use Rattle.std.proofs.lemmas.List.Elements.{All-push}
use Rattle.giop_tokens.specs.declared.fault.TokenError.{TokenError}
use Rattle.giop_tokens.specs.declared.fault.SigFaultKind.TheVariants as kinds
use Rattle.giop_tokens.specs.declared.marks.Mark.TheVariants as marks
use Rattle.giop_tokens.specs.Tokens.{Token, word, mark, octets_left_at_token, AreTokens}
use Rattle.giop_tokens.specs.Reading.{◌>>=◌}
use Rattle.giop_tokens.specs.Readers.{mark_at, mark_if}
use Rattle.giop_tokens.proofs.ReaderLaws.{bind_ok, ok_is, TakesToken, mark_again, mark_if_again, mark_takes, mark_if_takes}
use Rattle.giop_sig.specs.Table.{Node}
use Rattle.giop_sig.specs.Table as nodes
use Rattle.giop_sig.specs.Trees.{depth_of}
use Rattle.giop_sig.specs.Grammar.{spell_more_names, spell_names, spell_identity, Enumeration}
use Rattle.giop_sig.specs.Scopes.{is_version_3, Scope, with_node, with_named, declare}
use Rattle.giop_sig.specs.Validity.{FaultKind, IsNotReserved, OfNewName, OfNonEmpty, OfNames, OfDeclaration}
use Rattle.giop_sig.specs.Outcomes.{refused}
use Rattle.giop_sig.specs.ItemReading.{new_name_at, declared_name_at, identity_at, DeclarationRead, type_end_at}
use Rattle.giop_sig.specs.Repeats.{in_steps}
use Rattle.giop_sig.specs.EnumReading.{NamesAndRest, enumerator_at, names_end, names_step, too_many_names, names_at, enumeration_at}
use Rattle.giop_sig.proofs.AddTypeLaws.{HasNoFewerNodes, within_same, node_more, named_more, within_on}
use Rattle.giop_sig.proofs.ReadingLaws.{lift, IsMadeOrBreaksRule, good, broken, out_bind, if_apart, SpellsUpTo}
use Rattle.giop_sig.proofs.IdentityLaws.{identity_reads, identity_takes}
use Rattle.giop_sig.proofs.ItemTaken.{new_name_takes, declared_takes, filled_takes, end_takes}
use Rattle.giop_sig.proofs.ItemLaws.{new_name_reads, declared_reads, some_keeps, filled_end, filled_on, end_reads}

-- what reading gives, in another form
pub out_as : {X : Type 0} {made made2 : List ℕ → X} {rule rule2 : FaultKind → Type 0}
    {types types2 : List Node} {more : List Token} (r : Result X TokenError)
    → IsMadeOrBreaksRule made rule types more r
    → ((rest : List ℕ) → made rest ≡ made2 rest) → ((k : FaultKind) → rule k → rule2 k)
    → ((k : FaultKind) → rule2 k → rule k) → HasNoFewerNodes types types2
    → IsMadeOrBreaksRule made2 rule2 types2 more r
out_as (Ok x) o same on up le = search (arith)
out_as {rule = rule} {rule2 = rule2} {types = types} {types2 = types2} (Err e) o same on up le =
    record { out = lift e.kind rule rule2 types types2 up le o.out }

-- ---- a text that is spelled so

pub enumerator_reads : {third : Bool} (seen : List (List ℕ)) (w text : List ℕ) (types : List Node)
    (ts : List Token) → IsNotReserved third w → AreTokens text (word w ∷ ts)
    → IsMadeOrBreaksRule (λ rest. (seen ++ w ∷ [], rest)) (λ k. OfNewName k third 1024 seen w)
    types ts
    (enumerator_at third seen text)
unfolding enumerator_at
enumerator_reads {third = third} seen w text types ts free h =
    out_bind (new_name_at third 1024 seen text) (λ n. Ok (seen ++ n.0 ∷ [], n.1))
    (new_name_reads third types 1024 seen text w ts free h)
    (λ rest tokens keeps. good rest tokens keeps) (λ k whole. whole) within_same

step_last : {third : Bool} (seen : List (List ℕ)) (w text : List ℕ) (types : List Node)
    (more : List Token)
    → IsNotReserved third w → AreTokens text (word w ∷ mark marks.CloseBrace ∷ more)
    → IsMadeOrBreaksRule (λ rest. (true, (seen ++ w ∷ [], rest)))
    (λ k. OfNewName k third 1024 seen w) types more
    (names_step third (seen, text))
unfolding names_step
step_last {third = third} seen w text types more free h =
    out_bind (enumerator_at third seen text)
    (λ names. mark_if marks.Comma names.1 >>= names_end names)
    (enumerator_reads seen w text types (mark marks.CloseBrace ∷ more) free h)
    (λ rest tokens keeps. rw (
      if_apart marks.Comma rest (mark marks.CloseBrace ∷ more) refl tokens,
      mark_again marks.CloseBrace rest more tokens,
    )
    (good tokens.0 tokens.2 keeps))
    (λ k whole. whole) within_same

step_on : {third : Bool} (seen : List (List ℕ)) (w text : List ℕ) (types : List Node)
    (ts : List Token) → IsNotReserved third w
    → AreTokens text (word w ∷ mark marks.Comma ∷ ts)
    → IsMadeOrBreaksRule (λ rest. (false, (seen ++ w ∷ [], rest)))
    (λ k. OfNewName k third 1024 seen w) types ts
    (names_step third (seen, text))
unfolding names_step
step_on {third = third} seen w text types ts free h =
    out_bind (enumerator_at third seen text)
    (λ names. mark_if marks.Comma names.1 >>= names_end names)
    (enumerator_reads seen w text types (mark marks.Comma ∷ ts) free h)
    (λ rest tokens keeps. rw (mark_if_again marks.Comma rest ts tokens)
    (good tokens.0 tokens.2 keeps))
    (λ k whole. whole) within_same

abbrev then_names : (version_3 : Bool) (left : ℕ) (x : Bool × NamesAndRest)
    → Result NamesAndRest TokenError
then_names third left x = cond x.0 (Ok x.1) (in_steps (names_step third) too_many_names left x.1)

-- enumerators after others, few enough for the steps
names_reads : (third : Bool) (left : ℕ) (names : List (List ℕ)) (seen : List (List ℕ))
    (w text : List ℕ)
    (types : List Node) (more : List Token) → left + length seen ≡ 1025
    → OfNames kinds.Syntax third seen (w ∷ names)
    → AreTokens text (word w ∷ spell_more_names names more)
    → IsMadeOrBreaksRule (λ rest. (seen ++ w ∷ names, rest))
    (λ k. OfNames k third seen (w ∷ names)) types more
    (in_steps (names_step third) too_many_names left (seen, text))
unfolding in_steps OfNames
names_reads third zero names seen w text types more room free h = search (arith, broken)
names_reads third (suc left) [] seen w text types more room free h =
    out_bind (names_step third (seen, text)) (then_names third left)
    (step_last seen w text types more free.0 h)
    (λ rest tokens keeps. good rest tokens (λ k. (keeps k, tt))) (λ k whole. whole.0) within_same
names_reads third (suc left) (n ∷ names) seen w text types more room free h =
    out_bind (names_step third (seen, text)) (then_names third left)
    (step_on seen w text types (word n ∷ spell_more_names names more) free.0 h)
    (λ rest tokens keeps.
    out_as (in_steps (names_step third) too_many_names left (seen ++ w ∷ [], rest))
    (names_reads third left names (seen ++ w ∷ []) n rest types more
    (omega (arith, length-append seen (w ∷ []))) free.1 tokens)
    (λ after. ap (λ all. (all, after)) (append_assoc seen (w ∷ []) (n ∷ names)))
    (λ k others. (keeps k, others)) (λ k whole. whole.1) within_same)
    (λ k whole. whole.0) within_same

pub all_names_reads : (third : Bool) (names : List (List ℕ)) (text : List ℕ) (types : List Node)
    (more : List Token) → OfNames kinds.Syntax third [] names
    → AreTokens text (spell_names names more)
    → IsMadeOrBreaksRule (λ rest. (names, rest)) (λ k. OfNonEmpty k names × OfNames k third []
    names)
    types more (names_at third text)
unfolding names_at
all_names_reads third [] text types more free h =
    rw (filled_end text h.0 (mark_if_again marks.CloseBrace text more h))
    (broken (refused kinds.Empty text) (λ k. k.0))
all_names_reads third (n ∷ names) text types more free h =
    rw (filled_on text (if_apart marks.CloseBrace text (word n ∷ spell_more_names names more) refl
    h))
    (out_as (in_steps (names_step third) too_many_names 1025 ([], text))
    (names_reads third 1025 names [] n text types more refl free h) (λ rest. refl)
    (λ k keeps. (some_keeps n names k, keeps)) (λ k whole. whole.1) within_same)

-- what reading gives for a text that begins with an enum, after its first word
pub enumeration_reads : (n : List ℕ) (id : Option (List ℕ)) (names : List (List ℕ)) (s : Scope)
    (text : List ℕ) (more : List Token) → OfDeclaration kinds.Syntax s (Enumeration n id names)
    → AreTokens text (word n ∷ spell_identity id (mark marks.OpenBrace
    ∷ spell_names names (mark marks.Semicolon ∷ more)))
    → IsMadeOrBreaksRule (λ rest. (declare s (Enumeration n id names), rest))
    (λ k. OfDeclaration k s (Enumeration n id names))
    (declare s (Enumeration n id names)).table.types more (enumeration_at s text)
unfolding enumeration_at OfDeclaration declare
enumeration_reads n id names s text more free h =
    let at = octets_left_at_token text in
    let node = nodes.enumeration names in
    let tail = spell_names names (mark marks.Semicolon ∷ more) in
    let grown = within_on (node_more s node) (named_more n id (with_node s node)) in
    out_bind (declared_name_at s None s.table.declared text)
    (λ d. identity_at s d.1 >>= λ i. mark_at marks.OpenBrace i.1
    >>= λ o. names_at (is_version_3 s.names) o
    >>= λ ns. type_end_at at d.0 i.0 s (nodes.enumeration ns.0) ns.1)
    (declared_reads s.table.types s None s.table.declared text n
    (spell_identity id (mark marks.OpenBrace ∷ tail)) free.0 h)
    (λ a ta ka.
    out_bind (identity_at s a) (λ i. mark_at marks.OpenBrace i.1
    >>= λ o. names_at (is_version_3 s.names) o
    >>= λ ns. type_end_at at n i.0 s (nodes.enumeration ns.0) ns.1)
    (identity_reads s.table.types s id a (mark marks.OpenBrace) tail refl free.1 ta)
    (λ i ti ki.
    rw (mark_again marks.OpenBrace i tail ti)
    (out_bind (names_at (is_version_3 s.names) ti.0) (λ ns. type_end_at at n id s
    (nodes.enumeration ns.0) ns.1)
    (all_names_reads (is_version_3 s.names) names ti.0 s.table.types
    (mark marks.Semicolon ∷ more) free.3 ti.2)
    (λ b tb kb. end_reads at (with_named n id (with_node s node))
    (λ k. OfDeclaration k s (Enumeration n id names)) b more tb
    (λ k. (ka k, ki k, (kb k).0, (kb k).1)))
    (λ k w. (w.2, w.3)) grown))
    (λ k w. w.1) grown)
    (λ k w. w.0) grown

-- ---- a text that was read

-- the names that an enum may have
pub record AreEnumerators (names : List (List ℕ)) : Type 0 where
  pub few : length names ≤ 1024
  pub short : All (λ name. length name ≤ 64) names

-- a name that was read
record TakenName (third : Bool) (seen : List (List ℕ)) (text : List ℕ)
    (x : NamesAndRest) : Type 0 where
  name : List ℕ
  all : x.0 ≡ seen ++ name ∷ []
  free : IsNotReserved third name
  front : TakesToken text (word name) x.1
  fits : AreEnumerators seen → AreEnumerators (seen ++ name ∷ [])

name_fits : (seen : List (List ℕ)) (name : List ℕ) → length name ≤ 64 → length seen < 1024
    → AreEnumerators seen → AreEnumerators (seen ++ name ∷ [])
name_fits seen name short few are =
    record {
      few = omega (arith, length-append seen (name ∷ []));
      short =
          All-push (λ n. length n ≤ 64) seen name are.short short;
    }

name_taken : {third : Bool} (seen : List (List ℕ)) (text : List ℕ) (x : NamesAndRest)
    → enumerator_at third seen text ≡ Ok x → TakenName third seen text x
unfolding enumerator_at
name_taken {third = third} seen text x e =
    let a = bind_ok (new_name_at third 1024 seen text) (λ n. Ok (seen ++ n.0 ∷ [], n.1)) x e in
    let k = new_name_takes third 1024 seen text a.0 a.1 in
    subst (TakenName third seen text) (ok_is (seen ++ (a.0).0 ∷ [], (a.0).1) x a.2)
    (record {
      name = (a.0).0;
      all = refl;
      free = k.free;
      front = k.front;
      fits =
          name_fits seen (a.0).0 k.short k.few;
    })

-- names that were read after others
record TakenNames (third : Bool) (seen : List (List ℕ)) (text : List ℕ)
    (x : NamesAndRest) : Type 0 where
  name : List ℕ
  others : List (List ℕ)
  all : x.0 ≡ seen ++ name ∷ others
  took : SpellsUpTo (λ more. word name ∷ spell_more_names others more)
      (OfNames kinds.Syntax third seen (name ∷ others)) text x.1
  fits : AreEnumerators seen → AreEnumerators x.0

last_name : {third : Bool} (left : ℕ) (seen : List (List ℕ)) (text rest : List ℕ) (y x :
    NamesAndRest)
    → TakenName third seen text y → mark_at marks.CloseBrace y.1 ≡ Ok rest
    → then_names third left (true, (y.0, rest)) ≡ Ok x → TakenNames third seen text x
unfolding OfNames
last_name {third = third} left seen text rest y x n close e =
    subst (TakenNames third seen text) (ok_is (y.0, rest) x e) (record {
      name = n.name;
      others = [];
      all = n.all;
      took = record {
        free = (n.free, tt);
        front =
            λ more m. n.front (mark marks.CloseBrace ∷ more)
            (mark_takes marks.CloseBrace y.1 rest close more m);
      };
      fits = λ are. subst AreEnumerators (sym n.all) (n.fits are);
    })

next_name : {third : Bool} (seen : List (List ℕ)) (text rest : List ℕ) (y x : NamesAndRest)
    → TakenName third seen text y
    → mark_if marks.Comma y.1 ≡ Ok (Some rest) → TakenNames third y.0 rest x
    → TakenNames third seen text x
unfolding OfNames
next_name {third = third} seen text rest y x n comma k =
    let all = subst (λ ns. x.0 ≡ ns ++ k.name ∷ k.others) n.all k.all
    ∙ append_assoc seen (n.name ∷ []) (k.name ∷ k.others) in
    let free = subst (λ ns. OfNames kinds.Syntax third ns (k.name ∷ k.others)) n.all
    (k.took).free in
    record {
      name = n.name;
      others = k.name ∷ k.others;
      all = all;
      took = record {
        free = (n.free, free);
        front = λ more m. n.front (mark marks.Comma ∷ word k.name ∷ spell_more_names k.others more)
            (mark_if_takes marks.Comma y.1 rest comma (word k.name ∷ spell_more_names k.others more)
            ((k.took).front more m));
      };
      fits = λ are. k.fits (subst AreEnumerators (sym n.all) (n.fits are));
    }

behind_name : {third : Bool} (left : ℕ) (seen : List (List ℕ)) (text : List ℕ) (y : NamesAndRest)
    (o : Option (List ℕ)) (s : Bool × NamesAndRest) (x : NamesAndRest)
    → ((seen : List (List ℕ)) (text : List ℕ) (x : NamesAndRest)
    → in_steps (names_step third) too_many_names left (seen, text) ≡ Ok x
    → TakenNames third seen text x)
    → TakenName third seen text y → mark_if marks.Comma y.1 ≡ Ok o → names_end y o ≡ Ok s
    → then_names third left s ≡ Ok x → TakenNames third seen text x
behind_name {third = third} left seen text y None s x on n m e f =
    let c = bind_ok (mark_at marks.CloseBrace y.1) (λ rest. Ok (true, (y.0, rest))) s e in
    last_name left seen text c.0 y x n c.1
    (ap (then_names third left) (ok_is (true, (y.0, c.0)) s c.2) ∙ f)
behind_name {third = third} left seen text y (Some rest) s x on n m e f =
    next_name seen text rest y x n m (on y.0 rest x
    (ap (then_names third left) (ok_is (false, (y.0, rest)) s e) ∙ f))

names_taken : {third : Bool} (left : ℕ) (seen : List (List ℕ)) (text : List ℕ) (x : NamesAndRest)
    → in_steps (names_step third) too_many_names left (seen, text) ≡ Ok x
    → TakenNames third seen text x
unfolding in_steps names_step
names_taken {third = third} zero seen text x e = absurd cc
names_taken {third = third} (suc left) seen text x e =
    let s = bind_ok (names_step third (seen, text)) (then_names third left) x e in
    let y = bind_ok {A = NamesAndRest} _ _ s.0 s.1 in
    let o = bind_ok (mark_if marks.Comma (y.0).1) (names_end y.0) s.0 y.2 in
    behind_name left seen text y.0 o.0 s.0 x (names_taken left) (name_taken seen text y.0 y.1) o.1
    o.2 s.2

pub record TakenEnumerators (third : Bool) (text : List ℕ) (x : NamesAndRest) : Type 0 where
  pub took : SpellsUpTo (spell_names x.0) (OfNames kinds.Syntax third [] x.0) text x.1
  pub fits : AreEnumerators x.0

all_taken : {third : Bool} (text : List ℕ) (x : NamesAndRest) → TakenNames third [] text x
    → TakenEnumerators third text x
all_taken text x k = search (arith)

pub all_names_taken : {third : Bool} (text : List ℕ) (x : NamesAndRest) → names_at third text ≡ Ok x
    → TakenEnumerators third text x
unfolding names_at
all_names_taken {third = third} text x e =
    let f = bind_ok {A = List ℕ} _ _ x e in
    subst (λ t. TakenEnumerators third t x) (sym (filled_takes text f.0 f.1).0)
    (all_taken f.0 x (names_taken 1025 [] f.0 x f.2))

-- an enum that was read
pub record TakenEnumeration (s : Scope) (text : List ℕ) (x : DeclarationRead) : Type 0 where
  pub name : List ℕ
  pub id : Option (List ℕ)
  pub names : List (List ℕ)
  pub took : SpellsUpTo (λ more. word name ∷ spell_identity id (mark marks.OpenBrace
      ∷ spell_names names (mark marks.Semicolon ∷ more)))
      (OfDeclaration kinds.Syntax s (Enumeration name id names)) text x.1
  pub shallow : depth_of (x.0).table.types ≤ 24

pub enumeration_takes : (s : Scope) (text : List ℕ) (x : DeclarationRead) → enumeration_at s text
    ≡ Ok x
    → TakenEnumeration s text x
unfolding enumeration_at OfDeclaration
enumeration_takes s text x e =
    let d = bind_ok _ _ x e in
    let i = bind_ok _ _ x d.2 in
    let o = bind_ok _ _ x i.2 in
    let ns = bind_ok _ _ x o.2 in
    let last = with_named (d.0).0 (i.0).0 (with_node s (nodes.enumeration (ns.0).0)) in
    let r = end_takes (octets_left_at_token text) last (ns.0).1 x ns.2 in
    let a = declared_takes s None s.table.declared text d.0 d.1 in
    let c = (identity_takes s (d.0).1 i.0 i.1).took in
    let b = (all_names_taken o.0 ns.0 ns.1).took in
    record {
      name = (d.0).0;
      id = (i.0).0;
      names = (ns.0).0;
      took = record {
        free = (a.free, c.free, tt, b.free);
        front = λ more m.
            let inner = spell_names (ns.0).0 (mark marks.Semicolon ∷ more) in
            a.front (spell_identity (i.0).0 (mark marks.OpenBrace ∷ inner))
            (c.front (mark marks.OpenBrace ∷ inner)
            (mark_takes marks.OpenBrace (i.0).1 o.0 o.1 inner
            (b.front (mark marks.Semicolon ∷ more)
            (mark_takes marks.Semicolon (ns.0).1 x.1 r.rest more m))));
      };
      shallow = r.shallow;
    }
