-- Parameters that were read: the text that was read spells them, and they can be members of
-- structs.
use Rattle.std.proofs.Common.{◌≡◌, ℕ, zero, suc, ◌+◌, ◌<◌, ◌≤◌, Bool, true, false, not, ◌&&◌, cond, leb, List, [], ◌∷◌, ◌++◌, length, Option, Some, None, Result, Ok, refl, sym, ap, subst, ◌∙◌, lit≤, arith}
use Rattle.std.specs.Prelude.{codes}
use Rattle.std.specs.Option.{is_some}
use Rattle.std.specs.Str.{bytes_eq}
use Rattle.std.proofs.lemmas.List.{length-append}
use Rattle.std.proofs.lemmas.List.Elements.{All-push}
use Rattle.std.proofs.lemmas.Bool.{leb-false}
use Rattle.std.proofs.lemmas.Slice.Eq.{bytes_eq-Decides}
use Rattle.giop_tokens.specs.declared.fault.TokenError.{TokenError}
use Rattle.giop_tokens.specs.declared.fault.SigFaultKind.TheVariants as kinds
use Rattle.giop_tokens.specs.declared.marks.Mark.TheVariants as marks
use Rattle.giop_tokens.specs.Tokens.{Token, word, mark, AreTokens}
use Rattle.giop_tokens.specs.Reading.{◌>>=◌}
use Rattle.giop_tokens.specs.Readers.{mark_at, mark_if, keyword_if}
use Rattle.giop_tokens.proofs.ReaderLaws.{bind_ok, ok_is, TakesToken, word_takes, mark_takes, mark_if_takes, keyword_if_takes, operation_name_word}
use Rattle.giop_sig.specs.declared.read_calls.Direction.{Direction}
use Rattle.giop_sig.specs.declared.read_calls.Direction.TheVariants as directions
use Rattle.giop_sig.specs.Table.{Node, Part, IsPart, operation_key, operation_number_of_key}
use Rattle.giop_sig.specs.Table as nodes
use Rattle.giop_sig.specs.Grammar.{TypeExpr, Param, direction_word, spell_item, spell_param, spell_params, spell_more_params, spell_return}
use Rattle.giop_sig.specs.Scopes.{is_version_3, Scope, part, with_node}
use Rattle.giop_sig.specs.Validity.{OfItems, OfReturn, items_of}
use Rattle.giop_sig.specs.ScopeViews.{IsScope}
use Rattle.giop_sig.specs.TypeReading.{TypeRead}
use Rattle.giop_sig.specs.ItemReading.{ItemRead}
use Rattle.giop_sig.specs.CallReading.{ReturnRead, return_after, return_at, new_operation_at, direction_of, as_direction, direction_at, with_request_part, with_reply_part, with_param, Params, ParameterLists, param_end, param_step, too_many_params, ParamsRead, params_read, params_run, only_returned, params_after, params_at}
use Rattle.giop_sig.specs.Repeats.{in_steps}
use Rattle.giop_sig.proofs.ReadingLaws.{SpellsUpTo}
use Rattle.giop_sig.proofs.RepeatLaws.{step_first}
use Rattle.giop_sig.proofs.TypeTaken.{AddsOnlyTypes, grows_none, grows_on, node_grows, type_takes}
use Rattle.giop_sig.proofs.ItemTaken.{none_of, unused_is, AreParts, no_parts, parts_stay, TakenItem, item_takes}

-- ---- what an operation returns

pub record TakenReturn (s : Scope) (text : List ℕ) (x : ReturnRead) : Type 0 where
  pub returned : Option TypeExpr
  pub took : SpellsUpTo (spell_return returned) (OfReturn kinds.Syntax s.names returned) text x.2
  pub grows : AddsOnlyTypes s x.0
  pub few : length x.1 ≤ 1
  pub sound : IsScope s → IsScope x.0 × AreParts x.0 x.1

return_by : (s : Scope) (text : List ℕ) (x : ReturnRead) (c : Option (List ℕ))
    → keyword_if (codes "void") text ≡ Ok c → return_after s text c ≡ Ok x → TakenReturn s text x
return_by s text x (Some r) h e = subst (TakenReturn s text) (ok_is (s, [], r) x e) (record {
  returned = None;
  took = record { free = tt; front = keyword_if_takes (codes "void") text r h };
  grows = grows_none s;
  few = lit≤ tt;
  sound = λ is. (is, no_parts s);
})
return_by s text x None h e =
    let t = bind_ok {A = TypeRead} _ _ x e in
    let k = type_takes s text t.0 t.1 in
    subst (TakenReturn s text) (ok_is ((t.0).0, part (codes "return") (t.0).1 ∷ [], (t.0).2) x t.2)
    (record {
      returned = Some k.expr;
      took = record { free = k.took.free; front = k.took.front };
      grows = k.grows;
      few = lit≤ tt;
      sound = λ is.
          let h = k.sound is in (
            h.scope,
            All-push (IsPart ((t.0).0).table.types (length ((t.0).0).table.types)) []
                (part (codes "return") (t.0).1) (no_parts (t.0).0)
                (record { inner = h.known; short = lit≤ tt }),
          );
    })

pub return_takes : (s : Scope) (text : List ℕ) (x : ReturnRead)
    → return_at s text ≡ Ok x → TakenReturn s text x
unfolding return_at
return_takes s text x e = search (arith, bind_ok, return_by)

-- ---- the name

pub record OperationTaken (s : Scope) (text : List ℕ) (x : List ℕ × List ℕ) : Type 0 where
  pub short : length x.0 ≤ 128
  pub new : is_version_3 s.names ≡ false → operation_number_of_key s.table (operation_key 0 x.0)
      ≡ None
  pub few : s.table.called < 4096
  pub front : TakesToken text (word x.0) x.1

late : (third : Bool) (o : Option ℕ) → (not third && is_some o) ≡ false → third ≡ false → o ≡ None
late true o e f = absurd cc
late false o e f = none_of o e

pub new_operation_takes : (s : Scope) (text : List ℕ) (x : List ℕ × List ℕ)
    → new_operation_at s text ≡ Ok x → OperationTaken s text x
unfolding new_operation_at
new_operation_takes s text x e =
    let a = bind_ok _ _ x e in
    let w = operation_name_word text a.0 a.1 in
    let known = operation_number_of_key s.table (operation_key 0 (a.0).0) in
    let u = unused_is (not (is_version_3 s.names) && is_some known)
    (leb 4096 s.table.called) text a.0 x
    a.2 in
    subst (OperationTaken s text) u.0
    (record {
      short = w.1;
      new = late (is_version_3 s.names) known u.1;
      few =
          leb-false 4096 s.table.called u.2;
      front = word_takes text a.0 w.0;
    })

-- ---- parameters

direction_by : (w : List ℕ) (d : Direction) (a b c : Bool) → bytes_eq w (codes "in") ≡ a
    → bytes_eq w (codes "out") ≡ b → bytes_eq w (codes "inout") ≡ c
    → cond a (Some directions.In)
    (cond b (Some directions.Out) (cond c (Some directions.Inout) None))
    ≡ Some d → w ≡ direction_word d
direction_by w d true b c p q r e = search (arith, bytes_eq-Decides)
direction_by w d false true c p q r e = search (arith, bytes_eq-Decides)
direction_by w d false false true p q r e = search (arith, bytes_eq-Decides)
direction_by w d false false false p q r e = absurd cc

as_by : (text w rest : List ℕ) (x : Direction × List ℕ) (o : Option Direction) → direction_of w ≡ o
    → TakesToken text (word w) rest → as_direction text rest o ≡ Ok x
    → TakesToken text (word (direction_word x.0)) x.1
as_by text w rest x None h t e = absurd cc
as_by text w rest x (Some d) h t e =
    subst (λ (y : Direction × List ℕ). TakesToken text (word (direction_word y.0)) y.1)
    (ok_is (d, rest) x e)
    (subst (λ v. TakesToken text (word v) rest)
    (direction_by w d (bytes_eq w (codes "in")) (bytes_eq w (codes "out"))
    (bytes_eq w (codes "inout")) refl refl refl h) t)

pub direction_takes : (text : List ℕ) (x : Direction × List ℕ) → direction_at text ≡ Ok x
    → TakesToken text (word (direction_word x.0)) x.1
unfolding direction_at
direction_takes text x e = search (arith, bind_ok, as_by, word_takes)

-- one more member, or none
request_more : (d : Direction) (p : Part) (ps : List Part)
    → length (with_request_part d p ps) ≤ length ps + 1
request_more directions.Out p ps = omega arith
request_more _ p ps = search (arith, length-append)

reply_more : (d : Direction) (p : Part) (ps : List Part) → length
    (with_reply_part d p ps) ≤ length ps + 1
reply_more directions.In p ps = omega arith
reply_more _ p ps = search (arith, length-append)

request_parts : (s : Scope) (d : Direction) (p : Part) (ps : List Part) → AreParts s ps
    → IsPart s.table.types (length s.table.types) p → AreParts s (with_request_part d p ps)
request_parts s directions.Out p ps all is = all
request_parts s _ p ps all is = All-push (IsPart s.table.types (length s.table.types)) ps p all is

reply_parts : (s : Scope) (d : Direction) (p : Part) (ps : List Part) → AreParts s ps
    → IsPart s.table.types (length s.table.types) p → AreParts s (with_reply_part d p ps)
reply_parts s directions.In p ps all is = all
reply_parts s _ p ps all is = All-push (IsPart s.table.types (length s.table.types)) ps p all is

pub record AreSoundParameters (x : ParamsRead) : Type 0 where
  pub scope : IsScope x.0
  pub request : AreParts x.0 x.1
  pub reply : AreParts x.0 x.2

-- the parameters that were read after others; no comma comes before the first
pub record TakenParams (w : ParameterLists) (s : Scope) (text : List ℕ) (x : ParamsRead) : Type 0
  where
    pub first : Param
    pub others : List Param
    pub free : OfItems kinds.Syntax s.names 255 w.seen (items_of (first ∷ others))
    pub front : (more : List Token) → AreTokens x.3 more
        → AreTokens text (spell_param first (spell_more_params others more))
    pub few_requests : (a : ℕ) → length w.request ≤ length w.seen + a → length x.1 ≤ 255 + a
    pub few_replies : (a : ℕ) → length w.reply ≤ length w.seen + a → length x.2 ≤ 255 + a
    pub grows : AddsOnlyTypes s x.0
    pub sound : IsScope s → AreParts s w.request → AreParts s w.reply → AreSoundParameters x

last_param : (w : ParameterLists) (s : Scope) (text r : List ℕ) (d : Direction × List ℕ)
    (i : ItemRead)
    → TakesToken text (word (direction_word d.0)) d.1 → TakenItem s 255 w.seen d.1 i
    → mark_at marks.CloseParenthesis i.2 ≡ Ok r
    → TakenParams w s text (
      i.0,
      with_request_part d.0 i.1 w.request,
      with_reply_part d.0 i.1
          w.reply,
      r,
    )
unfolding OfItems
last_param w s text r d i t a e = record {
  first = record { direction = d.0; item = a.item };
  others = [];
  free = (a.took.free, tt);
  front = λ more m. t (spell_item a.item (mark marks.CloseParenthesis ∷ more))
      (a.took.front (mark marks.CloseParenthesis ∷ more)
      (mark_takes marks.CloseParenthesis i.2 r e more m));
  few_requests = λ k le. let f = a.few in omega (arith, request_more d.0 i.1 w.request);
  few_replies = λ k le. let f = a.few in omega (arith, reply_more d.0 i.1 w.reply);
  grows = a.grows;
  sound = λ is q r.
      let h = a.sound is in
      let p : IsPart (i.0).table.types (length (i.0).table.types) i.1 =
      record { inner = h.known; short = a.short } in
      record {
        scope = h.scope;
        request = request_parts i.0 d.0 i.1 w.request (parts_stay s i.0 w.request a.grows q) p;
        reply = reply_parts i.0 d.0 i.1 w.reply (parts_stay s i.0 w.reply a.grows r) p;
      };
}

param_on : (w : ParameterLists) (s : Scope) (text r : List ℕ) (d : Direction × List ℕ)
    (i : ItemRead)
    (x : ParamsRead) → TakesToken text (word (direction_word d.0)) d.1
    → TakenItem s 255 w.seen d.1 i
    → mark_if marks.Comma i.2 ≡ Ok (Some r)
    → TakenParams (with_param w d.0 i.1) i.0 r x → TakenParams w s text x
unfolding OfItems
param_on w s text r d i x t a e k = record {
  first = record { direction = d.0; item = a.item };
  others = k.first ∷ k.others;
  free = (
    a.took.free,
    subst (λ v. OfItems kinds.Syntax s.names 255 (w.seen ++ v ∷ []) (items_of (k.first ∷ k.others)))
        (sym a.named)
        (subst (λ ns. OfItems kinds.Syntax ns 255 (w.seen ++ (i.1).name ∷ [])
        (items_of (k.first ∷ k.others))) a.grows.names k.free),
  );
  front = λ more m. t (spell_item a.item (spell_more_params (k.first ∷ k.others) more))
      (a.took.front (spell_more_params (k.first ∷ k.others) more)
      (mark_if_takes marks.Comma i.2 r e (spell_param k.first (spell_more_params k.others more))
      (k.front more m)));
  few_requests = λ b le. k.few_requests b
      (omega (arith, request_more d.0 i.1 w.request, length-append w.seen ((i.1).name ∷ [])));
  few_replies = λ b le. k.few_replies b (omega (
    arith,
    reply_more d.0 i.1 w.reply,
    length-append w.seen ((i.1).name ∷ []),
  ));
  grows = grows_on s i.0 x.0 a.grows k.grows;
  sound = λ is q r.
      let h = a.sound is in
      let p : IsPart (i.0).table.types (length (i.0).table.types) i.1 =
      record { inner = h.known; short = a.short } in
      k.sound h.scope (request_parts i.0 d.0 i.1 w.request (parts_stay s i.0 w.request a.grows q) p)
      (reply_parts i.0 d.0 i.1 w.reply (parts_stay s i.0 w.reply a.grows r) p);
}

abbrev pub then_run : (n : ℕ) (x : Bool × Params) → Result ParamsRead TokenError
then_run n x = cond x.0 (Ok x.1) (in_steps param_step too_many_params n x.1) >>= params_read

behind_by : (n : ℕ) (w : ParameterLists) (s : Scope) (text : List ℕ) (d : Direction × List ℕ)
    (i : ItemRead)
    (m : Bool × Params) (x : ParamsRead) (c : Option (List ℕ))
    → TakesToken text (word (direction_word d.0)) d.1
    → TakenItem s 255 w.seen d.1 i → mark_if marks.Comma i.2 ≡ Ok c
    → param_end w d.0 i c ≡ Ok m → then_run n m ≡ Ok x
    → ((w : ParameterLists) (s : Scope) (text : List ℕ) → params_run n (s, w, text) ≡ Ok x
    → TakenParams w s text x) → TakenParams w s text x
behind_by n w s text d i m x (Some r) t a h e run on =
    let v = with_param w d.0 i.1 in
    let last : params_run n (i.0, v, r) ≡ Ok x =
    ap (then_run n) (ok_is (false, (i.0, v, r)) m e) ∙ run in
    param_on w s text r d i x t a h (on v i.0 r last)
behind_by n w s text d i m x None t a h e run on = search (arith, bind_ok, ok_is, last_param)

pub params_takes : (n : ℕ) (w : ParameterLists) (s : Scope) (text : List ℕ) (x : ParamsRead)
    → params_run n (s, w, text) ≡ Ok x → TakenParams w s text x
unfolding in_steps param_step
params_takes zero w s text x e = absurd cc
params_takes (suc n) w s text x e =
    let m = bind_ok (param_step (s, w, text)) (then_run n) x
    (sym (step_first param_step too_many_params params_read n (s, w, text)) ∙ e) in
    let d = bind_ok {A = Direction × List ℕ} _ _ m.0 m.1 in
    let i = bind_ok {A = ItemRead} _ _ m.0 d.2 in
    let c = bind_ok (mark_if marks.Comma (i.0).2) (λ c. param_end w (d.0).0 i.0 c) m.0 i.2 in
    behind_by n w s text d.0 i.0 m.0 x c.0 (direction_takes text d.0 d.1)
    (item_takes 255 w.seen s (d.0).1 i.0 i.1) c.1 c.2 m.2
    (λ w s text run. params_takes n w s text x run)

-- ---- all parameters

pub record TakenParameterList (returned : List Part) (s : Scope) (text : List ℕ)
    (x : ParamsRead) : Type 0 where
  pub params : List Param
  pub took : SpellsUpTo (spell_params params)
      (OfItems kinds.Syntax s.names 255 [] (items_of params)) text x.3
  pub few_requests : length x.1 ≤ 256
  pub few_replies : length returned ≤ 1 → length x.2 ≤ 256
  pub grows : AddsOnlyTypes s x.0
  pub sound : IsScope s → AreParts s returned → AreSoundParameters x

list_by : (returned : List Part) (s : Scope) (text : List ℕ) (x : ParamsRead)
    (c : Option (List ℕ)) → mark_if marks.CloseParenthesis text ≡ Ok c
    → params_after returned s text c ≡ Ok x → TakenParameterList returned s text x
unfolding OfItems
list_by returned s text x (Some r) h e =
    subst (TakenParameterList returned s text) (ok_is (s, [], returned, r) x e) (record {
      params = [];
      took = record { free = tt; front = mark_if_takes marks.CloseParenthesis text r h };
      few_requests = omega arith;
      few_replies = λ le. omega arith;
      grows = grows_none s;
      sound = λ is all. record { scope = is; request = no_parts s; reply = all };
    })
list_by returned s text x None h e =
    let k = params_takes 256 (only_returned returned) s text x e in
    record {
      params = k.first ∷ k.others;
      took = record { free = k.free; front = k.front };
      few_requests = let f = k.few_requests 0 (omega arith) in omega arith;
      few_replies = λ le. let f = k.few_replies 1 (omega arith) in omega arith;
      grows = k.grows;
      sound = λ is all. k.sound is (no_parts s) all;
    }

pub list_takes : (returned : List Part) (s : Scope) (text : List ℕ) (x : ParamsRead)
    → params_at returned s text ≡ Ok x → TakenParameterList returned s text x
unfolding params_at
list_takes returned s text x e = search (arith, bind_ok, list_by)

-- ---- what the code requires

-- the structs of an operation can be added
pub record StructsCanBeAdded (s : Scope) (m : ParamsRead) : Type 0 where
  pub request : (length m.1 ≤ 256) × AreParts m.0 m.1
  pub reply : (length m.2 ≤ 256) × AreParts m.0 m.2
  pub grows : AddsOnlyTypes s m.0

pub call_ready : (s : Scope) (text o : List ℕ) (t : ReturnRead) (m : ParamsRead)
    → return_at s text ≡ Ok t → params_at t.1 t.0 o ≡ Ok m → IsScope s → StructsCanBeAdded t.0 m
call_ready s text o t m e f is =
    let k = return_takes s text t e in
    let l = list_takes t.1 t.0 o m f in
    let both = k.sound is in
    let h = l.sound both.0 both.1 in
    record {
      request = (l.few_requests, h.request);
      reply = (l.few_replies k.few, h.reply);
      grows =
          l.grows;
    }

-- what could be added can still be added after another struct
pub parts_on : (s : Scope) (n : Node) (ps : List Part) → (length ps ≤ 256) × AreParts s ps
    → (length ps ≤ 256) × AreParts (with_node s n).0 ps
parts_on s n ps both = search (arith, parts_stay, node_grows)

pub calls_grow : (s : Scope) (m : ParamsRead) (n : Node) → StructsCanBeAdded s m
    → AddsOnlyTypes s (with_node (with_node m.0 (nodes.members m.1)).0 n).0
calls_grow s m n ready =
    let q = (with_node m.0 (nodes.members m.1)).0 in
    grows_on s q (with_node q n).0
    (grows_on s m.0 q ready.grows (node_grows m.0 (nodes.members m.1))) (node_grows q n)
