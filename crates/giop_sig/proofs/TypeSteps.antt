-- Reading a type: all openers first, and then what closes them.
use Rattle.std.proofs.Common.{◌≡◌, ℕ, zero, suc, ◌-◌, Bool, false, cond, List, [], ◌∷◌, ◌++◌, length, Option, Some, None, Result, Ok, Err, refl, sym, ap, subst, ◌∙◌, arith}
use Rattle.std.specs.Prelude.{slice_get}
use Rattle.std.proofs.lemmas.List.{length-append}
use Rattle.giop_tokens.specs.declared.fault.TokenError.{TokenError}
use Rattle.giop_tokens.specs.Reading.{◌>>=◌}
use Rattle.giop_sig.specs.declared.parse_stop.ParseError.{ParseError}
use Rattle.giop_sig.specs.declared.read_types.Opener.{Opener}
use Rattle.giop_sig.specs.Outcomes.{StopsAsRead}
use Rattle.giop_sig.specs.Scopes.{Scope}
use Rattle.giop_sig.specs.Repeats.{in_steps}
use Rattle.giop_sig.specs.TypeReading.{TypeRead, element_after, opens_element, opens_elements, opener_closed, leaf_at, Opened, opener_at, type_after, type_nested_at, type_at, Openers, opener_or_leaf, openers_step, too_many_openers, all_openers_closed}
use Rattle.giop_sig.proofs.RepeatLaws.{bind_bind, stops_on}

bind_last : {X : Type 0} (r : Result X TokenError) → (r >>= λ x. Ok x) ≡ r
bind_last (Ok x) = refl
bind_last (Err e) = refl

-- the innermost type is closed first
pub closed_last : (os : List Opener) (o : Opener) (t : TypeRead)
    → all_openers_closed (os ++ o ∷ []) t ≡ (opener_closed o t >>= all_openers_closed os)
unfolding all_openers_closed
closed_last [] o t = sym (bind_last (opener_closed o t))
closed_last (p ∷ os) o t =
    ap (λ r. r >>= opener_closed p) (closed_last os o t)
    ∙ bind_bind (opener_closed o t) (all_openers_closed os) (opener_closed p)

closed_after : (os : List Opener) (o : Opener) (r : Result TypeRead TokenError)
    → (r >>= all_openers_closed (os ++ o ∷ []))
    ≡ ((r >>= opener_closed o) >>= all_openers_closed os)
closed_after os o (Ok t) = closed_last os o t
closed_after os o (Err e) = refl

get_last : (os : List Opener) (o : Opener) → slice_get (os ++ o ∷ []) (length os) ≡ Some o
get_last [] o = refl
get_last (p ∷ os) o = get_last os o

-- the last opener says whether the type of a sequence's elements comes next
pub element_last : (os : List Opener) (o : Opener)
    → element_after (os ++ o ∷ []) ≡ opens_element o
element_last os o =
    let at : length (os ++ o ∷ []) - 1 ≡ length os = omega (arith, length-append os (o ∷ [])) in
    ap opens_elements (ap (slice_get (os ++ o ∷ [])) at ∙ get_last os o)

-- the leaf after openers, and what closes them
abbrev pub leaf_and_close : (scope : Scope) (openers : Openers) → Result TypeRead TokenError
leaf_and_close s x = leaf_at (element_after x.0) s x.1 >>= all_openers_closed x.0

abbrev then_openers : (scope : Scope) (n : ℕ) (x : Bool × Openers) → Result Openers TokenError
then_openers s n x = cond x.0 (Ok x.1) (in_steps (openers_step s) too_many_openers n x.1)

opener_by : (n : ℕ) (s : Scope) (os : List Opener) (text : List ℕ)
    (r : Result (Option Opened) TokenError)
    → ((os : List Opener) (text : List ℕ)
    → (in_steps (openers_step s) too_many_openers n (os, text) >>= leaf_and_close s)
    ≡ (type_nested_at n (element_after os) s text >>= all_openers_closed os))
    → (((r >>= λ o. Ok (opener_or_leaf (os, text) o)) >>= then_openers s n) >>= leaf_and_close s)
    ≡ ((r >>= type_after (λ inner. type_nested_at n inner s) (element_after os) s text)
    >>= all_openers_closed os)
opener_by n s os text (Ok None) on = refl
opener_by n s os text (Ok (Some o)) on =
    on (os ++ o.0 ∷ []) o.1
    ∙ ap (λ inner. type_nested_at n inner s o.1 >>= all_openers_closed (os ++ o.0 ∷ []))
    (element_last os o.0)
    ∙ closed_after os o.0 (type_nested_at n (opens_element o.0) s o.1)
opener_by n s os text (Err e) on = refl

all_read : (n : ℕ) (s : Scope) (os : List Opener) (text : List ℕ)
    → (in_steps (openers_step s) too_many_openers n (os, text) >>= leaf_and_close s)
    ≡ (type_nested_at n (element_after os) s text >>= all_openers_closed os)
unfolding in_steps type_nested_at openers_step
all_read zero s os text = refl
all_read (suc n) s os text = opener_by n s os text (opener_at s text) (all_read n s)

pub type_as : (s : Scope) (text : List ℕ)
    → type_at s text
    ≡ (in_steps (openers_step s) too_many_openers (length text) ([], text) >>= leaf_and_close s)
unfolding all_openers_closed
type_as s text =
    sym (bind_last (type_nested_at (length text) false s text)) ∙ sym
    (all_read (length text) s [] text)

-- ---- a type as the code reads it

module _ (s : Scope) (text : List ℕ) (x : Openers)
    (opened : in_steps (openers_step s) too_many_openers (length text) ([], text) ≡ Ok x) where
  pub type_on : (t : TypeRead) → leaf_at (element_after x.0) s x.1 ≡ Ok t → type_at s text ≡
      all_openers_closed x.0 t
  type_on t leaf =
      type_as s text ∙ ap (λ r. r >>= leaf_and_close s) opened ∙ ap
      (λ r. r >>= all_openers_closed x.0) leaf

  pub type_stops : (e : ParseError) → StopsAsRead e (leaf_at (element_after x.0) s x.1)
      → StopsAsRead e
      (type_at s text)
  type_stops e leaf =
      subst (StopsAsRead e) (sym (type_as s text ∙ ap (λ r. r >>= leaf_and_close s) opened))
      (stops_on e (leaf_at (element_after x.0) s x.1) (all_openers_closed x.0) leaf)

module _ (os new : List Opener) (o : Opener) (t : TypeRead) (total : Result TypeRead TokenError)
    (is : os ≡ new ++ o ∷ []) (so_far : all_openers_closed os t ≡ total) where
  one_closed : (opener_closed o t >>= all_openers_closed new) ≡ total
  one_closed = sym (closed_last new o t) ∙ ap (λ l. all_openers_closed l t) (sym is) ∙ so_far

  pub closes_on : (x : TypeRead) → opener_closed o t ≡ Ok x → all_openers_closed new x ≡ total
  closes_on x e = ap (λ r. r >>= all_openers_closed new) (sym e) ∙ one_closed

  pub closes_fails : (e : ParseError) → StopsAsRead e (opener_closed o t) → StopsAsRead e total
  closes_fails e h = subst (StopsAsRead e) one_closed
      (stops_on e (opener_closed o t) (all_openers_closed new) h)

pub none_closed : (os : List Opener) (t : TypeRead) → length os ≡ 0 → all_openers_closed os t ≡ Ok t
unfolding all_openers_closed
none_closed [] t e = refl
none_closed (o ∷ os) t e = absurd (omega arith)
