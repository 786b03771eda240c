-- How far a text was read: what was read of it, and what is left.
use Rattle.std.proofs.Common.{◌≡◌, ℕ, ◌+◌, ◌-◌, ◌≤◌, ◌<◌, true, List, [], ◌∷◌, ◌++◌, length, get_or, take, drop, take_all, append_assoc, append-nil, length-append, flat_map, refl, sym, ap, subst, ◌∙◌, arith}
use Rattle.std.specs.Prelude.{All, ◌==◌}
use Rattle.std.proofs.lemmas.Bool.{eqb-true}
use Rattle.std.proofs.lemmas.List.{take-append-le}
use Rattle.std.proofs.lemmas.List.Concat.{flat_map-append}
use Rattle.std.proofs.lemmas.List.Elements.{All-nil, All-cons, All-append}
use Rattle.giop_print.specs.Text.{escaped, escaped_octet}
use Rattle.giop_lines.specs.declared.paths.PathPart.{PathPart}
use Rattle.giop_lines.specs.Texts.{IsEscapedText}
use Rattle.giop_lines.specs.Paths.{part_text, IsRoot, IsPartAfterRoot, IsPath}

pub record SpelledFront {A : Type 0} (is_item : A → Type 0) (spell : A → List ℕ)
    (text rest : List ℕ) (count : ℕ) : Type 0 where
  pub items : List A
  pub are : All is_item items
  pub many : length items ≡ count
  pub spelled : text ≡ flat_map spell items ++ rest

pub spelled_none : {A : Type 0} (is : A → Type 0) (spell : A → List ℕ) (text : List ℕ)
    → SpelledFront is spell text text 0
spelled_none is spell text = record { items = []; are = All-nil is; many = refl; spelled = refl }

pub spelled_more : {A : Type 0} (is : A → Type 0) (spell : A → List ℕ) (text rest next : List ℕ)
    (n : ℕ) (x : A) → SpelledFront is spell text rest n → is x → rest ≡ spell x ++ next
    → SpelledFront is spell text next (n + 1)
spelled_more is spell text rest next n x g i e =
    record {
      items = g.items ++ (x ∷ []);
      are = All-append is g.items (x ∷ []) g.are (All-cons is x [] i (All-nil is));
      many = length-append g.items (x ∷ []) ∙ ap (λ (k : ℕ). k + 1) g.many;
      spelled = g.spelled ∙ ap (λ (xs : List ℕ). flat_map spell g.items ++ xs) e
          ∙ sym (append_assoc (flat_map spell g.items) (spell x) next)
          ∙ ap (λ (xs : List ℕ). xs ++ next) (sym (flat_map-append spell g.items (x ∷ [])
          ∙ ap (λ (xs : List ℕ). flat_map spell g.items ++ xs) (append-nil (spell x))));
    }

spelled_whole : {A : Type 0} (is : A → Type 0) (spell : A → List ℕ) (text rest : List ℕ) (n : ℕ)
    → (g : SpelledFront is spell text rest n) → length rest ≡ 0 → text ≡ flat_map spell g.items
spelled_whole is spell text [] n g e = g.spelled ∙ append-nil (flat_map spell g.items)
spelled_whole is spell text (x ∷ xs) n g e = absurd (omega arith)

pub text_spelled : (most n : ℕ) (text rest : List ℕ)
    → SpelledFront (λ x. x < 256) escaped_octet text rest n → n ≤ most → length rest ≡ 0
    → IsEscapedText most text
unfolding escaped
text_spelled most n text rest g le e =
    record {
      octets = g.items;
      small = g.are;
      few = omega (arith, g.many);
      spelled = spelled_whole (λ x. x < 256) escaped_octet text rest n g e;
    }

pub is_none : (n : ℕ) → (n == 0) ≡ true → n ≡ 0
is_none n e = eqb-true n 0 e

-- the same for a path after its root
pub record PathFront (path rest : List ℕ) (count : ℕ) : Type 0 where
  pub root : List ℕ
  pub behind : List ℕ
  pub is_root : IsRoot root
  pub spelled : path ≡ root ++ behind
  pub gone : SpelledFront IsPartAfterRoot part_text behind rest count

pub path_none : (path root rest : List ℕ) → IsRoot root → path ≡ root ++ rest
    → PathFront path rest 0
path_none path root rest is e =
    record {
      root = root;
      behind = rest;
      is_root = is;
      spelled = e;
      gone = spelled_none IsPartAfterRoot part_text rest;
    }

pub path_more : (path rest next : List ℕ) (n : ℕ) (part : PathPart) → PathFront path rest n
    → IsPartAfterRoot part → rest ≡ part_text part ++ next → PathFront path next (n + 1)
path_more path rest next n part g is e =
    record {
      root = g.root;
      behind = g.behind;
      is_root = g.is_root;
      spelled = g.spelled;
      gone = spelled_more IsPartAfterRoot part_text g.behind rest next n part g.gone is e;
    }

-- what comes before the rest is a path
pub path_front : (text rest : List ℕ) (n : ℕ) → PathFront text rest n → n ≤ 24
    → (path : List ℕ) × IsPath path × (text ≡ path ++ rest)
path_front text rest n g few = (
  g.root ++ flat_map part_text g.gone.items,
  record {
    root = g.root;
    parts = g.gone.items;
    is_root = g.is_root;
    are_parts = g.gone.are;
    few = omega (arith, g.gone.many, few);
    spelled = refl;
  },
  g.spelled ∙ ap (λ (xs : List ℕ). g.root ++ xs) g.gone.spelled
      ∙ sym (append_assoc g.root (flat_map part_text g.gone.items) rest),
)

pub before_rest : (text path rest : List ℕ) → text ≡ path ++ rest
    → take (length text - length rest) text ≡ path
before_rest text path rest e =
    subst (λ (xs : List ℕ). take (length xs - length rest) xs ≡ path) (sym e)
    (let k : length (path ++ rest) - length rest ≡ length path =
    omega (arith, length-append path rest) in
    ap (λ (n : ℕ). take n (path ++ rest)) k
    ∙ take-append-le (length path) path rest (omega arith)
    ∙ take_all (length path) path (omega arith))

pub first_and_rest : (xs : List ℕ) (x : ℕ) → 0 < length xs → get_or xs 0 0 ≡ x
    → xs ≡ x ∷ take (length xs - 1) (drop 1 xs)
first_and_rest [] x some e = absurd (omega arith)
first_and_rest (y ∷ ys) x some e =
    ap (λ (z : ℕ). z ∷ ys) e
    ∙ ap (λ (zs : List ℕ). x ∷ zs) (sym (take_all (length (y ∷ ys) - 1) ys (omega arith)))
