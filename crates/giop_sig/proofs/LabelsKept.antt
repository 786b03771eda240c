-- The labels of a case that was read: each names a number, and this number is kept.
use Rattle.std.proofs.Common.{ℕ, ◌≤◌, Bool, List, [], ◌∷◌, ◌++◌, length, append_assoc, arith}
use Rattle.std.specs.List.{AllByRecursion}
use Rattle.std.proofs.lemmas.List.{length-append, append-nil}
use Rattle.giop_tokens.specs.declared.fault.SigFaultKind.TheVariants as kinds
use Rattle.giop_tokens.specs.Tokens.{Token, AreTokens}
use Rattle.giop_sig.specs.Table.{Node}
use Rattle.giop_sig.specs.Grammar.{Plain, Below, Truth, Enumerator, Label, Default, Of, spell_label, spell_labels}
use Rattle.giop_sig.specs.Validity.{OfLabels}
use Rattle.giop_sig.proofs.LabelLaws.{NamesItsNumber}
use Rattle.giop_sig.proofs.LabelReads.{HasNoNegativeZero, label_above, label_kept, all_push}

label_rest : (l : Label) (text : List ℕ) (more : List Token) → AreTokens text (spell_label l more)
    → (rest : List ℕ) × AreTokens rest more
label_rest Default text more h = let c = h.2 in (c.0, c.2)
label_rest (Of (Plain n)) text more h = let c = (h.2).2 in (c.0, c.2)
label_rest (Of (Below n)) text more h = let c = (h.2).2 in (c.0, c.2)
label_rest (Of (Truth b)) text more h = let c = (h.2).2 in (c.0, c.2)
label_rest (Of (Enumerator w)) text more h = let c = (h.2).2 in (c.0, c.2)

labels_above : (ls : List Label) (text : List ℕ) (more : List Token)
    → AreTokens text (spell_labels ls more) → AllByRecursion HasNoNegativeZero ls
labels_above [] text more h = tt
labels_above (l ∷ ls) text more h =
    let r = label_rest l text (spell_labels ls more) h in
    (label_above l text (spell_labels ls more) h, labels_above ls r.0 more r.1)

all_kept : (third : Bool) (node : Node) (ls seen : List Label) → AllByRecursion HasNoNegativeZero ls
    → OfLabels kinds.Label third node seen ls → AllByRecursion (NamesItsNumber node) seen
    → AllByRecursion (NamesItsNumber node) (seen ++ ls)
unfolding OfLabels
all_kept third node [] seen above fit all = search (arith, append-nil)
all_kept third node (l ∷ ls) seen above fit all = search (
  arith,
  append_assoc,
  all_push,
  label_kept third,
  all_kept third node ls (seen ++ l ∷ []) above.1 fit.1
      (all_push (NamesItsNumber node) seen l all (label_kept
      third node l above.0 (fit.0).0)),
)

pub labels_kept : (third : Bool) (node : Node) (ls seen : List Label) (text : List ℕ)
    (more : List Token)
    → AreTokens text (spell_labels ls more) → OfLabels kinds.Label third node seen ls
    → AllByRecursion (NamesItsNumber node) seen → AllByRecursion (NamesItsNumber node) (seen ++ ls)
labels_kept third node ls seen text more h fit all = search (arith, all_kept third, labels_above)

pub labels_few : (third : Bool) (node : Node) (ls seen : List Label) → length seen ≤ 1024
    → OfLabels kinds.Limit third node seen ls → length (seen ++ ls) ≤ 1024
unfolding OfLabels
labels_few third node [] seen few fit = search (arith, length-append)
labels_few third node (l ∷ ls) seen few fit = search (
  arith,
  append_assoc,
  length-append,
  labels_few third node
      ls (seen ++ l ∷ []) (omega (arith, length-append seen (l ∷ []))) fit.1,
)
