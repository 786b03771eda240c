-- The lines of more octets and their text, if the octets are taken in two parts.
use Rattle.std.proofs.Common.{◌≡◌, ℕ, ◌+◌, ◌-◌, ◌≤◌, true, false, List, [], ◌∷◌, ◌++◌, length, take, drop, flat_map, refl, sym, ap, subst, ◌∙◌, append_assoc, append-nil, arith, length-append, length-drop, take-add}
use Rattle.std.proofs.Math.Seq.{drop-append_seam}
use Rattle.std.proofs.lemmas.List.{length-take-le, take-append-drop}
use Rattle.std.proofs.lemmas.List.Concat.{flat_map-append}
use Rattle.giop_message.specs.Signatures.{Signatures}
use Rattle.giop_message.specs.Messages.{LineAt, Said, Over, MessageReading, ReadTo, read_message, message_lines, stage_of}
use Rattle.giop_message.specs.StageSteps.{read_more}
use Rattle.giop_message.specs.ReaderOfTable.{is_over}
use Rattle.giop_message.specs.MessageState.{message_line_text, message_lines_text, more_lines, more_lines_text, FaultedAt}
use Rattle.giop_message.proofs.Going.{stays, message_resumes}
use Rattle.giop_message.proofs.Causal.{AreAllAfter, told_begins}
use Rattle.giop_message.proofs.Followings.{told_more}

due_both : (S : Signatures) (header s xs ys : List ℕ) →
    more_lines S header s (xs ++ ys) ≡ more_lines S header s xs ++ more_lines S header (s ++ xs) ys
unfolding more_lines
due_both S header s xs ys = search (arith, append_assoc, told_more, drop, drop-append_seam)

-- lines after an offset have the same places if they are counted from a later offset
moved : (number place offset more : ℕ) (emitted : List LineAt) →
    AreAllAfter (offset + more) emitted →
    message_lines_text number place offset emitted
    ≡ message_lines_text number (place + more) (offset + more) emitted
unfolding message_lines_text
moved number place offset more [] behind = refl
moved number place offset more (t ∷ ts) behind = search (
  arith,
  moved number place offset more ts
      behind.1,
)

due_behind : (S : Signatures) (header s more : List ℕ) →
    AreAllAfter (12 + length s) (more_lines S header s more)
unfolding more_lines
due_behind S header s more =
    let g = told_begins S header s more in
    subst (AreAllAfter (12 + length s)) (sym (ap (drop (length (message_lines
    (read_message S header s)))) g.1
    ∙ drop-append_seam (message_lines (read_message S header s)) g.0)) g.2

pub text_both : (S : Signatures) (number place : ℕ) (header s xs ys : List ℕ) →
    more_lines_text S number place header s (xs ++ ys) ≡ more_lines_text S number place header s xs
    ++ more_lines_text S number (place + length xs) header (s ++ xs) ys
unfolding more_lines_text message_lines_text
text_both S number place header s xs ys =
    let n = 12 + length s in
    let e : 12 + length (s ++ xs) ≡ n + length xs = omega (arith, length-append s xs) in
    ap (message_lines_text number place n) (due_both S header s xs ys)
    ∙ (flat_map-append (λ t. message_line_text number (place + (t.at - n)) t.message_line)
    (more_lines S header s xs) (more_lines S header (s ++ xs) ys)
    ∙ ap (λ z. message_lines_text number place n (more_lines S header s xs) ++ z)
    (moved number place n (length xs) (more_lines S header (s ++ xs) ys)
    (subst (λ k. AreAllAfter k (more_lines S header (s ++ xs) ys)) e (due_behind S header (s
    ++ xs) ys))
    ∙ ap (λ k. message_lines_text number (place + length xs) k (more_lines S header (s ++ xs) ys))
    (sym e)))

pub text_none : (S : Signatures) (number place : ℕ) (header s : List ℕ) →
    more_lines_text S number place header s [] ≡ []
unfolding more_lines_text message_lines_text more_lines
text_none S number place header s =
    rw (append-nil s) (ap (flat_map (λ t. message_line_text number
    (place + (t.at - (12 + length s))) t.message_line))
    (drop_all_of (message_lines (read_message S header s))))
  where
    drop_all_of : (emitted : List LineAt) → drop (length emitted) emitted ≡ []
    drop_all_of emitted = ap (drop (length emitted)) (sym (append-nil emitted))
        ∙ drop-append_seam emitted []

-- after a fault, a message stays the same
over_goes : (S : Signatures) (header : List ℕ) (said : Said) (at : ℕ) (t : List ℕ) →
    read_more S header (ReadTo said at Over) t ≡ ReadTo said at Over
over_goes S header said at [] = refl
over_goes S header said at (b ∷ t) = search (arith, stays, over_goes S header said at t)

over_same : (S : Signatures) (header t : List ℕ) (m : MessageReading) →
    is_over (stage_of m) ≡ true →
    read_more S header m t ≡ m
unfolding is_over stage_of
over_same S header t (ReadTo said at Over) e = search (arith, over_goes)
over_same S header t _ e = absurd cc

pub over_stays : (S : Signatures) (header s more : List ℕ) →
    is_over (stage_of (read_message S header s)) ≡ true →
    read_message S header (s ++ more) ≡ read_message S header s
over_stays S header s more e = message_resumes S header s more
    ∙ over_same S header more (read_message S header s) e

pub text_over : (S : Signatures) (number place : ℕ) (header s more : List ℕ) →
    is_over (stage_of (read_message S header s)) ≡ true →
    more_lines_text S number place header s more ≡ []
unfolding more_lines_text message_lines_text more_lines
text_over S number place header s more e =
    let same : message_lines (read_message S header (s ++ more)) ≡ message_lines
    (read_message S header s)
    ++ [] =
    ap message_lines (over_stays S header s more e)
    ∙ sym (append-nil (message_lines (read_message S header s))) in
    rw (same, drop-append_seam (message_lines (read_message S header s)) []) refl

-- ---- the octets so far, and more of them

pub text_so_far : (S : Signatures) (number place : ℕ) (header s octets : List ℕ) (i : ℕ)
    (more : List ℕ) → i ≤ length octets → more_lines_text S number place header s (take i octets
    ++ more)
    ≡ more_lines_text S number place header s (take i octets)
    ++ more_lines_text S number (place + i) header (s ++ take i octets) more
text_so_far S number place header s octets i more h = search (
  arith,
  text_both,
  take,
  length-take-le,
)

-- if the message is over after the first n octets, the text of all octets is the text of these
pub text_ended : (S : Signatures) (number place : ℕ) (header s octets : List ℕ) (n : ℕ) →
    is_over (stage_of (read_message S header (s ++ take n octets))) ≡ true →
    more_lines_text S number place header s octets ≡ more_lines_text S number place header s
    (take n octets)
text_ended S number place header s octets n e =
    ap (more_lines_text S number place header s) (sym (take-append-drop n octets))
    ∙ (text_both S number place header s (take n octets) (drop n octets)
    ∙ (ap (λ z. more_lines_text S number place header s (take n octets) ++ z)
    (text_over S number (place + length (take n octets)) header (s ++ take n octets) (drop n octets)
    e) ∙ append-nil _))

-- ---- a fault after octets that have none

pub faulted_behind : (S : Signatures) (header s octets : List ℕ) (i n : ℕ) → i ≤ length octets →
    FaultedAt S header (s ++ take i octets) (drop i octets) n → FaultedAt S header s octets (i + n)
faulted_behind S header s octets i n h f =
    let further : (k : ℕ) → (s ++ take i octets) ++ take k (drop i octets) ≡ s
    ++ take (i + k) octets =
    λ k. append_assoc s (take i octets) (take k (drop i octets))
    ∙ ap (λ xs. s ++ xs) (sym (take-add i k octets)) in
    let e : (i + n) - 1 ≡ i + (n - 1) = omega (arith, f.some) in
    record {
      some = omega (arith, f.some);
      within = omega (arith, f.within, length-drop i octets, h);
      here = subst (λ xs. is_over (stage_of (read_message S header xs)) ≡ true) (further n) f.here;
      not_before = rw e (subst (λ xs. is_over (stage_of (read_message S header xs)) ≡ false)
          (further (n - 1)) f.not_before);
    }
