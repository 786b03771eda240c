-- What a message writes and returns at an octet, and at its close, are the lines of its reading.
use Rattle.std.proofs.Common.{◌≡◌, ℕ, suc, ◌+◌, ◌-◌, ◌≤◌, Bool, false, List, [], ◌∷◌, ◌++◌, length, map, drop, refl, sym, ap, ◌∙◌, arith, flat_map}
use Rattle.std.specs.Prelude.{◌||◌, ◌==◌}
use Rattle.std.specs.List.{filter, list_any, AllByRecursion as Each}
use Rattle.std.proofs.Math.Seq.{drop-append_seam}
use Rattle.std.proofs.lemmas.Bool.{eq-eqb, ne_eqb}
use Rattle.std.proofs.lemmas.List.Elements.{filter-append}
use Rattle.giop_message.specs.MessageReader.{TimedLine, is_fault_class}
use Rattle.giop_message.specs.Text.{numbered_lines}
use Rattle.giop_message.specs.Signatures.{Signatures}
use Rattle.giop_message.specs.Messages.{MessageLine, LineAt, read_message, message_lines, stage_of, lines_of_close}
use Rattle.giop_message.specs.ReaderOfTable.{line_class_of, timed_line_of, class_and_text, timed_lines_by, lines_of_close_by, next_lines_by, is_over, is_fault_line}
use Rattle.giop_message.specs.MessageState.{message_line_text, message_lines_text, more_lines, more_lines_text, is_short_close, closing_text, timed_lines_text, closes_text}
use Rattle.giop_message.proofs.Going.{message_goes}
use Rattle.giop_message.proofs.Causal.{AreLinesAt, map_both, stands, one_more, ordered}
use Rattle.giop_message.proofs.Faults.{over_where_faulted}
use Rattle.std.proofs.lemmas.List.{drop-map, length-map}

-- ---- the lines that an octet adds to a message, and those that it adds to the reading

none_before : (n : ℕ) (emitted : List LineAt) → Each (λ t. t.at ≤ 12 + n) emitted →
    filter (λ r. r.at == suc n) (map timed_line_of emitted) ≡ []
none_before n [] h = refl
none_before n (t ∷ ts) h = search (arith, ne_eqb, none_before n ts h.1)

all_here : (n : ℕ) (emitted : List LineAt) → AreLinesAt ((12 + n) + 1) emitted →
    filter (λ r. r.at == suc n) (map timed_line_of emitted) ≡ map timed_line_of emitted
all_here n [] h = refl
all_here n (t ∷ ts) h = search (arith, eq-eqb, all_here n ts h.1)

-- the lines of one more octet: they are at that octet, and the reading has them
record OneOctetLines (S : Signatures) (header octets : List ℕ) (octet : ℕ) : Type 0 where
  emitted : message_lines (read_message S header (octets ++ octet ∷ []))
      ≡ message_lines (read_message S header octets) ++ more_lines S header octets (octet ∷ [])
  here : AreLinesAt ((12 + length octets) + 1) (more_lines S header octets (octet ∷ []))
  said : next_lines_by S header octets octet ≡ map timed_line_of (more_lines S header octets
      (octet ∷ []))

one_octet : (S : Signatures) (header xs : List ℕ) (x : ℕ) → OneOctetLines S header xs x
unfolding more_lines timed_lines_by
one_octet S header xs x =
    let one = one_more S header (12 + length xs) (read_message S header xs) x
    (stands S header xs) in
    let old = message_lines (read_message S header xs) in
    let emitted : message_lines (read_message S header (xs ++ x ∷ [])) ≡ old ++ one.0 =
    ap message_lines (message_goes S header xs x) ∙ one.1 in
    let due_is : drop (length old) (message_lines (read_message S header (xs ++ x ∷ []))) ≡ one.0 =
    ap (drop (length old)) emitted ∙ drop-append_seam old one.0 in
    let here : TimedLine → Bool = λ r. r.at == suc (length xs) in
    let said_is : filter here (map timed_line_of (message_lines (read_message S header (xs ++ x
    ∷ []))))
    ≡ map timed_line_of one.0 =
    ap (λ ts. filter here (map timed_line_of ts)) emitted
    ∙ (ap (filter here) (map_both timed_line_of old one.0)
    ∙ (filter-append here (map timed_line_of old) (map timed_line_of one.0)
    ∙ (ap (λ rs. rs ++ filter here (map timed_line_of one.0))
    (none_before (length xs) old (ordered 0 S header xs).0)
    ∙ all_here (length xs) one.0 one.2.0))) in
    record {
      emitted = emitted ∙ ap (λ ts. old ++ ts) (sym due_is);
      here = rw due_is one.2.0;
      said = said_is ∙ ap (map timed_line_of) (sym due_is);
    }

-- the lines that one more octet adds to the reading
pub due_said_is : (S : Signatures) (header xs : List ℕ) (x : ℕ) →
    next_lines_by S header xs x ≡ map timed_line_of (more_lines S header xs (x ∷ []))
due_said_is S header xs x = (one_octet S header xs x).said

told_here : (number place offset : ℕ) (emitted : List LineAt) → AreLinesAt (offset + 1) emitted →
    message_lines_text number place offset emitted
    ≡ numbered_lines (suc place) number (map timed_line_of emitted)
unfolding message_lines_text numbered_lines message_line_text
told_here number place offset [] h = refl
told_here number place offset (t ∷ ts) h = search (arith, told_here number place offset ts h.1)

-- The text of an octet is the text of its lines in the reading.
pub octet_text : (S : Signatures) (number place : ℕ) (header xs : List ℕ) (x : ℕ) →
    more_lines_text S number place header xs (x ∷ [])
    ≡ numbered_lines (suc place) number (next_lines_by S header xs x)
unfolding more_lines_text
octet_text S number place header xs x =
    let one = one_octet S header xs x in
    told_here number place (12 + length xs) (more_lines S header xs (x ∷ [])) one.here
    ∙ ap (numbered_lines (suc place) number) (sym one.said)

-- ---- faults

wrong_is : (t : LineAt) → is_fault_line t ≡ is_fault_class (line_class_of t.message_line)
unfolding is_fault_line line_class_of
wrong_is t = search (arith)

wrongs_are : (emitted : List LineAt) → list_any is_fault_line emitted
    ≡ list_any (λ r. is_fault_class r.line_class) (map timed_line_of emitted)
wrongs_are [] = refl
wrongs_are (t ∷ ts) = rw (wrong_is t, wrongs_are ts) refl

or_of : (a b c : Bool) → (b ≡ c) → (a || b) ≡ (a || c)
or_of a b c e = ap (λ (d : Bool). a || d) e

any_both : (xs ys : List LineAt) → list_any is_fault_line (xs ++ ys)
    ≡ (list_any is_fault_line xs || list_any is_fault_line ys)
any_both [] ys = refl
any_both (x ∷ xs) ys = search (arith, or_of, any_both xs ys)

over_more : (S : Signatures) (header xs : List ℕ) (x : ℕ) →
    is_over (stage_of (read_message S header (xs ++ x ∷ [])))
    ≡ (is_over (stage_of (read_message S header xs)) || list_any (λ r. is_fault_class r.line_class)
    (next_lines_by S header xs x))
over_more S header xs x = search (arith, one_octet, over_where_faulted, any_both, wrongs_are)

-- If a message isn't over, it is over after an octet exactly if the octet adds the line of a fault.
pub octet_over : (S : Signatures) (header xs : List ℕ) (x : ℕ) →
    is_over (stage_of (read_message S header xs)) ≡ false →
    is_over (stage_of (read_message S header (xs ++ x ∷ [])))
    ≡ list_any (λ r. is_fault_class r.line_class) (next_lines_by S header xs x)
octet_over S header xs x h = search (arith, over_more)

-- ---- a close

-- A close adds the line of a fault exactly if it is short.
pub close_short : (S : Signatures) (header xs : List ℕ) →
    is_short_close (lines_of_close (stage_of (read_message S header xs)))
    ≡ list_any (λ l. is_fault_class l.0) (lines_of_close_by S header xs)
unfolding lines_of_close_by is_short_close line_class_of lines_of_close
close_short S header xs = search (arith, map)

each_timed_line : (number place n : ℕ) (emitted : List LineAt) →
    flat_map (λ t. message_line_text number (place + (t.at - (12 + n))) t.message_line) emitted
    ≡ timed_lines_text number place n (map timed_line_of emitted)
unfolding message_line_text timed_lines_text
each_timed_line number place n [] = refl
each_timed_line number place n (t ∷ ts) = search (arith, each_timed_line number place n ts)

pub text_is : (S : Signatures) (number place : ℕ) (header s more : List ℕ) →
    more_lines_text S number place header s more ≡ timed_lines_text number place (length s)
    (drop (length (timed_lines_by S header s)) (timed_lines_by S header (s ++ more)))
unfolding more_lines_text message_lines_text more_lines timed_lines_by
text_is S number place header s more = search (
  arith,
  each_timed_line,
  drop,
  map,
  length-map,
  drop-map,
)

each_close : (number place : ℕ) (speeches : List MessageLine) →
    flat_map (message_line_text number place) speeches
    ≡ closes_text number place (map class_and_text speeches)
unfolding message_line_text closes_text
each_close number place [] = refl
each_close number place (s ∷ ss) = search (arith, each_close number place ss)

pub close_is : (S : Signatures) (number place : ℕ) (header s : List ℕ) →
    closing_text number place (lines_of_close (stage_of (read_message S header s)))
    ≡ closes_text number place (lines_of_close_by S header s)
unfolding closing_text lines_of_close_by
close_is S number place header s = search (arith, each_close)
