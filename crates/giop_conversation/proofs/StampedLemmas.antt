-- What is written of octets that come in parts, and of a piece in which no line is due before the
-- last octet.
use Rattle.std.specs.Prelude.{◌||◌, is_some}
use Rattle.std.proofs.lemmas.Bool.{cases_lt, le-ltb, false≢true}
use Rattle.std.proofs.lemmas.List.{drop_all}
use Rattle.std.proofs.Common.{◌≡◌, ℕ, zero, suc, ◌<◌, ◌≤◌, Bool, true, false, take, drop, List, [], ◌∷◌, ◌++◌, length, Option, Some, None, refl, sym, ap, subst, ◌∙◌, arith, append-nil, append_assoc, nat_lt}
use Rattle.giop_sig.specs.Table.{Table}
use Rattle.giop_message.specs.Signatures.{Answers}
use Rattle.giop_message.specs.HeaderEnds.{HeaderEnd, Header_end, Exception_end, IsAnswered, CallEvent, Requested, Replied, Raised, call_event, after_event, after_ends, AgreesAtEnds}
use Rattle.giop_message.proofs.MessageLaws.{told_both, answers_then}
use Rattle.giop_stream.specs.Rules.{Rules, rules_by}
use Rattle.giop_stream.specs.HeaderEndsOfStream.{header_ends_from}
use Rattle.giop_stream.specs.EngineHolds.{added}
use Rattle.giop_stream.specs.DueOctets.{begins_in, begun_in, is_due_after}
use Rattle.giop_stream.specs.Framing.{cut, messages}
use Rattle.giop_stream.proofs.StreamLaws.{added_both_by, header_ends_both, messages_grow}
use Rattle.giop_conversation.specs.Exchanges.{ExchangeView, Answering, Raising, answer_of, notified, is_reply_line_due}
use Rattle.giop_conversation.specs.Stamped.{due_answers_line, due_raises_line, after_headers, reply_forgotten, lines_due, after_octets, stamped}

-- ---- in two parts

pub exchanged_both : (R : Rules) (q : List ℕ) (s : ExchangeView) (p r : List ℕ) →
    after_octets R s p (q ++ r) ≡ after_octets R (after_octets R s p q) (p ++ q) r
unfolding after_octets
exchanged_both R [] s p r = search (arith, append-nil)
exchanged_both R (x ∷ xs) s p r =
    let s' = reply_forgotten (after_headers R s p (x ∷ [])) in
    exchanged_both R xs s' (p ++ x ∷ []) r
    ∙ ap (λ (f : List ℕ). after_octets R (after_octets R s' (p ++ x ∷ []) xs) f r)
    (append_assoc p (x ∷ []) xs)

pub stamped_both : (R : Rules) (q : List ℕ) (s : ExchangeView) (p r : List ℕ) →
    stamped R s p (q ++ r) ≡ stamped R s p q ++ stamped R (after_octets R s p q) (p ++ q) r
unfolding stamped after_octets
stamped_both R [] s p r = search (arith, append-nil)
stamped_both R (x ∷ xs) s p r =
    let s' = reply_forgotten (after_headers R s p (x ∷ [])) in
    let first = added R p (x ∷ []) ++ lines_due R s p (x ∷ []) in
    let rest = stamped R s' (p ++ x ∷ []) xs in
    let last = λ (f : List ℕ). stamped R (after_octets R s' (p ++ x ∷ []) xs) f r in
    ap (λ (t : List ℕ). first ++ t) (stamped_both R xs s' (p ++ x ∷ []) r
    ∙ ap (λ (f : List ℕ). rest ++ last f) (append_assoc p (x ∷ []) xs))
    ∙ sym (append_assoc first rest (last (p ++ x ∷ xs)))

-- ---- what is told

table_stays : (s : ExchangeView) (event : CallEvent) → (notified s event).table ≡ s.table
table_stays s (Requested number id name operation expects) = refl
table_stays s (Replied number id) = refl
table_stays s (Raised number name) = refl

arrival_stays : (s : ExchangeView) (event : CallEvent) → (notified s event).arrival ≡ s.arrival
arrival_stays s (Requested number id name operation expects) = refl
arrival_stays s (Replied number id) = refl
arrival_stays s (Raised number name) = refl

after_stays : {X : Type 0} (f : ExchangeView → X) →
    ((s : ExchangeView) (event : CallEvent) → f (notified s event) ≡ f s) →
    (C : Table) (es : List HeaderEnd) (s : ExchangeView) → f (after_ends notified C s es) ≡ f s
after_stays f stays C [] s = refl
after_stays f stays C (e ∷ es) s = after_stays f stays C es
    (after_event notified s (call_event C e)) ∙ by (call_event C e)
  where
    by : (event : Option CallEvent) → f (after_event notified s event) ≡ f s
    by None = refl
    by (Some event) = stays s event

pub told_table : (R : Rules) (s : ExchangeView) (p octets : List ℕ) →
    (after_headers R s p octets).table ≡ s.table
told_table R s p octets = after_stays (λ s. s.table) table_stays s.table
    (header_ends_from R p octets) s

pub told_arrival : (R : Rules) (s : ExchangeView) (p octets : List ℕ) →
    (after_headers R s p octets).arrival ≡ s.arrival
told_arrival R s p octets =
    after_stays (λ s. s.arrival) arrival_stays s.table (header_ends_from R p octets)
    s

pub exchanged_table : (R : Rules) (octets : List ℕ) (s : ExchangeView) (p : List ℕ) →
    (after_octets R s p octets).table ≡ s.table
unfolding after_octets
exchanged_table R [] s p = refl
exchanged_table R (x ∷ xs) s p = exchanged_table R xs
    (reply_forgotten (after_headers R s p (x ∷ []))) (p ++ x ∷ [])
    ∙ told_table R s p (x ∷ [])

pub exchanged_arrival : (R : Rules) (octets : List ℕ) (s : ExchangeView) (p : List ℕ) →
    (after_octets R s p octets).arrival ≡ s.arrival
unfolding after_octets
exchanged_arrival R [] s p = refl
exchanged_arrival R (x ∷ xs) s p =
    exchanged_arrival R xs (reply_forgotten (after_headers R s p (x ∷ []))) (p ++ x ∷ [])
    ∙ told_arrival R s p (x ∷ [])

-- no Reply waits for its lines to be written
pub record HasNoReplyLines (s : ExchangeView) : Type 0 where
  pub answered : s.answered ≡ None
  pub raised : s.raised ≡ None

pub taken_stays : (s : ExchangeView) → HasNoReplyLines s → reply_forgotten s ≡ s
taken_stays s none = search (arith)

pub exchanged_taken : (R : Rules) (octets : List ℕ) (s : ExchangeView) (p : List ℕ) →
    HasNoReplyLines s →
    HasNoReplyLines (after_octets R s p octets)
unfolding after_octets
exchanged_taken R [] s p none = none
exchanged_taken R (x ∷ xs) s p none = exchanged_taken R xs
    (reply_forgotten (after_headers R s p (x ∷ [])))
    (p ++ x ∷ []) (record { answered = refl; raised = refl })

-- ---- answers that agree, when the lines of the last Reply were written

answered_alike : (C : Table) (a : Answers) (e : HeaderEnd) (s : ExchangeView)
    (answered : Option Answering) (raised : Option Raising) →
    IsAnswered answer_of s a e → IsAnswered answer_of
    (record s { answered = answered; raised = raised }) a e
answered_alike C a (Header_end number header n) s answered raised is = is
answered_alike C a (Exception_end number name) s answered raised is = tt

otherwise_after : (C : Table) (a : Answers) (es : List HeaderEnd) (s : ExchangeView)
    (answered : Option Answering) (raised : Option Raising) →
    ((t : ExchangeView) (x : Option Answering) (y : Option Raising) →
    AgreesAtEnds answer_of notified C t a es →
    AgreesAtEnds answer_of notified C (record t { answered = x; raised = y }) a es) →
    (event : Option CallEvent) → AgreesAtEnds answer_of notified C (after_event notified s event) a
    es →
    AgreesAtEnds answer_of notified C (after_event notified
    (record s { answered = answered; raised = raised }) event) a es
otherwise_after C a es s answered raised alike None rest = alike s answered raised rest
otherwise_after C a es s answered raised alike (Some (Requested number id name operation expects))
    rest =
    alike (notified s (Requested number id name operation expects)) answered raised rest
otherwise_after C a es s answered raised alike (Some (Replied number id)) rest =
    alike (notified s (Replied number id)) (notified s (Replied number id)).answered raised rest
otherwise_after C a es s answered raised alike (Some (Raised number name)) rest =
    alike (notified s (Raised number name)) answered (notified s (Raised number name)).raised rest

agrees_otherwise : (C : Table) (a : Answers) (es : List HeaderEnd) (s : ExchangeView)
    (answered : Option Answering) (raised : Option Raising) →
    AgreesAtEnds answer_of notified C s a es →
    AgreesAtEnds answer_of notified C (record s { answered = answered; raised = raised }) a es
agrees_otherwise C a [] s answered raised agrees = tt
agrees_otherwise C a (e ∷ es) s answered raised agrees = (
  answered_alike C a e s answered raised agrees.0,
  otherwise_after C a es s answered raised (λ t x y h. agrees_otherwise C a es t x y h)
      (call_event C e) agrees.1,
)

pub agrees_then : (R : Rules) (C : Table) (a : Answers) (s : ExchangeView) (p q r : List ℕ) →
    s.table ≡ C →
    AgreesAtEnds answer_of notified C s a (header_ends_from R p (q ++ r)) →
    AgreesAtEnds answer_of notified C (reply_forgotten (after_headers R s p q)) a
    (header_ends_from R (p ++ q) r)
agrees_then R C a s p q r table agrees = search (
  arith,
  header_ends_both,
  answers_then,
  agrees_otherwise,
)

pub agrees_behind : (R : Rules) (C : Table) (a : Answers) (q : List ℕ) (s : ExchangeView)
    (p r : List ℕ) → s.table ≡ C →
    AgreesAtEnds answer_of notified C s a (header_ends_from R p (q ++ r)) →
    AgreesAtEnds answer_of notified C (after_octets R s p q) a (header_ends_from R (p ++ q) r)
unfolding after_octets
agrees_behind R C a [] s p r table agrees = search (arith, append-nil)
agrees_behind R C a (x ∷ xs) s p r table agrees =
    let s' = reply_forgotten (after_headers R s p (x ∷ [])) in
    subst (λ (f : List ℕ). AgreesAtEnds answer_of notified C (after_octets R s' (p ++ x ∷ []) xs) a
    (header_ends_from R f r))
    (append_assoc p (x ∷ []) xs)
    (agrees_behind R C a xs s' (p ++ x ∷ []) r (told_table R s p (x ∷ []) ∙ table)
    (agrees_then R C a s p (x ∷ []) (xs ++ r) table agrees))

-- ---- a piece in which no line is due before the last octet

-- no line is due after the first k of these octets, for any k below n, by the operations of this
-- table
abbrev pub NoLineDueBefore : (C : Table) (R : Rules) (s : ExchangeView) (p octets : List ℕ) (n : ℕ)
    →
    Type 0
NoLineDueBefore C R s p octets n = (k : ℕ) → k < n →
    is_due_after is_reply_line_due notified true C s R p (take k octets) ≡ false

-- how many messages of the stream have begun
abbrev begun_count : (p : List ℕ) → ℕ
begun_count p = length (messages (cut p))

both_false : (a b : Bool) → (a || b) ≡ false → (a ≡ false) × (b ≡ false)
both_false true b e = absurd (false≢true (sym e))
both_false false b e = (refl, e)

none_of : {A : Type 0} (o : Option A) → is_some o ≡ false → o ≡ None
none_of None e = refl
none_of (Some x) e = absurd (false≢true (sym e))

-- no Reply waits for its lines exactly if `is_reply_line_due` is false
waits_not : (s : ExchangeView) → is_reply_line_due s ≡ false → HasNoReplyLines s
waits_not s e = search (arith, both_false, none_of)

pub not_waiting : (s : ExchangeView) → HasNoReplyLines s → is_reply_line_due s ≡ false
not_waiting s none = search (arith)

not_less : (m n : ℕ) → nat_lt m n ≡ false → n ≤ m
not_less m n e = search (arith, cases_lt)

pub none_due : (s : ExchangeView) (time : Option ℕ) → HasNoReplyLines s → due_answers_line
    s.answered time
    ++ due_raises_line s.raised ≡ []
none_due s time none = search (arith)

module _ (C : Table) (a : Answers) (most : ℕ) where
  abbrev R : Rules
  R = rules_by C a most

  -- if no Reply waits for its lines, and no message begins in the octets, nothing is due
  nothing_due : (s : ExchangeView) (p octets : List ℕ) → begins_in p octets ≡ false →
      HasNoReplyLines (after_headers R s p octets) → lines_due R s p octets ≡ []
  unfolding lines_due
  nothing_due s p octets none_begin behind = search (arith, none_due)

  -- if nothing is due after the first octets, no Reply waits and no message has begun in them
  undue_front : (s : ExchangeView) (p octets : List ℕ) → s.table ≡ C →
      is_due_after is_reply_line_due notified true C s R p octets ≡ false →
      HasNoReplyLines (after_headers R s p octets) × (begins_in p octets ≡ false)
  undue_front s p octets table undue = search (arith, both_false, waits_not)

  -- if no message begins in the octets, the number of messages stays
  same_begun : (p q : List ℕ) → begins_in p q ≡ false → begun_count (p ++ q) ≡ begun_count p
  same_begun p q none = search (arith, not_less, messages_grow)

  told_then : (s : ExchangeView) (p : List ℕ) (x : ℕ) (rest : List ℕ) →
      after_headers R (after_headers R s p (x ∷ [])) (p ++ x ∷ []) rest ≡ after_headers R s p
      (x ∷ rest)
  told_then s p x rest =
      let first = header_ends_from R p (x ∷ []) in
      let others = header_ends_from R (p ++ x ∷ []) rest in
      ap (λ (D : Table). after_ends notified D (after_headers R s p (x ∷ [])) others)
      (told_table R s p (x ∷ []))
      ∙ (sym (told_both answer_of notified s.table s first others)
      ∙ ap (after_ends notified s.table s) (sym (header_ends_both R p (x ∷ []) rest)))

  -- the octets after the first one are undue as before
  undue_then : (n : ℕ) (s : ExchangeView) (p : List ℕ) (x : ℕ) (rest : List ℕ) → s.table ≡ C →
      NoLineDueBefore C R s p (x ∷ rest) (suc n) → 0 < n →
      NoLineDueBefore C R (after_headers R s p (x ∷ [])) (p ++ x ∷ []) rest n
  undue_then n s p x rest table undue some k few =
      let here = undue_front s p (x ∷ []) table (undue 1 (omega (arith, some))) in
      let all = undue (suc k) (omega (arith, few)) in
      let both = both_false _ (begins_in p (x ∷ take k rest)) all in
      let t = after_headers R s p (x ∷ []) in
      let tells : after_ends notified C t (header_ends_from R (p ++ x ∷ []) (take k rest))
      ≡ after_ends notified C s (header_ends_from R p (x ∷ take k rest)) =
      ap (λ (D : Table). after_ends notified D t
      (header_ends_from R (p ++ x ∷ []) (take k rest))) (sym (told_table R s p (x ∷ []) ∙ table))
      ∙ (told_then s p x (take k rest)
      ∙ ap (λ (D : Table). after_ends notified D s (header_ends_from R p (x ∷ take k rest))) table)
      in
      rw (tells, both.0) (le-ltb (begun_count (p ++ x ∷ []))
      (begun_count ((p ++ x ∷ []) ++ take k rest)) (omega (
        arith,
        not_less (begun_count p) (begun_count (p ++ x ∷ take k rest)) both.1,
        ap begun_count (append_assoc p (x ∷ []) (take k rest)),
        messages_grow p (x ∷ []),
      )))

  -- what is due after a piece is what is due after its last octet
  time_then : (p : List ℕ) (x : ℕ) (rest : List ℕ) → begins_in p (x ∷ []) ≡ false →
      begun_in (p ++ x ∷ []) rest ≡ begun_in p (x ∷ rest)
  time_then p x rest none = search (arith, append_assoc, same_begun)

  due_then : (s : ExchangeView) (p : List ℕ) (x : ℕ) (rest : List ℕ) → begins_in p (x ∷ [])
      ≡ false →
      lines_due R (after_headers R s p (x ∷ [])) (p ++ x ∷ []) rest ≡ lines_due R s p (x ∷ rest)
  unfolding lines_due
  due_then s p x rest none = search (arith, told_arrival, time_then, told_then)

  -- what is written of octets, by the first octet and the others
  stamped_first : (s : ExchangeView) (p : List ℕ) (x : ℕ) (rest : List ℕ) →
      stamped R s p (x ∷ rest)
      ≡ (added R p (x ∷ []) ++ lines_due R s p (x ∷ []))
      ++ stamped R (reply_forgotten (after_headers R s p (x ∷ []))) (p ++ x ∷ []) rest
  unfolding stamped
  stamped_first s p x rest = refl

  exchanged_first : (s : ExchangeView) (p : List ℕ) (x : ℕ) (rest : List ℕ) →
      after_octets R s p (x ∷ rest) ≡ after_octets R
      (reply_forgotten (after_headers R s p (x ∷ []))) (p ++ x ∷ []) rest
  unfolding after_octets
  exchanged_first s p x rest = refl

  -- what is written if there are no octets
  stamped_none : (s : ExchangeView) (p : List ℕ) → HasNoReplyLines s → stamped R s p []
      ≡ added R p []
      ++ lines_due R s p []
  unfolding stamped added header_ends_from
  stamped_none s p none = search (arith, append-nil, drop, drop_all, nothing_due, le-ltb)

  exchanged_none : (s : ExchangeView) (p : List ℕ) → HasNoReplyLines s →
      after_octets R s p [] ≡ reply_forgotten (after_headers R s p [])
  unfolding after_octets header_ends_from
  exchanged_none s p none = sym (taken_stays s none)

  stamped_one : (s : ExchangeView) (p : List ℕ) (x : ℕ) → stamped R s p (x ∷ [])
      ≡ added R p (x ∷ [])
      ++ lines_due R s p (x ∷ [])
  unfolding stamped
  stamped_one s p x = search (arith, append-nil)

  exchanged_one : (s : ExchangeView) (p : List ℕ) (x : ℕ) →
      after_octets R s p (x ∷ []) ≡ reply_forgotten (after_headers R s p (x ∷ []))
  unfolding after_octets
  exchanged_one s p x = refl

  pub piece_text : (piece : List ℕ) (n : ℕ) (s : ExchangeView) (p : List ℕ) → s.table ≡ C →
      HasNoReplyLines s → NoLineDueBefore C R s p piece n → length piece ≤ n →
      stamped R s p piece ≡ added R p piece ++ lines_due R s p piece
  piece_text [] n s p table none undue within = stamped_none s p none
  piece_text (x ∷ []) n s p table none undue within = stamped_one s p x
  piece_text (x ∷ y ∷ zs) zero s p table none undue within = search (arith)
  piece_text (x ∷ y ∷ zs) (suc n) s p table none undue within =
      let here = undue_front s p (x ∷ []) table (undue 1 (omega (arith, within))) in
      let t = after_headers R s p (x ∷ []) in
      let rest = y ∷ zs in
      let behind = piece_text rest n t (p ++ x ∷ []) (told_table R s p (x ∷ []) ∙ table) here.0
      (undue_then n s p x rest table undue (omega (arith, within))) (omega (arith, within)) in
      let first = added R p (x ∷ []) in
      stamped_first s p x rest
      ∙ (ap (λ (l : List ℕ). (first ++ l) ++ stamped R (reply_forgotten t) (p ++ x ∷ []) rest)
      (nothing_due s p (x ∷ []) here.1 here.0)
      ∙ (ap (λ (l : List ℕ). l ++ stamped R (reply_forgotten t) (p ++ x ∷ []) rest)
      (append-nil first)
      ∙ (ap (λ (u : ExchangeView). first ++ stamped R u (p ++ x ∷ []) rest) (taken_stays t here.0)
      ∙ (ap (λ (l : List ℕ). first ++ l) behind
      ∙ (sym (append_assoc first (added R (p ++ x ∷ []) rest) (lines_due R t (p ++ x ∷ []) rest))
      ∙ (ap (λ (l : List ℕ). l ++ lines_due R t (p ++ x ∷ []) rest)
      (sym (added_both_by C a most p (x ∷ []) rest))
      ∙ ap (λ (l : List ℕ). added R p (x ∷ rest) ++ l) (due_then s p x rest here.1)))))))

  pub piece_told : (piece : List ℕ) (n : ℕ) (s : ExchangeView) (p : List ℕ) → s.table ≡ C →
      HasNoReplyLines s → NoLineDueBefore C R s p piece n → length piece ≤ n →
      after_octets R s p piece ≡ reply_forgotten (after_headers R s p piece)
  piece_told [] n s p table none undue within = exchanged_none s p none
  piece_told (x ∷ []) n s p table none undue within = exchanged_one s p x
  piece_told (x ∷ y ∷ zs) zero s p table none undue within = search (arith)
  piece_told (x ∷ y ∷ zs) (suc n) s p table none undue within =
      let here = undue_front s p (x ∷ []) table (undue 1 (omega (arith, within))) in
      let t = after_headers R s p (x ∷ []) in
      let rest = y ∷ zs in
      exchanged_first s p x rest
      ∙ (ap (λ (u : ExchangeView). after_octets R u (p ++ x ∷ []) rest) (taken_stays t here.0)
      ∙ (piece_told rest n t (p ++ x ∷ []) (told_table R s p (x ∷ []) ∙ table) here.0
      (undue_then n s p x rest table undue (omega (arith, within))) (omega (arith, within))
      ∙ ap reply_forgotten (told_then s p x rest)))
