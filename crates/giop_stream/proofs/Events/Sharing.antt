-- The joined octets of a message, which are taken from the events, are its shares of the messages.
use Rattle.std.proofs.Common.{◌≡◌, ℕ, ◌≤◌, Bool, true, false, List, [], ◌∷◌, ◌++◌, length, get_or, take, drop, refl, sym, ◌∙◌, append_assoc, Option, Some, None, arith}
use Rattle.std.specs.Prelude.{◌==◌, if◌then◌else◌}
use Rattle.std.proofs.lemmas.Bool.{lt-ltb, le-ltb, cases_lt, ne_eqb, eq-eqb}
use Rattle.std.proofs.lemmas.List.{append-nil, length_push, get_or_push, take-append-le, drop-append-le, take_all, drop_all}
use Rattle.giop_stream.specs.Kinds.{is_fragmented_1_1, lookup_offset}
use Rattle.giop_stream.specs.Rules.{Rules}
use Rattle.giop_stream.specs.Framing.{CutMessage, with_payload, cut, messages}
use Rattle.giop_stream.specs.Events.{EventKind, Begins, Takes, Faults, Event, Open, OpenState, own_event, event_of_open, id, key, open_message_1_1, opener_of, has_joined_octets, events_at_header, events_at_octet, events_of_octet, events_of, before_by, events_from, events, octets_of_event, joined_octets, last_octet_of, header_events, payload_events, MessageOctet}
use Rattle.giop_stream.specs.Shares.{octets_if_joined_to, joined_share, joined_shares}
use Rattle.giop_stream.proofs.Lists.{by_growth}
use Rattle.giop_stream.proofs.Events.MessageKinds.{named_four}
use Rattle.giop_stream.proofs.Events.EventsOfOctet.{events_of_push, events_of_none}
use Rattle.giop_stream.proofs.StreamLines.LinesOfOctet.{joined_append}
use Rattle.giop_stream.proofs.Events.EventInduction.{IsNeitherBeginNorTake, IsJoined, of_header, of_later}

-- Events that give no octet to message i.
GivesNoOctetTo : ℕ → List Event → Type 0
GivesNoOctetTo i es = joined_octets i es ≡ []

silent_both : (i : ℕ) → IsJoined (GivesNoOctetTo i)
unfolding GivesNoOctetTo joined_octets
silent_both i = search (arith, joined_append)

own_is : (i : ℕ) (now : MessageOctet) (what : EventKind) →
    joined_octets i (own_event now what) ≡ (if now.subject.number == i then octets_of_event what
    else [])
unfolding joined_octets own_event
own_is i now what = search (arith, append-nil)

about_is : (i : ℕ) (now : MessageOctet) (o : Option Open) (what : EventKind) →
    joined_octets i (event_of_open now o what) ≡ octets_if_joined_to i o (octets_of_event what)
unfolding joined_octets event_of_open octets_if_joined_to
about_is i now None what = refl
about_is i now (Some o) what = search (arith, append-nil)

both_empty : (b : Bool) → (let none : List ℕ = [] in (if b then none else none) ≡ none)
both_empty true = refl
both_empty false = refl

silent_own : (i : ℕ) (now : MessageOctet) (what : EventKind) → octets_of_event what ≡ [] →
    GivesNoOctetTo i (own_event now what)
unfolding GivesNoOctetTo
silent_own i now what h = search (arith, own_is, both_empty)

silent_about : (i : ℕ) (now : MessageOctet) (o : Option Open) (what : EventKind) →
    octets_of_event what ≡ [] →
    GivesNoOctetTo i (event_of_open now o what)
unfolding GivesNoOctetTo octets_if_joined_to
silent_about i now None what h = about_is i now None what
silent_about i now (Some o) what h = search (arith, about_is, both_empty)

silent : (what : EventKind) → IsNeitherBeginNorTake what → octets_of_event what ≡ []
unfolding octets_of_event
silent Begins h = absurd h
silent (Takes x) h = absurd h
silent _ h = refl

silent_header : (i : ℕ) (now : MessageOctet) → joined_octets i (header_events now) ≡ []
unfolding GivesNoOctetTo octets_of_event
silent_header i now =
    of_header (GivesNoOctetTo i) (silent_both i) now (silent_own i now Begins refl)
    (λ fault. silent_own i now (Faults fault) refl)

-- What one more octet of a message gives to message i.
events_of_octet_is : (most : ℕ) (i : ℕ) (b : OpenState) (m : CutMessage) (first : List Event)
    → (if length m.payload == 0 then events_at_header m else events_at_octet b m) ≡ first →
    joined_octets i (events_of_octet most b m) ≡ joined_octets i first
unfolding events_of_octet GivesNoOctetTo
events_of_octet_is most i b m first h =
    joined_append i (if length m.payload == 0 then events_at_header m else events_at_octet
    b m) _
    ∙ rw (
      h,
      of_later most (GivesNoOctetTo i) (silent_both i) b (last_octet_of m) (key m)
          (opener_of b m) (record {
            mine = λ what later. silent_own i (last_octet_of m) what (silent what later);
            theirs = λ what later. silent_about i (last_octet_of m) (opener_of b m) what
                (silent what later);
            waiting = λ what later. silent_about i (last_octet_of m) (open_message_1_1 b) what
                (silent what later);
          }),
    ) (append-nil (joined_octets i first))

pub header_joined : (most : ℕ) (i : ℕ) (b : OpenState) (m : CutMessage) → m.payload ≡ [] →
    joined_octets i (events_of_octet most b m) ≡ []
header_joined most i b m h = search (arith, events_of_octet_is, silent_header)

-- what one more octet of m adds to the share of i
unfoldable pub share_of_octet : (i : ℕ) (before : OpenState) (message : CutMessage) (octet : ℕ) →
    List ℕ
share_of_octet i b m x = if has_joined_octets m then octets_if_joined_to i (opener_of b m) (x
    ∷ []) else
    (if m.number == i then x ∷ [] else [])

takes_if : (i : ℕ) (now : MessageOctet) (o : Option Open) (x : ℕ) (b : Bool)
    → joined_octets i (if b then event_of_open now o (Takes x) else own_event now (Takes x))
    ≡ (if b then octets_if_joined_to i o (x ∷ []) else (if now.subject.number == i then x
    ∷ [] else []))
unfolding octets_of_event
takes_if i now o x true = about_is i now o (Takes x)
takes_if i now o x false = own_is i now (Takes x)

pub octet_joined : (most : ℕ) (i : ℕ) (b : OpenState) (m : CutMessage) (xs : List ℕ) (x
    : ℕ)
    → joined_octets i (events_of_octet most b (with_payload m (xs ++ x ∷ [])))
    ≡ share_of_octet i b (with_payload m (xs ++ x ∷ [])) x
unfolding share_of_octet payload_events has_joined_octets
octet_joined most i b m xs x = search (
  arith,
  ne_eqb,
  length_push,
  get_or,
  get_or_push,
  events_of_octet_is,
  takes_if,
)

-- an octet that does not come after a Fragment has its place among the open messages
pub own_joined : (most : ℕ) (b : OpenState) (m : CutMessage) (xs : List ℕ) (x : ℕ) →
    has_joined_octets (with_payload m (xs ++ x ∷ [])) ≡ false
    → joined_octets m.number (events_of_octet most b (with_payload m (xs ++ x ∷ []))) ≡ x ∷ []
unfolding share_of_octet
own_joined most b m xs x h = search (arith, octet_joined, eq-eqb)

cases_append : (b : Bool) (xs ys : List ℕ) → (if b then xs ++ ys else []) ≡ (if b then xs else [])
    ++ (if b then ys else [])
cases_append true xs ys = refl
cases_append false xs ys = refl

continued_append : (i : ℕ) (o : Option Open) (xs ys : List ℕ) →
    octets_if_joined_to i o (xs ++ ys) ≡ octets_if_joined_to i o xs ++ octets_if_joined_to i o ys
unfolding octets_if_joined_to
continued_append i None xs ys = refl
continued_append i (Some o) xs ys = search (arith, cases_append)

continued_none : (i : ℕ) (o : Option Open) → octets_if_joined_to i o [] ≡ []
unfolding octets_if_joined_to
continued_none i None = refl
continued_none i (Some o) = search (arith, both_empty)

same_id : (m : CutMessage) (xs : List ℕ) (x : ℕ) → 4 ≤ length xs →
    id (with_payload m (xs ++ x ∷ [])) ≡ id (with_payload m xs)
unfolding id
same_id m xs x h = search (arith, take-append-le)

same_key : (m : CutMessage) (xs : List ℕ) (x : ℕ) → lookup_offset m.header ≤ length xs →
    (b : Bool) →
    is_fragmented_1_1 m.header ≡ b → key (with_payload m (xs ++ x ∷ [])) ≡ key (with_payload m xs)
unfolding key
same_key m xs x h true e = rw e refl
same_key m xs x h false e = search (arith, same_id, named_four)

same_opener : (b : OpenState) (m : CutMessage) (xs : List ℕ) (x : ℕ) →
    lookup_offset m.header ≤ length xs
    → opener_of b (with_payload m (xs ++ x ∷ []))
    ≡ opener_of b (with_payload m xs)
unfolding opener_of
same_opener b m xs x h = search (arith, same_key)

share_grows : (i : ℕ) (b : OpenState) (m : CutMessage) (xs : List ℕ) (x : ℕ)
    → joined_share i b (with_payload m (xs ++ x ∷ [])) ≡ joined_share i b (with_payload m xs)
    ++ share_of_octet i b
    (with_payload m (xs ++ x ∷ [])) x
unfolding joined_share share_of_octet has_joined_octets
share_grows i b m xs x = search (
  arith,
  cases_append,
  cases_lt,
  take_all,
  length_push,
  drop_all,
  continued_none,
  le-ltb,
  append-nil,
  take-append-le,
  drop-append-le,
  same_opener,
  continued_append,
  drop,
  lt-ltb,
  append_assoc,
  take,
)

share_none : (i : ℕ) (b : OpenState) (m : CutMessage) →
    joined_share i b (with_payload m []) ≡ []
unfolding joined_share
share_none i b m = search (arith, both_empty, continued_none)

one_joined : (most : ℕ) (i : ℕ) (b : OpenState) (m : CutMessage) →
    joined_octets i (events_of most b m) ≡ joined_share i b m
one_joined most i b m = by_growth
    (λ xs. joined_octets i (events_of most b (with_payload m xs))
    ≡ joined_share i b (with_payload m xs))
    (rw (events_of_none most b m, share_none i b m)
    (events_of_octet_is most i b (with_payload m []) (events_at_header (with_payload m []))
    refl ∙ silent_header i (last_octet_of (with_payload m []))))
    (λ xs x ih. rw (
      events_of_push most b m xs x,
      joined_append i (events_of most b (with_payload m xs))
          (events_of_octet most b (with_payload m (xs ++ x ∷ []))),
      ih,
      octet_joined most i b m xs x,
    ) (sym (share_grows i b m xs x)))
    m.payload

from_joined : (R : Rules) (i : ℕ) (past : List Event) (ms : List CutMessage) →
    joined_octets i (events_from R past ms) ≡ joined_shares R i past ms
unfolding events_from joined_shares GivesNoOctetTo
from_joined R i past [] = (silent_both i).none
from_joined R i past (m ∷ ms) =
    let es = events_of R.most (before_by R past) m in
    joined_append i es (events_from R (past ++ es) ms)
    ∙ rw (one_joined R.most i (before_by R past) m, from_joined R i (past ++ es) ms) refl

pub joined_is : (R : Rules) (p : List ℕ) (i : ℕ) →
    joined_octets i (events R p) ≡ joined_shares R i [] (messages (cut p))
unfolding events
joined_is R p i = search (arith, from_joined)
