-- The events of an octet, computed from the fields of an engine, are the same as those computed
-- from the message.
use Rattle.std.proofs.Common.{◌≡◌, ℕ, ◌<◌, Bool, true, false, List, [], ◌∷◌, refl, Option, Some, None, arith}
use Rattle.std.specs.Prelude.{◌==◌, if◌then◌else◌, is_none}
use Rattle.std.specs.List.{find, AllByRecursion as Each}
use Rattle.std.proofs.lemmas.Bool.{cases_lt, cases_eq, le-ltb, ne_eqb, eq-eqb, eqb-true, and_right}
use Rattle.giop_message.specs.Headers.{size}
use Rattle.giop_stream.specs.Kinds.{is_any_fragment, lookup_offset}
use Rattle.giop_stream.specs.PayloadOwner.{acts_on_open}
use Rattle.giop_stream.specs.Events.{Open, OpenState, NumbersRise, MessageOctet, is_same_id, open_message_1_1, open_under, payload_events, naming_events, message_end_events, events_with_key}
use Rattle.giop_stream.specs.EngineState.{opener_key}
use Rattle.giop_stream.specs.EngineStep.{open_numbered}
use Rattle.giop_stream.proofs.Events.MessageKinds.{short_fragment, unplaced}

-- ---- The key and its open message matter only at the octet with which a message has its place
-- among the open ones, and in a Fragment after it.

module _ (most : ℕ) (b : OpenState) (now : MessageOctet) (i j : Option ℕ) (o q : Option Open) where
  at_name : now.payload_count ≡ lookup_offset now.subject.header → (c : Bool) →
      acts_on_open now.subject.header ≡ c
      → (c ≡ true → (i ≡ j) × (o ≡ q)) → events_with_key most b now i o
      ≡ events_with_key most b now j q
  unfolding events_with_key payload_events naming_events message_end_events
  at_name named true e h = search (arith)
  at_name named false e h = search (arith, unplaced)

  short_end : now.payload_count < lookup_offset now.subject.header →
      is_any_fragment now.subject.header ≡ true → (c : Bool) →
      (now.payload_count == size now.subject.header) ≡ c
      → (if c then message_end_events now o else []) ≡ (if c then message_end_events now q else [])
  unfolding message_end_events
  short_end few f true e = search (arith, eqb-true, short_fragment)
  short_end few f false e = refl

  few_octets : now.payload_count < lookup_offset now.subject.header →
      payload_events now o ≡ payload_events now q
  unfolding payload_events
  few_octets few = search (arith, le-ltb, and_right)

  elsewhere : (now.payload_count ≡ lookup_offset now.subject.header → ⊥) → (c : Bool) →
      is_any_fragment now.subject.header ≡ c
      → (c ≡ true → lookup_offset now.subject.header < now.payload_count → o ≡ q) →
      events_with_key most b now i o ≡ events_with_key most b now j q
  unfolding events_with_key payload_events message_end_events
  elsewhere other false f h = search (arith, ne_eqb)
  elsewhere other true f h = search (arith, cases_lt, ne_eqb, few_octets, short_end)

  pub events_with_key_agree : (now.payload_count ≡ lookup_offset now.subject.header →
      acts_on_open now.subject.header ≡ true → (i ≡ j) × (o ≡ q))
      → (lookup_offset now.subject.header < now.payload_count →
      is_any_fragment now.subject.header ≡ true
      → o ≡ q) →
      events_with_key most b now i o ≡ events_with_key most b now j q
  events_with_key_agree h k = search (arith, cases_eq, at_name, elsewhere)

-- ---- An open message is found by its number, since the numbers rise.

pub found_in : (Q : Open → Type 0) (test : Open → Bool) (still_open : List Open) (o : Open) →
    Each Q still_open → find test still_open ≡ Some o → Q o
found_in Q test [] o h e = absurd cc
found_in Q test (a ∷ still_open) o h e = go (test a) e (found_in Q test still_open o h.1)
  where
    go : (b : Bool) → (if b then Some a else find test still_open) ≡ Some o →
        (find test still_open ≡ Some o → Q o) → Q o
    go true e ih = search (arith)
    go false e ih = ih e

pub found_again : (test : Open → Bool) (still_open : List Open) → NumbersRise still_open →
    open_numbered still_open (opener_key (find test still_open)) ≡ find test still_open
found_again test [] h = refl
found_again test (a ∷ still_open) h = search (
  arith,
  found_in,
  ne_eqb,
  eq-eqb,
  found_again test
      still_open h.1,
)

pub found_under : (Q : Open → Type 0) (b : OpenState) (key : Option ℕ) (o : Open) →
    Each Q b.still_open → open_under b key ≡ Some o → Q o
unfolding open_message_1_1
found_under Q b None o h e = go b.mixed e
  where
    go : (c : Bool) → (if c then None else find (λ o. is_none o.key) b.still_open) ≡ Some o → Q o
    go true e = absurd cc
    go false e = found_in Q (λ o. is_none o.key) b.still_open o h e
found_under Q b (Some id) o h e = found_in Q (λ o. is_same_id o.key (Some id)) b.still_open o h e

pub found_under_again : (b : OpenState) (key : Option ℕ) → NumbersRise b.still_open →
    open_numbered b.still_open (opener_key (open_under b key)) ≡ open_under b key
unfolding open_message_1_1
found_under_again b None h = go b.mixed
  where
    go : (c : Bool) → (let w = if c then None else find (λ o. is_none o.key) b.still_open in
        open_numbered b.still_open (opener_key w) ≡ w)
    go true = refl
    go false = found_again (λ o. is_none o.key) b.still_open h
found_under_again b (Some id) h = found_again (λ o. is_same_id o.key (Some id)) b.still_open h
