-- Induction over the events of an octet after those of its first part: if something holds of no
-- events, of each single event, and of two lists joined, it holds of all these events.
use Rattle.std.proofs.Common.{arith, ℕ, Bool, true, false, List, [], ◌++◌, Option, Some, None}
use Rattle.std.specs.Prelude.{◌==◌, if◌then◌else◌}
use Rattle.giop_stream.specs.declared.fault.FramingFault.{FramingFault}
use Rattle.giop_message.specs.Headers.{size}
use Rattle.giop_stream.specs.Kinds.{is_fragmented_1_1, lookup_offset}
use Rattle.giop_stream.specs.Events.{EventKind, Begins, Takes, Opens, Continues, Seams, Faults, Event, Open, OpenState, MessageOctet, own_event, event_of_open, header_events, opening_fault, open_events_unless, opening_events, order_fault_events, seam_events, no_open_fault, fragment_events, is_same_id, open_message_1_1, cancel_event, cancel_request_events, naming_events, message_end_events}

-- the events that may come after those of an octet's first part
abbrev pub IsNeitherBeginNorTake : (event_kind : EventKind) → Type 0
IsNeitherBeginNorTake Begins = ⊥
IsNeitherBeginNorTake (Takes x) = ⊥
IsNeitherBeginNorTake _ = Unit {0}

-- Q holds of no events, and of two lists that are joined
pub record IsJoined (Q : List Event → Type 0) : Type 0 where
  pub none : Q []
  pub both : (es more : List Event) → Q es → Q more → Q (es ++ more)

pub either : (Q : List Event → Type 0) (b : Bool) (es more : List Event) → Q es → Q more →
    Q (if b then es else more)
either Q true es more h k = h
either Q false es more h k = k

pub of_header : (Q : List Event → Type 0) → IsJoined Q → (now : MessageOctet) →
    Q (own_event now Begins)
    → ((fault : FramingFault) → Q (own_event now (Faults fault))) → Q (header_events now)
unfolding header_events
of_header Q j now begins h = search (arith)

-- Q holds of each later event of the message itself, of the open message under its key, and of the
-- one that Fragments of 1.1 continue.
pub record HoldsOf (Q : List Event → Type 0) (before : OpenState) (now : MessageOctet)
    (other : Option Open) :
    Type 0 where
  pub mine : (what : EventKind) → IsNeitherBeginNorTake what → Q (own_event now what)
  pub theirs : (what : EventKind) → IsNeitherBeginNorTake what → Q (event_of_open now other what)
  pub waiting : (what : EventKind) → IsNeitherBeginNorTake what →
      Q (event_of_open now (open_message_1_1 before) what)

module _ (most : ℕ) (Q : List Event → Type 0) (j : IsJoined Q) (b : OpenState)
    (now : MessageOctet) where
  of_opening : (key : Option ℕ) (other : Option Open) → HoldsOf Q b now other →
      (fault : Option FramingFault) → Q (open_events_unless now key fault)
  of_opening key other h None = h.mine (Opens key) tt
  of_opening key other h (Some fault) = h.mine (Faults fault) tt

  of_opens : (key : Option ℕ) (other : Option Open) → HoldsOf Q b now other →
      Q (opening_events most b now key other)
  of_opens key other h = of_opening key other h (opening_fault most b key other)

  of_continues : (key : Option ℕ) (other : Option Open) → HoldsOf Q b now other →
      Q (fragment_events b now key other)
  of_continues key None h = h.mine (Faults (no_open_fault b key)) tt
  of_continues key (Some o) h =
      j.both (own_event now (Continues o.opener.number)) (seam_events now o
      ++ order_fault_events now o)
      (h.mine (Continues o.opener.number) tt)
      (j.both (seam_events now o) (order_fault_events now o)
      (either Q (is_fragmented_1_1 now.subject.header) _ _ (h.theirs Seams tt) j.none)
      (search (arith, either)))

  of_cancel : (o : Option Open)
      → ((what : EventKind) → IsNeitherBeginNorTake what → Q (event_of_open now o what)) →
      Q (cancel_event now o)
  of_cancel None h = j.none
  of_cancel (Some o) h = search (arith, either)

  of_pending : (test : Bool) → ((what : EventKind) → IsNeitherBeginNorTake what →
      Q (event_of_open now (open_message_1_1 b) what)) →
      Q (cancel_event now (if test then open_message_1_1 b else None))
  of_pending true h = of_cancel (open_message_1_1 b) h
  of_pending false h = j.none

  of_cancels : (key : Option ℕ) (other : Option Open) → HoldsOf Q b now other →
      Q (cancel_request_events b now key other)
  of_cancels key None h = of_pending (is_same_id key b.asked) h.waiting
  of_cancels key (Some o) h = of_cancel (Some o) h.theirs

  pub of_name : (key : Option ℕ) (other : Option Open) → HoldsOf Q b now other →
      Q (naming_events most b now key other)
  unfolding naming_events
  of_name key other h = search (arith, either, of_continues, of_opens, of_cancels)

  pub of_end : (other : Option Open) → HoldsOf Q b now other → Q (message_end_events now other)
  unfolding message_end_events
  of_end other h = search (arith, either)

  pub of_later : (key : Option ℕ) (other : Option Open) → HoldsOf Q b now other
      → Q ((if now.payload_count == lookup_offset now.subject.header
      then naming_events most b now key other else [])
      ++ (if now.payload_count == size now.subject.header then message_end_events now other else
      []))
  of_later key other h = search (arith, either, of_name, of_end)
