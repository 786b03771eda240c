-- Worked cases of a flow, computed.
use Rattle.std.proofs.Common.{◌≡◌, ℕ, Bool, false, cond, nat_eq, List, [], ◌∷◌, ◌++◌, Option, Some, None, true, refl}
use Rattle.tcp_flow.specs.declared.flow.CloseCause.TheVariants.{Fin, Gap, Fault}
use Rattle.tcp_waiting.specs.declared.arrival.Arrival as origin
use Rattle.tcp_waiting.specs.Payload.{oldest_with, oldest_index, holds_beyond_window, holds_as_long, place_of}
use Rattle.tcp_flow.specs.Flow.{Event, Reader, Begins, Delivers, Closes, OfCapture, ComesFrom, Passes, Arrival, Octets, End, Hears, index_of_header, chain_from, stream_begin_in, without_old_octets, with_event, closed_at_fault, delivered, cut_up, tail_continued_by, begun_in_payload, all_delivered, joined_to_tail, looked_through, with_arrival_told, taken, oldest_held, at, is_due, drained_at_most, drained_due, fin_is_reached, closed, without_stale_fin, closed_at_fin, gone_on_with_held, passable_octets, octets_passed_over, closed_for_gap, with_gap, within_window, with_held, payload_came, fin_came, is_lost, heard, step, after, first_payload}

-- the reader is at a fault at its 7th octet, if the last octets that it was given begin with 255
unfoldable fault_of_event : (event : Event) → Option ℕ
fault_of_event (Delivers id (x ∷ xs)) = cond (nat_eq x 255) (Some 7) None
fault_of_event h = None

unfoldable fault_of_last : (events : List Event) → Option ℕ
fault_of_last [] = None
fault_of_last (h ∷ []) = fault_of_event h
fault_of_last (h ∷ k ∷ hs) = fault_of_last (k ∷ hs)

unfoldable reader : Reader
reader = record { faulted = fault_of_last; lacking = λ hs id. None }

unfoldable header : List ℕ
header = 71 ∷ 73 ∷ 79 ∷ 80 ∷ 1 ∷ 0 ∷ []

-- a message without octets after its header
unfoldable message : List ℕ
message = 71 ∷ 73 ∷ 79 ∷ 80 ∷ 1 ∷ 0 ∷ 0 ∷ 5 ∷ 0 ∷ 0 ∷ 0 ∷ 0 ∷ []

-- a packet with a number, and a payload in the packet of its own number
unfoldable packet : (n : ℕ) → origin.Arrival
packet n = record { time = None; packet = n }

unfoldable octets : (n : ℕ) (xs : List ℕ) → Arrival
octets n xs = Octets n xs (packet n)

-- a packet without a time acknowledges octets
unfoldable acknowledged : (n : ℕ) → Arrival
acknowledged n = Hears (record { acknowledged = Some n; answers = false; arrival = packet n })

-- at a time in nanoseconds, a payload comes before which octets are missing, and then a packet that
-- acknowledges a number or none, with octets or without
unfoldable held_at : (time : ℕ) → Arrival
held_at time = Octets 1010 header (record { time = Some time; packet = 1 })

unfoldable heard_at : (number : Option ℕ) (answers : Bool) (time : ℕ) → Arrival
heard_at number answers time = Hears (record {
  acknowledged = number;
  answers = answers;
  arrival = record { time = Some time; packet = 2 };
})

unfoldable events : (cs : List Arrival) (n : ℕ) → List Event
events cs n = (after reader (first_payload reader 7 n header (packet n) [] []) cs).events

-- the message that a stream is in lacks four octets
unfoldable reader_lacking_four : Reader
reader_lacking_four = record { faulted = fault_of_last; lacking = λ hs id. Some 4 }

unfoldable events_known : (cs : List Arrival) → List Event
events_known cs = (after reader_lacking_four
    (first_payload reader_lacking_four 7 1000 header (packet 1) [] []) cs).events

-- what happens if the first payload has these octets, at 1000, and then this comes
unfoldable events_from : (xs : List ℕ) (cs : List Arrival) → List Event
events_from xs cs = (after reader (first_payload reader 7 1000 xs (packet 1000) [] []) cs).events

-- a stream begins at a number, and `passed` octets before it are in no stream
unfoldable begins_at : (n passed : ℕ) (found : Bool) → Event
begins_at n passed found = Begins 7 (record { number = n; passed = passed; is_found = found })

unfoldable first_begins : Event
first_begins = begins_at 1000 0 false

-- without what is told of packets and of octets that were looked through in vain
unfoldable in_flows : (events : List Event) → List Event
in_flows [] = []
in_flows (OfCapture e ∷ es) = in_flows es
in_flows (e ∷ es) = e ∷ in_flows es

record Rows : Type 0 where
  begins : in_flows (events ([]) 1000) ≡ first_begins ∷ Delivers 7 header ∷ []
  retransmission-falls-away : in_flows (events (octets 1000 header ∷ []) 1000)
      ≡ first_begins ∷ Delivers 7 header ∷ []
  overlap : in_flows (events (octets 1004 (1 ∷ 0 ∷ 7 ∷ 8 ∷ []) ∷ []) 1000)
      ≡ first_begins ∷ Delivers 7 header ∷ Delivers 7 (7 ∷ 8 ∷ []) ∷ []
  reordered : in_flows (events (octets 1008 (9 ∷ 10 ∷ []) ∷ octets 1006 (7 ∷ 8 ∷ []) ∷ []) 1000)
      ≡ first_begins ∷ Delivers 7 header ∷ Delivers 7 (7 ∷ 8 ∷ []) ∷ Delivers 7 (9 ∷ 10 ∷ []) ∷ []
  held-keep-their-packets :
      events (octets 1008 (9 ∷ 10 ∷ []) ∷ octets 1006 (7 ∷ 8 ∷ []) ∷ []) 1000
      ≡ OfCapture (ComesFrom (packet 1000)) ∷ first_begins ∷ Delivers 7 header
      ∷ OfCapture (ComesFrom (packet 1006)) ∷ Delivers 7 (7 ∷ 8 ∷ [])
      ∷ OfCapture (ComesFrom (packet 1008)) ∷ Delivers 7 (9 ∷ 10 ∷ []) ∷ []
  by-place-then-by-coming : in_flows (events (octets 1009 (1 ∷ 1 ∷ []) ∷ octets 1008
      (2 ∷ 2 ∷ []) ∷ octets
      1008 (3 ∷ 3 ∷ 3 ∷ 3 ∷ []) ∷ octets 1006 (7 ∷ 8 ∷ []) ∷ []) 1000)
      ≡ first_begins ∷ Delivers 7 header ∷ Delivers 7 (7 ∷ 8 ∷ []) ∷ Delivers 7 (2 ∷ 2 ∷ []) ∷
      Delivers 7 (3 ∷ 3 ∷ []) ∷ []
  wraps : in_flows (events (octets 5 (9 ∷ []) ∷ octets 3 (7 ∷ 8 ∷ []) ∷ []) 4294967293)
      ≡ begins_at 4294967293 0 false ∷ Delivers 7 header ∷ Delivers 7 (7 ∷ 8 ∷ [])
      ∷ Delivers 7 (9 ∷ []) ∷ []
  window-edge-is-held : in_flows (events (octets 1049580 (1 ∷ 2 ∷ []) ∷ []) 1000)
      ≡ first_begins ∷ Delivers 7 header ∷ []
  one-more-is-a-gap : in_flows (events (octets 1049581 (1 ∷ 2 ∷ []) ∷ []) 1000)
      ≡ first_begins ∷ Delivers 7 header ∷ Closes 7 Gap ∷ []
  gap-by-acknowledgement-the-held-begins : in_flows (events (octets 1010 header ∷ acknowledged
      1020 ∷ [])
      1000) ≡ first_begins ∷ Delivers 7 header ∷ Closes 7 Gap ∷ begins_at 1010 4 true
      ∷ Delivers 7 header ∷ []
  behind-the-front-no-message-is-whole : in_flows (events (octets 1010 (5 ∷ header)
      ∷ acknowledged 1020 ∷ []) 1000) ≡ first_begins ∷ Delivers 7 header ∷ Closes 7 Gap ∷ []
  behind-the-front-a-message-is-whole :
      in_flows (events (octets 1010 (5 ∷ message) ∷ acknowledged 1030 ∷ []) 1000)
      ≡ first_begins ∷ Delivers 7 header ∷ Closes 7 Gap ∷ begins_at 1011 5 true ∷ Delivers 7 message
      ∷ []
  behind-the-front-an-octet-too-many : in_flows (events (octets 1010 ((5 ∷ message) ++ 5 ∷ [])
      ∷ acknowledged 1030 ∷ []) 1000) ≡ first_begins ∷ Delivers 7 header ∷ Closes 7 Gap ∷ []
  the-next-begins-where-the-message-ends : in_flows (events_known (octets 1010 (1 ∷ 2 ∷ [])
      ∷ acknowledged 1020 ∷ [])) ≡ first_begins ∷ Delivers 7 header ∷ Closes 7 Gap
      ∷ begins_at 1010 4 false ∷ Delivers 7 (1 ∷ 2 ∷ []) ∷ []
  what-the-message-lacks-falls-away : in_flows (events_known (octets 1008 (8 ∷ 9 ∷ [])
      ∷ acknowledged 1020 ∷ octets 1010 (1 ∷ []) ∷ [])) ≡ first_begins ∷ Delivers 7 header
      ∷ Closes 7 Gap ∷ begins_at 1010 4 false ∷ Delivers 7 (1 ∷ []) ∷ []
  a-gap-beyond-the-message : in_flows (events_known (octets 1011 header ∷ acknowledged 1020 ∷ []))
      ≡ first_begins ∷ Delivers 7 header ∷ Closes 7 Gap ∷ begins_at 1011 5 true
      ∷ Delivers 7 header ∷ []
  the-fin-while-the-flow-waits : in_flows (events_known (octets 1008 (8 ∷ 9 ∷ [])
      ∷ acknowledged 1020 ∷ End 1010 ∷ octets 1010 header ∷ [])) ≡ first_begins
      ∷ Delivers 7 header ∷ Closes 7 Gap ∷ begins_at 1010 4 true ∷ Delivers 7 header ∷ []
  found-stays : in_flows (events_known (octets 1011 header ∷ octets 1021 (1 ∷ [])
      ∷ acknowledged 1030 ∷ acknowledged 1030 ∷ []))
      ≡ first_begins ∷ Delivers 7 header ∷ Closes 7 Gap ∷ begins_at 1011 5 true
      ∷ Delivers 7 header ∷ Closes 7 Gap ∷ begins_at 1021 4 true ∷ Delivers 7 (1 ∷ []) ∷ []
  acknowledgement-of-next : in_flows (events (octets 1010 (5 ∷ []) ∷ acknowledged 1006 ∷ []) 1000)
      ≡ first_begins ∷ Delivers 7 header ∷ []
  half-a-second-is-too-soon : in_flows (events (held_at 70 ∷ heard_at (Some 1020) false 500000070
      ∷ []) 1000) ≡ first_begins ∷ Delivers 7 header ∷ []
  a-second-after-it : in_flows (events (held_at 70 ∷ heard_at (Some 1020) false 1000000070 ∷ [])
      1000)
      ≡ first_begins ∷ Delivers 7 header ∷ Closes 7 Gap ∷ begins_at 1010 4 true
      ∷ Delivers 7 header ∷ []
  at-once-with-octets : in_flows (events (held_at 70 ∷ heard_at (Some 1020) true 60 ∷ []) 1000)
      ≡ first_begins ∷ Delivers 7 header ∷ Closes 7 Gap ∷ begins_at 1010 4 true
      ∷ Delivers 7 header ∷ []
  octets-alone-acknowledge-nothing : in_flows (events (held_at 70 ∷ heard_at None true 29999999999
      ∷ []) 1000) ≡ first_begins ∷ Delivers 7 header ∷ []
  thirty-seconds-after-it : in_flows (events (held_at 70 ∷ heard_at None false 30000000070 ∷ [])
      1000)
      ≡ first_begins ∷ Delivers 7 header ∷ Closes 7 Gap ∷ begins_at 1010 4 true
      ∷ Delivers 7 header ∷ []
  fault-and-the-next-begins : in_flows (events (octets 1006 (255 ∷ []) ∷ octets 1007 header ∷
      []) 1000)
      ≡ first_begins ∷ Delivers 7 header ∷ Delivers 7 (255 ∷ []) ∷ Closes 7 Fault
      ∷ begins_at 1007 0 true ∷ Delivers 7 header ∷ []
  behind-a-fault-the-rest-falls-away : in_flows (events (octets 1006 (255 ∷ 1 ∷ 2 ∷ [])
      ∷ octets 1009 header ∷ []) 1000)
      ≡ first_begins ∷ Delivers 7 header ∷ Delivers 7 (255 ∷ 1 ∷ 2 ∷ []) ∷ Closes 7 Fault
      ∷ begins_at 1009 2 true ∷ Delivers 7 header ∷ []
  in-a-first-payload-is-found : in_flows (first_payload reader 7 1000 (5 ∷ message)
      (packet 1) [] []).events ≡ begins_at 1001 1 true ∷ Delivers 7 message ∷ []
  in-vain-is-told-once : events (End 1006 ∷ octets 1006 (9 ∷ []) ∷ []) 1000
      ≡ OfCapture (ComesFrom (packet 1000)) ∷ first_begins ∷ Delivers 7 header ∷ Closes 7 Fin
      ∷ OfCapture (ComesFrom (packet 1006)) ∷ OfCapture (Passes (9 ∷ [])) ∷ []
  five-octets-then-the-others : in_flows (events_from (71 ∷ 73 ∷ 79 ∷ 80 ∷ 1 ∷ [])
      (octets 1005 (0 ∷ 0 ∷ []) ∷ []))
      ≡ first_begins ∷ Delivers 7 (71 ∷ 73 ∷ 79 ∷ 80 ∷ 1 ∷ []) ∷ Delivers 7 (0 ∷ 0 ∷ []) ∷ []
  octet-by-octet : in_flows (events_from (71 ∷ []) (octets 1001 (73 ∷ []) ∷ octets 1002 (79 ∷ [])
      ∷ octets 1003 (80 ∷ []) ∷ octets 1004 (1 ∷ []) ∷ octets 1005 (2 ∷ []) ∷ []))
      ≡ first_begins ∷ Delivers 7 (71 ∷ []) ∷ Delivers 7 (73 ∷ []) ∷ Delivers 7 (79 ∷ [])
      ∷ Delivers 7 (80 ∷ []) ∷ Delivers 7 (1 ∷ []) ∷ Delivers 7 (2 ∷ []) ∷ []
  both-are-told-in-vain : events_from (71 ∷ []) (octets 1001 (73 ∷ []) ∷ [])
      ≡ OfCapture (ComesFrom (packet 1000)) ∷ OfCapture (Passes (71 ∷ []))
      ∷ OfCapture (ComesFrom (packet 1001)) ∷ OfCapture (Passes (71 ∷ 73 ∷ [])) ∷ []
  a-tail-ends-at-its-number : in_flows (events_from (71 ∷ 73 ∷ 79 ∷ 80 ∷ 1 ∷ [])
      (octets 1006 (0 ∷ 0 ∷ []) ∷ [])) ≡ []
  what-goes-on-no-tail-stands-alone : in_flows (events_from (71 ∷ []) (octets 1001 header ∷ []))
      ≡ begins_at 1001 1 true ∷ Delivers 7 header ∷ []
  a-tail-outlives-others : in_flows (events_from (71 ∷ 73 ∷ []) (octets 1050 (9 ∷ [])
      ∷ octets 1002 (79 ∷ 80 ∷ 1 ∷ 0 ∷ []) ∷ []))
      ≡ first_begins ∷ Delivers 7 (71 ∷ 73 ∷ []) ∷ Delivers 7 (79 ∷ 80 ∷ 1 ∷ 0 ∷ []) ∷ []
  fin-to-come : in_flows (events (End 1008 ∷ octets 1006 (7 ∷ 8 ∷ []) ∷ []) 1000)
      ≡ first_begins ∷ Delivers 7 header ∷ Delivers 7 (7 ∷ 8 ∷ []) ∷ Closes 7 Fin ∷ []
  fin-before-next-is-nothing : in_flows (events (End 1005 ∷ []) 1000)
      ≡ first_begins ∷ Delivers 7 header ∷ []
  fin-at-once : in_flows (events (End 1006 ∷ octets 1006 (9 ∷ []) ∷ octets 1007 header ∷ []) 1000)
      ≡ first_begins ∷ Delivers 7 header ∷ Closes 7 Fin ∷ begins_at 1007 1 true
      ∷ Delivers 7 header ∷ []

rows : Rows
unfolding index_of_header chain_from stream_begin_in without_old_octets with_event closed_at_fault
    delivered begun_in_payload cut_up
    tail_continued_by all_delivered joined_to_tail looked_through with_arrival_told taken
    oldest_with oldest_index oldest_held at
    is_due drained_at_most drained_due fin_is_reached closed without_stale_fin closed_at_fin
    gone_on_with_held passable_octets
    octets_passed_over closed_for_gap with_gap holds_beyond_window within_window holds_as_long
    with_held
    place_of payload_came fin_came is_lost heard step after first_payload events events_from
    in_flows reader packet reader_lacking_four events_known octets acknowledged held_at heard_at
    header
    message begins_at first_begins fault_of_last fault_of_event
rows = record {
  begins = refl;
  retransmission-falls-away = refl;
  overlap = refl;
  reordered = refl;
  held-keep-their-packets = refl;
  by-place-then-by-coming = refl;
  wraps = refl;
  window-edge-is-held = refl;
  one-more-is-a-gap = refl;
  gap-by-acknowledgement-the-held-begins = refl;
  behind-the-front-no-message-is-whole = refl;
  behind-the-front-a-message-is-whole = refl;
  behind-the-front-an-octet-too-many = refl;
  the-next-begins-where-the-message-ends = refl;
  what-the-message-lacks-falls-away = refl;
  a-gap-beyond-the-message = refl;
  the-fin-while-the-flow-waits = refl;
  found-stays = refl;
  acknowledgement-of-next = refl;
  half-a-second-is-too-soon = refl;
  a-second-after-it = refl;
  at-once-with-octets = refl;
  octets-alone-acknowledge-nothing = refl;
  thirty-seconds-after-it = refl;
  fault-and-the-next-begins = refl;
  behind-a-fault-the-rest-falls-away = refl;
  in-a-first-payload-is-found = refl;
  in-vain-is-told-once = refl;
  five-octets-then-the-others = refl;
  octet-by-octet = refl;
  both-are-told-in-vain = refl;
  a-tail-ends-at-its-number = refl;
  what-goes-on-no-tail-stands-alone = refl;
  a-tail-outlives-others = refl;
  fin-to-come = refl;
  fin-before-next-is-nothing = refl;
  fin-at-once = refl;
}
