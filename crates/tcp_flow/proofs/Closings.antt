-- A stream of a flow that has closed stays closed, whatever comes.
use Rattle.std.proofs.Common.{◌≡◌, ℕ, ◌+◌, ◌<◌, List, [], ◌∷◌, ◌++◌, arith, append-nil}
use Rattle.std.proofs.lemmas.List.{append_assoc}
use Rattle.tcp_flow.specs.declared.flow.CloseCause.{CloseCause}
use Rattle.tcp_flow.specs.declared.flow.CloseCause.TheVariants.{Gap}
use Rattle.tcp_waiting.specs.Payload.{Payload}
use Rattle.tcp_flow.specs.Flow.{Flow, Event, Begins, Delivers, Closes, OfCapture, Reader, with_event, start_at, taken, closed, with_held, payload_came}
use Rattle.tcp_flow.specs.Order.{octets_in, octets_of, closes_in, closes_of}
use Rattle.tcp_flow.proofs.Events.{EventsKeep, taken_kept, closed_kept, events_keep}
use Rattle.tcp_flow.proofs.Preserving.{came_keeps}

-- ---- One more event.

pub octets_more : (id : ℕ) (es : List Event) (e : Event) →
    octets_of id (es ++ e ∷ []) ≡ octets_of id es ++ octets_in id e
unfolding octets_of
octets_more id [] e = append-nil (octets_in id e)
octets_more id (d ∷ es) e = search (arith, append_assoc, octets_more id es e)

pub closes_more : (id : ℕ) (es : List Event) (e : Event) →
    closes_of id (es ++ e ∷ []) ≡ closes_of id es + closes_in id e
unfolding closes_of
closes_more id [] e = omega arith
closes_more id (d ∷ es) e = omega (arith, closes_more id es e)

more_event : (n id : ℕ) (es : List Event) (e : Event) → n < closes_of id es →
    n < closes_of id (es ++ e ∷ [])
more_event n id es e l = search (arith, closes_more)

-- ---- Streams that have closed stay so.

more_kept : (n id : ℕ) → EventsKeep (λ (g : Flow). n < closes_of id g.events)
unfolding with_event
more_kept n id = record {
  tells = λ g e l. more_event n id g.events (OfCapture e) l;
  begins = λ g k l. more_event n id g.events (Begins g.id (start_at g k)) l;
  delivers = λ g p l. more_event n id g.events (Delivers g.id p.octets) l;
  closes = λ g k cause l. more_event n id g.events (Closes g.id cause) l;
  idles = λ g l. l;
  tails = λ g t l. l;
}

pub taken_more : (F : Reader) (n id : ℕ) (g : Flow) (p : Payload) → n < closes_of id g.events →
    n < closes_of id (taken F g p).events
taken_more F n id g p l =
    taken_kept (λ (h : Flow). n < closes_of id h.events) (more_kept n id) F g p l

pub closed_more : (n id : ℕ) (g : Flow) (cause : CloseCause) → n < closes_of id g.events →
    n < closes_of id (closed g cause).events
closed_more n id g cause l =
    closed_kept (λ (h : Flow). n < closes_of id h.events) (more_kept n id) g cause l

pub came_more : (F : Reader) (n id : ℕ) (f : Flow) (p : Payload) → n < closes_of id f.events →
    n < closes_of id (payload_came F f p).events
unfolding with_held
came_more F n id f p l =
    let P : Flow → Type 0 = λ (g : Flow). n < closes_of id g.events in
    came_keeps F P
    (events_keep P (more_kept n id) F (λ g count live l. closed_more n id g Gap l)
    (λ g ps fin l. l)) f p l l
