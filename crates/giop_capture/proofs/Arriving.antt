-- What one more packet does.
use Rattle.std.proofs.Common.{◌≡◌, ◌∙◌, ℕ, Bool, true, false, ◌+◌, ◌≤◌, List, [], ◌∷◌, ◌++◌, append-nil, append_assoc, Option, Some, None, Ok, Err, length, subst, sym, ap, refl, arith}
use Rattle.std.specs.Prelude.{Result, OnOk}
use Rattle.std.proofs.lemmas.List.{length-append}
use Rattle.std.specs.Option.{option_map}
use Rattle.tcp_segment.specs.declared.tcp.Segment as code
use Rattle.tcp_segment.specs.Segments.{Segment, segment, segment_view}
use Rattle.tcp_flow.specs.declared.flow.ListenerError.{ListenerError}
use Rattle.tcp_flow.specs.Flow.{Event, Reader}
use Rattle.tcp_connections.specs.declared.connections.Connections.{Connections}
use Rattle.tcp_connections.specs.Connections.{State, with_packet}
use Rattle.tcp_connections.specs.State.{IsState}
use Rattle.giop_print.specs.declared.sink.OutFault.{OutFault}
use Rattle.giop_capture.specs.Packets.{PacketView}
use Rattle.giop_capture.specs.Arrivals.{with_segment, packet_arrived, after_packets, links_noted, links_from, link_notices, notices_from, notices_due}
use Rattle.giop_capture.specs.Notices.{notice_if_new, seen, new_notices}
use Rattle.giop_capture.specs.declared.notices.Notice.{Notice}
use Rattle.giop_capture.specs.declared.notices.Notice.TheVariants.{NoRoom, Tls, Ziop}
use Rattle.giop_capture.specs.declared.notices.Seen.{Seen}
use Rattle.giop_capture.specs.PacketState.{HasRead}
use Rattle.giop_capture.proofs.ShortSegments.{short}

-- what follows if a listener didn't fail
pub answered : {A B : Type 0} (a : Result (Unit {0}) ListenerError) (r : Result (Unit {0}) OutFault)
    → r ≡ (elim a [ Ok value ↦ Ok value | Err fault ↦ Err (record {}) ]) → OnOk a A → (A → B) →
    OnOk r B
answered (Ok value) r e h f = rw e (f h)
answered (Err fault) r e h f = rw e tt

-- what the listener has taken if it didn't fail
pub heard_ok : (A : Type 0) (a : Result (Unit {0}) ListenerError) (r : Result (Unit {0}) OutFault)
    (u : Unit {0}) → r ≡ (elim a [ Ok value ↦ Ok value | Err fault ↦ Err (record {}) ]) → r ≡ Ok u
    → OnOk a A → A
heard_ok A (Ok value) r u e is h = h
heard_ok A (Err fault) r u e is h = cc

pub after_more : (F : Reader) (w : State) (ps : List PacketView) (p : PacketView)
    → after_packets F w (ps ++ p ∷ []) ≡ packet_arrived F (after_packets F w ps) p
unfolding after_packets
after_more F w [] p = refl
after_more F w (q ∷ ps) p = after_more F (packet_arrived F w q) ps p

pub links_more : (told : List ℕ) (ps : List PacketView) (p : PacketView)
    → links_from told (ps ++ p ∷ []) ≡ links_noted (links_from told ps) p.info.link
unfolding links_from
links_more told [] p = refl
links_more told (q ∷ ps) p = links_more (links_noted told q.info.link) ps p

pub notices_more : (F : Reader) (w : State) (told : List ℕ) (ps : List PacketView) (p : PacketView)
    → notices_from F w told (ps ++ p ∷ [])
    ≡ notices_from F w told ps ++ (link_notices (links_from told ps) p.info.link
    ++ new_notices (seen (after_packets F w ps).events)
    (seen (packet_arrived F (after_packets F w ps) p).events))
unfolding after_packets links_from notices_from
notices_more F w told [] p = append-nil _
notices_more F w told (q ∷ ps) p =
    let due : List Notice = link_notices told q.info.link
    ++ new_notices (seen w.events) (seen (packet_arrived F w q).events) in
    ap (λ v. due ++ v)
    (notices_more F (packet_arrived F w q) (links_noted told q.info.link) ps p)
    ∙ sym (append_assoc due _ _)

-- ---- Which notices one more packet gives.

seen_before : (n : Notice) (b : Bool) → notice_if_new n b b ≡ []
seen_before n true = refl
seen_before n false = refl

nothing_new : (s : Seen) → new_notices s s ≡ []
nothing_new s = rw (seen_before NoRoom s.room, seen_before Tls s.tls, seen_before Ziop s.ziop) refl

-- a packet without a segment: only its link type may give a notice
pub told_link : (T : List Notice → Type 0) (F : Reader) (start : State) (ps : List PacketView)
    (p : PacketView) (told due : List Notice) → segment p.info.link p.octets ≡ None →
    T (told ++ due)
    → T (told ++ (due ++ new_notices (seen (after_packets F start ps).events)
    (seen (packet_arrived F (after_packets F start ps) p).events)))
unfolding packet_arrived
told_link T F start ps p told due none h =
    let w = after_packets F start ps in
    let quiet : new_notices (seen w.events) (seen (packet_arrived F w p).events) ≡ [] =
    ap (λ (s : Option Segment).
    new_notices (seen w.events)
    (seen (with_segment F (with_packet w p.info.time) s).events)) none
    ∙ nothing_new (seen w.events) in
    rw (quiet, append-nil due) h

-- a packet with a segment: what was seen in its flows may give notices too
pub told_seen : (T : List Notice → Type 0) (told due : List Notice) (before after : Seen)
    (first next : List Event) → before ≡ seen first → after ≡ seen next
    → T ((told ++ due) ++ new_notices before after)
    → T (told ++ (due ++ new_notices (seen first) (seen next)))
told_seen T told due before after first next b a h =
    subst (λ (y : Seen). T (told ++ (due ++ new_notices (seen first) y))) a
    (subst (λ (x : Seen). T (told ++ (due ++ new_notices x after))) b
    (subst T (append_assoc told due (new_notices before after)) h))

-- the segment of the packet came, or the packet has none
pub segment_came : (O : List Event → Type 0) (live : List ℕ) (c : Connections) (F : Reader)
    (start : State)
    (ps : List PacketView) (p : PacketView) (found : Option Segment) → segment p.info.link p.octets
    ≡ found
    → IsState O live c
    (with_segment F (with_packet (after_packets F start ps) p.info.time) found)
    → IsState O live c (after_packets F start (ps ++ p ∷ []))
unfolding packet_arrived
segment_came O live c F start ps p found same h =
    let v : State = with_packet (after_packets F start ps) p.info.time in
    subst (IsState O live c) (sym (after_more F start ps p ∙ ap (with_segment F v) same)) h

-- the segment that the code finds is the packet's
pub segment_of : (link : ℕ) (octets : List ℕ) (found : Option code.Segment) (s : code.Segment)
    → option_map segment_view found ≡ segment link octets → found ≡ Some s
    → segment link octets ≡ Some (segment_view s)
segment_of link octets found s same is = sym same ∙ ap (option_map segment_view) is

pub payload_short : (link : ℕ) (octets : List ℕ) (s : Segment) → segment link octets ≡ Some s
    → length octets ≤ 262144 → length s.payload ≤ 262144
payload_short link octets s some whole = let less = short link octets s some in omega arith

pub both : {X E : Type 0} (A B : Type 0) (r : Result X E) → OnOk r A → OnOk r B → OnOk r (A × B)
both A B (Ok value) a b = (a, b)
both A B (Err fault) a b = tt

-- one more packet was read, and the connections have the state that it leads to
pub read_more : (O O' : List Event → Type 0) (T T' : List Notice → Type 0) (F : Reader)
    (c c' : Connections)
    (live live' links links' : List ℕ) (start : State) (ps : List PacketView) (p : PacketView)
    → HasRead O T F c live links start ps
    → IsState O' live' c' (after_packets F start (ps ++ p ∷ [])) → c'.segments ≤ c.segments + 1
    → links' ≡ links_noted links p.info.link
    → ((told : List Notice) → T told → T' (told ++ (link_notices links p.info.link
    ++ new_notices (seen (after_packets F start ps).events)
    (seen (packet_arrived F (after_packets F start ps) p).events))))
    → HasRead O' T' F c' live' links' start (ps ++ p ∷ [])
read_more O O' T T' F c c' live live' links links' start ps p h state few same told =
    record {
      state = state;
      few = let n = length-append ps (p ∷ []) in let before = h.few in omega arith;
      all = same ∙ (ap (λ v. links_noted v p.info.link) h.all ∙ sym (links_more [] ps p));
      told = rw (notices_more F start [] ps p, ← h.all) (told (notices_due F start ps) h.told);
    }
