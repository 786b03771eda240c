-- Streams have no gap, whatever the packets of a capture are.
use Rattle.std.proofs.Common.{◌≡◌, ℕ, ◌≤◌, List, [], ◌∷◌, ◌++◌, Option, Some, None, refl, sym, ◌∙◌, subst, append_assoc, append-nil}
use Rattle.std.proofs.lemmas.List.{length-replicate}
use Rattle.capture_file.specs.declared.fault.CaptureFault.{CaptureFault}
use Rattle.capture_file.specs.FaultWords.{fault_word}
use Rattle.capture_file.specs.Reading.{final_fault}
use Rattle.tcp_segment.specs.Segments.{Segment, segment}
use Rattle.tcp_flow.specs.Flow.{Reader, HasFault}
use Rattle.tcp_connections.specs.Connections.{State, none_known, with_packet}
use Rattle.tcp_connections.specs.Gapless.{AreGapless, AreWhole, HaveSlots}
use Rattle.tcp_connections.proofs.Gapless.{IsSoundAfter, start_at, step_at, packet_at as read_at, told_at, gapless_of, ended_gapless, ended_whole, ended_have_slots}
use Rattle.tcp_connections.proofs.Roomy.{slots_in, step_slots}
use Rattle.giop_capture.specs.Packets.{PacketView, capture_packets}
use Rattle.giop_capture.specs.Arrivals.{with_segment, packet_arrived, after_packets, segment_in, segments_of, with_fault, capture_ended}

segment_at : (before : List Segment) (F : Reader) (w : State) (s : Option Segment) →
    IsSoundAfter before w
    → IsSoundAfter (before ++ segment_in s) (with_segment F w s)
segment_at before F w None h = subst (λ (ss : List Segment). IsSoundAfter ss w)
    (sym (append-nil before)) h
segment_at before F w (Some s) h = step_at before F w s h

packet_at : (before : List Segment) (F : Reader) (w : State) (p : PacketView) → IsSoundAfter before
    w
    → IsSoundAfter (before ++ segment_in (segment p.info.link p.octets)) (packet_arrived F w p)
unfolding packet_arrived
packet_at before F w p h =
    segment_at before F (with_packet w p.info.time) (segment p.info.link p.octets)
    (read_at before w p.info.time h)

packets_at : (before : List Segment) (F : Reader) (w : State) (ps : List PacketView) →
    IsSoundAfter before w
    → IsSoundAfter (before ++ segments_of ps) (after_packets F w ps)
unfolding after_packets
packets_at before F w [] h = subst (λ (ss : List Segment). IsSoundAfter ss w)
    (sym (append-nil before)) h
packets_at before F w (p ∷ ps) h =
    let own : List Segment = segment_in (segment p.info.link p.octets) in
    subst (λ (ss : List Segment). IsSoundAfter ss (after_packets F (packet_arrived F w p) ps))
    (append_assoc before own (segments_of ps))
    (packets_at (before ++ own) F (packet_arrived F w p) ps (packet_at before F w p h))

fault_at : (before : List Segment) (w : State) (fault : Option CaptureFault) → IsSoundAfter before w
    →
    IsSoundAfter before (with_fault w fault)
fault_at before w None h = h
fault_at before w (Some fault) h = told_at before w (HasFault (fault_word fault.kind) fault.place) h

pub packets_gapless : (F : Reader) (ports : List ℕ) (blocks most : ℕ) (packets : List PacketView) →
    1 ≤ most → most ≤ 65536
    → AreGapless (segments_of packets) (after_packets F (none_known ports blocks most [])
    packets).events
packets_gapless F ports blocks most packets some few =
    gapless_of (segments_of packets) (after_packets F (none_known ports blocks most []) packets)
    (packets_at [] F (none_known ports blocks most []) packets
    (start_at ports blocks most some few))

-- after the packets of a capture and its fault came
capture_at : (F : Reader) (ports : List ℕ) (blocks most : ℕ) (octets : List ℕ) → 1 ≤ most →
    most ≤ 65536
    → IsSoundAfter (segments_of (capture_packets octets))
    (with_fault (after_packets F (none_known ports blocks most []) (capture_packets octets))
    (final_fault octets))
capture_at F ports blocks most octets some few =
    fault_at (segments_of (capture_packets octets))
    (after_packets F (none_known ports blocks most []) (capture_packets octets))
    (final_fault octets)
    (packets_at [] F (none_known ports blocks most []) (capture_packets octets)
    (start_at ports blocks most some few))

pub capture_gapless : (F : Reader) (ports : List ℕ) (blocks most : ℕ) (octets : List ℕ) → 1 ≤ most →
    most ≤ 65536
    → AreGapless (segments_of (capture_packets octets))
    (capture_ended F (none_known ports blocks most []) octets).events
unfolding capture_ended
capture_gapless F ports blocks most octets some few =
    ended_gapless (segments_of (capture_packets octets)) F _
    (capture_at F ports blocks most octets some few)

pub capture_whole : (F : Reader) (ports : List ℕ) (blocks most : ℕ) (octets : List ℕ) → 1 ≤ most →
    most ≤ 65536
    → AreWhole (segments_of (capture_packets octets))
    (capture_ended F (none_known ports blocks most []) octets).events
unfolding capture_ended
capture_whole F ports blocks most octets some few =
    ended_whole (segments_of (capture_packets octets)) F _
    (capture_at F ports blocks most octets some few)

-- ---- The number of slots stays.

segment_slots : (F : Reader) (w : State) (s : Option Segment) →
    slots_in (with_segment F w s) ≡ slots_in w
segment_slots F w None = refl
segment_slots F w (Some s) = step_slots F w s

packets_slots : (F : Reader) (w : State) (ps : List PacketView) →
    slots_in (after_packets F w ps) ≡ slots_in w
unfolding after_packets packet_arrived
packets_slots F w [] = refl
packets_slots F w (p ∷ ps) =
    packets_slots F (packet_arrived F w p) ps
    ∙ segment_slots F (with_packet w p.info.time) (segment p.info.link p.octets)

fault_slots : (w : State) (fault : Option CaptureFault) → slots_in (with_fault w fault) ≡ slots_in w
fault_slots w None = refl
fault_slots w (Some fault) = refl

pub capture_slots : (F : Reader) (ports : List ℕ) (blocks most : ℕ) (octets : List ℕ) → 1 ≤ most →
    most ≤ 65536
    → HaveSlots most (capture_ended F (none_known ports blocks most []) octets).events
unfolding capture_ended
capture_slots F ports blocks most octets some few =
    let w : State = none_known ports blocks most [] in
    let all : State = after_packets F w (capture_packets octets) in
    ended_have_slots (segments_of (capture_packets octets)) F most
    (with_fault all (final_fault octets))
    (capture_at F ports blocks most octets some few)
    (fault_slots all (final_fault octets) ∙ packets_slots F w (capture_packets octets)
    ∙ length-replicate most 0)
