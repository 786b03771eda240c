-- How one more call of `take` gives packets to the listener.
use Rattle.std.proofs.Common.{◌≡◌, ◌∙◌, ℕ, ◌-◌, ◌≤◌, arith, List, [], ◌∷◌, ◌++◌, length, take, drop, Some, map, sym, ap, append_assoc, refl}
use Rattle.std.specs.Option.{IsSome}
use Rattle.std.proofs.lemmas.List.{take-append-drop, map-append, length-drop, take_all}
use Rattle.capture_file.specs.declared.capture.Capture.{Capture}
use Rattle.capture_file.specs.declared.fault.CaptureFault.{CaptureFault}
use Rattle.capture_file.specs.declared.progress.Packet.{Packet}
use Rattle.capture_file.specs.CaptureState.{Reads, info_in, octets_in}
use Rattle.capture_file.specs.Reading.{PacketRecord, packets, fault}
use Rattle.giop_capture.specs.Packets.{PacketView, HasGivenPackets, view_of_record, capture_packets, packet_view}
use Rattle.giop_capture.proofs.ShortPackets.{short}

-- what was read, and what a call took, come before what is left
seam : (octets read rest : List ℕ) (n : ℕ) → octets ≡ read ++ rest
    → octets ≡ (read ++ take n rest) ++ drop n rest
seam octets read rest n whole =
    whole ∙ (ap (λ v. read ++ v) (sym (take-append-drop n rest))
    ∙ sym (append_assoc read (take n rest) (drop n rest)))

-- what a call took is read too
pub handed_more : (HasTaken : List PacketView → Type 0) (d : Capture) (p octets read rest : List ℕ)
    (n : ℕ)
    → octets ≡ read ++ rest → Reads d ((p ++ read) ++ take n rest)
    → HasTaken (capture_packets ((p ++ read) ++ take n rest))
    → HasGivenPackets HasTaken d p octets (read ++ take n rest) (drop n rest)
handed_more HasTaken d p octets read rest n whole reads taken =
    let same = append_assoc p read (take n rest) in
    record {
      parts = seam octets read rest n whole;
      reads = rw same at reads;
      taken =
          rw same at taken;
    }

-- if a fault shows after the call, it is a fault of what was read
pub fault_shows : (p read more : List ℕ) (f : CaptureFault) → fault ((p ++ read) ++ more) ≡ Some f
    → IsSome (fault (p ++ (read ++ more)))
fault_shows p read more f shows =
    let e : fault (p ++ (read ++ more)) ≡ Some f = rw (append_assoc p read more) at shows in
    rw e refl

-- the listener was given the packet that the longer list has and the shorter one hasn't
pub one_more : (c : Capture) (p more octets : List ℕ) (packet : Packet)
    → packets (p ++ more) ≡ packets p ++ record {
      place = length (p ++ more);
      info = info_in c;
      octets = octets_in c octets;
    } ∷ []
    → packet.link ≡ (info_in c).link → packet.time ≡ (info_in c).time →
    packet.octets.now ≡ octets_in c octets
    → capture_packets (p ++ more) ≡ capture_packets p ++ packet_view packet ∷ []
one_more c p more octets packet e link time same =
    let r : PacketRecord = record {
      place = length (p ++ more);
      info = info_in c;
      octets =
          octets_in c octets;
    } in
    let view : view_of_record r ≡ packet_view packet = rw (link, time, same) refl in
    ap (map view_of_record) e ∙ (map-append view_of_record (packets p) (r ∷ [])
    ∙ ap (λ v. capture_packets p ++ v ∷ []) view)

-- the packet isn't longer than a packet may be
pub packet_short : (c : Capture) (p more octets : List ℕ) (packet : Packet)
    → packets (p ++ more) ≡ packets p ++ record {
      place = length (p ++ more);
      info = info_in c;
      octets = octets_in c octets;
    } ∷ []
    → packet.octets.now ≡ octets_in c octets → length packet.octets.now ≤ 262144
packet_short c p more octets packet e same =
    rw same (short (p ++ more) (packets p)
    (record { place = length (p ++ more); info = info_in c; octets = octets_in c octets }) e)

-- the rest of a slice, in the way that the code takes it
pub rest_of : (n : ℕ) (xs : List ℕ) → take (length xs - n) (drop n xs) ≡ drop n xs
rest_of n xs = take_all (length xs - n) (drop n xs) (simp length-drop (omega arith))
