-- The notices that are given of a capture, beside its lines (meaning).
use Rattle.std.specs.Prelude.{ℕ, nat_le, nat_eq, Bool, true, false, ◌&&◌, ◌||◌, not, cond, List, [], ◌∷◌, ◌++◌, length, get_or}
use Rattle.std.specs.List.{list_any}
use Rattle.tcp_flow.specs.declared.flow.CloseCause.{CloseCause}
use Rattle.tcp_flow.specs.declared.flow.CloseCause.TheVariants.{Room}
use Rattle.tcp_flow.specs.Flow.{Event, Closes, OfCapture, Passes}
use Rattle.giop_capture.specs.declared.notices.Notice.{Notice}
use Rattle.giop_capture.specs.declared.notices.Notice.TheVariants.{NoRoom, Tls, Ziop}
use Rattle.giop_capture.specs.declared.notices.Seen.{Seen}

-- a notice that is given once: when its cause has been seen now and had not been seen before
abbrev pub notice_if_new : (notice : Notice) (was_seen_before is_seen_now : Bool) → List Notice
notice_if_new notice before after = cond (after && not before) (notice ∷ []) []

-- whether a stream closes because its connection makes room for another one
abbrev pub is_for_room : CloseCause → Bool
is_for_room Room = true
is_for_room _ = false

abbrev pub makes_room : Event → Bool
makes_room (Closes flow cause) = is_for_room cause
makes_room _ = false

-- whether octets begin as a record of TLS does, by the type of its content and by its version (RFC
-- 8446, 5.1)
abbrev pub begins_as_tls : (octets : List ℕ) → Bool
begins_as_tls octets =
    nat_le 3 (length octets) && nat_le 20 (get_or octets 0 0) && nat_le (get_or octets 0 0) 23
    && nat_eq (get_or octets 1 0) 3 && nat_le (get_or octets 2 0) 4

-- whether octets begin as a message of ZIOP does (CORBA, Compression)
abbrev pub begins_as_ziop : (octets : List ℕ) → Bool
begins_as_ziop octets =
    nat_le 4 (length octets) && nat_eq (get_or octets 0 0) 90 && nat_eq (get_or octets 1 0) 73
    && nat_eq (get_or octets 2 0) 79 && nat_eq (get_or octets 3 0) 80

-- whether an event is a payload in which no stream begins, and `is` holds of its octets
abbrev pub passes_by : (holds_of_octets : List ℕ → Bool) (event : Event) → Bool
passes_by is (OfCapture (Passes octets)) = is octets
passes_by is _ = false

-- what these events have shown that needs a notice
abbrev pub seen : (events : List Event) → Seen
seen events = record {
  room = list_any makes_room events;
  tls = list_any (passes_by begins_as_tls) events;
  ziop = list_any (passes_by begins_as_ziop) events;
}

-- what was seen, after one more event
abbrev pub seen_after : (before : Seen) (event : Event) → Seen
seen_after s e = record {
  room = s.room || makes_room e;
  tls = s.tls || passes_by begins_as_tls e;
  ziop = s.ziop || passes_by begins_as_ziop e;
}

-- the notices of what has been seen now and had not been seen before
abbrev pub new_notices : (before after : Seen) → List Notice
new_notices before after =
    (notice_if_new NoRoom before.room after.room ++ notice_if_new Tls before.tls after.tls)
    ++ notice_if_new Ziop before.ziop after.ziop
