-- What the functions of `Framing` do to its fields (steps). Only private clauses cite these.
use Rattle.std.specs.Prelude.{ℕ, suc, Bool, [], ◌∷◌, ◌++◌, length, Some, is_none, ◌&&◌, ◌==◌, nat_lt, if◌then◌else◌}
use Rattle.giop_checkpoint.specs.declared.fault.StreamFault.{StreamFault}
use Rattle.giop_stream.specs.declared.status.Totals.{Totals}
use Rattle.giop_stream.specs.Stream.{with_truncated}
use Rattle.giop_stream.specs.EngineView.{FramingView}

-- one more octet is read, and held as one of a header
unfoldable pub with_header_octet : (fields : FramingView) (octet : ℕ) → FramingView
with_header_octet m octet = record m {
  totals = record m.totals { octets = suc m.totals.octets };
  header =
      m.header ++ octet ∷ [];
}

-- the reading ends with a fault at this place
unfoldable pub stopped_with : (fields : FramingView) (fault : StreamFault)
    (place_in_stream_from_1 : ℕ) → FramingView
stopped_with m fault place = record m {
  totals = record { messages = m.totals.messages; faults = suc m.totals.faults; octets = place };
  stopped = Some fault;
  header = [];
  payload_count = 0;
}

-- if all octets of a payload of this size have come, the next header begins
unfoldable pub cleared_if_complete : (fields : FramingView) (payload_size : ℕ) → FramingView
cleared_if_complete m size = if m.payload_count == size then
    record m { header = []; payload_count = 0 } else m

-- ---- The finish.

unfoldable pub is_cut_short : (fields : FramingView) → Bool
is_cut_short m = is_none m.stopped && nat_lt 0 (length m.header)

unfoldable pub final_totals : (fields : FramingView) → Totals
final_totals m = with_truncated (is_cut_short m) m.totals
