-- The fields of the code's `Framing`, as the record that contracts see (state).
use Rattle.giop_stream.specs.declared.framing.Framing.{Framing}
use Rattle.giop_stream.specs.EngineView.{FramingView}

abbrev pub framing_view : (framing : Framing) → FramingView
framing_view f = record {
  totals = f.totals;
  stopped = f.stopped;
  header = f.header.items;
  payload_count = f.payload_count;
  slots = f.slots;
}
