-- The lines of all events of one octet together. Ordering shows that these are the lines of one
-- event after another.
use Rattle.std.specs.Prelude.{false, List, [], ◌∷◌, ◌++◌}
use Rattle.giop_message.specs.MessageReader.{MessageReader}
use Rattle.giop_stream.specs.Events.{Event}
use Rattle.giop_stream.specs.Lines.{StreamLine, by_class, up_to_last_line}
use Rattle.giop_stream.specs.OpenSlots.{KeptByNumber}
use Rattle.giop_stream.specs.Effects.{lines_for, kept_with}

unfoldable pub all_lines : (R : MessageReader) (known : KeptByNumber) (events : List Event) →
    List StreamLine
all_lines R known [] = []
all_lines R known (e ∷ es) = lines_for R e (known e.subject.number)
    ++ all_lines R (kept_with known e) es

-- the lines that are written, in the order of their classes
unfoldable pub sorted_lines : (R : MessageReader) (known : KeptByNumber) (es : List Event) →
    List StreamLine
sorted_lines R known es = up_to_last_line (λ i. false) (by_class (all_lines R known es))

-- what is kept of each message with what these events add, of messages that are over too
unfoldable pub kept_through : (known : KeptByNumber) (events : List Event) → KeptByNumber
kept_through known [] = known
kept_through known (e ∷ es) = kept_through (kept_with known e) es
