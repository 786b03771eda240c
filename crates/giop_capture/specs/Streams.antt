-- The lines of each stream of a capture, except those of five kinds, are giopdump's
-- (docs/FORMATS.md, Conversations of a capture; meaning).
use Rattle.std.specs.Prelude.{◌≡◌, ◌<◌, ◌≤◌, ℕ, true, List, ◌++◌}
use Rattle.std.specs.List.{AllByRecursion as Each}
use Rattle.giop_stream.specs.Stream.{text, closing}
use Rattle.giop_conversation.specs.Captured.{Setup, rules_in, next_stream_number}
use Rattle.giop_conversation.specs.CaptureParts.{CapturePart, parts_text, IsWholeLines, giopdump_read_lines_of, giopdump_lines_of}
use Rattle.giop_conversation.specs.StreamTexts.{StreamHistory, History, giopdump_text, IsUnique}

-- The lines of a stream that giopdump writes too are exactly giopdump's: those of its octets are
-- its text, and those of its octets and of its end together are what giopdump writes of it.
pub record IsWholeDump (S : Setup) (stream_history : StreamHistory)
    (lines_of_octets all_giopdump_lines : List ℕ) : Type 0 where
  pub reads_are : lines_of_octets ≡ text (rules_in S stream_history.answers) stream_history.octets
  pub own_are : all_giopdump_lines
      ≡ giopdump_text (rules_in S stream_history.answers) stream_history

-- The text is what was written before, and then parts, each of whole lines. In them, the lines of
-- each stream that giopdump writes too are exactly giopdump's. If the connection of a stream has a
-- slot, the stream has closed, and its closing is among its lines.
pub record ShowsEachStream (S : Setup) (text_before : List ℕ) (histories : History)
    (whole_text : List ℕ) : Type 0
  where
    pub parts : List CapturePart
    pub whole : Each IsWholeLines parts
    pub shows : whole_text ≡ text_before ++ parts_text parts
    pub streams : (number : ℕ) → IsUnique number →
        IsWholeDump S (histories.stream number) (giopdump_read_lines_of number parts)
        (giopdump_lines_of number parts)
    pub closed : (number : ℕ) → IsUnique number → histories.has_slot number ≡ true →
        giopdump_lines_of number parts
        ≡ text (rules_in S (histories.stream number).answers) (histories.stream number).octets
        ++ closing (rules_in S (histories.stream number).answers) (histories.stream number).octets

-- The connection of each stream that began has a slot.
abbrev pub EachHasSlot : Setup → History → Type 0
EachHasSlot S h = (number : ℕ) → IsUnique number → S.first ≤ number →
    number < next_stream_number S h.begun → h.has_slot number ≡ true
