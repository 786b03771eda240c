-- The kind of message that a header begins, and what a message is faulted for by its header or its
-- size alone (GIOP Message Formats, Fragment Message; meaning).
use Rattle.std.specs.Prelude.{ℕ, Bool, ◌&&◌, ◌||◌, List, Option, Some, None, nat_lt, ◌==◌, if◌then◌else◌}
use Rattle.giop_stream.specs.declared.fault.FramingFault.{FramingFault}
use Rattle.giop_stream.specs.declared.fault.FramingFault.TheVariants.{MessageType, OldFragment}
use Rattle.giop_message.specs.Headers.{minor, kind, has_more, size, is_opener_1_2, is_fragment_1_2}

-- ---- Messages of 1.1. Their Fragments have no request id: each continues the message of its
-- direction that was begun last.

-- Fragments of 1.1 continue a Request or a Reply of 1.1 if more fragments follow it.
unfoldable pub is_opener_1_1 : (header : List ℕ) → Bool
is_opener_1_1 header = (minor header == 1) && has_more header && nat_lt (kind header) 2

-- the message is a 1.1 Fragment
unfoldable pub is_fragment_1_1 : (header : List ℕ) → Bool
is_fragment_1_1 header = (minor header == 1) && (kind header == 7)

-- the message is of 1.1, and Fragments continue it, or it is a Fragment
unfoldable pub is_fragmented_1_1 : (header : List ℕ) → Bool
is_fragmented_1_1 header = is_opener_1_1 header || is_fragment_1_1 header

-- ---- Messages of 1.1 and of 1.2.

-- Fragments continue the message
unfoldable pub has_fragments : (header : List ℕ) → Bool
has_fragments header = is_opener_1_2 header || is_opener_1_1 header

-- the message is a Fragment
unfoldable pub is_any_fragment : (header : List ℕ) → Bool
is_any_fragment header = is_fragment_1_2 header || is_fragment_1_1 header

-- After how many octets of its payload a message is looked for among the open ones: after the four
-- of its request id; but in 1.1 with the last octet of its header.
unfoldable pub lookup_offset : (header : List ℕ) → ℕ
lookup_offset header = if is_fragmented_1_1 header then 0 else 4

-- whether a CancelRequest may close a message: it is a Request or a LocateRequest
unfoldable pub may_be_cancelled : (header : List ℕ) → Bool
may_be_cancelled header = (kind header == 0) || (kind header == 3)

-- The fault that a message has by its header alone, if it has one. Only GIOP 1.1 and 1.2 have
-- Fragments, and those of 1.1 are joined to no LocateRequest and no LocateReply.
unfoldable pub header_fault : (header : List ℕ) → Option FramingFault
header_fault header =
    if nat_lt 7 (kind header) || ((kind header == 7) && (minor header == 0)) then Some MessageType
    else if (minor header == 1) && has_more header && ((kind header == 3) || (kind header == 4))
    then Some OldFragment
    else None

-- whether an opener or a Fragment ends before its request id is complete; in 1.1 it has none
unfoldable pub is_too_short_for_id : (header : List ℕ) → Bool
is_too_short_for_id header = nat_lt (size header) 4 && (is_opener_1_2 header
    || is_fragment_1_2 header)

-- whether other octets of the joined message follow a message
unfoldable pub is_continued : (header : List ℕ) → Bool
is_continued header = has_fragments header || (is_any_fragment header && has_more header)
