-- The fields of a message header of 12 octets, and what kind of message it begins (GIOP Message
-- Formats, GIOP Message Header; meaning).
use Rattle.std.specs.Prelude.{ℕ, ◌/◌, ◌%◌, Bool, ◌&&◌, ◌||◌, List, get_or, drop, nat_lt, ◌==◌, if◌then◌else◌}
use Rattle.giop_cdr.specs.declared.order.Order.{Order}
use Rattle.giop_cdr.specs.declared.order.Order.TheVariants.{Big, Little}
use Rattle.giop_cdr.specs.Numbers.{num}

unfoldable pub minor : (header : List ℕ) → ℕ
minor header = get_or header 5 0

-- the message type
unfoldable pub kind : (header : List ℕ) → ℕ
kind header = get_or header 7 0

-- In 1.0, octet 6, counted from 0, is the byte order; in 1.1 and 1.2, bit 0 of the flags in octet 6
-- is the byte order.
unfoldable pub order : (header : List ℕ) → Order
order header = if get_or header 6 0 % 2 == 1 then Little else Big

-- Bit 1 of the flags is set if more fragments follow; 1.0 has no flags.
unfoldable pub has_more : (header : List ℕ) → Bool
has_more header = nat_lt 0 (minor header) && (get_or header 6 0 / 2 % 2 == 1)

-- how many octets follow the header
unfoldable pub size : (header : List ℕ) → ℕ
size header = num (order header) (drop 8 header)

-- ---- What a message is to the stream (GIOP Message Formats, Fragment Message).

-- the message is a Request, a Reply, a LocateRequest or a LocateReply
unfoldable pub may_be_fragmented : (header : List ℕ) → Bool
may_be_fragmented header = (kind header == 0) || (kind header == 1) || (kind header == 3)
    || (kind header == 4)

-- A 1.2 message of these types is an opener if more fragments follow it.
unfoldable pub is_opener_1_2 : (header : List ℕ) → Bool
is_opener_1_2 header = (minor header == 2) && has_more header && may_be_fragmented header

-- the message is a 1.2 Fragment
unfoldable pub is_fragment_1_2 : (header : List ℕ) → Bool
is_fragment_1_2 header = (minor header == 2) && (kind header == 7)

unfoldable pub is_cancel_request : (header : List ℕ) → Bool
is_cancel_request header = kind header == 2

-- the message begins with its request id, by which the stream finds an open message
abbrev pub begins_with_request_id : (header : List ℕ) → Bool
begins_with_request_id header = is_opener_1_2 header || is_fragment_1_2 header
    || is_cancel_request header
