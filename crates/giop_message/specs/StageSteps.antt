-- One more octet, from the stage of a message (steps).
use Rattle.std.specs.Prelude.{ℕ, ◌+◌, List, [], ◌∷◌, ◌++◌, length, ◌==◌, nat_lt, if◌then◌else◌}
use Rattle.giop_cdr.specs.Alignment.{padding}
use Rattle.giop_decode.specs.ReadingSteps as decoder
use Rattle.giop_message.specs.Signatures.{Signatures}
use Rattle.giop_message.specs.Messages.{coding_of, only_lines, nothing_said, line_at, RestLine, Stage, In_typed, In_padding, In_rest, Over, MessageReading, ReadTo, with_front, read_body, section_and_rest}

unfoldable pub rest_step : (last_part_offset_in_rest : ℕ) (last_part_octets : List ℕ)
    (offset_in_message : ℕ) → MessageReading
rest_step offset held at =
    if length held == 32 then ReadTo (only_lines (line_at at (RestLine offset held) ∷ [])) at
    (In_rest (offset + 32) []) else ReadTo nothing_said at (In_rest offset held)

-- The octet is at this offset. After a part that ends, what follows it is read from no octets.
unfoldable pub message_step : (S : Signatures) (header : List ℕ) (offset_in_message : ℕ)
    (stage : Stage) (octet : ℕ) → MessageReading
message_step S header at (In_typed section h outer leaf) octet =
    section_and_rest S header section h
    (decoder.root_step (coding_of S header) [] outer leaf at octet)
message_step S header at (In_padding t) octet =
    if nat_lt 1 (padding at 8) then ReadTo nothing_said (at + 1) (In_padding t)
    else read_body S header t (at + 1) []
message_step S header at (In_rest offset held) octet =
    rest_step offset (held ++ octet ∷ []) (at + 1)
message_step S header at Over octet = ReadTo nothing_said at Over

unfoldable pub read_one_more : (S : Signatures) (header : List ℕ) (reading : MessageReading)
    (octet : ℕ) →
    MessageReading
read_one_more S header (ReadTo said at stage) octet =
    with_front said (message_step S header at stage octet)

-- a message after these octets
abbrev pub read_more : (S : Signatures) (header : List ℕ) (reading : MessageReading)
    (more_octets : List ℕ) →
    MessageReading
read_more S header m [] = m
read_more S header m (b ∷ t) = read_more S header (read_one_more S header m b) t
