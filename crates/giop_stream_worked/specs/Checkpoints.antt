-- Checkpoints of worked streams, octet for octet (meaning). The first four have no record of a
-- message.
use Rattle.std.specs.Prelude.{ℕ, List, [], ◌∷◌, ◌++◌, replicate, codes}
use Rattle.giop_stream.specs.Checkpoint.{Spells}
use Rattle.giop_stream_worked.specs.Worked.{hex_stream, builtin, big_table}

-- the first 5 octets of a CloseConnection of GIOP 1.0
unfoldable pub five_octets : List ℕ
five_octets = hex_stream (codes "47494f50 01" ∷ [])

-- the checkpoint in a header, if 16 messages may be open
abbrev pub CheckpointInHeader : Type 0
CheckpointInHeader = Spells
    (hex_stream (codes "47494f5044554d50 00000003 00000000 00000000 00000000 00000000 00000000"
    ∷ codes "0000000000000005 0000000000000000 0000000000000000"
    ∷ codes "00 00 05 00 47494f50 01 00000000000000 0000000000000000"
    ∷ codes "00000010 ffffffff 0000000000000000"
    ∷ []))
    builtin
    []
    16
    five_octets

-- the same in layout 2, which doesn't store how many messages may be open: there may be 16
abbrev pub CheckpointInLayout2 : Type 0
CheckpointInLayout2 = Spells
    (hex_stream (codes "47494f5044554d50 00000002 00000000 00000000 00000000 00000000 00000000"
    ∷ codes "0000000000000005 0000000000000000 0000000000000000"
    ∷ codes "00 00 05 ff 47494f50 01 00000000000000 0000000000000000"
    ∷ codes "0000000000000000 0000000000000000"
    ∷ []))
    builtin
    []
    16
    five_octets

-- a Fragment of GIOP 1.0, which is faulted at its header, and the first octet of its payload
unfoldable pub one_in_payload : List ℕ
one_in_payload = hex_stream (codes "47494f50 0100 00 07 00000004 01" ∷ [])

-- the checkpoint in a payload, if one message may be open
abbrev pub CheckpointInPayload : Type 0
CheckpointInPayload = Spells
    (hex_stream (codes "47494f5044554d50 00000003 00000000 00000000 00000000 00000000 00000000"
    ∷ codes "000000000000000d 0000000000000001 0000000000000001"
    ∷ codes "01 00 00 00 47494f50 0100 00 07 00000004 0000000000000003"
    ∷ codes "00000001 ffffffff 0000000000000000"
    ∷ []))
    builtin
    []
    1
    one_in_payload

-- a CloseConnection, and then a magic whose third octet is wrong
unfoldable pub bad_magic : List ℕ
bad_magic = hex_stream (codes "47494f50 0100 00 05 00000000 474958" ∷ [])

-- the checkpoint after a stream fault, if 4,096 messages may be open
abbrev pub CheckpointAfterFault : Type 0
CheckpointAfterFault = Spells
    (hex_stream (codes "47494f5044554d50 00000003 00000000 00000000 00000000 00000000 00000000"
    ∷ codes "000000000000000f 0000000000000001 0000000000000001"
    ∷ codes "02 01 00 00 00000000 00000000 00000000 0000000000000000"
    ∷ codes "00001000 ffffffff 0000000000000000"
    ∷ []))
    builtin
    []
    4096
    bad_magic

-- ---- Two open messages.

-- the Requests of two operations of `big_table`, each with fragments that follow: the first ends
-- within its number, and the second after its body
unfoldable pub two_requests : List ℕ
two_requests = hex_stream (codes "47494f50 0102 02 00 00000028"
    ∷ codes "00000005 03 000000 0000 0000 00000001 41 000000 00000004 626967 00 00000000"
    ∷ codes "00000000 01020304"
    ∷ codes "47494f50 0102 02 00 00000024"
    ∷ codes "00000006 03 000000 0000 0000 00000001 41 000000 00000004 6e6f70 00 00000000"
    ∷ codes "00000000"
    ∷ [])

-- the fixed part of the checkpoint: there are two operations and two records, and a header comes
-- next
unfoldable pub between_messages : List ℕ
between_messages =
    hex_stream (codes "47494f5044554d50 00000003 00000000 00000002 00000000 00000000 00000002"
    ∷ codes "0000000000000064 0000000000000002 0000000000000000"
    ∷ codes "00 00 00 00 00000000 00000000 00000000 0000000000000000"
    ∷ codes "00000010 ffffffff 0000000000000000"
    ∷ [])

-- The record of the first Request, which is open under the request id 5 and in its body, before
-- octet 52. Four octets are held of a number of type 8. The number is the only part of the struct
-- that is the first type declared.
unfoldable pub in_a_number : List ℕ
in_a_number =
    hex_stream (codes "02 01 0000000000000001 47494f50 0102 02 00 00000028 00000005 000000000000"
    ∷ codes "02 0000000000000034 01 00000005 0000"
    ∷ codes "00 02 0000000000000001 04 00 00000008 00000000 00000000 04 01020304 00000000"
    ∷ [])
    ++ replicate 175 0
    ++ hex_stream (codes "00000029 00000000 00000001 00 0000000000000000000000"
    ∷ codes "00000008 00000000 00000000 00 0000000000000000000000"
    ∷ [])

-- The record of the second Request, which is open under the request id 6 and in its rest, before
-- octet 48. No octet of the rest is held.
unfoldable pub after_a_body : List ℕ
after_a_body =
    hex_stream (codes "00 01 0000000000000002 47494f50 0102 02 00 00000024 00000006 000000000000"
    ∷ codes "04 0000000000000030 01 00000006 0000"
    ∷ [])
    ++ replicate 208 0

-- the checkpoint with two messages open, one of them within a number, if 16 messages may be open
abbrev pub CheckpointBetweenMessages : Type 0
CheckpointBetweenMessages = Spells (between_messages ++ in_a_number ++ after_a_body)
    big_table [] 16 two_requests
