-- Worked streams, message by message, with their lines (meaning).
use Rattle.std.specs.Prelude.{[], ◌∷◌, codes}
use Rattle.giop_stream.specs.Rules.{rules}
use Rattle.giop_stream_worked.specs.Worked.{hex_stream, Row, read_by, builtin, put_table, big_table, tri_table, ask_table, ask_requests}

-- a CloseConnection of GIOP 1.0
abbrev pub CloseConnection : Type 0
CloseConnection = Row (read_by builtin [])
    (hex_stream (codes "47494f50 0100 00 05 00000000" ∷ []))
    (codes "m1 start 1.0 big CloseConnection size 0"
    ∷ codes "m1 end"
    ∷ [])
    (codes "total messages 1 faults 0 octets 12" ∷ [])

-- a little-endian 1.2 Request with a double
abbrev pub LittleRequest : Type 0
LittleRequest = Row (read_by put_table [])
    (hex_stream (codes "47494f50 0102 01 00 2c000000"
    ∷ codes "01000000 03 000000 0000 0000 01000000 41 000000 04000000 70757400 00000000"
    ∷ codes "00000000 000000000000f83f"
    ∷ []))
    (codes "m1 start 1.2 little Request size 44"
    ∷ codes "m1 header.request_id ulong 1"
    ∷ codes "m1 header.response_flags octet 3"
    ∷ codes "m1 header.reserved[0] octet 0"
    ∷ codes "m1 header.reserved[1] octet 0"
    ∷ codes "m1 header.reserved[2] octet 0"
    ∷ codes "m1 header.target.switch short 0"
    ∷ codes "m1 header.target.object_key octets @0 41"
    ∷ codes "m1 header.operation string @0 \"put\""
    ∷ codes "m1 call 1 put"
    ∷ codes "m1 header.service_contexts count 0"
    ∷ codes "m1 body.d double 3ff8000000000000"
    ∷ codes "m1 end"
    ∷ [])
    (codes "total messages 1 faults 0 octets 56" ∷ [])

-- Two Requests whose fragments are interleaved. The number of the first is cut into three parts.
abbrev pub Interleaved : Type 0
Interleaved = Row (read_by big_table [])
    (hex_stream (codes "47494f50 0102 02 00 00000028"
    ∷ codes "00000005 03 000000 0000 0000 00000001 41 000000 00000004 626967 00 00000000"
    ∷ codes "00000000 01020304"
    ∷ codes "47494f50 0102 02 00 00000024"
    ∷ codes "00000006 03 000000 0000 0000 00000001 41 000000 00000004 6e6f70 00 00000000"
    ∷ codes "00000000"
    ∷ codes "47494f50 0102 02 07 00000006 00000005 0506"
    ∷ codes "47494f50 0102 00 07 00000004 00000006"
    ∷ codes "47494f50 0102 00 07 00000006 00000005 0708"
    ∷ []))
    (codes "m1 start 1.2 big Request size 40 more"
    ∷ codes "m1 header.request_id ulong 5"
    ∷ codes "m1 header.response_flags octet 3"
    ∷ codes "m1 header.reserved[0] octet 0"
    ∷ codes "m1 header.reserved[1] octet 0"
    ∷ codes "m1 header.reserved[2] octet 0"
    ∷ codes "m1 header.target.switch short 0"
    ∷ codes "m1 header.target.object_key octets @0 41"
    ∷ codes "m1 header.operation string @0 \"big\""
    ∷ codes "m1 call 5 big"
    ∷ codes "m1 header.service_contexts count 0"
    ∷ codes "m2 start 1.2 big Request size 36 more"
    ∷ codes "m2 header.request_id ulong 6"
    ∷ codes "m2 header.response_flags octet 3"
    ∷ codes "m2 header.reserved[0] octet 0"
    ∷ codes "m2 header.reserved[1] octet 0"
    ∷ codes "m2 header.reserved[2] octet 0"
    ∷ codes "m2 header.target.switch short 0"
    ∷ codes "m2 header.target.object_key octets @0 41"
    ∷ codes "m2 header.operation string @0 \"nop\""
    ∷ codes "m2 call 6 nop"
    ∷ codes "m2 header.service_contexts count 0"
    ∷ codes "m3 start 1.2 big Fragment size 6 more"
    ∷ codes "m3 header.request_id ulong 5"
    ∷ codes "m3 continues m1"
    ∷ codes "m4 start 1.2 big Fragment size 4"
    ∷ codes "m4 header.request_id ulong 6"
    ∷ codes "m4 continues m2"
    ∷ codes "m2 end"
    ∷ codes "m5 start 1.2 big Fragment size 6"
    ∷ codes "m5 header.request_id ulong 5"
    ∷ codes "m5 continues m1"
    ∷ codes "m1 body.n ulonglong 72623859790382856"
    ∷ codes "m1 end"
    ∷ [])
    (codes "total messages 5 faults 0 octets 152" ∷ [])

-- A 1.1 Request whose body goes on in a Fragment. The padding before its second number is counted
-- from the header of the Fragment.
abbrev pub JoinedFragment : Type 0
JoinedFragment = Row (read_by tri_table [])
    (hex_stream (codes "47494f50 0101 02 00 00000024"
    ∷ codes "00000000 00000005 01 000000 00000001 41 000000 00000004 747269 00 00000000"
    ∷ codes "00000007"
    ∷ codes "47494f50 0101 00 07 0000000c ffffffff 0102030405060708"
    ∷ []))
    (codes "m1 start 1.1 big Request size 36 more"
    ∷ codes "m1 header.service_contexts count 0"
    ∷ codes "m1 header.request_id ulong 5"
    ∷ codes "m1 header.response_expected boolean true"
    ∷ codes "m1 header.reserved[0] octet 0"
    ∷ codes "m1 header.reserved[1] octet 0"
    ∷ codes "m1 header.reserved[2] octet 0"
    ∷ codes "m1 header.object_key octets @0 41"
    ∷ codes "m1 header.operation string @0 \"tri\""
    ∷ codes "m1 call 5 tri"
    ∷ codes "m1 header.requesting_principal octets @0"
    ∷ codes "m1 body.a ulong 7"
    ∷ codes "m2 start 1.1 big Fragment size 12"
    ∷ codes "m2 continues m1"
    ∷ codes "m1 body.n ulonglong 72623859790382856"
    ∷ codes "m1 end"
    ∷ [])
    (codes "total messages 2 faults 0 octets 72" ∷ [])

-- two messages with the same request id; the second is faulted
abbrev pub SameIdTwice : Type 0
SameIdTwice = Row (read_by builtin [])
    (hex_stream (codes "47494f50 0102 02 00 00000004 00000001"
    ∷ codes "47494f50 0102 02 00 00000004 00000001"
    ∷ []))
    (codes "m1 start 1.2 big Request size 4 more"
    ∷ codes "m1 header.request_id ulong 1"
    ∷ codes "m2 start 1.2 big Request size 4 more"
    ∷ codes "m2 header.request_id ulong 1"
    ∷ codes "m2 fault id-open at 32"
    ∷ [])
    (codes "m1 unfinished"
    ∷ codes "total messages 2 faults 1 octets 32"
    ∷ [])

-- two messages, if one message may be open at once; the second is faulted
abbrev pub OneMayBeOpen : Type 0
OneMayBeOpen = Row (rules builtin [] 1)
    (hex_stream (codes "47494f50 0102 02 00 00000004 00000001"
    ∷ codes "47494f50 0102 02 00 00000004 00000002"
    ∷ []))
    (codes "m1 start 1.2 big Request size 4 more"
    ∷ codes "m1 header.request_id ulong 1"
    ∷ codes "m2 start 1.2 big Request size 4 more"
    ∷ codes "m2 header.request_id ulong 2"
    ∷ codes "m2 fault too-many-open at 32"
    ∷ [])
    (codes "m1 unfinished"
    ∷ codes "total messages 2 faults 1 octets 32"
    ∷ [])

-- a CancelRequest of an open message, and a Fragment after it
abbrev pub Cancelled : Type 0
Cancelled = Row (read_by builtin [])
    (hex_stream (codes "47494f50 0102 02 00 00000004 00000004"
    ∷ codes "47494f50 0102 00 02 00000004 00000004"
    ∷ codes "47494f50 0102 00 07 00000004 00000004"
    ∷ []))
    (codes "m1 start 1.2 big Request size 4 more"
    ∷ codes "m1 header.request_id ulong 4"
    ∷ codes "m2 start 1.2 big CancelRequest size 4"
    ∷ codes "m2 header.request_id ulong 4"
    ∷ codes "m1 cancelled by m2"
    ∷ codes "m2 end"
    ∷ codes "m3 start 1.2 big Fragment size 4"
    ∷ codes "m3 header.request_id ulong 4"
    ∷ codes "m3 fault no-open at 48"
    ∷ [])
    (codes "total messages 3 faults 1 octets 48" ∷ [])

-- a Reply to a request whose operation is known
abbrev pub Replied : Type 0
Replied = Row (read_by ask_table ask_requests)
    (hex_stream (codes "47494f50 0100 00 01 00000011 00000000 00000001 00000000 0000002a 09" ∷ []))
    (codes "m1 start 1.0 big Reply size 17"
    ∷ codes "m1 header.service_contexts count 0"
    ∷ codes "m1 header.request_id ulong 1"
    ∷ codes "m1 header.reply_status enum NO_EXCEPTION"
    ∷ codes "m1 body.return long 42"
    ∷ codes "m1 body.b octet 9"
    ∷ codes "m1 end"
    ∷ [])
    (codes "total messages 1 faults 0 octets 29" ∷ [])

-- a Reply with a known exception
abbrev pub Raised : Type 0
Raised = Row (read_by ask_table ask_requests)
    (hex_stream (codes "47494f50 0100 00 01 00000020"
    ∷ codes "00000000 00000001 00000001 0000000d 49444c3a4c6174653a312e30 00 00 0003"
    ∷ []))
    (codes "m1 start 1.0 big Reply size 32"
    ∷ codes "m1 header.service_contexts count 0"
    ∷ codes "m1 header.request_id ulong 1"
    ∷ codes "m1 header.reply_status enum USER_EXCEPTION"
    ∷ codes "m1 exception string @0 \"IDL:Late:1.0\""
    ∷ codes "m1 body.by ushort 3"
    ∷ codes "m1 end"
    ∷ [])
    (codes "total messages 1 faults 0 octets 44" ∷ [])

-- ---- Encapsulations.

-- A Reply of GIOP 1.0 with a service context of code sets: an encapsulation of 12 octets, with
-- padding after its byte order.
abbrev pub CodeSets : Type 0
CodeSets = Row (read_by builtin [])
    (hex_stream (codes "47494f50 0100 00 01 00000020"
    ∷ codes "00000001 00000001 0000000c 00 000000 00010001 00010109 00000007 00000000"
    ∷ []))
    (codes "m1 start 1.0 big Reply size 32"
    ∷ codes "m1 header.service_contexts count 1"
    ∷ codes "m1 header.service_contexts[0].context_id ulong 1"
    ∷ codes "m1 header.service_contexts[0].context_data encapsulation 12"
    ∷ codes "m1 header.service_contexts[0].context_data order big"
    ∷ codes "m1 header.service_contexts[0].context_data.char_data ulong 65537"
    ∷ codes "m1 header.service_contexts[0].context_data.wchar_data ulong 65801"
    ∷ codes "m1 header.request_id ulong 7"
    ∷ codes "m1 header.reply_status enum NO_EXCEPTION"
    ∷ codes "m1 end"
    ∷ [])
    (codes "total messages 1 faults 0 octets 44" ∷ [])

-- The same Reply with an encapsulation of 8 octets, which ends before the second of the two
-- numbers.
abbrev pub CodeSetsCutShort : Type 0
CodeSetsCutShort = Row (read_by builtin [])
    (hex_stream (codes "47494f50 0100 00 01 0000001c"
    ∷ codes "00000001 00000001 00000008 00 000000 00010001 00000007 00000000"
    ∷ []))
    (codes "m1 start 1.0 big Reply size 28"
    ∷ codes "m1 header.service_contexts count 1"
    ∷ codes "m1 header.service_contexts[0].context_id ulong 1"
    ∷ codes "m1 header.service_contexts[0].context_data encapsulation 8"
    ∷ codes "m1 header.service_contexts[0].context_data order big"
    ∷ codes "m1 header.service_contexts[0].context_data.char_data ulong 65537"
    ∷ codes "m1 fault encap-short at 32"
    ∷ [])
    (codes "total messages 1 faults 1 octets 40" ∷ [])

-- A LocateRequest by an internet profile. The encapsulation of the profile has 7 more octets after
-- its members.
abbrev pub Profile : Type 0
Profile = Row (read_by builtin [])
    (hex_stream (codes "47494f50 0102 00 03 00000028"
    ∷ codes "00000001 0001 0000 00000000 00000018"
    ∷ codes "00 01 02 00 00000002 6800 0007 00000001 41 000000 00000000"
    ∷ []))
    (codes "m1 start 1.2 big LocateRequest size 40"
    ∷ codes "m1 header.request_id ulong 1"
    ∷ codes "m1 header.target.switch short 1"
    ∷ codes "m1 header.target.profile.tag ulong 0"
    ∷ codes "m1 header.target.profile.profile_data encapsulation 24"
    ∷ codes "m1 header.target.profile.profile_data order big"
    ∷ codes "m1 header.target.profile.profile_data.major octet 1"
    ∷ codes "m1 header.target.profile.profile_data.minor octet 2"
    ∷ codes "m1 header.target.profile.profile_data.host string @0 \"h\""
    ∷ codes "m1 header.target.profile.profile_data.port ushort 7"
    ∷ codes "m1 header.target.profile.profile_data.object_key octets @0 41"
    ∷ codes "m1 header.target.profile.profile_data rest @0 00000000000000"
    ∷ codes "m1 end"
    ∷ [])
    (codes "total messages 1 faults 0 octets 52" ∷ [])
