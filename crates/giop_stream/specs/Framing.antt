-- How a stream is cut into messages, and which octet of it is a stream fault (GIOP Message Formats,
-- GIOP Message Header; meaning). Places count the octets of the stream from 1.
use Rattle.std.specs.Prelude.{ℕ, zero, suc, Bool, true, false, ◌+◌, ◌-◌, ◌^◌, List, [], ◌∷◌, ◌++◌, length, take, drop, Option, Some, None, nat_lt, if◌then◌else◌, option_to_list}
use Rattle.giop_checkpoint.specs.declared.fault.StreamFault.{StreamFault}
use Rattle.giop_checkpoint.specs.declared.fault.StreamFault.TheVariants.{StreamLimit}
use Rattle.giop_stream.specs.HeaderOctets.{first_wrong_octet}
use Rattle.giop_message.specs.Headers.{size}

pub record CutMessage : Type 0 where
  pub number : ℕ  -- from 1
  pub before : ℕ  -- how many octets of the stream come before it
  pub header : List ℕ  -- its 12 octets
  pub payload : List ℕ  -- the octets of its payload that have come

abbrev pub with_payload : (message : CutMessage) (octets : List ℕ) → CutMessage
with_payload m octets = record m { payload = octets }

pub record Cut : Type 0 where
  pub whole : List CutMessage  -- the messages that are complete
  pub current : Option CutMessage  -- the last one, if it is incomplete
  pub held : List ℕ  -- the octets of the next header that have come
  pub stop : Option (ℕ × StreamFault)  -- the stream fault, with the place of its octet

unfoldable pub with_first : (first_message : CutMessage) (cut_stream : Cut) → Cut
with_first m c = record c { whole = m ∷ c.whole }

-- The rest of the stream, cut into at most `fuel` messages. The next message has the number
-- `number`, and `before` octets of the stream come before it. The `elim` looks for a wrong octet in
-- the header first, so that nothing is cut after such an octet.
unfoldable pub cut_from : (fuel next_message_number stream_octets_before : ℕ)
    (rest_of_stream : List ℕ) → Cut
cut_from zero number before octets = record { whole = []; current = None; held = []; stop = None }
cut_from (suc fuel) number before octets =
    let header = take 12 octets in
    let payload = drop 12 octets in
    let rest = cut_from fuel (suc number) (before + 12 + size header) (drop (size header) payload)
    in
    elim (first_wrong_octet header) [
      | Some found ↦ record {
        whole = [];
        current = None;
        held = [];
        stop =
            Some (before + found.0, found.1);
      }
      | None ↦
          if nat_lt (length octets) 12
          then record { whole = []; current = None; held = octets; stop = None }
          else if nat_lt (length payload) (size header)
          then record {
            whole = [];
            current = Some
                (record { number = number; before = before; header = header; payload = payload });
            held = [];
            stop = None;
          }
          else with_first (record {
            number = number;
            before = before;
            header = header;
            payload =
                take (size header) payload;
          }) rest
    ]

-- no octet from number 2 ^ 48 + 1 on is read
unfoldable pub limit : ℕ
limit = 2 ^ 48

abbrev pub stop_or_limit : (stop_place_and_fault : Option (ℕ × StreamFault)) (cut_stream : Cut) →
    Cut
stop_or_limit (Some found) c = c
stop_or_limit None c = record c { held = []; stop = Some (suc limit, StreamLimit) }

unfoldable pub limited : (is_beyond_limit : Bool) (cut_stream : Cut) → Cut
limited false c = c
limited true c = stop_or_limit c.stop c

-- The whole stream, cut. The octet of a stream fault and what follows it belong to no message.
unfoldable pub cut : (stream : List ℕ) → Cut
cut stream =
    limited (nat_lt limit (length stream)) (cut_from (suc (length stream)) 1 0 (take limit stream))

unfoldable pub messages : (cut_stream : Cut) → List CutMessage
messages c = c.whole ++ option_to_list c.current

-- how many octets are read, with the octet of a stream fault
unfoldable pub octets_read : (stream : List ℕ) (stop_place_and_fault : Option (ℕ × StreamFault)) → ℕ
octets_read stream None = length stream
octets_read stream (Some found) = found.0

abbrev pub fault_of : (stop_place_and_fault : Option (ℕ × StreamFault)) → Option StreamFault
fault_of None = None
fault_of (Some found) = Some found.1

-- how many octets are missing until the end of the message that a stream is in, by the stream
-- fault, the last message, and what is held of the next header
abbrev pub lacking_by : (stop_place_and_fault : Option (ℕ × StreamFault))
    (incomplete_message : Option CutMessage) (header_octets_held : List ℕ) → Option ℕ
lacking_by (Some found) current held = None
lacking_by None (Some m) held = Some (size m.header - length m.payload)
lacking_by None None [] = Some 0
lacking_by None None (x ∷ xs) = None

-- how many octets are missing until the end of the message that the stream is in, if the message's
-- header is complete; 0 between two messages; none within a header, and after a stream fault
abbrev pub lacking : (cut_stream : Cut) → Option ℕ
lacking c = lacking_by c.stop c.current c.held
