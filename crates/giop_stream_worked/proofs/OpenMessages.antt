-- A checkpoint of a stream with two open messages, computed.
use Rattle.std.proofs.Common.{◌≡◌, ℕ, ◌<◌, ◌^◌, true, false, List, [], ◌∷◌, ◌++◌, length, take, drop, None, Some, arith, refl}
use Rattle.std.proofs.lemmas.Bool.{ltb-true}
use Rattle.giop_cdr.specs.declared.order.Order.TheVariants as orders
use Rattle.giop_print.specs.declared.path.Root.TheVariants as roots
use Rattle.giop_octets.specs.Fields.{four, eight}
use Rattle.giop_sig.specs.Builtin.{builtin_types}
use Rattle.giop_sig.specs.Fits.{IsFit}
use Rattle.giop_sig.specs.Table.{type_id}
use Rattle.giop_sig.specs.Trees.{part_number_in, tree}
use Rattle.giop_sig.specs.Types.{Ty, part_of}
use Rattle.giop_decode.specs.declared.decoder.Decoder.{Decoder}
use Rattle.giop_decode.specs.declared.frame.Frame.{Frame}
use Rattle.giop_decode.specs.declared.frame.Within.TheVariants as withins
use Rattle.giop_decode.specs.declared.leaf.Leaf.{Leaf as Innermost}
use Rattle.giop_decode.specs.declared.leaf.Leaf.TheVariants as innermost
use Rattle.giop_decode.specs.declared.notes.Buffer.TheVariants as buffers
use Rattle.giop_decode.specs.declared.notes.Last.TheVariants as lasts
use Rattle.giop_decode.specs.ReadResult.{message_coding, Leaf}
use Rattle.giop_decode.specs.Fits.{FitsIn, HasParts}
use Rattle.giop_decode.specs.Transitions.{part_in, leaf_of, FrameIndexFits}
use Rattle.giop_decode.specs.DecoderState as decoder
use Rattle.giop_decode.proofs.ReadingLaws.{fits_depth, within_in_room}
use Rattle.giop_decode.specs.Stored as decoders
use Rattle.giop_message.specs.Phases.{unbroken}
use Rattle.giop_message.specs.declared.message.Message.{Message}
use Rattle.giop_message.specs.declared.part.Part.TheVariants as parts
use Rattle.giop_message.specs.declared.part.Rest.{Rest}
use Rattle.giop_message.specs.declared.part.Section.TheVariants as sections
use Rattle.giop_message.specs.Messages.{Said, MessageReading as Reading, read_message, message_lines, message_marks}
use Rattle.giop_message.specs.ReaderOfTable.{request_id_in, first_some, first_request_id}
use Rattle.giop_message.specs.Signatures.{signatures_of, by_list}
use Rattle.giop_message.specs.MessageState.{Follows}
use Rattle.giop_message.specs.Stored as messages
use Rattle.giop_message.specs.Stored.{Stored}
use Rattle.giop_checkpoint.specs.Records as records
use Rattle.giop_checkpoint.specs.Records.{StoredRecord, StoredRecordHasRange}
use Rattle.giop_checkpoint.specs.declared.record.RecordKind.TheVariants as record_kinds
use Rattle.giop_checkpoint.specs.declared.layout.Layout.TheVariants.{Third}
use Rattle.giop_stream.specs.declared.slots.PayloadOwner.TheVariants as owners
use Rattle.giop_stream.specs.EngineView.{FramingView}
use Rattle.giop_stream.specs.Checkpoint.{StoresMessage}
use Rattle.giop_stream_worked.specs.Worked.{big_table, table_of}
use Rattle.giop_stream_worked.specs.Checkpoints.{two_requests, between_messages, in_a_number, after_a_body, CheckpointBetweenMessages}
use Rattle.giop_stream_worked.proofs.OnePart.{one_part}
use Rattle.giop_stream_worked.proofs.Computing.{one_message, a_stream, told_with, a_checkpoint, are_octets}

-- ---- The first Request, which ends within the number of its body.

-- the struct of the operation's parameters is the first type that is declared
parameters : ℕ
parameters = length builtin_types

number : Innermost
number = innermost.Number (type_id 8)

parameters_frame : Frame
parameters_frame =
    record { of = type_id parameters; index = 0; count = 1; inside = None; told = None }

in_body : Decoder
in_body = record {
  order = orders.Big;
  head = record { message = 1; root = roots.Body };
  at = 4;
  forbids_wide = false;
  outer = record { items = parameters_frame ∷ [] };
  inside = withins.Nothing;
  leaf = Some number;
  carry = 1 ∷ 2 ∷ 3 ∷ 4 ∷ [];
  piece = record { items = [] };
  notes = record {
    request_id = None;
    last = lasts.Nothing;
    expects_reply = None;
    name = record { items = [] };
    buffer = buffers.Begun;
  };
}

-- the header of a 1.2 Request of `n` octets, which fragments follow
header : ℕ → List ℕ
header n = 71 ∷ 73 ∷ 79 ∷ 80 ∷ 1 ∷ 2 ∷ 2 ∷ 0 ∷ 0 ∷ 0 ∷ 0 ∷ n ∷ []

first : Message
first = record {
  number = 1;
  header = header 40;
  id = Some 5;
  at = 52;
  lacks = 0;
  part = parts.Typed sections.Body;
  decoder = in_body;
  begun = omega arith;
  few = omega arith;
}

first_entry : StoredRecord
first_entry = record {
  record_is = record {
    frames = 2;
    record_kind = record_kinds.Open 5;
    number = 1;
    header =
        header 40;
  };
  message = messages.own_octets first ++ decoders.saved_fixed in_body number;
  frames = decoders.saved_frames (parameters_frame ∷ decoders.leaf_frame number ∷ []);
}

-- ---- The second Request, which ends after its body. The body has no octets.

nothing : Rest
nothing = record { offset = 0; held = record { items = [] }; room = omega arith }

second : Message
second = record {
  number = 2;
  header = header 36;
  id = Some 6;
  at = 48;
  lacks = 0;
  part = parts.Rest nothing;
  decoder = in_body;
  begun = omega arith;
  few = omega arith;
}

second_entry : StoredRecord
second_entry = record {
  record_is = record {
    frames = 0;
    record_kind = record_kinds.Open 6;
    number = 2;
    header =
        header 36;
  };
  message = messages.own_octets second ++ messages.rest_octets nothing;
  frames = [];
}

-- the fields of the engine after the stream
between : FramingView
between = record {
  totals = record { messages = 2; faults = 0; octets = 100 };
  stopped = None;
  header = [];
  payload_count = 0;
  slots = record {
    slots = record {
      most = 16;
      entries = record {
        key = Some 5;
        value = record {
          number = 1;
          header = header 40;
          message =
              Some first;
        };
      }
          ∷ record {
            key = Some 6;
            value = record {
              number = 2;
              header = header 36;
              message =
                  Some second;
            };
          } ∷ [];
    };
    owner = owners.Current None false;
    is_mixed = true;
  };
}

-- a name for the list of the definitions that are unfolded for the fields of the engine
the_decoder : ℕ
unfolding parameters number parameters_frame in_body header nothing builtin_types
the_decoder = 0

the_messages : ℕ
unfolding first second first_entry second_entry between request_id_in first_some first_request_id
    two_requests
the_messages = 0

-- a name for the list of the definitions that are unfolded for the octets of the checkpoint
its_octets : ℕ
unfolding decoders.saved_fixed messages.own_octets messages.rest_octets four eight
its_octets = 0

its_records : ℕ
unfolding records.kind_octets records.own_octets between_messages in_a_number after_a_body
its_records = 0

kept_messages : ℕ
unfolding the_decoder the_messages its_octets its_records
kept_messages = 0

-- ---- What is stored of the two Requests.

first_stored : Stored first first_entry.message first_entry.frames
unfolding kept_messages
first_stored = record {
  own = record { is = refl; at = ltb-true 52 (2 ^ 64) refl; id = ltb-true 5 (2 ^ 32) refl };
  part = record {
    leaf = number;
    goes_on = refl;
    fixed_are = refl;
    frames_are = refl;
    range = record {
      message = ltb-true 1 (2 ^ 64) refl;
      carry = omega arith;
      piece = omega arith;
      notes = record { request_id = tt; last = tt; name = omega arith };
    };
    leaf_range = ltb-true 8 (2 ^ 32) refl;
    outer_range = (
      record {
        of = ltb-true parameters (2 ^ 32) refl;
        index = ltb-true 0 (2 ^ 32) refl;
        count = ltb-true 1 (2 ^ 32) refl;
      },
      tt,
    );
    few = omega arith;
  };
}

second_stored : Stored second second_entry.message second_entry.frames
unfolding kept_messages
second_stored = record {
  own = record { is = refl; at = ltb-true 48 (2 ^ 64) refl; id = ltb-true 6 (2 ^ 32) refl };
  part = (record { is = refl; range = ltb-true 0 (2 ^ 64) refl }, refl);
}

first_held : StoresMessage first first_entry
unfolding kept_messages
first_held = record {
  stored = first_stored;
  shallow = λ C laws h.
      omega (arith, fits_depth C in_body laws h.fits);
}

second_held : StoresMessage second second_entry
unfolding kept_messages
second_held = record { stored = second_stored; shallow = λ C laws h. omega arith }

first_range : StoredRecordHasRange first_entry
unfolding kept_messages
first_range = record {
  own = record {
    frames = omega arith;
    typed = record {
      record_kind = ltb-true 5 (2 ^ 32) refl;
      number = ltb-true 1 (2 ^ 64) refl;
      header = refl;
    };
  };
  message = refl;
  frames = refl;
}

second_range : StoredRecordHasRange second_entry
unfolding kept_messages
second_range = record {
  own = record {
    frames = omega arith;
    typed = record {
      record_kind = ltb-true 6 (2 ^ 32) refl;
      number = ltb-true 2 (2 ^ 64) refl;
      header = refl;
    };
  };
  message = refl;
  frames = refl;
}

-- ---- The octets that the two Requests have read.

-- the octets of the first Request after its header and before its number, and the octets of the
-- second Request after its header
first_front : List ℕ
first_front = take 36 (drop 12 two_requests)

second_octets : List ℕ
second_octets = drop 64 two_requests

some_octets : List ℕ
some_octets = 1 ∷ 2 ∷ 3 ∷ 4 ∷ []

first_reads :
    decoder.Reads big_table (tree big_table parameters) (message_coding orders.Big) 48 1 roots.Body
    in_body
    some_octets
unfolding one_message told_with kept_messages some_octets
first_reads = record {
  lines = [];
  is = refl;
  forbids_wide = refl;
  keeps_noted = record {
    request_id = refl;
    status = refl;
    interface = refl;
    expects_reply = refl;
    name = (refl, refl, omega arith, refl);
  };
  same_message = refl;
  same_root = refl;
  offset = record { order = refl; phase = refl; even = λ k. refl; outer = (tt, tt) };
}

abbrev said_of : Reading → Said
said_of m = record { lines = message_lines m; marks = message_marks m }

first_follows : Follows big_table (by_list []) unbroken 1 (header 40) first (first_front
    ++ some_octets)
unfolding one_message told_with kept_messages first_front some_octets
first_follows = record {
  same_number = refl;
  same_header = refl;
  id = refl;
  at = refl;
  counted = λ k. refl;
  stands = record {
    T = tree big_table parameters;
    before = said_of (read_message (signatures_of big_table (by_list [] 1) unbroken)
        (header 40) first_front);
    front = first_front;
    octets = some_octets;
    since = refl;
    is = refl;
    first = tt;
    reads = first_reads;
  };
}

second_follows : Follows big_table (by_list []) unbroken 2 (header 36) second second_octets
unfolding one_message told_with kept_messages second_octets
second_follows = record {
  same_number = refl;
  same_header = refl;
  id = refl;
  at = refl;
  counted = λ k. refl;
  stands = (
    said_of (read_message (signatures_of big_table (by_list [] 2) unbroken)
        (header 36) second_octets),
    refl,
  );
}

-- ---- What is stored of the Requests fits their table.

-- The parameters have one part, the number. Four octets of it have come.

has_one : HasParts (tree big_table parameters) 1
unfolding one_message told_with kept_messages
has_one = refl

number_fits : IsFit 23 (part_of (tree big_table parameters) 0)
unfolding one_message told_with kept_messages IsFit
number_fits = tt

number_begun : FitsIn (part_of (tree big_table parameters) 0) []
    (leaf_of big_table (parameters_frame ∷ []) number some_octets [])
unfolding one_message told_with kept_messages some_octets
number_begun = record { same = refl; kind = tt; room = omega arith }

-- the parameters fit, with what was read of them
FitsOne : Ty → Leaf → Type 0
FitsOne T leaf = IsFit 24 T × FitsIn T (part_in T 0 1 ∷ []) leaf × FrameIndexFits None 0 1 T

fits_one : FitsOne (tree big_table parameters)
    (leaf_of big_table (parameters_frame ∷ []) number some_octets [])
unfolding FitsOne
fits_one =
    let leaf = leaf_of big_table (parameters_frame ∷ []) number some_octets [] in
    one_part 23 (tree big_table parameters) leaf has_one number_fits number_begun

known : parameters < length (big_table.types)
unfolding told_with kept_messages
known = ltb-true parameters (length (big_table.types)) refl

is_number : 8 ≡ part_number_in big_table 23 parameters 0
unfolding told_with kept_messages
is_number = refl

below_all : 8 < length (big_table.types)
unfolding told_with kept_messages
below_all = ltb-true 8 (length (big_table.types)) refl

first_fits : decoder.Fits big_table in_body
unfolding FitsOne in_body parameters_frame number some_octets big_table table_of
first_fits = record {
  leaf = number;
  goes_on = refl;
  forbids_wide = refl;
  root = parameters;
  known_root = known;
  link = (refl, is_number);
  fit = fits_one.0;
  here = 52;
  stands = (tt, tt);
  fits = fits_one.1;
  ahead = (tt, tt);
  inside = refl;
  known_outer = (
    record {
      known = known;
      within = λ room. within_in_room big_table 24 room parameters None 0 1 fits_one.2;
    },
    tt,
  );
  known = below_all;
  clean = refl;
  at = omega arith;
  of_root = record {
    id = λ other. refl;
    no_interface = λ other. refl;
    no_key = λ other. tt;
    keyless = λ other. tt;
    interface = tt;
  };
  name = refl;
}

-- ---- The checkpoint.

-- a name for the list of the definitions that are unfolded for the stream's octets
its_parts : ℕ
unfolding first_front some_octets second_octets
its_parts = 0

pub two_open : CheckpointBetweenMessages
unfolding one_message a_stream told_with a_checkpoint kept_messages its_parts
two_open = record {
  layout = Third;
  is_read = refl;
  memory = between;
  entries = first_entry ∷ second_entry ∷ [];
  octets_are = refl;
  allows = (omega arith, omega arith);
  limit = refl;
  entries_are = (
    record {
      range = first_range;
      record_kind = refl;
      number = refl;
      header = refl;
      message = first_held;
    },
    (
      record {
        range = second_range;
        record_kind = refl;
        number = refl;
        header = refl;
        message = second_held;
      },
      tt,
    ),
  );
  stream = are_octets two_requests refl;
  shows = record {
    totals = refl;
    stopped = refl;
    header = refl;
    payload_count = refl;
    slots = record {
      slots = (
        record { number = refl; header = refl; key = refl; message = first_follows },
        (record { number = refl; header = refl; key = refl; message = second_follows }, tt),
      );
      mixed = refl;
      owner = refl;
    };
  };
  ready = record {
    current_ready = tt;
    each_ready = (
      (record { fits = first_fits; version = refl }, omega arith),
      ((omega arith, omega arith), tt),
    );
  };
}
