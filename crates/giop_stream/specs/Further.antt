-- The current message after more octets of its payload (steps).
use Rattle.std.specs.Prelude.{ℕ, ◌+◌, ◌-◌, ◌^◌, min}
use Rattle.std.proofs.Math.Nat.{le_trans, le-add_right}
use Rattle.giop_stream.specs.declared.current.Current.{Current}

-- after `count` more octets; `payload_count` stays at the greatest number of 32 bits
abbrev pub current_after : (now : Current) (further_payload_octets : ℕ) → Current
current_after now count = record now {
  place = now.place + count;
  payload_count = min (now.payload_count + count) (2 ^ 32 - 1);
  after_header = le_trans now.after_header (le-add_right now.place count);
}
