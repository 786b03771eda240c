-- What a run of octets does, if it only adds to one message's contents: what its octets do, one
-- after another (steps).
use Rattle.std.specs.Prelude.{ℕ, suc, List, [], ◌∷◌, Option}
use Rattle.giop_sig.specs.Table.{Table}
use Rattle.giop_message.specs.Signatures.{Answers}
use Rattle.giop_message.specs.ReaderOfTable.{message_reader}
use Rattle.giop_stream.specs.Events.{MessageKey, Takes}
use Rattle.giop_stream.specs.Effects.{Effect, no_effect, then_effect, MessageEffect, no_message_effect, then_message_effect, message_effect, event, effect_to}
use Rattle.giop_stream.specs.Lines.{Kept}
use Rattle.giop_stream.specs.OpenSlots.{Tracked}

-- The octets come after `before` octets of the stream, and are contents of their owner.
unfoldable pub run_effect : (C : Table) (answers : Answers) (stream_octets_before : ℕ)
    (tracked : Tracked) (owner_of_next : Option MessageKey) (payload_octets : List ℕ) → Effect
run_effect C l before c owner_of_next [] = no_effect c
run_effect C l before c owner_of_next (x ∷ xs) =
    let one = effect_to C l (suc before) c owner_of_next (Takes x) in
    then_effect one (run_effect C l (suc before) one.tracked owner_of_next xs)

-- the same for the owner alone, of which `o` is kept, unless it is over
unfoldable pub run_message_effect : (C : Table) (answers : Answers) (stream_octets_before : ℕ)
    (key : MessageKey) (kept : Option Kept) (payload_octets : List ℕ) → MessageEffect
run_message_effect C l before w o [] = no_message_effect o
run_message_effect C l before w o (x ∷ xs) =
    let one = message_effect (message_reader C l) (event (suc before) w (Takes x)) o in
    then_message_effect one (run_message_effect C l (suc before) w one.kept xs)
