-- The words of an entry as contracts see them (state).
use Rattle.std.specs.Prelude.{ℕ, Option}
use Rattle.std.specs.Option.{option_map}
use Rattle.giop_sig.specs.declared.requests.Words.{Words}
use Rattle.giop_sig.specs.RequestList.{Asked}

abbrev pub words_view : (words : Words) → Asked
words_view w = record { name = w.name.now; interface = option_map (λ id. id.now) w.interface }

-- an id, with what all its entries ask for
abbrev pub asked_view : (id_and_words : ℕ × Option Words) → ℕ × Option Asked
asked_view entry = (entry.0, option_map words_view entry.1)
