-- What is written of a stream that comes in pieces, and of a stream that is read on from its front
-- (meaning).
use Rattle.std.specs.Prelude.{ℕ, List, [], ◌∷◌, ◌++◌}
use Rattle.giop_stream.specs.Rules.{Rules}
use Rattle.giop_stream.specs.Stream.{text, closing}
use Rattle.giop_stream.specs.EngineHolds.{added}

-- what is written of these pieces after the stream: what each piece adds to the text of what comes
-- before it
unfoldable pub fed : (R : Rules) (stream : List ℕ) (pieces : List (List ℕ)) → List ℕ
fed R stream [] = []
fed R stream (piece ∷ pieces) = added R stream piece ++ fed R (stream ++ piece) pieces

-- all that is written of a stream, with its end
unfoldable pub whole_text : (R : Rules) (stream : List ℕ) → List ℕ
whole_text R stream = text R stream ++ closing R stream

-- what is written of a stream after this front, if this rest follows
unfoldable pub remaining : (R : Rules) (front rest : List ℕ) → List ℕ
remaining R front rest = added R front rest ++ closing R (front ++ rest)
