-- How the result of a function of the code compares with what reading gives (steps).
use Rattle.std.specs.Prelude.{◌≡◌, ℕ, List, Result, Ok, Err}
use Rattle.giop_tokens.specs.declared.fault.TokenError.{TokenError}
use Rattle.giop_tokens.specs.declared.fault.SigFaultKind.{SigFaultKind}
use Rattle.giop_tokens.specs.Tokens.{octets_left_at_token}
use Rattle.giop_sig.specs.declared.parse_stop.ParseError.{ParseError}
use Rattle.giop_sig.specs.declared.parse_stop.ParseError.TheVariants as stops

-- the refusal is that of reading, unless memory was refused
abbrev pub StopsAsRead : {Y : Type 0} (code_error : ParseError)
    (reading_result : Result Y TokenError) → Type 0
StopsAsRead stops.Memory read = Unit {0}
StopsAsRead (stops.Refused r) read = read ≡ Err r

-- what a function answered, as contracts see it, is what reading gives, unless memory was refused
abbrev pub Gives : {X Y : Type 0} (view : X → Y) (code_result : Result X ParseError)
    (reading_result : Result Y TokenError) → Type 0
Gives view (Ok x) read = read ≡ Ok (view x)
Gives view (Err e) read = StopsAsRead e read

-- a refusal at the first token of a text
abbrev pub refused : (kind : SigFaultKind) (text_from_refused_token : List ℕ) → TokenError
refused k text = record { kind = k; left = octets_left_at_token text }
