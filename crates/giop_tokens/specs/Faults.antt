-- Refusals of a signature file (meaning).
use Rattle.giop_tokens.specs.declared.fault.SigFault.{SigFault}
use Rattle.giop_tokens.specs.declared.fault.TokenError.{TokenError}
use Rattle.giop_tokens.specs.declared.fault.SigFaultKind.TheVariants.{OutOfMemory}

-- memory was refused; this fault has no line
abbrev pub no_memory : SigFault
no_memory = record { line = 0; kind = OutOfMemory }

-- the refusal if memory was refused, at place 0
abbrev pub out_of_memory : TokenError
out_of_memory = record { kind = OutOfMemory; left = 0 }
