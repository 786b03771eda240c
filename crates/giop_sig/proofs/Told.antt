-- The line of a refusal is 0 only if memory was refused.
use Rattle.std.proofs.Common.{◌≡◌, ◌↔◌, ℕ, List, refl, arith}
use Rattle.giop_tokens.specs.declared.fault.TokenError.{TokenError}
use Rattle.giop_tokens.specs.declared.fault.SigFault.{SigFault}
use Rattle.giop_tokens.specs.declared.fault.SigFaultKind.{SigFaultKind}
use Rattle.giop_tokens.specs.declared.fault.SigFaultKind.TheVariants as kinds
use Rattle.giop_tokens.specs.Lines.{fault_of}

-- the line is 0 only if memory was refused
abbrev pub HasLineUnlessMemory : (fault : SigFault) → Type 0
HasLineUnlessMemory f = (f.line ≡ 0) ↔ (f.kind ≡ kinds.OutOfMemory)

told : (text : List ℕ) (k : SigFaultKind) (left : ℕ)
    → HasLineUnlessMemory (fault_of text (record { kind = k; left = left }))
told text kinds.OutOfMemory left = (λ e. refl, λ e. refl)
told text _ left = search (arith)

pub has_line : (text : List ℕ) (r : TokenError) (f : SigFault) → f ≡ fault_of text r
    → HasLineUnlessMemory f
has_line text r f is = search (arith, told)
