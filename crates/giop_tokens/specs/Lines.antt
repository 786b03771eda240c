-- The line number of a place in a text (docs/FORMATS.md, Signature file; meaning).
use Rattle.std.specs.Prelude.{ℕ, ◌+◌, ◌-◌, List, length, take, max, count_by, ◌==◌}
use Rattle.giop_tokens.specs.declared.fault.TokenError.{TokenError}
use Rattle.giop_tokens.specs.declared.fault.SigFault.{SigFault}
use Rattle.giop_tokens.specs.declared.fault.SigFaultKind.{SigFaultKind}
use Rattle.giop_tokens.specs.declared.fault.SigFaultKind.TheVariants as kinds

-- The line, from 1, of the octet with which the last `left` octets of the text begin, or of the
-- last octet if `left` is 0. A line feed belongs to the line that it ends.
abbrev pub line_at : (text : List ℕ) (octets_left : ℕ) → ℕ
line_at text left = 1 + count_by (λ b. b == 10) (take (length text - max 1 left) text)

-- a refusal of memory has no line, each other one has the line of its place
abbrev pub line_unless_memory : (kind : SigFaultKind) (line : ℕ) → ℕ
line_unless_memory kinds.OutOfMemory line = 0
line_unless_memory kinds.Token line = line
line_unless_memory kinds.Syntax line = line
line_unless_memory kinds.UnknownType line = line
line_unless_memory kinds.Duplicate line = line
line_unless_memory kinds.Limit line = line
line_unless_memory kinds.Depth line = line
line_unless_memory kinds.Label line = line
line_unless_memory kinds.Empty line = line

-- the fault that the caller gets for a refusal
abbrev pub fault_of : (text : List ℕ) (refusal : TokenError) → SigFault
fault_of text r = record { line = line_unless_memory r.kind (line_at text r.left); kind = r.kind }
