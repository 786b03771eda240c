-- What a text looks like that is refused as a signature file, and the words that giopcap prints
-- after a fault (docs/FORMATS.md, The program giopcap; meaning).
use Rattle.std.specs.Prelude.{◌≡◌, ◌≢◌, ℕ, ◌-◌, Bool, ◌||◌, List, [], ◌∷◌, length, drop, nat_eq, codes, if◌then◌else◌}
use Rattle.std.specs.List.{starts_with}
use Rattle.std.specs.declared.io.ErrorKind.{ErrorKind}
use Rattle.std.specs.declared.io.ErrorKind.TheVariants as kinds
use Rattle.giop_tokens.specs.Tokens.{octets_left_at_token}
use Rattle.giop_run.specs.declared.reason.Look.{Look}
use Rattle.giop_run.specs.declared.reason.Look.TheVariants as looks
use Rattle.giop_run.specs.declared.reason.Reason.{Reason}
use Rattle.giop_run.specs.declared.reason.Reason.TheVariants as reasons

-- whether a text begins with these octets
unfoldable pub begins_with : (beginning text : List ℕ) → Bool
begins_with octets text = starts_with nat_eq text octets

-- whether a text begins as pcap does, in either byte order, with microseconds or nanoseconds, or as
-- pcapng does
abbrev pub begins_as_capture : (text : List ℕ) → Bool
begins_as_capture text =
    begins_with (0xa1 ∷ 0xb2 ∷ 0xc3 ∷ 0xd4 ∷ []) text || begins_with (0xd4 ∷ 0xc3 ∷ 0xb2 ∷ 0xa1
    ∷ []) text
    || begins_with (0xa1 ∷ 0xb2 ∷ 0x3c ∷ 0x4d ∷ []) text || begins_with (0x4d ∷ 0x3c ∷ 0xb2 ∷ 0xa1
    ∷ []) text
    || begins_with (0x0a ∷ 0x0d ∷ 0x0d ∷ 0x0a ∷ []) text

-- whether a text begins as IDL does, with what no signature file has there
abbrev pub begins_as_idl : (text : List ℕ) → Bool
begins_as_idl text =
    begins_with (codes "#") text || begins_with (codes "/*") text || begins_with (codes "module")
    text
    || begins_with (codes "interface") text || begins_with (codes "typedef") text
    || begins_with (codes "const") text || begins_with (codes "abstract") text
    || begins_with (codes "local") text || begins_with (codes "valuetype") text
    || begins_with (codes "native") text

-- what the text looks like: a capture if it begins as one; else IDL if, after white space and
-- comments, it begins as IDL does
unfoldable pub looks_of : (text : List ℕ) → Look
looks_of text =
    if begins_as_capture text then looks.Capture else
    (if begins_as_idl (drop (length text - octets_left_at_token text) text) then looks.Idl
    else looks.Other)

-- the reason for which a file can't be read, by the kind of the error
pub record HasReason (kind : ErrorKind) (why : Reason) : Type 0 where
  pub file : kind ≡ kinds.NotFound → why ≡ reasons.NoSuchFile
  pub permission : kind ≡ kinds.PermissionDenied → why ≡ reasons.NoPermission
  pub folder : kind ≡ kinds.IsADirectory → why ≡ reasons.Folder
  pub other : kind ≢ kinds.NotFound → kind ≢ kinds.PermissionDenied → kind ≢ kinds.IsADirectory
      → why ≡ reasons.Other

abbrev pub look_words : Look → List ℕ
look_words looks.Capture = codes ": a capture"
look_words looks.Idl = codes ": IDL: omniidl -bgiopdump_signatures"
look_words (looks.Declared name line) = []
look_words looks.Other = []

abbrev pub reason_words : Reason → List ℕ
reason_words reasons.NoSuchFile = codes ": no such file"
reason_words reasons.NoPermission = codes ": no permission"
reason_words reasons.Folder = codes ": a folder"
reason_words reasons.Other = []
