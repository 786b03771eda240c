-- What a run takes from the files that the arguments name (meaning). `held` tells what the file of
-- a name holds, if that is known. A name is its text, or None if there is no file.
use Rattle.std.specs.Prelude.{◌≡◌, ℕ, ◌<◌, ◌≤◌, Bool, if◌then◌else◌, List, [], length, take, Option, None, Some, IfSome, ◌⊎◌}
use Rattle.giop_print.specs.Output.{saturating_next}
use Rattle.giop_sig.specs.Builtin.{builtin_table}
use Rattle.giop_sig.specs.Grammar.{SignatureFile}
use Rattle.giop_sig.specs.Scopes.{table}
use Rattle.giop_sig.specs.Table.{Table, asked_number}
use Rattle.giop_sig.specs.FileReading.{text_too_long, IsFirstRefusalUpTo}
use Rattle.giop_sig.specs.Validity.{IsValid, SpellsUpTo}
use Rattle.giop_sig.specs.RequestList.{Entry, Lists, AgreesWithList, IsRefusedAs, allows_third_word}
use Rattle.giop_message.specs.Signatures.{RequestTable}
use Rattle.giop_checkpoint.specs.declared.fixed.Counts.{Counts}
use Rattle.giop_checkpoint.specs.Refusals.{PassesUpToCounts}
use Rattle.giop_stream.specs.Checkpoint.{counts_of, IsRefused, Spells}
use Rattle.giop_run.specs.Looks.{looks_of, HasReason}
use Rattle.giop_run.specs.Running.{RunSetup}
use Rattle.giop_run.specs.declared.running.Ending.{Ending}
use Rattle.giop_run.specs.declared.running.Ending.TheVariants as endings
use Rattle.giop_run.specs.declared.reason.Reason.{Reason}
use Rattle.std.specs.declared.io.ErrorKind.{ErrorKind}
use Rattle.giop_run.specs.declared.fault.ProgramError.{ProgramError}
use Rattle.giop_run.specs.declared.fault.ProgramError.TheVariants as faults

-- what the file of a name holds, if that is known
abbrev pub KnownFiles : Type 0
KnownFiles = List ℕ → Option (List ℕ)

-- the errors for which the file of a name can't be opened or read
abbrev pub FileErrors : Type 1
FileErrors = List ℕ → ErrorKind → Type 0

-- The file of a name can't be read, and this is the reason.
abbrev pub CannotRead : (refuses : FileErrors) (name : List ℕ) (why : Reason) → Type 0
CannotRead refuses name why = (kind : ErrorKind) × refuses name kind × HasReason kind why

-- the text is what is read of a file that may have at most `most` octets: all of it, or its first
-- `most` + 1 octets
abbrev pub IsReadToOneOver : (most_octets : ℕ) (file_octets : Option (List ℕ))
    (text_read : List ℕ) → Type 0
IsReadToOneOver most held text = IfSome held (λ octets. text ≡ take (saturating_next most) octets)

-- the greatest sizes, in octets, of a signature file, of a request list and of a checkpoint
abbrev pub signatures_most : ℕ
signatures_most = 1048576

abbrev pub requests_most : ℕ
requests_most = 16777216

abbrev pub checkpoint_most : ℕ
checkpoint_most = 3408800

-- the latest version of signature files that is read: the third if `version_3` says so, else the
-- second
abbrev pub latest_version : (version_3 : Bool) → ℕ
latest_version version_3 = if version_3 then 3 else 2

-- the text is a valid signature file of a version up to the latest, and C is its table
pub record Declares (latest_version : ℕ) (text : List ℕ) (C : Table) : Type 0 where
  pub file : SignatureFile
  pub spelled : SpellsUpTo latest_version text file
  pub valid : IsValid file
  pub is : C ≡ table file

-- the text is a request list for a catalogue, and the request table is that of the list for the
-- catalogue's operations
pub record ListsRequests (text : List ℕ) (C : Table) (request_table : RequestTable) : Type 0 where
  pub entries : List Entry
  pub lists : Lists (allows_third_word C) text entries
  pub is : AgreesWithList (asked_number C) entries request_table

-- the catalogue of the signature file, or of the built-in types if there is no file
abbrev pub CatalogueOf : (held : KnownFiles) (latest_version : ℕ)
    (signature_file_name : Option (List ℕ)) (C : Table) → Type 0
CatalogueOf held latest_version None C = C ≡ builtin_table
CatalogueOf held latest_version (Some name) C =
    (text : List ℕ) × IsReadToOneOver signatures_most (held name) text × Declares latest_version
    text C

-- the request table of the request file, or the empty table if there is no file
abbrev pub RequestsOf : (held : KnownFiles) (request_file_name : Option (List ℕ)) (C : Table)
    (request_table : RequestTable) →
    Type 0
RequestsOf held None C kept = kept ≡ []
RequestsOf held (Some name) C kept =
    (text : List ℕ) × IsReadToOneOver requests_most (held name) text × ListsRequests text C kept

-- If there is a checkpoint file, `Is` holds of each stream that the file's octets are a checkpoint
-- of, with its number of open messages. If there is no file, `Is` holds of the empty stream, with
-- the number that the arguments ask for.
abbrev pub HoldsOfResumed : (held : KnownFiles) (checkpoint_file_name : Option (List ℕ))
    (most_open_for_new_stream : ℕ) (C : Table) (request_table : RequestTable)
    (HoldsOfMostAndStream : ℕ → List ℕ → Type 0) → Type 0
HoldsOfResumed held None most C kept Is = Is most []
HoldsOfResumed held (Some name) most C kept Is =
    (octets : List ℕ) × IsReadToOneOver checkpoint_most (held name) octets
    × PassesUpToCounts (counts_of C kept) octets
    × ((n : ℕ) (p : List ℕ) → Spells octets C kept n p → Is n p)

-- the octets of the stream: those of the file, or those of standard input if there is no file
abbrev pub stream_octets : (held : KnownFiles) (standard_input stream_file_name : Option (List ℕ)) →
    Option (List ℕ)
stream_octets held given None = given
stream_octets held given (Some name) = held name

-- why there is no catalogue: there is no memory, or the signature file can't be read, or it is
-- refused; the fault has the file's name, and tells what its text looks like
abbrev pub NoCatalogue : (held : KnownFiles) (refuses : FileErrors) (latest_version : ℕ)
    (signature_file_name : Option (List ℕ))
    (fault : ProgramError) → Type 0
NoCatalogue held refuses latest_version asked (faults.Signatures name why look) =
    (asked ≡ Some name.now)
    × ((text : List ℕ) × IsReadToOneOver signatures_most (held name.now) text
    × (look ≡ looks_of text)
    × (signatures_most < length text → why ≡ text_too_long)
    × (length text ≤ signatures_most → IsFirstRefusalUpTo latest_version text why))
NoCatalogue held refuses latest_version asked (faults.Unreadable name why) =
    (asked ≡ Some name.now) × CannotRead refuses name.now why
NoCatalogue held refuses latest_version asked faults.OutOfMemory = Unit {0}
NoCatalogue held refuses latest_version asked faults.Words = ⊥
NoCatalogue held refuses latest_version asked (faults.Requests name why) = ⊥
NoCatalogue held refuses latest_version asked (faults.Checkpoint name why) = ⊥
NoCatalogue held refuses latest_version asked (faults.Unwritable name) = ⊥
NoCatalogue held refuses latest_version asked (faults.Run why) = ⊥

-- why there is no request list for a catalogue: there is no memory, or the request file can't be
-- read, or it is refused; the fault has the file's name
abbrev pub NoRequests : (held : KnownFiles) (refuses : FileErrors) (C : Table)
    (request_file_name : Option (List ℕ))
    (fault : ProgramError) → Type 0
NoRequests held refuses C asked (faults.Requests name why) =
    (asked ≡ Some name.now)
    × ((text : List ℕ) × IsReadToOneOver requests_most (held name.now) text
    × IsRefusedAs (allows_third_word C) text why.line why.kind)
NoRequests held refuses C asked (faults.Unreadable name why) =
    (asked ≡ Some name.now) × CannotRead refuses name.now why
NoRequests held refuses C asked faults.OutOfMemory = Unit {0}
NoRequests held refuses C asked faults.Words = ⊥
NoRequests held refuses C asked (faults.Signatures name why look) = ⊥
NoRequests held refuses C asked (faults.Checkpoint name why) = ⊥
NoRequests held refuses C asked (faults.Unwritable name) = ⊥
NoRequests held refuses C asked (faults.Run why) = ⊥

-- why no checkpoint is loaded: there is no memory, or its file can't be read, or it is refused; the
-- fault has the file's name
abbrev pub NoCheckpoint : (held : KnownFiles) (refuses : FileErrors)
    (checkpoint_file_name : Option (List ℕ)) (counts : Counts) (fault : ProgramError) → Type 0
NoCheckpoint held refuses asked counts (faults.Checkpoint name why) =
    (asked ≡ Some name.now)
    × ((octets : List ℕ) × IsReadToOneOver checkpoint_most (held name.now) octets
    × IsRefused counts octets why)
NoCheckpoint held refuses asked counts (faults.Unreadable name why) =
    (asked ≡ Some name.now) × CannotRead refuses name.now why
NoCheckpoint held refuses asked counts faults.OutOfMemory = Unit {0}
NoCheckpoint held refuses asked counts faults.Words = ⊥
NoCheckpoint held refuses asked counts (faults.Signatures name why look) = ⊥
NoCheckpoint held refuses asked counts (faults.Requests name why) = ⊥
NoCheckpoint held refuses asked counts (faults.Unwritable name) = ⊥
NoCheckpoint held refuses asked counts (faults.Run why) = ⊥

-- why the stream isn't opened: there is no memory, or its file can't be opened; the fault has the
-- file's name
abbrev pub NoStream : (refuses : FileErrors) (stream_file_name : Option (List ℕ))
    (fault : ProgramError) → Type 0
NoStream refuses asked (faults.Unreadable name why) =
    (asked ≡ Some name.now) × CannotRead refuses name.now why
NoStream refuses asked faults.OutOfMemory = Unit {0}
NoStream refuses asked faults.Words = ⊥
NoStream refuses asked (faults.Signatures name why look) = ⊥
NoStream refuses asked (faults.Requests name why) = ⊥
NoStream refuses asked (faults.Checkpoint name why) = ⊥
NoStream refuses asked (faults.Unwritable name) = ⊥
NoStream refuses asked (faults.Run why) = ⊥

-- what the arguments ask for: the names of the files, the latest version that the signature file
-- may have, and the number of open messages for a new stream
pub record Asked : Type 0 where
  pub signatures : Option (List ℕ)
  pub latest_version : ℕ
  pub requests : Option (List ℕ)
  pub resume : Option (List ℕ)
  pub save : Option (List ℕ)
  pub most : ℕ
  pub stream : Option (List ℕ)

-- how a run ends: its engine is kept if the arguments name a file to save
abbrev pub ending_by_save : (save_file_name : Option (List ℕ)) → Ending
ending_by_save None = endings.Finish
ending_by_save (Some name) = endings.Keep

-- the setup of a run: its tables, the number of messages that may be open, and how it ends
abbrev pub setup_by : (C : Table) (request_table : RequestTable) (most_open_messages : ℕ)
    (asked : Asked) → RunSetup
setup_by C kept count asked =
    record { table = C; request_table = kept; most = count; ending = ending_by_save asked.save }

-- the catalogue and the request table are those of the files
pub record ReadsBy (held : KnownFiles) (asked : Asked) (C : Table)
    (request_table : RequestTable) : Type 0 where
  pub catalogue : CatalogueOf held asked.latest_version asked.signatures C
  pub requests : RequestsOf held asked.requests C request_table

-- a step before the run failed for this reason; the steps before it succeeded
abbrev pub StepFailed : (held : KnownFiles) (refuses : FileErrors) (asked : Asked)
    (fault : ProgramError) → Type 0
StepFailed held refuses asked fault =
    NoCatalogue held refuses asked.latest_version asked.signatures fault
    ⊎ ((C : Table) × CatalogueOf held asked.latest_version asked.signatures C
    × NoRequests held refuses C asked.requests fault)
    ⊎ ((C : Table) × (kept : RequestTable) × ReadsBy held asked C kept
    × (NoCheckpoint held refuses asked.resume (counts_of C kept) fault
    ⊎ NoStream refuses asked.stream fault))
