-- What is read of several signature files that are read as one text (docs/FORMATS.md, Several
-- signature files; meaning).
use Rattle.std.specs.Prelude.{◌≡◌, ℕ, ◌<◌, ◌≤◌, ◌⊎◌, List, [], ◌∷◌, length, map}
use Rattle.std.specs.List.{All, Contains}
use Rattle.giop_sig.specs.Builtin.{builtin_table}
use Rattle.giop_sig.specs.Table.{Table}
use Rattle.giop_sig.specs.FileReading.{text_too_long, IsFirstRefusalUpTo}
use Rattle.giop_tokens.specs.declared.fault.SigFault.{SigFault}
use Rattle.giop_sig_files.specs.declared.places.SignatureText.{SignatureText}
use Rattle.giop_sig_files.specs.Joined.{joined}
use Rattle.giop_sig_files.specs.Places.{place}
use Rattle.giop_sig_files.specs.Names.{DeclareSameName}
use Rattle.giop_run.specs.Looks.{looks_of}
use Rattle.giop_run.specs.Files.{KnownFiles, FileErrors, CannotRead, signatures_most, IsReadToOneOver, Declares}
use Rattle.giop_run.specs.declared.reason.Look.{Look}
use Rattle.giop_run.specs.declared.reason.Look.TheVariants as looks
use Rattle.giop_run.specs.declared.fault.ProgramError.{ProgramError}
use Rattle.giop_run.specs.declared.fault.ProgramError.TheVariants as faults

-- these are the files of these names, each with the text that is read of it
pub record AreRead (held : KnownFiles) (file_names : List (List ℕ))
    (files : List SignatureText) : Type 0
  where
    pub names_are : map (λ f. f.name.now) files ≡ file_names
    pub texts : All (λ f. IsReadToOneOver signatures_most (held f.name.now) f.text.items) files

-- the text that the files are read as: one after another
abbrev pub joint_text : (files : List SignatureText) → List ℕ
joint_text files = joined (map (λ f. f.text.items) files)

-- the catalogue of the signature files of these names, of any version, or of the built-in types if
-- there is no name
abbrev pub CataloguesOf : (held : KnownFiles) (file_names : List (List ℕ)) (C : Table) → Type 0
CataloguesOf held [] C = C ≡ builtin_table
CataloguesOf held (name ∷ names) C =
    (files : List SignatureText) × AreRead held (name ∷ names) files
    × Declares 3 (joint_text files) C

-- What is printed after the refusal of a line in the text of these files together: what the line's
-- file looks like, or which earlier line declares the same name.
abbrev pub IsLookOfRefusal : (first_file : SignatureText) (other_files : List SignatureText)
    (fault_of_joint_text : SigFault)
    (look : Look) → Type 0
IsLookOfRefusal first others fault look =
    (look ≡ looks_of ((place first others fault.line).0.text.items))
    ⊎ ((above : ℕ) × (above < fault.line)
    × DeclareSameName (joint_text (first ∷ others)) above fault.line
    × (look ≡ looks.Declared ((place first others above).0.name) ((place first others above).1)))

-- The text of the files together is refused for this reason. The refusal tells the file and the
-- line that the text's line comes from.
pub record IsRefusal (first_file : SignatureText) (other_files : List SignatureText)
    (fault_of_joint_text told_fault : SigFault) (told_file_name : List ℕ) (told_look : Look)
    : Type 0 where
  pub kind : told_fault.kind ≡ fault_of_joint_text.kind
  pub line : told_fault.line ≡ (place first_file other_files fault_of_joint_text.line).1
  pub named : told_file_name ≡ (place first_file other_files fault_of_joint_text.line).0.name.now
  pub look_is : IsLookOfRefusal first_file other_files fault_of_joint_text told_look
  pub long : signatures_most < length (joint_text (first_file ∷ other_files))
      → fault_of_joint_text ≡ text_too_long
  pub refused : length (joint_text (first_file ∷ other_files)) ≤ signatures_most
      → IsFirstRefusalUpTo 3 (joint_text (first_file ∷ other_files)) fault_of_joint_text

-- the text of these files together is refused
abbrev pub IsRefused : (files : List SignatureText) (told_fault : ProgramError) → Type 0
IsRefused (first ∷ others) (faults.Signatures name why look) =
    (fault : SigFault) × IsRefusal first others fault why name.now look
IsRefused files fault = ⊥

-- one of the files of these names can't be read
abbrev pub IsUnreadable : (refuses : FileErrors) (file_names : List (List ℕ))
    (told_fault : ProgramError) → Type 0
IsUnreadable refuses names (faults.Unreadable name why) =
    Contains names name.now × CannotRead refuses name.now why
IsUnreadable refuses names fault = ⊥

-- why there is no catalogue: there is no memory, or one of the files can't be read, or their text
-- is refused
abbrev pub NoCatalogues : (held : KnownFiles) (refuses : FileErrors) (file_names : List (List ℕ))
    (fault : ProgramError) → Type 0
NoCatalogues held refuses names fault =
    (fault ≡ faults.OutOfMemory) ⊎ IsUnreadable refuses names fault
    ⊎ ((files : List SignatureText) × AreRead held names files × IsRefused files fault)
