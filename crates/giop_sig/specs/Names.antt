-- Numbers with a mark that have names: the id of a service context, the tag of a profile, a code
-- set, and the minor code of a system exception (General Inter-ORB Protocol; meaning).
use Rattle.std.specs.Prelude.{ℕ, ◌==◌, ◌/◌, ◌%◌, cond, codes, decimal, List, [], ◌∷◌, ◌++◌, Option, Some, None, slice_get}
use Rattle.std.specs.Option.{option_map}
use Rattle.giop_sig.specs.declared.names.NumberName.{NumberName}

-- the names of the ids of service contexts, from id 0 on (IOP, Standard Service Contexts)
abbrev pub context_names : List (List ℕ)
context_names =
    codes "TransactionService" ∷ codes "CodeSets" ∷ codes "ChainBypassCheck"
    ∷ codes "ChainBypassInfo" ∷ codes "LogicalThreadId" ∷ codes "BI_DIR_IIOP"
    ∷ codes "SendingContextRunTime" ∷ codes "INVOCATION_POLICIES" ∷ codes "FORWARDED_IDENTITY"
    ∷ codes "UnknownExceptionInfo" ∷ codes "RTCorbaPriority" ∷ codes "RTCorbaPriorityRange"
    ∷ codes "FT_GROUP_VERSION" ∷ codes "FT_REQUEST" ∷ codes "ExceptionDetailMessage"
    ∷ codes "SecurityAttributeService" ∷ codes "ActivityService"
    ∷ codes "RMICustomMaxStreamFormat" ∷ []

-- the names of the tags of profiles, from tag 0 on (IOP, Standard IOR Profiles)
abbrev pub profile_names : List (List ℕ)
profile_names =
    codes "TAG_INTERNET_IOP" ∷ codes "TAG_MULTIPLE_COMPONENTS" ∷ codes "TAG_SCCP_IOP"
    ∷ codes "TAG_UIPMC" ∷ []

-- the name of a code set (the OSF registry of character and code sets)
unfoldable pub code_set_name : (osf_registry_number : ℕ) → Option (List ℕ)
code_set_name number =
    cond (number == 0x00010001) (Some (codes "ISO_8859_1"))
    (cond (number == 0x00010020) (Some (codes "ISO_646"))
    (cond (number == 0x00010100) (Some (codes "UCS_2"))
    (cond (number == 0x00010106) (Some (codes "UCS_4"))
    (cond (number == 0x00010109) (Some (codes "UTF_16"))
    (cond (number == 0x05010001) (Some (codes "UTF_8")) None)))))

-- the vendor with these upper 20 bits of minor codes (IDL to wire mapping, Minor Code Allocation)
unfoldable pub vendor_name : (minor_code_upper_20_bits : ℕ) → Option (List ℕ)
vendor_name number =
    cond (number == 0x4f4d0) (Some (codes "OMG"))
    (cond (number == 0x41540) (Some (codes "omniORB"))
    (cond (number == 0x54410) (Some (codes "TAO")) None))

-- the name of a minor code: its vendor, and its lower 12 bits as the vendor's code
abbrev pub minor_name : (minor_code : ℕ) → Option (List ℕ)
minor_name number =
    option_map (λ vendor. vendor ++ (codes " " ++ decimal (number % 4096)))
    (vendor_name (number / 4096))

-- the name of a number with this mark: mark 3 is that of the ids of service contexts, 4 of the tags
-- of profiles, 5 of code sets, and 6 of minor codes; kinds and bounds of TypeCodes have no names
unfoldable pub marked_name : (mark marked_number : ℕ) → Option (List ℕ)
marked_name mark number =
    cond (mark == 3) (slice_get context_names number)
    (cond (mark == 4) (slice_get profile_names number)
    (cond (mark == 5) (code_set_name number) (cond (mark == 6) (minor_name number) None)))

-- a word as it is written, and then the code if there is one
abbrev pub text_with_code : (word : List ℕ) (code_after_space : Option ℕ) → List ℕ
text_with_code word None = word
text_with_code word (Some code) = word ++ (codes " " ++ decimal code)

-- a name as it is written
abbrev pub name_text : (name : NumberName) → List ℕ
name_text name = text_with_code name.word.now name.code
