-- How a worked stream is written down: its octets in hexadecimal digits, its lines, and the types
-- and requests by which it is read (meaning).
use Rattle.std.specs.Prelude.{◌≡◌, ℕ, ◌+◌, ◌-◌, ◌*◌, ◌==◌, nat_lt, if◌then◌else◌, List, [], ◌∷◌, ◌++◌, length, Some, None, codes, false}
use Rattle.giop_sig.specs.Heard.{first_fronts}
use Rattle.giop_sig.specs.Interfaces.{no_interfaces}
use Rattle.giop_sig.specs.Table.{Node, members, Operation, Exception, Table, op_id, operation_key, asked_number}
use Rattle.giop_sig.specs.AnyTypes.{first_types}
use Rattle.giop_sig.specs.Builtin.{builtin_types, member}
use Rattle.giop_sig.specs.Grammar.{SignatureFile}
use Rattle.giop_sig.specs.Scopes.{table}
use Rattle.giop_sig.specs.Validity.{IsValid, SpellsUpTo}
use Rattle.giop_sig.specs.RequestList.{Entry, AgreesWithList}
use Rattle.giop_message.specs.Signatures.{RequestTable}
use Rattle.giop_stream.specs.Rules.{Rules, rules, most_open}
use Rattle.giop_stream.specs.Stream.{text, closing}

-- ---- The octets and the lines.

unfoldable pub digit : (character : ℕ) → ℕ
digit character = if nat_lt character 58 then character - 48 else character - 87

-- the octets that hexadecimal digits give, with spaces between octets
unfoldable pub hex_octets : (text : List ℕ) → List ℕ
hex_octets [] = []
hex_octets (a ∷ []) = []
hex_octets (a ∷ (b ∷ more)) = if a == 32 then hex_octets (b ∷ more) else (16 * digit a + digit b)
    ∷ hex_octets
    more

unfoldable pub hex_stream : (parts : List (List ℕ)) → List ℕ
hex_stream [] = []
hex_stream (part ∷ parts) = hex_octets part ++ hex_stream parts

-- the octets of lines, each with its line feed
unfoldable pub with_line_feeds : (lines : List (List ℕ)) → List ℕ
with_line_feeds [] = []
with_line_feeds (line ∷ lines) = line ++ 10 ∷ with_line_feeds lines

-- What is written of this stream, and at its end.
pub record Row (R : Rules) (p : List ℕ) (lines end : List (List ℕ)) : Type 0 where
  pub text : text R p ≡ with_line_feeds lines
  pub closing : closing R p ≡ with_line_feeds end

-- ---- The types and requests by which the streams are read.

unfoldable pub read_by : Table → RequestTable → Rules
read_by table requests = rules table requests most_open

-- an operation with the structs of its parameters and of its results, which follow each other in
-- the table. `request` is the number of the first struct, counted from the first type after the
-- built-in ones
unfoldable pub operation_of_structs : (name : List ℕ) (request : ℕ) → Operation
operation_of_structs name request = record {
  key = operation_key 0 name;
  request = length builtin_types + request;
  reply = length builtin_types + request + 1;
}

-- the table of the built-in types, of these types after them, and of these operations and
-- exceptions
unfoldable pub table_of : (types : List Node) (operations : List Operation)
    (exceptions : List Exception) → Table
table_of types operations exceptions = record {
  version = 1;
  types = builtin_types ++ types;
  operations =
      operations;
  exceptions = exceptions;
  declared = 0;
  called = length operations;
  interfaces = no_interfaces;
  identities = [];
  fronts = first_fronts;
  forbids_wide = false;
}

-- the table without declarations
unfoldable pub builtin : Table
builtin = table_of [] [] []

-- The text of a signature file of a version up to this one, and its table: the text spells a valid
-- file, and this is the table of the file.
pub record IsTableUpTo (latest : ℕ) (text : List ℕ) (t : Table) : Type 0 where
  pub file : SignatureFile
  pub spells : SpellsUpTo latest text file
  pub valid : IsValid file
  pub table : t ≡ table file

abbrev pub IsTableOf : (text : List ℕ) (t : Table) → Type 0
IsTableOf text t = IsTableUpTo 2 text t

unfoldable pub put_file_text : List ℕ
put_file_text = codes "signatures 1; operation void put(in double d);"

-- the table of this text
unfoldable pub put_table : Table
put_table = table_of (members (member (codes "d") 10 ∷ []) ∷ members [] ∷ [])
    (operation_of_structs (codes "put") 0 ∷ []) []

unfoldable pub big_file_text : List ℕ
big_file_text = codes "signatures 1; operation void big(in ulonglong n); operation void nop();"

-- the table of this text
unfoldable pub big_table : Table
big_table = table_of
    (members (member (codes "n") 8 ∷ []) ∷ members [] ∷ members [] ∷ members [] ∷ [])
    (operation_of_structs (codes "big") 0 ∷ operation_of_structs (codes "nop") 2 ∷ [])
    []

unfoldable pub tri_file_text : List ℕ
tri_file_text = codes "signatures 3; operation void tri(in ulong a, in ulonglong n);"

-- the table of this text, by which Fragments of 1.1 are joined
unfoldable pub tri_table : Table
tri_table =
    let first = length (first_types 3) in
    record (table_of [] [] []) {
      version = 3;
      types = first_types 3 ++ members (member (codes "a") 6 ∷ member (codes "n") 8 ∷ [])
          ∷ members [] ∷ [];
      operations = record {
        key = operation_key 0 (codes "tri");
        request = first;
        reply = first + 1;
      } ∷ [];
      called = 1;
    }

-- the exception that the next text declares
unfoldable pub late_exception : Exception
late_exception = record { repository = codes "IDL:Late:1.0"; members = length builtin_types }

unfoldable pub ask_file_text : List ℕ
ask_file_text =
    codes
    "signatures 1; exception Late \"IDL:Late:1.0\" { ushort by; }; operation long ask(in long a, out octet b); operation void nop();"

-- the table of this text
unfoldable pub ask_table : Table
ask_table = table_of
    (members (member (codes "by") 4 ∷ [])
    ∷ members (member (codes "a") 5 ∷ [])
    ∷ members (member (codes "return") 5 ∷ member (codes "b") 0 ∷ [])
    ∷ members []
    ∷ members []
    ∷ [])
    (operation_of_structs (codes "ask") 1 ∷ operation_of_structs (codes "nop") 3 ∷ [])
    (late_exception ∷ [])

unfoldable pub request_entry : (id : ℕ) (name : List ℕ) → Entry
request_entry id name = record { id = id; asked = record { name = name; interface = None } }

-- the request list `1 ask, 1 ask, 2 nop, 2 ask`
unfoldable pub request_entries : List Entry
request_entries = request_entry 1 (codes "ask") ∷ request_entry 1 (codes "ask") ∷ request_entry 2
    (codes "nop") ∷ request_entry 2
    (codes "ask") ∷ []

-- the request table of this list: it has the one operation of the first id, and none of the second
-- id, which has two
unfoldable pub ask_requests : RequestTable
ask_requests = (1, Some (op_id 0)) ∷ (2, None) ∷ []

-- with these declarations, the request table gives the operations that the list gives
abbrev pub IsTableOfEntries : Type 0
IsTableOfEntries = AgreesWithList (asked_number ask_table) request_entries ask_requests
