-- When declarations are valid (docs/FORMATS.md, Signature file): there is one rule for each kind of
-- refusal (meaning). The rule of a kind asks something of the names, sizes, lists and labels of a
-- declaration. If no case below has the kind, it asks nothing.
use Rattle.std.specs.Prelude.{◌≡◌, ◌⊎◌, ℕ, ◌+◌, ◌^◌, ◌<◌, ◌≤◌, ◌==◌, Bool, true, false, List, [], ◌∷◌, ◌++◌, length, map, not, ◌||◌, position, Option, Some, None}
use Rattle.std.specs.List.{list_any}
use Rattle.std.specs.Map.{lookup}
use Rattle.std.specs.Option.{is_some}
use Rattle.std.specs.Str.{bytes_eq}
use mathlib.Core.Bool.{beq}
use Rattle.giop_cdr.specs.declared.prim.Primitive.TheVariants as prims
use Rattle.giop_cdr.specs.declared.number.Number.{Number}
use Rattle.giop_tokens.specs.declared.fault.SigFaultKind.{SigFaultKind}
use Rattle.giop_tokens.specs.declared.fault.SigFaultKind.TheVariants as kinds
use Rattle.giop_tokens.specs.Names.{is_reserved}
use Rattle.giop_tokens.specs.Tokens.{AreTokens}
use Rattle.giop_sig.specs.declared.announced.TypeWord.{TypeWord}
use Rattle.giop_sig.specs.declared.announced.TypeWord.TheVariants as type_words
use Rattle.giop_sig.specs.Interfaces.{Interfaces, is_key, number_of, of_text}
use Rattle.giop_sig.specs.Table.{Part, Node, Table, node_at, operation_key, operation_number_of_key, with_operation_in_interface, exception_in, identified_in}
use Rattle.giop_sig.specs.Table as nodes
use Rattle.giop_sig.specs.Trees.{depth_of}
use Rattle.giop_sig.specs.Grammar.{TypeExpr, Base, Text, Reference, AnyType, CodeType, WideChar, WideText, Named, SequenceOf, EncapsulationOf, Item, Value, Plain, Below, Truth, Enumerator, Label, Default, Of, UnionCase, Param, Declaration, Enumeration, Structure, DeclaredUnion, Announcement, DeclaredException, Call, KeyOf, SignatureFile, is_version, spell_file}
use Rattle.giop_sig.specs.Scopes.{Names, Announced, announced_as, type_named, last_scope, types_of_announced, has_encapsulations, is_version_3, Scope, AddedType, first_scope, AddedParameters, add_struct_type, add_params, add_return, add_type, label_number, labels_of, declare, scope_after}

abbrev pub FaultKind : Type 0
FaultKind = SigFaultKind

-- ---- names and sizes

-- a name is no reserved word; `third` says whether the file has version 3
abbrev pub IsNotReserved : (version_3 : Bool) (name : List ℕ) → Type 0
IsNotReserved third name = is_reserved third name ≡ false

-- a name that is used as a type, perhaps as that of a sequence's elements
abbrev pub OfTypeName : (checked_rule : FaultKind) (is_sequence_element : Bool) (names : Names)
    (name : List ℕ) → Type 0
OfTypeName kinds.Syntax element names name = IsNotReserved (is_version_3 names) name
OfTypeName kinds.Limit element names name = length name ≤ 64
OfTypeName kinds.UnknownType element names name = (i : ℕ) × (type_named element names name ≡ Some i)
OfTypeName k element names name = Unit {0}

-- a bound, or the length of an array
abbrev pub OfSize : (checked_rule : FaultKind) (size : ℕ) → Type 0
OfSize kinds.Empty size = 0 < size
OfSize kinds.Limit size = size < 2 ^ 32
OfSize k size = Unit {0}

abbrev pub OfBound : (checked_rule : FaultKind) (bound : Option ℕ) → Type 0
OfBound k None = Unit {0}
OfBound k (Some bound) = OfSize k bound

abbrev pub is_among : (seen_names : List (List ℕ)) (name : List ℕ) → Bool
is_among seen name = list_any (λ n. bytes_eq n name) seen

-- a name that isn't in `seen`, which may have `most` names
abbrev pub OfNewName : (checked_rule : FaultKind) (version_3 : Bool) (most_names : ℕ)
    (seen_names : List (List ℕ)) (name : List ℕ) → Type 0
OfNewName kinds.Syntax third most seen name = IsNotReserved third name
OfNewName kinds.Limit third most seen name = (length name ≤ 64) × (length seen < most)
OfNewName kinds.Duplicate third most seen name = is_among seen name ≡ false
OfNewName k third most seen name = Unit {0}

-- a list that isn't empty
abbrev pub OfNonEmpty : {X : Type 0} (checked_rule : FaultKind) (list : List X) → Type 0
OfNonEmpty kinds.Empty [] = ⊥
OfNonEmpty k list = Unit {0}

-- ---- types and items

-- only files of version 2 or later have encapsulations
abbrev pub OfVersion2 : (checked_rule : FaultKind) (names : Names) → Type 0
OfVersion2 kinds.Syntax names = has_encapsulations names ≡ true
OfVersion2 k names = Unit {0}

-- only files of version 3 have interfaces, anys, TypeCodes, wide text, arrays of arrays and
-- announcements
abbrev pub OfVersion3 : (checked_rule : FaultKind) (names : Names) → Type 0
OfVersion3 kinds.Syntax names = is_version_3 names ≡ true
OfVersion3 k names = Unit {0}

-- a type, perhaps that of a sequence's elements
unfoldable pub OfType : (checked_rule : FaultKind) (is_sequence_element : Bool) (names : Names)
    (type : TypeExpr) → Type 0
OfType k element names (Base p) = Unit {0}
OfType k element names (Text bound) = OfBound k bound
OfType k element names Reference = Unit {0}
OfType k element names AnyType = OfVersion3 k names
OfType k element names CodeType = OfVersion3 k names
OfType k element names WideChar = OfVersion3 k names
OfType k element names (WideText bound) = OfVersion3 k names × OfBound k bound
OfType k element names (Named w) = OfTypeName k element names w
OfType k element names (SequenceOf e bound) = OfType k true names e × OfBound k bound
OfType k element names (EncapsulationOf e) = OfVersion2 k names × OfType k false names e

abbrev pub OfSizes : (checked_rule : FaultKind) (sizes : List ℕ) → Type 0
OfSizes k [] = Unit {0}
OfSizes k (n ∷ ns) = OfSize k n × OfSizes k ns

-- the lengths after the first
abbrev pub OfInnerLengths : (checked_rule : FaultKind) (names : Names) (lengths : List ℕ) → Type 0
OfInnerLengths k names [] = Unit {0}
OfInnerLengths k names (n ∷ ns) = OfVersion3 k names

-- the lengths of arrays of arrays
abbrev pub OfLengths : (checked_rule : FaultKind) (names : Names) (lengths : List ℕ) → Type 0
OfLengths k names [] = Unit {0}
OfLengths k names (n ∷ ns) = OfInnerLengths k names ns × OfSizes k (n ∷ ns)

abbrev pub OfItem : (checked_rule : FaultKind) (names : Names) (most_names : ℕ)
    (seen_names : List (List ℕ)) (item : Item) → Type 0
OfItem k names most seen i =
    OfType k false names i.type × OfNewName k (is_version_3 names) most seen i.name
    × OfLengths k names i.lengths

-- items whose names aren't in `seen`
unfoldable pub OfItems : (checked_rule : FaultKind) (names : Names) (most_names : ℕ)
    (seen_names : List (List ℕ)) (items : List Item) → Type 0
OfItems k names most seen [] = Unit {0}
OfItems k names most seen (i ∷ is) =
    OfItem k names most seen i × OfItems k names most (seen ++ i.name ∷ []) is

-- enumerators that aren't in `seen`
unfoldable pub OfNames : (checked_rule : FaultKind) (version_3 : Bool)
    (seen_enumerators enumerators : List (List ℕ)) → Type 0
OfNames k third seen [] = Unit {0}
OfNames k third seen (n ∷ ns) =
    OfNewName k third 1024 seen n × OfNames k third (seen ++ n ∷ []) ns

-- ---- unions

-- a type that a discriminator may have
abbrev pub IsDiscriminator : (node : Node) → Type 0
IsDiscriminator (nodes.prim prims.Octet) = ⊥
IsDiscriminator (nodes.prim prims.Float) = ⊥
IsDiscriminator (nodes.prim prims.Double) = ⊥
IsDiscriminator (nodes.prim p) = Unit {0}
IsDiscriminator (nodes.enumeration names) = Unit {0}
IsDiscriminator node = ⊥

abbrev pub OfDiscriminator : (checked_rule : FaultKind) (discriminator_node : Node) → Type 0
OfDiscriminator kinds.Label node = IsDiscriminator node
OfDiscriminator k node = Unit {0}

-- the name of an enumerator in a label
abbrev pub OfEnumerator : (checked_rule : FaultKind) (version_3 : Bool) (name : List ℕ) → Type 0
OfEnumerator kinds.Syntax third name = IsNotReserved third name
OfEnumerator kinds.Limit third name = length name ≤ 64
OfEnumerator k third name = Unit {0}

-- a value of the discriminator's type
abbrev pub OfLabelFit : (checked_rule : FaultKind) (discriminator_node : Node) (label_value : Value)
    → Type 0
OfLabelFit kinds.Label node v = (n : Number) × (label_number node v ≡ Some n)
OfLabelFit k node v = Unit {0}

abbrev pub OfValueName : (checked_rule : FaultKind) (version_3 : Bool) (label_value : Value) →
    Type 0
OfValueName k third (Plain n) = Unit {0}
OfValueName k third (Below n) = Unit {0}
OfValueName k third (Truth b) = Unit {0}
OfValueName k third (Enumerator w) = OfEnumerator k third w

abbrev pub OfLabelValue : (checked_rule : FaultKind) (version_3 : Bool) (discriminator_node : Node)
    (label : Label) → Type 0
OfLabelValue k third node Default = Unit {0}
OfLabelValue k third node (Of v) = OfValueName k third v × OfLabelFit k node v

abbrev pub same_value : (one other : Value) → Bool
same_value (Plain m) (Plain n) = m == n
same_value (Below m) (Below n) = m == n
same_value (Truth a) (Truth b) = beq a b
same_value (Enumerator v) (Enumerator w) = bytes_eq v w
same_value _ _ = false

abbrev pub same_label : (one other : Label) → Bool
same_label Default Default = true
same_label (Of v) (Of w) = same_value v w
same_label _ _ = false

-- a label that isn't among those of its union
abbrev pub OfNewLabel : (checked_rule : FaultKind) (seen_labels : List Label) (label : Label) →
    Type 0
OfNewLabel kinds.Limit seen l = length seen < 1024
OfNewLabel kinds.Duplicate seen l = list_any (same_label l) seen ≡ false
OfNewLabel k seen l = Unit {0}

abbrev pub OfLabel : (checked_rule : FaultKind) (version_3 : Bool) (discriminator_node : Node)
    (seen_labels : List Label) (label : Label) → Type 0
OfLabel k third node seen l = OfLabelValue k third node l × OfNewLabel k seen l

unfoldable pub OfLabels : (checked_rule : FaultKind) (version_3 : Bool) (discriminator_node : Node)
    (seen_labels labels : List Label) → Type 0
OfLabels k third node seen [] = Unit {0}
OfLabels k third node seen (l ∷ ls) =
    OfLabel k third node seen l × OfLabels k third node (seen ++ l ∷ []) ls

-- cases whose labels and names are new
unfoldable pub OfCases : (checked_rule : FaultKind) (names : Names) (discriminator_node : Node)
    (seen_labels : List Label) (seen_names : List (List ℕ)) (cases : List UnionCase) → Type 0
OfCases k names node labels seen [] = Unit {0}
OfCases k names node labels seen (c ∷ cs) =
    OfLabels k (is_version_3 names) node labels (labels_of c) × OfItem k names 256 seen c.item
    × OfCases k names node (labels ++ labels_of c) (seen ++ c.item.name ∷ []) cs

-- the node of a discriminator's type
abbrev pub added_node : (added_type : AddedType) → Node
added_node p = node_at (p.0).table p.1

-- ---- declarations

abbrev pub same_word : (first_word : Option TypeWord) (announced_word : TypeWord) → Bool
same_word (Some type_words.Struct) type_words.Struct = true
same_word (Some type_words.Union) type_words.Union = true
same_word word announced = false

-- whether a declaration can be of a name that is announced like this; `word` is its first word, if
-- that is a struct's or a union's
abbrev pub matches_announcement : (first_word : Option TypeWord) (announced : Option Announced) →
    Bool
matches_announcement word None = true
matches_announcement word (Some a) = same_word word a.word

-- whether a name is declared, or announced with another word
abbrev pub is_name_taken : (names : Names) (first_word : Option TypeWord) (name : List ℕ) → Bool
is_name_taken names word name =
    is_some (lookup (bytes_eq name) names.known) || not
    (matches_announcement word (announced_as names name))

-- The new name of an enum, struct, union or exception. The scope has `count` of these, and `word`
-- is the first word of a struct or union.
abbrev pub OfDeclaredName : (checked_rule : FaultKind) (scope : Scope)
    (first_word : Option TypeWord) (declared_count : ℕ) (name : List ℕ) → Type 0
OfDeclaredName kinds.Syntax s word count name = IsNotReserved (is_version_3 s.names) name
OfDeclaredName kinds.Limit s word count name = (length name ≤ 64) × (count < 4096)
OfDeclaredName kinds.Duplicate s word count name = is_name_taken s.names word name ≡ false
OfDeclaredName k s word count name = Unit {0}

-- a name that is not announced yet
abbrev pub OfAnnouncedName : (checked_rule : FaultKind) (names : Names) (name : List ℕ) → Type 0
OfAnnouncedName kinds.Duplicate names name = is_some (announced_as names name) ≡ false
OfAnnouncedName k names name = Unit {0}

-- the repository id of an exception
abbrev pub OfExceptionId : (checked_rule : FaultKind) (scope : Scope) (repository_id : List ℕ) →
    Type 0
OfExceptionId kinds.Limit s id = length id ≤ 128
OfExceptionId kinds.Duplicate s id = exception_in s.table id ≡ None
OfExceptionId k s id = Unit {0}

-- the repository id of an enum, struct or union; only those in a file of version 3 have one
abbrev pub OfTypeId : (checked_rule : FaultKind) (scope : Scope) (repository_id : List ℕ) → Type 0
OfTypeId kinds.Syntax s id = is_version_3 s.names ≡ true
OfTypeId kinds.Limit s id = length id ≤ 128
OfTypeId kinds.Duplicate s id = identified_in s.table id ≡ None
OfTypeId k s id = Unit {0}

abbrev pub OfIdentity : (checked_rule : FaultKind) (scope : Scope) (repository_id : Option (List ℕ))
    → Type 0
OfIdentity k s None = Unit {0}
OfIdentity k s (Some id) = OfTypeId k s id

-- the name of an operation, which must be new in a file without interfaces
abbrev pub OfOperationName : (checked_rule : FaultKind) (scope : Scope) (name : List ℕ) → Type 0
OfOperationName kinds.Limit s name = (length name ≤ 128) × (s.table.called < 4096)
OfOperationName kinds.Duplicate s name =
    is_version_3 s.names ≡ false → operation_number_of_key s.table (operation_key 0 name) ≡ None
OfOperationName k s name = Unit {0}

-- an interface, which may be new
abbrev pub OfInterface : (checked_rule : FaultKind) (interfaces : Interfaces)
    (repository_id : List ℕ) → Type 0
OfInterface kinds.Limit i id =
    (length id ≤ 128) × ((list_any (bytes_eq id) i.names ≡ true) ⊎ (length i.names < 1024))
OfInterface k i id = Unit {0}

-- no operation with this key is declared
abbrev pub OfNewOperationKey : (checked_rule : FaultKind) (table : Table) (key : List ℕ) → Type 0
OfNewOperationKey kinds.Duplicate t key = operation_number_of_key t key ≡ None
OfNewOperationKey k t key = Unit {0}

-- the interfaces of an operation with these structs; the table has those before them
unfoldable pub OfInterfaces : (checked_rule : FaultKind) (operation_name : List ℕ)
    (request_struct reply_struct : ℕ) (interface_ids : List (List ℕ)) (table_before : Table) →
    Type 0
OfInterfaces k name request reply [] t = Unit {0}
OfInterfaces k name request reply (id ∷ ids) t =
    OfInterface k t.interfaces id
    × OfNewOperationKey k t (operation_key (number_of t.interfaces id + 1) name)
    × OfInterfaces k name request reply ids (with_operation_in_interface name request reply id t)

-- the list of an operation's interfaces
abbrev pub OfInterfaceList : (checked_rule : FaultKind) (names : Names) (operation_name : List ℕ)
    (request_struct reply_struct : ℕ) (interface_ids : List (List ℕ)) (table_before : Table) →
    Type 0
OfInterfaceList k names name request reply [] t = OfNewOperationKey k t (operation_key 0 name)
OfInterfaceList k names name request reply (id ∷ ids) t =
    OfVersion3 k names × OfInterfaces k name request reply (id ∷ ids) t

-- the same in the scope after the structs were added
abbrev pub OfListAfterStructs : (checked_rule : FaultKind) (names : Names) (operation_name : List ℕ)
    (interface_ids : List (List ℕ))
    (request_struct : ℕ) (added_reply_struct : AddedType) → Type 0
OfListAfterStructs k names name ids request p = OfInterfaceList k names name request p.1 ids
    (p.0).table

abbrev pub OfListAfterParameters : (checked_rule : FaultKind) (names : Names)
    (operation_name : List ℕ) (interface_ids : List (List ℕ)) (returned_parts : List Part)
    (added_parameters : AddedParameters) → Type 0
OfListAfterParameters k names name ids returned x =
    OfListAfterStructs k names name ids (length (x.0).table.types)
    (add_struct_type ((add_struct_type (x.0, x.1)).0, returned ++ x.2))

abbrev pub OfListAfterReturn : (checked_rule : FaultKind) (names : Names) (operation_name : List ℕ)
    (params : List Param)
    (interface_ids : List (List ℕ)) (scope_and_returned_parts : Scope × List Part) → Type 0
OfListAfterReturn k names name params ids added =
    OfListAfterParameters k names name ids added.1 (add_params added.0 params)

-- a KEY, and its interface
abbrev pub OfKeyText : (checked_rule : FaultKind) (names : Names) (interfaces : Interfaces)
    (key_text : List ℕ) → Type 0
OfKeyText kinds.Syntax names i text = (is_version_3 names ≡ true) × (is_key text ≡ true)
OfKeyText kinds.Duplicate names i text = of_text i text ≡ None
OfKeyText kinds.Limit names i text = (length text ≤ 128) × (length i.keys < 16384)
OfKeyText k names i text = Unit {0}

abbrev pub OfReturn : (checked_rule : FaultKind) (names : Names) (return_type : Option TypeExpr) →
    Type 0
OfReturn k names None = Unit {0}
OfReturn k names (Some e) = OfType k false names e

abbrev pub items_of : (params : List Param) → List Item
items_of params = map (λ p. p.item) params

unfoldable pub OfDeclaration : (checked_rule : FaultKind) (scope : Scope)
    (declaration : Declaration) → Type 0
OfDeclaration k s (Enumeration n id names) =
    OfDeclaredName k s None s.table.declared n × OfIdentity k s id × OfNonEmpty k names
    × OfNames k (is_version_3 s.names) [] names
OfDeclaration k s (Structure n id items) =
    OfDeclaredName k s (Some type_words.Struct) s.table.declared n × OfIdentity k s id
    × OfNonEmpty k items
    × OfItems k s.names 256 [] items
OfDeclaration k s (DeclaredUnion n id switch cases) =
    OfDeclaredName k s (Some type_words.Union) s.table.declared n × OfIdentity k s id
    × OfType k false s.names switch
    × OfDiscriminator k (added_node (add_type s switch)) × OfNonEmpty k cases
    × OfCases k s.names (added_node (add_type s switch)) [] [] cases
OfDeclaration k s (Announcement word n) =
    OfDeclaredName k s (Some word) s.table.declared n × OfVersion3 k s.names
    × OfAnnouncedName k s.names n
OfDeclaration k s (DeclaredException n r items) =
    OfDeclaredName k s None (length s.table.exceptions) n × OfExceptionId k s r
    × OfItems k s.names 256 [] items
OfDeclaration k s (Call returned n params ids) =
    OfReturn k s.names returned × OfOperationName k s n × OfItems k s.names 255 [] (items_of params)
    × OfListAfterReturn k s.names n params ids (add_return s returned)
OfDeclaration k s (KeyOf text id) =
    OfKeyText k s.names s.table.interfaces text × OfInterface k s.table.interfaces id

-- ---- the rules for a declaration, after those that made the scope

-- each name that is used as a type is that of an enum, struct or union declared before; as that of
-- a sequence's elements it may be one that is only announced
abbrev pub TypesAreKnown : (scope : Scope) (declaration : Declaration) → Type 0
TypesAreKnown s d = OfDeclaration kinds.UnknownType s d

-- names, repository ids and labels are new in their lists
abbrev pub NamesAreDistinct : (scope : Scope) (declaration : Declaration) → Type 0
NamesAreDistinct s d = OfDeclaration kinds.Duplicate s d

-- enums, structs and unions aren't empty, and no length or bound is 0
abbrev pub IsNotEmpty : (scope : Scope) (declaration : Declaration) → Type 0
IsNotEmpty s d = OfDeclaration kinds.Empty s d

-- the type of a discriminator can be one, and each label is a value of it
abbrev pub LabelsFit : (scope : Scope) (declaration : Declaration) → Type 0
LabelsFit s d = OfDeclaration kinds.Label s d

-- the declaration adds no type of more than 24 levels
abbrev pub IsShallow : (scope : Scope) (declaration : Declaration) → Type 0
IsShallow s d = depth_of (declare s d).table.types ≤ 24

-- names are short, lengths and bounds are less than 2^32, and there isn't too much of anything
abbrev pub IsWithinLimits : (scope : Scope) (declaration : Declaration) → Type 0
IsWithinLimits s d = OfDeclaration kinds.Limit s d

-- its names are no reserved words, and it has no words of a later version; this rule belongs to the
-- grammar
abbrev pub UsesAllowedWords : (scope : Scope) (declaration : Declaration) → Type 0
UsesAllowedWords s d = OfDeclaration kinds.Syntax s d

-- the rule of a kind
abbrev pub RuleOfKind : (checked_rule : FaultKind) (scope : Scope) (declaration : Declaration) →
    Type 0
RuleOfKind kinds.Depth s d = IsShallow s d
RuleOfKind k s d = OfDeclaration k s d

-- ---- lists of declarations

-- a rule is true of each declaration, in the scope of those before it
unfoldable pub EachInItsScope : (Rule : Scope → Declaration → Type 0) (scope : Scope)
    (declarations : List Declaration) → Type 0
EachInItsScope Rule s [] = Unit {0}
EachInItsScope Rule s (d ∷ ds) = Rule s d × EachInItsScope Rule (declare s d) ds

-- ---- files

-- a rule is true of each declaration of a file
abbrev pub EachOfFile : (Rule : Scope → Declaration → Type 0) (file : SignatureFile) → Type 0
EachOfFile Rule file = EachInItsScope Rule (first_scope file.version) file.declarations

-- the index of the first announcement whose name isn't declared
abbrev pub first_undeclared : (names : Names) → Option ℕ
first_undeclared names = position (λ t. not (is_some t)) (types_of_announced names)

-- each name that is announced is declared in the file
abbrev pub AllAreDeclared : (file : SignatureFile) → Type 0
AllAreDeclared file = first_undeclared (last_scope file).names ≡ None

pub record IsValid (file : SignatureFile) : Type 0 where
  pub declared : AllAreDeclared file
  pub known : EachOfFile TypesAreKnown file
  pub distinct : EachOfFile NamesAreDistinct file
  pub some : EachOfFile IsNotEmpty file
  pub labels : EachOfFile LabelsFit file
  pub shallow : EachOfFile IsShallow file
  pub within : EachOfFile IsWithinLimits file

-- the text is this file, whose version is at most `latest`
pub record SpellsUpTo (latest_version : ℕ) (text : List ℕ) (file : SignatureFile) : Type 0 where
  pub short : length text ≤ 1048576
  pub tokens : AreTokens text (spell_file file)
  pub version : is_version latest_version file.version ≡ true
  pub words : EachOfFile UsesAllowedWords file

-- the text is this file, whose version is 1 or 2
abbrev pub Spells : (text : List ℕ) (file : SignatureFile) → Type 0
Spells text file = SpellsUpTo 2 text file

-- the rule of a kind is broken by one of the declarations
pub record IsBroken (broken_rule : FaultKind) (file : SignatureFile) : Type 0 where
  pub before : List Declaration
  pub broken : Declaration
  pub after : List Declaration
  pub all : file.declarations ≡ before ++ broken ∷ after
  pub breaks : RuleOfKind broken_rule (scope_after (first_scope file.version) before) broken → ⊥

-- a text that spells the file is refused with this kind; only memory needs no reason
abbrev pub Refuses : (refusal_kind : FaultKind) (file : SignatureFile) → Type 0
Refuses kinds.OutOfMemory file = Unit {0}
Refuses kinds.Token file = ⊥
Refuses kinds.Syntax file = ⊥
Refuses kinds.UnknownType file = IsBroken kinds.UnknownType file ⊎ (AllAreDeclared file → ⊥)
Refuses k file = IsBroken k file
