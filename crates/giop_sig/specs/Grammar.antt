-- Signature files: what a file and its declarations are, and the tokens that spell it
-- (docs/FORMATS.md, Signature file; meaning). Each spelling is written before `more`, the tokens
-- that come after it.
use Rattle.std.specs.Prelude.{ℕ, ◌&&◌, nat_le, Bool, true, false, List, [], ◌∷◌, Option, Some, None, codes}
use Rattle.giop_cdr.specs.declared.prim.Primitive.{Primitive}
use Rattle.giop_cdr.specs.declared.prim.Primitive.TheVariants as prims
use Rattle.giop_tokens.specs.declared.marks.Mark.{Mark}
use Rattle.giop_tokens.specs.declared.marks.Mark.TheVariants as marks
use Rattle.giop_sig.specs.declared.announced.TypeWord.{TypeWord}
use Rattle.giop_sig.specs.declared.announced.TypeWord.TheVariants as type_words
use Rattle.giop_sig.specs.declared.read_calls.Direction.{Direction}
use Rattle.giop_sig.specs.declared.read_calls.Direction.TheVariants as directions
use Rattle.giop_tokens.specs.Tokens.{Token, word, number, negative, repository, mark}

-- ---- types

pub data TypeExpr : Type 0 where
  Base : Primitive → TypeExpr
  -- a string, perhaps with a bound
  Text : Option ℕ → TypeExpr
  -- an object reference
  Reference : TypeExpr
  -- an any: a TypeCode and a value of its type
  AnyType : TypeExpr
  -- a TypeCode by itself
  CodeType : TypeExpr
  -- a wide character; and a wide string, perhaps with a bound, which counts characters
  WideChar : TypeExpr
  WideText : Option ℕ → TypeExpr
  -- an enum, struct or union, by its name
  Named : List ℕ → TypeExpr
  SequenceOf : TypeExpr → Option ℕ → TypeExpr
  -- a value in octets with a byte order of their own
  EncapsulationOf : TypeExpr → TypeExpr

abbrev pub base_word : (primitive : Primitive) → List ℕ
base_word prims.Octet = codes "octet"
base_word prims.Char = codes "char"
base_word prims.Boolean = codes "boolean"
base_word prims.Short = codes "short"
base_word prims.UShort = codes "ushort"
base_word prims.Long = codes "long"
base_word prims.ULong = codes "ulong"
base_word prims.LongLong = codes "longlong"
base_word prims.ULongLong = codes "ulonglong"
base_word prims.Float = codes "float"
base_word prims.Double = codes "double"

-- a size between two marks, if there is one
abbrev pub spell_between : (opening closing : Mark) (number_between : Option ℕ)
    (more : List Token) → List Token
spell_between before close None more = more
spell_between before close (Some bound) more = mark before ∷ number bound ∷ mark close ∷ more

-- the bound of a string: < N >
abbrev pub spell_bound : (string_bound : Option ℕ) (more : List Token) → List Token
spell_bound bound more = spell_between marks.OpenAngle marks.CloseAngle bound more

-- the bound of a sequence, after the type of its elements: , N
abbrev pub spell_most : (bound : Option ℕ) (more : List Token) → List Token
spell_most None more = more
spell_most (Some bound) more = mark marks.Comma ∷ number bound ∷ more

abbrev pub spell_type : (type : TypeExpr) (more : List Token) → List Token
spell_type (Base p) more = word (base_word p) ∷ more
spell_type (Text bound) more = word (codes "string") ∷ spell_bound bound more
spell_type Reference more = word (codes "Object") ∷ more
spell_type AnyType more = word (codes "any") ∷ more
spell_type CodeType more = word (codes "TypeCode") ∷ more
spell_type WideChar more = word (codes "wchar") ∷ more
spell_type (WideText bound) more = word (codes "wstring") ∷ spell_bound bound more
spell_type (Named w) more = word w ∷ more
spell_type (SequenceOf e bound) more =
    word (codes "sequence") ∷ mark marks.OpenAngle
    ∷ spell_type e (spell_most bound (mark marks.CloseAngle ∷ more))
spell_type (EncapsulationOf e) more =
    word (codes "encapsulation") ∷ mark marks.OpenAngle
    ∷ spell_type e (mark marks.CloseAngle ∷ more)

-- ---- items: members, cases and parameters

-- a type and a name, in arrays of these lengths, the outermost first
pub record Item : Type 0 where
  pub type : TypeExpr
  pub name : List ℕ
  pub lengths : List ℕ

-- the lengths of arrays, each in brackets: [ N ]
abbrev pub spell_lengths : (array_lengths : List ℕ) (more : List Token) → List Token
spell_lengths [] more = more
spell_lengths (n ∷ ns) more =
    spell_between marks.OpenBracket marks.CloseBracket (Some n) (spell_lengths ns more)

abbrev pub spell_item : (item : Item) (more : List Token) → List Token
spell_item i more = spell_type i.type (word i.name ∷ spell_lengths i.lengths more)

-- members with a semicolon each, and the closing mark
abbrev pub spell_items : (items : List Item) (tokens_after_brace : List Token) → List Token
spell_items [] more = mark marks.CloseBrace ∷ more
spell_items (i ∷ is) more = spell_item i (mark marks.Semicolon ∷ spell_items is more)

-- ---- the names of an enum

abbrev pub spell_more_names : (names_after_first : List (List ℕ))
    (tokens_after_brace : List Token) → List Token
spell_more_names [] more = mark marks.CloseBrace ∷ more
spell_more_names (n ∷ ns) more = mark marks.Comma ∷ word n ∷ spell_more_names ns more

-- names with commas between them, and the closing mark
abbrev pub spell_names : (names : List (List ℕ)) (tokens_after_brace : List Token) → List Token
spell_names [] more = mark marks.CloseBrace ∷ more
spell_names (n ∷ ns) more = word n ∷ spell_more_names ns more

-- ---- the cases of a union

-- the value that a label names
pub data Value : Type 0 where
  Plain : ℕ → Value
  Below : ℕ → Value
  Truth : Bool → Value
  Enumerator : List ℕ → Value

abbrev pub truth_word : (value : Bool) → List ℕ
truth_word true = codes "true"
truth_word false = codes "false"

abbrev pub spell_value : (value : Value) (more : List Token) → List Token
spell_value (Plain n) more = number n ∷ more
spell_value (Below n) more = negative n ∷ more
spell_value (Truth b) more = word (truth_word b) ∷ more
spell_value (Enumerator w) more = word w ∷ more

pub data Label : Type 0 where
  Default : Label
  Of : Value → Label

abbrev pub spell_label : (label : Label) (tokens_after_colon : List Token) → List Token
spell_label Default more = word (codes "default") ∷ mark marks.Colon ∷ more
spell_label (Of v) more = word (codes "case") ∷ spell_value v (mark marks.Colon ∷ more)

abbrev pub spell_labels : (labels : List Label) (more : List Token) → List Token
spell_labels [] more = more
spell_labels (l ∷ ls) more = spell_label l (spell_labels ls more)

-- a case: one or more labels, and the item that they select
pub record UnionCase : Type 0 where
  pub label : Label
  pub others : List Label
  pub item : Item

abbrev pub spell_cases : (cases : List UnionCase) (tokens_after_brace : List Token) → List Token
spell_cases [] more = mark marks.CloseBrace ∷ more
spell_cases (c ∷ cs) more =
    spell_label c.label (spell_labels c.others
    (spell_item c.item (mark marks.Semicolon ∷ spell_cases cs more)))

-- ---- the parameters of an operation

abbrev pub direction_word : (direction : Direction) → List ℕ
direction_word directions.In = codes "in"
direction_word directions.Out = codes "out"
direction_word directions.Inout = codes "inout"

pub record Param : Type 0 where
  pub direction : Direction
  pub item : Item

abbrev pub spell_param : (parameter : Param) (more : List Token) → List Token
spell_param p more = word (direction_word p.direction) ∷ spell_item p.item more

abbrev pub spell_more_params : (params_after_first : List Param)
    (tokens_after_parenthesis : List Token) → List Token
spell_more_params [] more = mark marks.CloseParenthesis ∷ more
spell_more_params (p ∷ ps) more = mark marks.Comma ∷ spell_param p (spell_more_params ps more)

-- parameters with commas between them, and the closing mark
abbrev pub spell_params : (params : List Param) (tokens_after_parenthesis : List Token) → List Token
spell_params [] more = mark marks.CloseParenthesis ∷ more
spell_params (p ∷ ps) more = spell_param p (spell_more_params ps more)

-- what an operation returns, perhaps nothing
abbrev pub spell_return : (returned_type : Option TypeExpr) (more : List Token) → List Token
spell_return None more = word (codes "void") ∷ more
spell_return (Some e) more = spell_type e more

-- ---- the interfaces of an operation

abbrev pub spell_more_interfaces : (interface_ids_after_first : List (List ℕ)) (more : List Token) →
    List Token
spell_more_interfaces [] more = more
spell_more_interfaces (id ∷ ids) more =
    mark marks.Comma ∷ repository id ∷ spell_more_interfaces ids more

-- nothing, or a word and the repository ids of interfaces with commas between them
abbrev pub spell_interfaces : (interface_ids : List (List ℕ)) (more : List Token) → List Token
spell_interfaces [] more = more
spell_interfaces (id ∷ ids) more =
    word (codes "of") ∷ repository id ∷ spell_more_interfaces ids more

-- ---- declarations

-- the repository id of a type, if it has one
abbrev pub spell_identity : (repository_id : Option (List ℕ)) (more : List Token) → List Token
spell_identity None more = more
spell_identity (Some id) more = repository id ∷ more

-- the first word of a struct or union
abbrev pub type_word : (struct_or_union : TypeWord) → List ℕ
type_word type_words.Struct = codes "struct"
type_word type_words.Union = codes "union"

-- an enum, struct or union: its name, its repository id if it has one, and its content
pub data Declaration : Type 0 where
  Enumeration : List ℕ → Option (List ℕ) → List (List ℕ) → Declaration
  Structure : List ℕ → Option (List ℕ) → List Item → Declaration
  -- its discriminator and its cases
  DeclaredUnion : List ℕ → Option (List ℕ) → TypeExpr → List UnionCase → Declaration
  -- a struct or union that is declared later, with the same word
  Announcement : TypeWord → List ℕ → Declaration
  -- an exception: its name, its repository id and its members
  DeclaredException : List ℕ → List ℕ → List Item → Declaration
  -- an operation: what it returns, its name, its parameters, and perhaps its interfaces
  Call : Option TypeExpr → List ℕ → List Param → List (List ℕ) → Declaration
  -- an object key or the front of object keys, and its interface
  KeyOf : List ℕ → List ℕ → Declaration

abbrev pub spell : (declaration : Declaration) (more : List Token) → List Token
spell (Enumeration n id names) more =
    word (codes "enum") ∷ word n ∷ spell_identity id (mark marks.OpenBrace
    ∷ spell_names names (mark marks.Semicolon ∷ more))
spell (Structure n id items) more =
    word (codes "struct") ∷ word n ∷ spell_identity id (mark marks.OpenBrace
    ∷ spell_items items (mark marks.Semicolon ∷ more))
spell (DeclaredUnion n id switch cases) more =
    word (codes "union") ∷ word n ∷ spell_identity id (word (codes "switch")
    ∷ mark marks.OpenParenthesis
    ∷ spell_type switch (mark marks.CloseParenthesis ∷ mark marks.OpenBrace
    ∷ spell_cases cases (mark marks.Semicolon ∷ more)))
spell (Announcement w n) more = word (type_word w) ∷ word n ∷ mark marks.Semicolon ∷ more
spell (DeclaredException n r items) more =
    word (codes "exception") ∷ word n ∷ repository r ∷ mark marks.OpenBrace
    ∷ spell_items items (mark marks.Semicolon ∷ more)
spell (Call returned n params ids) more =
    word (codes "operation") ∷ spell_return returned
    (word n ∷ mark marks.OpenParenthesis
    ∷ spell_params params (spell_interfaces ids (mark marks.Semicolon ∷ more)))
spell (KeyOf key id) more =
    word (codes "key") ∷ repository key ∷ word (codes "of") ∷ repository id
    ∷ mark marks.Semicolon ∷ more

abbrev pub spell_all : (declarations : List Declaration) → List Token
spell_all [] = []
spell_all (d ∷ ds) = spell d (spell_all ds)

-- ---- files

pub record SignatureFile : Type 0 where
  pub version : ℕ
  pub declarations : List Declaration

-- whether a version of the format is at most `latest`
abbrev pub is_version : (latest_version version : ℕ) → Bool
is_version latest version = nat_le 1 version && nat_le version latest

-- the whole file, its version first
abbrev pub spell_file : (file : SignatureFile) → List Token
spell_file file =
    word (codes "signatures") ∷ number file.version ∷ mark marks.Semicolon
    ∷ spell_all file.declarations
