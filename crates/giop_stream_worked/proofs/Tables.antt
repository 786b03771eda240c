-- The tables of the worked streams, from the signature files that declare them.
use Rattle.std.proofs.Common.{ℕ, List, [], ◌∷◌, None, Some, arith, refl, lit≤, lit<}
use Rattle.std.specs.Prelude.{Option, option_map, codes}
use Rattle.giop_cdr.specs.declared.prim.Primitive.TheVariants as prims
use Rattle.giop_tokens.specs.Tokens.{after_gap, is_number, first, next}
use Rattle.giop_tokens.specs.Names.{is_reserved}
use Rattle.giop_tokens.specs.Marks.{mark_of}
use Rattle.giop_sig.specs.CallReading.{direction_of}
use Rattle.giop_sig.specs.Trees.{tree_at, depth_at, depth_of}
use Rattle.giop_sig.specs.AnyTypes.{any_types, version_3_types}
use Rattle.giop_sig.specs.Builtin.{builtin_types}
use Rattle.giop_sig.specs.Grammar.{TypeExpr, Base, Item, Param, Declaration, DeclaredException, Call, SignatureFile, spell_file}
use Rattle.giop_sig.specs.Scopes.{add_type, add_items, add_params, declare}
use Rattle.giop_sig.specs.Validity.{OfType, OfItems, OfDeclaration, EachInItsScope}
use Rattle.giop_stream_worked.proofs.TokensRead.{tokens_in, are_tokens}
use Rattle.giop_stream_worked.specs.Worked.{IsTableOf, IsTableUpTo, operation_of_structs, table_of, builtin, put_table, big_table, tri_table, late_exception, ask_table, put_file_text, big_file_text, tri_file_text, ask_file_text}

abbrev item : (type : TypeExpr) (name : List ℕ) → Item
item type name = record { type = type; name = name; lengths = [] }

abbrev onto : (p : Option Param) (ps : List Param) → List Param
onto None ps = ps
onto (Some p) ps = p ∷ ps

-- a parameter before others; its direction is given by a word
abbrev param : (direction : List ℕ) (type : TypeExpr) (name : List ℕ) (ps : List Param) → List Param
param direction type name ps =
    onto (option_map (λ d. record { direction = d; item = item type name })
    (direction_of direction)) ps

-- an operation without parameters and results
abbrev nop : Declaration
nop = Call None (codes "nop") [] []

abbrev file_of : (declarations : List Declaration) → SignatureFile
file_of declarations = record { version = 1; declarations = declarations }

abbrev put_file : SignatureFile
put_file = file_of (Call None (codes "put") (param (codes "in") (Base prims.Double) (codes "d") [])
    [] ∷ [])

-- ---- Each text has fewer than 40 tokens.

-- a name for the list of the definitions that are unfolded to read a text, and to declare what it
-- says
unfoldable told_with : ℕ
unfolding tokens_in after_gap is_number first next is_reserved mark_of depth_at tree_at depth_of
    builtin_types any_types version_3_types add_type add_items add_params declare OfType OfItems
    OfDeclaration EachInItsScope operation_of_structs table_of builtin put_table big_table tri_table
    late_exception ask_table put_file_text big_file_text tri_file_text
    ask_file_text
told_with = 0

pub none_declared : IsTableOf (codes "signatures 1;") builtin
unfolding told_with
none_declared = record {
  file = file_of [];
  spells = record {
    short = omega arith;
    tokens = are_tokens 40 (codes "signatures 1;") (spell_file (file_of [])) refl;
    version = refl;
    words = tt;
  };
  valid = record {
    declared = refl;
    known = tt;
    distinct = tt;
    some = tt;
    labels = tt;
    shallow =
        tt;
    within = tt;
  };
  table = refl;
}

pub put_declared : IsTableOf put_file_text put_table
unfolding told_with
put_declared = record {
  file = put_file;
  spells = record {
    short = omega arith;
    tokens = are_tokens 40 put_file_text (spell_file put_file) refl;
    version = refl;
    words = ((tt, tt, ((tt, refl, tt), tt), tt), tt);
  };
  valid = record {
    declared = refl;
    known = ((tt, tt, ((tt, tt, tt), tt), tt), tt);
    distinct = ((tt, λ old. refl, ((tt, refl, tt), tt), refl), tt);
    some = ((tt, tt, ((tt, tt, tt), tt), tt), tt);
    labels = ((tt, tt, ((tt, tt, tt), tt), tt), tt);
    shallow = (lit≤ tt, tt);
    within = ((tt, (lit≤ tt, lit< tt), ((tt, (lit≤ tt, lit< tt), tt), tt), tt), tt);
  };
  table = refl;
}

abbrev bigs_file : SignatureFile
bigs_file = file_of (Call None (codes "big")
    (param (codes "in") (Base prims.ULongLong) (codes "n") []) [] ∷ nop ∷ [])

pub bigs_declared : IsTableOf big_file_text big_table
unfolding told_with
bigs_declared = record {
  file = bigs_file;
  spells = record {
    short = omega arith;
    tokens = are_tokens 40 big_file_text (spell_file bigs_file) refl;
    version = refl;
    words = ((tt, tt, ((tt, refl, tt), tt), tt), ((tt, tt, tt, tt), tt));
  };
  valid = record {
    declared = refl;
    known = ((tt, tt, ((tt, tt, tt), tt), tt), ((tt, tt, tt, tt), tt));
    distinct = ((tt, λ old. refl, ((tt, refl, tt), tt), refl), ((tt, λ old. refl, tt, refl), tt));
    some = ((tt, tt, ((tt, tt, tt), tt), tt), ((tt, tt, tt, tt), tt));
    labels = ((tt, tt, ((tt, tt, tt), tt), tt), ((tt, tt, tt, tt), tt));
    shallow = (lit≤ tt, (lit≤ tt, tt));
    within = (
      (tt, (lit≤ tt, lit< tt), ((tt, (lit≤ tt, lit< tt), tt), tt), tt),
      ((tt, (lit≤ tt, lit< tt), tt, tt), tt),
    );
  };
  table = refl;
}

abbrev tris_file : SignatureFile
tris_file = record {
  version = 3;
  declarations = Call None (codes "tri")
      (param (codes "in") (Base prims.ULong) (codes "a")
      (param (codes "in") (Base prims.ULongLong) (codes "n") [])) [] ∷ [];
}

pub tris_declared : IsTableUpTo 3 tri_file_text tri_table
unfolding told_with
tris_declared = record {
  file = tris_file;
  spells = record {
    short = omega arith;
    tokens = are_tokens 40 tri_file_text (spell_file tris_file) refl;
    version = refl;
    words = ((tt, tt, ((tt, refl, tt), ((tt, refl, tt), tt)), tt), tt);
  };
  valid = record {
    declared = refl;
    known = ((tt, tt, ((tt, tt, tt), ((tt, tt, tt), tt)), tt), tt);
    distinct = ((tt, λ old. refl, ((tt, refl, tt), ((tt, refl, tt), tt)), refl), tt);
    some = ((tt, tt, ((tt, tt, tt), ((tt, tt, tt), tt)), tt), tt);
    labels = ((tt, tt, ((tt, tt, tt), ((tt, tt, tt), tt)), tt), tt);
    shallow = (lit≤ tt, tt);
    within = (
      (
        tt,
        (lit≤ tt, lit< tt),
        ((tt, (lit≤ tt, lit< tt), tt), ((tt, (lit≤ tt, lit< tt), tt), tt)),
        tt,
      ),
      tt,
    );
  };
  table = refl;
}

abbrev asks_file : SignatureFile
asks_file = file_of (DeclaredException (codes "Late") (codes "IDL:Late:1.0")
    (item (Base prims.UShort) (codes "by") ∷ [])
    ∷ Call (Some (Base prims.Long)) (codes "ask")
    (param (codes "in") (Base prims.Long) (codes "a")
    (param (codes "out") (Base prims.Octet) (codes "b") [])) []
    ∷ nop ∷ [])

pub asks_declared : IsTableOf ask_file_text ask_table
unfolding told_with
asks_declared = record {
  file = asks_file;
  spells = record {
    short = omega arith;
    tokens = are_tokens 40 ask_file_text (spell_file asks_file) refl;
    version = refl;
    words = (
      (refl, tt, ((tt, refl, tt), tt)),
      ((tt, tt, ((tt, refl, tt), ((tt, refl, tt), tt)), tt), ((tt, tt, tt, tt), tt)),
    );
  };
  valid = record {
    declared = refl;
    known = (
      (tt, tt, ((tt, tt, tt), tt)),
      ((tt, tt, ((tt, tt, tt), ((tt, tt, tt), tt)), tt), ((tt, tt, tt, tt), tt)),
    );
    distinct = (
      (refl, refl, ((tt, refl, tt), tt)),
      (
        (tt, λ old. refl, ((tt, refl, tt), ((tt, refl, tt), tt)), refl),
        ((tt, λ old. refl, tt, refl), tt),
      ),
    );
    some = (
      (tt, tt, ((tt, tt, tt), tt)),
      (
        (tt, tt, ((tt, tt, tt), ((tt, tt, tt), tt)), tt),
        ((tt, tt, tt, tt), tt),
      ),
    );
    labels = (
      (tt, tt, ((tt, tt, tt), tt)),
      ((tt, tt, ((tt, tt, tt), ((tt, tt, tt), tt)), tt), ((tt, tt, tt, tt), tt)),
    );
    shallow = (lit≤ tt, (lit≤ tt, (lit≤ tt, tt)));
    within = (
      ((lit≤ tt, lit< tt), lit≤ tt, ((tt, (lit≤ tt, lit< tt), tt), tt)),
      (
        (
          tt,
          (lit≤ tt, lit< tt),
          (
            (tt, (lit≤ tt, lit< tt), tt),
            ((tt, (lit≤ tt, lit< tt), tt), tt),
          ),
          tt,
        ),
        ((tt, (lit≤ tt, lit< tt), tt, tt), tt),
      ),
    );
  };
  table = refl;
}
