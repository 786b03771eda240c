-- The sizes of the primitive types (CDR Transfer Syntax, Primitive Types; meaning).
use Rattle.std.specs.Prelude.{ℕ}
use Rattle.giop_cdr.specs.declared.prim.Primitive.{Primitive}
use Rattle.giop_cdr.specs.declared.prim.Primitive.TheVariants.{Octet, Char, Boolean, Short, UShort, Long, ULong, LongLong, ULongLong, Float, Double}

-- how many octets a primitive has; it is aligned to this number too
abbrev pub size_of : (primitive : Primitive) → ℕ
size_of Octet = 1
size_of Char = 1
size_of Boolean = 1
size_of Short = 2
size_of UShort = 2
size_of Long = 4
size_of ULong = 4
size_of LongLong = 8
size_of ULongLong = 8
size_of Float = 4
size_of Double = 8
