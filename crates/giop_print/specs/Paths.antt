-- Where a value stands in its message: a root, and what is added for each step from there
-- (docs/FORMATS.md; meaning).
use Rattle.std.specs.Prelude.{ℕ, List, ◌++◌, codes, decimal}
use Rattle.giop_print.specs.declared.path.Root.{Root}
use Rattle.giop_print.specs.declared.path.Root.TheVariants.{Header, Exception, Body}

-- what a contract sees of a path
pub record PathText : Type 0 where
  pub text : List ℕ
  pub segments : ℕ

-- what a contract sees of a head: the number of a message, and a root
pub record HeadView : Type 0 where
  pub message : ℕ
  pub root : Root

-- the text of a path
abbrev pub path_text_of : (path : PathText) → List ℕ
path_text_of path = path.text

abbrev pub root_word : (root : Root) → List ℕ
root_word Header = codes "header"
root_word Exception = codes "exception"
root_word Body = codes "body"

-- the step to a member
abbrev pub name_segment : (name : List ℕ) → List ℕ
name_segment name = codes "." ++ name

-- the step to an element
abbrev pub index_segment : (index : ℕ) → List ℕ
index_segment index = codes "[" ++ decimal index ++ codes "]"
