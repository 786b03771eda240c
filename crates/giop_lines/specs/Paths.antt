-- Paths: a root, and then a piece for each part on the way (docs/FORMATS.md, Values; meaning).
use Rattle.std.specs.Prelude.{◌≡◌, ℕ, ◌<◌, ◌≤◌, ◌^◌, Bool, true, ◌||◌, ◌==◌, ◌⊎◌, List, [], ◌∷◌, ◌++◌, length, All, flat_map, codes, Option, IfSome}
use Rattle.std.specs.Borrow.{Bor}
use Rattle.giop_print.specs.Paths.{name_segment, index_segment}
use Rattle.giop_lines.specs.declared.paths.PathPart.{PathPart}
use Rattle.giop_lines.specs.declared.paths.PathPart.TheVariants.{Root, Name, Index}
use Rattle.giop_lines.specs.Names.{is_member_name}

abbrev pub part_text : PathPart → List ℕ
part_text (Root word) = word.now
part_text (Name name) = name_segment name.now
part_text (Index index) = index_segment index

abbrev pub IsRoot : (root_word : List ℕ) → Type 0
IsRoot word = (word ≡ codes "header") ⊎ (word ≡ codes "exception") ⊎ (word ≡ codes "body")

-- what the fields of a part may be
abbrev pub IsPathPart : PathPart → Type 0
IsPathPart (Root word) = IsRoot word.now
IsPathPart (Name name) = is_member_name name.now ≡ true
IsPathPart (Index index) = index < 2 ^ 32

-- what the fields of a part after the root may be
abbrev pub IsPartAfterRoot : PathPart → Type 0
IsPartAfterRoot (Root word) = ⊥
IsPartAfterRoot (Name name) = is_member_name name.now ≡ true
IsPartAfterRoot (Index index) = index < 2 ^ 32

-- whether a path ends here, or its next part begins here
abbrev pub is_part_border : (path_rest : List ℕ) → Bool
is_part_border [] = true
is_part_border (b ∷ bs) = b == 46 || b == 91

-- a path begins with this part, and this follows it
pub record BeginsWithPart (path : List ℕ) (part : PathPart) (path_rest : List ℕ) : Type 0 where
  pub is_part : IsPathPart part
  pub border : is_part_border path_rest ≡ true
  pub spelled : path ≡ part_text part ++ path_rest

-- this is the first part of a path, if it has one
abbrev pub IsFirstPart : (path : List ℕ) (first_part_and_rest : Option (PathPart × Bor (List ℕ))) →
    Type 0
IsFirstPart path first = IfSome first (λ f. BeginsWithPart path f.0 f.1.now)

-- the path is a root and at most 24 parts
pub record IsPath (path : List ℕ) : Type 0 where
  pub root : List ℕ
  pub parts : List PathPart
  pub is_root : IsRoot root
  pub are_parts : All IsPartAfterRoot parts
  pub few : length parts ≤ 24
  pub spelled : path ≡ root ++ flat_map part_text parts
