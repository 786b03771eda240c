-- A text with tags that is being written; it may stop inside a tag (meaning).
use Rattle.std.specs.Prelude.{◌≡◌, ℕ, suc, ◌+◌, ◌-◌, ◌≤◌, ◌<◌, Bool, true, false, ◌==◌, List, [], ◌∷◌, ◌++◌, length, take, slice_index, Option, Some, None, if◌then◌else◌}
use Rattle.std.specs.Io.KnownBytes.{Appends, Keeps}
use Rattle.giop_conversation.specs.Tags.{tag_if_first, with_tags}

-- whether the octet after a text is the first of a line
unfoldable pub next_begins_line : (text_begins_line : Bool) (text : List ℕ) → Bool
next_begins_line first [] = first
next_begins_line first (x ∷ xs) = next_begins_line (x == 10) xs

-- whether a tag is due after a text: the text is empty, or it ends with a line
abbrev pub is_tag_due : (text : List ℕ) → Bool
is_tag_due text = next_begins_line true text

-- how many octets the first line of a text has, with its LF
unfoldable pub first_line_size : (text : List ℕ) → ℕ
first_line_size [] = 0
first_line_size (x ∷ xs) = if x == 10 then 1 else suc (first_line_size xs)

-- The octets are one line: the last one is LF, and no other is.
pub record IsOneLine (octets : List ℕ) : Type 0 where
  pub some : 0 < length octets
  pub ended : (slice_index octets (length octets - 1) == 10) ≡ true
  pub only : (k : ℕ) → k + 1 < length octets → (slice_index octets k == 10) ≡ false

-- the text with tags; if a line begins after it, all octets of that line's tag but `due` follow
unfoldable pub tagged_until_due : (tag text : List ℕ) (tag_octets_missing : ℕ) → List ℕ
tagged_until_due tag text due = with_tags tag text ++ take (length tag - due)
    (tag_if_first (is_tag_due text) tag)

-- what was written after other octets is a text with tags that may stop inside a tag, and
-- `tagged_octet_count` is the number of octets of it
pub record StandsTagged (written_below octets_before tag : List ℕ) (tagged_octet_count : ℕ)
    (text : List ℕ) (tag_octets_missing : ℕ) : Type 0 where
  pub whole : written_below ≡ octets_before ++ tagged_until_due tag text tag_octets_missing
  pub counted : tagged_octet_count ≡ length (tagged_until_due tag text tag_octets_missing)
  pub within : tag_octets_missing ≤ length tag
  pub inside : is_tag_due text ≡ false → tag_octets_missing ≡ 0

-- the same for what was written to an out, if that is known
abbrev pub StandsTaggedIn : (written_below : Option (List ℕ)) (octets_before tag : List ℕ)
    (tagged_octet_count : ℕ) (text : List ℕ) (tag_octets_missing : ℕ) → Type 0
StandsTaggedIn None before tag since text due = ⊥
StandsTaggedIn (Some written) before tag since text due = StandsTagged written before tag since text
    due

-- how many octets of the tag are due after this octet
abbrev pub tag_due_after : (tag : List ℕ) (octet : ℕ) → ℕ
tag_due_after tag octet = if octet == 10 then length tag else 0

-- ---- what a put did, by what was written before and after it, and by the counts of octets

-- the put took the first n octets, at least one if there are any
pub record HasPutCounted (written_before written_after : Option (List ℕ)) (octets : List ℕ)
    (octet_count_before octet_count_after octets_taken : ℕ) : Type 0 where
  pub some : 0 < length octets → 0 < octets_taken
  pub within : octets_taken ≤ length octets
  pub written : Appends written_before written_after (take octets_taken octets)
  pub counted : octet_count_after ≡ octet_count_before + octets_taken

-- the put failed
pub record CountedPutFailed (written_before written_after : Option (List ℕ))
    (octet_count_before octet_count_after : ℕ) : Type 0 where
  pub written : Keeps written_before written_after
  pub counted : octet_count_after ≡ octet_count_before

-- the put took the first n octets, and wrote the tag before them if it was due
pub record HasPutTagged (written_before written_after : Option (List ℕ)) (tag octets : List ℕ)
    (octet_count_before octet_count_after tag_octets_due_before tag_octets_due_after
    octets_taken : ℕ) : Type 0 where
  pub some : 0 < octets_taken
  pub within : octets_taken ≤ length octets
  pub next : tag_octets_due_after ≡ tag_due_after tag (slice_index octets (octets_taken - 1))
  pub stands : (before text : List ℕ) →
      StandsTaggedIn written_before before tag octet_count_before text tag_octets_due_before →
      StandsTaggedIn written_after before tag octet_count_after (text ++ take octets_taken octets)
      tag_octets_due_after

-- the put failed, maybe inside the tag that was due
pub record TaggedPutFailed (written_before written_after : Option (List ℕ)) (tag : List ℕ)
    (octet_count_before octet_count_after tag_octets_due_before tag_octets_due_after : ℕ)
    : Type 0 where
  pub within : tag_octets_due_after ≤ length tag
  pub stands : (before text : List ℕ) →
      StandsTaggedIn written_before before tag octet_count_before text tag_octets_due_before →
      StandsTaggedIn written_after before tag octet_count_after text tag_octets_due_after
